use Rattle.std.proofs.Common.{inl, inr}
use Rattle.txn_log.specs.Logs.{IsAny}
use Rattle.txn_log.proofs.CommitLists.{log_not_wrong}
use Rattle.txn_log.proofs.Decided.{file_decided}
use Rattle.txn_log.proofs.OneLog.{one_list_read, one_bad}
use Rattle.txn_log.proofs.laws.log_law.Goals as goal

pub returns-clause-one : goal.returns-clause-one
returns-clause-one c = one_list_read

pub returns-clause-apart : goal.returns-clause-apart
returns-clause-apart c file commits at has = log_not_wrong IsAny (λ first more any. tt) file commits at has tt

pub returns-clause-place : goal.returns-clause-place
returns-clause-place c = one_bad IsAny (λ first more any. tt)

pub returns-clause-either : goal.returns-clause-either
returns-clause-either c file = elim (file_decided IsAny (λ commits commit any logged. inl tt) tt file) [
  | inl log ↦ inl (log.0, log.1)
  | inr wrong ↦ inr wrong
]
