use Rattle.txn_core.proofs.RunLaws.{commit_law, alone_law, pending_law}
use Rattle.txn_core.proofs.laws.transactions_law.Goals as goal

pub returns-clause-serial : goal.returns-clause-serial
returns-clause-serial c = commit_law

pub returns-clause-alone : goal.returns-clause-alone
returns-clause-alone c = alone_law

pub returns-clause-pending : goal.returns-clause-pending
returns-clause-pending c = pending_law
