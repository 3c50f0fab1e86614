use Rattle.txn_core.proofs.LockParts.{own_calls}
use Rattle.txn_core.proofs.laws.own_calls_law.Goals as goal

pub returns : goal.returns
returns c = own_calls
