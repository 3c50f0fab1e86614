use Rattle.txn_writes.proofs.Rows.{none_without}
use Rattle.txn_writes.proofs.replay.delete_key_of.Goals as goal

pub returns-in-None : goal.returns-in-None
returns-in-None c = none_without _ _ _ c.key.ensures c.in-None.is
