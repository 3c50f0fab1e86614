use Rattle.ram_table.specs.Contents.{contents}
use Rattle.txn_writes.proofs.Nexts.{live_next, live_one_of}
use Rattle.txn_writes.proofs.walk.next_live.Goals as goal

pub returns-clause-next : goal.returns-clause-next
returns-clause-next c = live_next _ _ (contents c.args.table.now) c.next_key.ensures.least

pub returns-clause-one_of : goal.returns-clause-one_of
returns-clause-one_of c = live_one_of _ _ (contents c.args.table.now) c.next_key.ensures.least
