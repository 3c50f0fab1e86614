use Rattle.txn_log.proofs.CommitsRead.{same_items}
use Rattle.txn_log.proofs.laws.item_law.Goals as goal

pub returns : goal.returns
returns c = same_items
