use Rattle.txn_log.proofs.CommitsRead.{same_content}
use Rattle.txn_log.proofs.laws.commit_law.Goals as goal

pub returns : goal.returns
returns c = same_content
