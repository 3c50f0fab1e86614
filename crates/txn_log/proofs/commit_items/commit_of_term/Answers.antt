use Rattle.term_core.specs.View.{tree_of}
use Rattle.txn_log.proofs.CommitsRead.{none_without_fields, commit_of_shape}
use Rattle.txn_log.proofs.commit_items.commit_of_term.Goals as goal

pub returns-in-Some : goal.returns-in-Some
returns-in-Some c = commit_of_shape (tree_of c.args.term.now) _ c.commit_of_fields.result c.in-Some.ensures c.commit_of_fields.ensures

pub returns-in-None : goal.returns-in-None
returns-in-None c = none_without_fields (tree_of c.args.term.now) c.in-None.ensures
