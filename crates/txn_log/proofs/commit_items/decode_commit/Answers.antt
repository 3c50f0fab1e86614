use Rattle.term_core.specs.View.{tree_of}
use Rattle.txn_log.proofs.CommitsRead.{refused_result, read_result}
use Rattle.txn_log.proofs.commit_items.decode_commit.Goals as goal

pub returns-in-Ok : goal.returns-in-Ok
returns-in-Ok c = read_result c.args.item.now (tree_of c.in-Ok.term) _ c.in-Ok.ensures.found c.commit_of_term.ensures

pub returns-in-Err : goal.returns-in-Err
returns-in-Err c = refused_result _ _ _ c.in-Err.ensures.only c.without_commit.ensures
