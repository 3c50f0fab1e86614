use Rattle.term_core.specs.View.{tree_of}
use Rattle.txn_log.proofs.FirstItem.{head_result, refused_head}
use Rattle.txn_log.proofs.heads.is_head.Goals as goal

pub returns-in-Ok : goal.returns-in-Ok
returns-in-Ok c = head_result c.args.content.now (tree_of c.in-Ok.term) _ c.in-Ok.ensures.found c.is_log_head.ensures

pub returns-in-Err : goal.returns-in-Err
returns-in-Err c = refused_head _ _ _ c.in-Err.ensures.only c.no_head.ensures
