use Rattle.db_model.proofs.Shapes.{no_longer_op}
use Rattle.db_model.proofs.op_terms.op_of_parts.Goals as goal

pub returns-in_default : goal.returns-in_default
returns-in_default c = no_longer_op _ _ _ c.in_default.len_at_least
