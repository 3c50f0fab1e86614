use Rattle.db_model.proofs.Shapes.{same_op}
use Rattle.db_model.proofs.laws.op_law.Goals as goal

pub returns : goal.returns
returns c = same_op
