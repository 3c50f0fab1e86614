use Rattle.db_model.proofs.SchemaShapes.{one_schema_op, schema_op_back}
use Rattle.db_model.proofs.laws.schema_op_law.Goals as goal

pub returns : goal.returns
returns c = record { one = one_schema_op; read_back = schema_op_back }
