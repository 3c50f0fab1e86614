use Rattle.db_model.proofs.SchemaShapes.{no_longer_schema_op}
use Rattle.db_model.proofs.schema_op_terms.schema_op_of_parts.Goals as goal

pub returns-in_default : goal.returns-in_default
returns-in_default c = no_longer_schema_op _ _ _ c.in_default.len_at_least
