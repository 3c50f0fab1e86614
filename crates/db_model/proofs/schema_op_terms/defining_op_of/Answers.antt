use Rattle.db_model.proofs.SchemaShapes.{not_defined}
use Rattle.db_model.proofs.schema_op_terms.defining_op_of.Goals as goal

pub returns-in_default-2 : goal.returns-in_default-2
returns-in_default-2 c = not_defined _ _ _ _ _ _ c.in_ok-def.ensures c.in_default-2.is
