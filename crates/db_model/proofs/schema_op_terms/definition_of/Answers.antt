use Rattle.db_model.proofs.Defined.{refused_definition}
use Rattle.db_model.proofs.schema_op_terms.definition_of.Goals as goal

pub returns-in-Err : goal.returns-in-Err
returns-in-Err c = refused_definition c.args.table.now c.args.cookie _ _ _ c.in-Err.ensures.refused c.without_definition.ensures
