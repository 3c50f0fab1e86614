use Rattle.db_model.proofs.Defined.{refused_definition}
use Rattle.store_files.proofs.defining.table_of_parts.Goals as goal

pub returns-in-Err : goal.returns-in-Err
returns-in-Err c = refused_definition c.args.table.now c.args.cookie _ _ _ c.in-Err.ensures.refused c.no_table.ensures
