use Rattle.db_model.proofs.Elements.{with_name, without_name}
use Rattle.db_model.proofs.record.has_elements.Goals as goal

pub returns-in-Some : goal.returns-in-Some
returns-in-Some c = with_name c.args.def.now _ _ _ _ _ _ c.in-Tuple.is c.as_slice.ensures c.in-Some.ensures c.is_described.ensures

pub returns-in-None : goal.returns-in-None
returns-in-None c = without_name c.args.def.now _ _ _ c.in-Tuple.is c.as_slice.ensures c.in-None.ensures
