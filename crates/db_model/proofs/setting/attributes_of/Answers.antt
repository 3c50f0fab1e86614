use Rattle.db_model.proofs.Forests.{no_attributes}
use Rattle.db_model.proofs.setting.attributes_of.Goals as goal

pub returns-then-not-are_attributes : goal.returns-then-not-are_attributes
returns-then-not-are_attributes c = no_attributes _ _ _ _ c.in-List.is c.as_slice.ensures c.are_attributes.ensures
    c.if-not-are_attributes.true
