use Rattle.std.proofs.Common.{map, ap, ◌∙◌}
use Rattle.db_model.specs.View.{definition}
use Rattle.mn_node.proofs.Lookups.{names_known, names_want}
use Rattle.mn_node.proofs.open.Open.names.Goals as goal

pub returns-in_err-names_of-clause-tries : goal.returns-in_err-names_of-clause-tries
returns-in_err-names_of-clause-tries c past commits synced pending shown pends =
    names_want shown c.as_slice-defs.result.now c.from_residual.result
    (ap (map definition) c.as_slice-defs.ensures ∙ c.schema.ensures.tables)
    c.in_err-names_of.ensures.some c.from_residual.ensures.1

pub returns-clause-tries : goal.returns-clause-tries
returns-clause-tries c past commits synced pending shown pends =
    names_known shown c.as_slice-defs.result.now c.in_ok-names_of.field-0 c.told.result
    (ap (map definition) c.as_slice-defs.ensures ∙ c.schema.ensures.tables) c.in_ok-names_of.ensures.names c.told.ensures
