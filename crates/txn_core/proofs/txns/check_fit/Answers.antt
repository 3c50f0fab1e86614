use Rattle.std.proofs.Common.{sym, refl, ◌∙◌}
use Rattle.db_model.specs.Lawful.{table_in}
use Rattle.db_model.specs.View.{definition}
use Rattle.db_state.specs.Live.{database}
use Rattle.txn_core.proofs.Keyed.{keyed, has_attributes}
use Rattle.txn_core.proofs.txns.check_fit.Goals as goal

pub returns-then-is_fit-clause-keyed : goal.returns-then-is_fit-clause-keyed
returns-then-is_fit-clause-keyed c =
    let table = c.args.table.now in
    let tables = (database c.args.live.now).tables in
    let def = definition c.in-Some.def.now in
    keyed def table c.args.request (sym (c.is_fit.ensures table) ∙ c.if-is_fit.true)
    (has_attributes table tables def (table_in table tables) refl c.key_law.ensures c.in-Some.ensures)
