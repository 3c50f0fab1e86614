use Rattle.std.proofs.Common.{refl, sym, ap, subst, ◌∙◌, map}
use Rattle.std.specs.Prelude.{slice_get}
use Rattle.std.specs.Option.{option_map}
use Rattle.ram_table.specs.Contents.{contents}
use Rattle.db_state.specs.Live.{LiveTables, AreTables, is_named, table_seen}
use Rattle.db_state.proofs.Places.{found, none}
use Rattle.db_state.proofs.Shown.{no_table, table_found}
use Rattle.db_state.proofs.live.Live.table.Goals as goal

pub returns-in_err-place : goal.returns-in_err-place
returns-in_err-place c =
    let name = c.args.name.now in
    let live = c.args.self.now in
    let absent = none (is_named name) live.schema.tables (sym c.place_of.ensures ∙ c.in_err-place.was) in
    rw (c.from_residual.ensures, no_table name live.schema.tables (map contents live.tables) absent) refl

pub returns : goal.returns
returns c =
    let name = c.args.name.now in
    let live = c.args.self.now in
    let place = c.in_ok-place.place in
    let fit = subst (λ (v : LiveTables). AreTables v.schema.tables v.tables) c.self.view_is c.self.invariant in
    ap (option_map table_seen) (c.at.ensures ∙ ap (λ xs. slice_get xs place) c.as_slice.ensures.value
    ∙ ap (λ (v : LiveTables). slice_get v.tables place) c.self.view_is)
    ∙ table_found name live.schema.tables live.tables place fit
    (found (is_named name) place live.schema.tables (sym c.place_of.ensures ∙ c.in_ok-place.was))
