use Rattle.std.proofs.Common.{List, map, sym, ap, ◌∙◌, subst}
use Rattle.db_model.specs.Database.{do_schema_ops}
use Rattle.db_model.specs.View.{schema_operation, operation}
use Rattle.db_model.specs.declared.definition.TableDef.{TableDef}
use Rattle.ram_table.specs.Contents.{contents}
use Rattle.db_state.specs.Live.{LiveTables, AreTables, database, with_contents}
use Rattle.db_state.specs.Inside.Sources.{defs_in, tables_in}
use Rattle.db_state.proofs.Moved.{arranged_fit}
use Rattle.db_state.proofs.OpLists.{all_keys, all_keyed}
use Rattle.db_state.proofs.live.Live.plan.Goals as goal

pub arrange-requires : goal.arrange-requires
arrange-requires c =
    all_keys (map schema_operation c.args.commit.now.schema_ops) (database c.args.self.now).tables c.requires.lawful.applies

pub plan_ops-requires-clause-keyed : goal.plan_ops-requires-clause-keyed
plan_ops-requires-clause-keyed c =
    let ops = map schema_operation c.args.commit.now.schema_ops in
    let defs = c.as_slice.result.now in
    let tables = c.self.inside.tables.items in
    let new = c.in_ok-arrangement.arrangement in
    let fit = subst (λ (ds : List TableDef). AreTables ds tables) (sym c.as_slice.ensures) c.self.invariant in
    let by = c.in_ok-arrangement.ensures tables fit in
    let same = ap (do_schema_ops ops)
    (ap (λ (ds : List TableDef). with_contents ds (map contents tables)) c.as_slice.ensures
    ∙ ap (λ (v : LiveTables). (database v).tables) c.self.view_is) in
    all_keyed (map operation c.args.commit.now.ops) (do_schema_ops ops (database c.args.self.now).tables) (defs_in defs new)
    (tables_in tables new) (arranged_fit defs tables new by.arranged fit) (by.shown ∙ same) c.requires.lawful.allowed
