use Rattle.std.proofs.Common.{◌≡◌, List, map, sym, ap, ◌∙◌, subst}
use Rattle.std.specs.List.{AllByRecursion as Each}
use Rattle.std.proofs.lemmas.List.{length-map}
use Rattle.db_model.specs.Taken.{take_ops}
use Rattle.db_model.specs.View.{operation}
use Rattle.db_model.specs.declared.definition.TableDef.{TableDef}
use Rattle.ram_table.specs.Contents.{TableRecords, contents}
use Rattle.db_state.specs.Live.{LiveTables, AreTables, with_contents}
use Rattle.db_state.specs.Inside.Parts.{contents_after, AreFor}
use Rattle.db_state.specs.Inside.Sources.{defs_in, tables_in}
use Rattle.db_state.specs.Inside.Taking.{MayTakeBy}
use Rattle.db_state.proofs.Moved.{arranged_fit}
use Rattle.db_state.proofs.Shown.{as_many}
use Rattle.db_state.proofs.Taken.{all_may, all_may_by}
use Rattle.db_state.proofs.live.Live.plan_taken_ops.Goals as goal

pub returns-then-not-may_take_all : goal.returns-then-not-may_take_all
returns-then-not-may_take_all c =
    let live = c.args.self.now in
    let new = c.args.arrangement in
    let version = c.args.commit.now.version in
    let ops = map operation c.args.commit.now.ops in
    let defs = defs_in live.schema.tables new in
    let tables = tables_in live.tables new in
    let own = c.defs_of-defs.ensures ∙ ap (λ (v : LiveTables). defs_in v.schema.tables new) c.self.view_is in
    let fit = arranged_fit live.schema.tables live.tables new c.requires
    (subst (λ (v : LiveTables). AreTables v.schema.tables v.tables) c.self.view_is c.self.invariant) in
    let many = length-map tables contents ∙ as_many defs tables fit in
    λ all.
    let by = all_may_by version defs (map contents tables) ops many all in
    let may = c.may_take_all.ensures.1 (subst (λ (ds : List TableDef). Each (MayTakeBy version ds) ops) (sym own) by) in absurd cc

pub returns : goal.returns
returns c =
    let live = c.args.self.now in
    let new = c.args.arrangement in
    let version = c.args.commit.now.version in
    let ops = map operation c.args.commit.now.ops in
    let defs = defs_in live.schema.tables new in
    let tables = tables_in live.tables new in
    let parts = c.in_ok-parts.parts.items in
    let seen = c.as_slice-tables.result.now in
    let own = c.defs_of-defs.ensures ∙ ap (λ (v : LiveTables). defs_in v.schema.tables new) c.self.view_is in
    let stood = c.as_slice-tables.ensures.value ∙ ap (λ (v : LiveTables). v.tables) c.self.view_is in
    let fit = arranged_fit live.schema.tables live.tables new c.requires
    (subst (λ (v : LiveTables). AreTables v.schema.tables v.tables) c.self.view_is c.self.invariant) in
    let many = length-map tables contents ∙ as_many defs tables fit in
    let done = subst (λ (ts : List TableRecords). with_contents defs (contents_after 0 parts (tables_in ts new))
    ≡ take_ops version ops (with_contents defs (map contents (tables_in ts new)))) stood
    (subst (λ (ds : List TableDef). with_contents ds (contents_after 0 parts (tables_in seen new))
    ≡ take_ops version ops (with_contents ds (map contents (tables_in seen new)))) own c.in_ok-parts.ensures.planned) in
    record {
      made_for = record {
        arranged = c.requires;
        parts = subst (λ (ts : List TableRecords). AreFor (tables_in ts new) parts) stood c.in_ok-parts.ensures.made_for;
      };
      may = all_may version defs (map contents tables) ops many
          (subst (λ (ds : List TableDef). Each (MayTakeBy version ds) ops) own (c.may_take_all.ensures.0 c.if-not-may_take_all.false));
      done = λ i. record { version = c.args.version; tables = done i };
    }
