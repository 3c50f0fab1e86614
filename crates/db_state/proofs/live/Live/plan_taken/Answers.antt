use Rattle.std.proofs.Common.{◌≡◌, ℕ, ◌+◌, true, false, if◌then◌else◌, List, map, sym, ap, ◌∙◌, subst, None}
use Rattle.std.specs.Prelude.{◌==◌}
use Rattle.db_model.specs.Database.{do_schema_ops}
use Rattle.db_model.specs.Lawful.{AllApply}
use Rattle.db_model.specs.Taken.{is_next}
use Rattle.db_model.specs.View.{schema_operation, commit_record}
use Rattle.db_model.specs.declared.definition.TableDef.{TableDef}
use Rattle.ram_table.specs.Contents.{contents}
use Rattle.db_state.specs.Live.{LiveTables, AreTables, database, with_contents}
use Rattle.db_state.specs.Inside.Slots.{IsArrangedBy}
use Rattle.db_state.specs.Inside.Taking.{arranged_tables}
use Rattle.db_state.proofs.OpLists.{all_keys}
use Rattle.db_state.proofs.Taken.{taken_or_not}
use Rattle.db_state.proofs.live.Live.plan_taken.Goals as goal

pub returns-then-not-is_next : goal.returns-then-not-is_next
returns-then-not-is_next c =
    let live = c.args.self.now in
    let commit = commit_record c.args.commit.now in
    let stood = ap (λ (v : LiveTables). v.schema.version) c.self.view_is in
    let other : is_next commit (database live) ≡ false =
    ap (λ (n : ℕ). commit.version == n + 1) (sym stood) ∙ sym c.is_next.ensures ∙ c.if-not-is_next.true in
    taken_or_not live commit c.self.inside.schema.version (arranged_tables live None)
    (sym (ap (λ b. if b then do_schema_ops commit.schema_operations (database live).tables else (database live).tables) other))
    (stood ∙ sym (ap (λ b. if b then commit.version else live.schema.version) other))
    (λ next. absurd cc) c.plan_taken_ops.result c.plan_taken_ops.ensures

pub arrange-requires : goal.arrange-requires
arrange-requires c =
    let ops = map schema_operation c.args.commit.now.schema_ops in
    let defs = c.as_slice.result.now in
    let tables = c.self.inside.tables.items in
    let fit = subst (λ (ds : List TableDef). AreTables ds tables) (sym c.as_slice.ensures) c.self.invariant in
    all_keys ops (with_contents defs (map contents tables)) ((c.in_ok-all_apply.ensures tables fit).0 c.if-not-branch.false)

pub returns : goal.returns
returns c =
    let live = c.args.self.now in
    let commit = commit_record c.args.commit.now in
    let ops = commit.schema_operations in
    let tables = c.self.inside.tables.items in
    let new = c.in_ok-arrangement.arrangement in
    let stood = ap (λ (v : LiveTables). v.schema.version) c.self.view_is in
    let next : is_next commit (database live) ≡ true =
    ap (λ (n : ℕ). commit.version == n + 1) (sym stood) ∙ sym c.is_next.ensures ∙ c.if-not-is_next.false in
    let fit = subst (λ (ds : List TableDef). AreTables ds tables) (sym c.as_slice.ensures) c.self.invariant in
    let fit_2 = subst (λ (ds : List TableDef). AreTables ds tables) (sym c.as_slice-2.ensures) c.self.invariant in
    let applies = (c.in_ok-all_apply.ensures tables fit).0 c.if-not-branch.false in
    let applies_here = subst (λ (ds : List TableDef). AllApply ops (with_contents ds (map contents tables))) c.as_slice.ensures applies in
    let applies_live = subst (λ (v : LiveTables). AllApply ops (database v).tables) c.self.view_is applies_here in
    let by = subst (λ (ds : List TableDef). IsArrangedBy ops ds tables new) c.as_slice-2.ensures (c.in_ok-arrangement.ensures tables fit_2) in
    let by_live = subst (λ (v : LiveTables). IsArrangedBy ops v.schema.tables v.tables new) c.self.view_is by in
    taken_or_not live commit c.args.commit.now.version (arranged_tables live new)
    (by_live.shown ∙ sym (ap (λ b. if b then do_schema_ops ops (database live).tables else (database live).tables) next))
    (sym (ap (λ b. if b then commit.version else live.schema.version) next))
    (λ is. applies_live) c.plan_taken_ops-2.result c.plan_taken_ops-2.ensures
