use Rattle.std.proofs.Common.{map, sym, ap, ◌∙◌, subst}
use Rattle.db_state.specs.Live.{LiveTables, with_contents}
use Rattle.db_state.specs.Inside.Parts.{kind_of, contents_after}
use Rattle.db_state.specs.Inside.Sources.{defs_in, tables_in}
use Rattle.db_state.specs.Plans.{planned, IsMadeFor}
use Rattle.db_state.proofs.Shown.{same_kinds}
use Rattle.db_state.proofs.PartLists.{nothing_planned}
use Rattle.db_state.proofs.Moved.{arranged_fit}
use Rattle.db_state.proofs.live.Live.apply.Goals as goal

pub invariant_of-self : goal.invariant_of-self
invariant_of-self c =
    let live = c.self.inside in
    let plan = c.args.plan in
    let made = subst (λ (v : LiveTables). IsMadeFor v plan) (sym c.self.view_is) c.requires in
    let fit = arranged_fit live.schema.tables live.tables.items plan.arrangement made.arranged c.self.invariant in
    rw c.rearrange.ensures.defs
    (same_kinds (defs_in live.schema.tables plan.arrangement) (tables_in live.tables.items plan.arrangement)
    c.apply_parts.new.tables.items (c.apply_parts.ensures.kinds ∙ ap (map kind_of) c.rearrange.ensures.tables) fit)

pub returns : goal.returns
returns c =
    let live = c.self.inside in
    let plan = c.args.plan in
    let done = sym (nothing_planned 0 c.apply_parts.new.tables.items) ∙ c.apply_parts.ensures.done
    ∙ ap (contents_after 0 plan.parts.items) c.rearrange.ensures.tables in
    (λ i. record { version = plan.version; tables = with_contents (c.rearrange.ensures.defs i) (done i) })
    ∙ ap (λ (v : LiveTables). planned v plan) c.self.view_is
