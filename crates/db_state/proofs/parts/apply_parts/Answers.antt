use Rattle.std.proofs.Common.{List, ◌∙◌, reverse, sym, ap, subst}
use Rattle.db_state.specs.Inside.Parts.{contents_after, AreFor}
use Rattle.db_state.specs.declared.parts.Part.{Part}
use Rattle.db_state.proofs.Places.{turned}
use Rattle.db_state.proofs.PartLists.{part_made, part_done, others_for, kinds_kept}
use Rattle.db_state.proofs.parts.apply_parts.Goals as goal

pub apply-requires : goal.apply-requires
apply-requires c =
    let part = c.in-Some.part in
    let rest = reverse c.pop.new.self.items in
    let first = turned c.loop-part.parts.items c.pop.new.self.items part c.in-Some.ensures.items in
    let tables = c.loop-part.tables.items in
    part_made part rest tables c.index_mut-table.result.now c.index_mut-table.ensures.value
    (subst (AreFor tables) first c.loop-part.invariant.made_for)

pub loop-part-preserved : goal.loop-part-preserved
loop-part-preserved c =
    let part = c.in-Some.part in
    let rest = reverse c.pop.new.self.items in
    let first = turned c.loop-part.parts.items c.pop.new.self.items part c.in-Some.ensures.items in
    let tables = c.loop-part.tables.items in
    let table = c.index_mut-table.result.now in
    let are = subst (AreFor tables) first c.loop-part.invariant.made_for in
    record {
      made_for = others_for part rest tables c.apply.new.self are;
      done =
          part_done part rest tables table c.apply.new.self c.index_mut-table.ensures.value are c.apply.ensures.planned
          ∙ ap (λ (ps : List Part). contents_after 0 ps tables) (sym first) ∙ c.loop-part.invariant.done;
      kinds = kinds_kept tables part.table table c.apply.new.self c.index_mut-table.ensures.value c.apply.ensures.kind
          ∙ c.loop-part.invariant.kinds;
    }
