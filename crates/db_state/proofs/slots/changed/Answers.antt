use Rattle.std.proofs.Common.{List, ◌++◌, reverse, sym, ap, ◌∙◌, subst}
use Rattle.db_model.specs.Database.{do_schema_op}
use Rattle.db_model.specs.View.{schema_operation}
use Rattle.db_state.specs.Inside.Slots.{slot_tables, AreSlots}
use Rattle.db_state.specs.declared.slots.Slot.{Slot}
use Rattle.db_state.proofs.Places.{turned}
use Rattle.db_state.proofs.SlotLists.{slots_left, shown_left}
use Rattle.db_state.proofs.slots.changed.Goals as goal

pub loop-slot-preserved : goal.loop-slot-preserved
loop-slot-preserved c =
    let op = schema_operation c.args.op.now in
    let front = c.loop-slot.now.items in
    let slot = c.in-Some.slot in
    let left = c.in_ok-left.left in
    let rest = reverse c.pop.new.self.items in
    let first = turned c.loop-slot.slots.items c.pop.new.self.items slot c.in-Some.ensures.items in
    record {
      shown = λ old. rw c.in_ok-push_left.ensures
          (shown_left op old front slot left rest _ (c.in_ok-left.ensures old)
          (ap (λ (ss : List Slot). slot_tables old front ++ do_schema_op op (slot_tables old ss)) (sym first)
          ∙ c.loop-slot.invariant.shown old));
      still = λ old are. rw c.in_ok-push_left.ensures
          (slots_left op old front slot left rest (c.in_ok-left.ensures old)
          (subst (λ (ss : List Slot). AreSlots old (front ++ ss)) first (c.loop-slot.invariant.still old are)));
    }
