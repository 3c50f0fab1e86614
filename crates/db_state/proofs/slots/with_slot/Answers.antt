use Rattle.std.proofs.Common.{List, ap, ◌∙◌}
use Rattle.std.specs.Cmp.Lexicographic.{slice_cmp}
use Rattle.std.specs.List.{position_or_len, insert}
use Rattle.std.specs.Ordering.{nat_cmp, is_lt}
use Rattle.db_state.specs.declared.slots.Slot.{Slot}
use Rattle.db_state.proofs.SlotLists.{created}
use Rattle.db_state.proofs.slots.with_slot.Goals as goal

pub returns : goal.returns
returns c =
    let def = c.args.def.now in
    let slots = c.args.slots.items in
    λ old. created old def slots c.place_for-place.result c.insert.new.self.items c.requires
    (c.place_for-place.ensures.place
    ∙ ap (λ (ss : List Slot). position_or_len (λ (slot : Slot). is_lt (slice_cmp nat_cmp def.name slot.def.name)) ss) c.deref.ensures.value)
    (c.in_ok-insert.ensures.items ∙ ap (insert slots c.place_for-place.result) c.in_ok-made.ensures)
