use Rattle.std.proofs.Common.{◌≡◌, ◌+◌, drop}
use Rattle.std.specs.Cmp.Lexicographic.{slice_cmp}
use Rattle.std.specs.List.{position_or_len}
use Rattle.std.specs.Ordering.{nat_cmp, is_lt}
use Rattle.db_state.specs.declared.slots.Slot.{Slot}
use Rattle.db_state.proofs.slots.place_for.Given as goal

-- the rest of those before it are counted in the rest
abbrev pub invariant-loop-i : goal.invariant-loop-i
invariant-loop-i l = l.i + position_or_len (λ (slot : Slot). is_lt (slice_cmp nat_cmp l.name slot.def.name)) (drop l.i l.slots)
    ≡ position_or_len (λ (slot : Slot). is_lt (slice_cmp nat_cmp l.name slot.def.name)) l.slots
