use Rattle.std.proofs.Common.{◌≡◌, ◌++◌, drop}
use Rattle.db_state.specs.Inside.Slots.{slots_from}
use Rattle.db_state.proofs.slots.kept_slots.Given as goal

abbrev pub invariant-loop-i : goal.invariant-loop-i
invariant-loop-i l = l.slots.items ++ slots_from l.i (drop l.i l.defs) ≡ slots_from 0 l.defs
