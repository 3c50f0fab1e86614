use Rattle.std.proofs.Common.{◌≡◌, map, drop}
use Rattle.db_state.specs.Inside.Slots.{def_of}
use Rattle.db_state.specs.Inside.Taking.{first_def}
use Rattle.db_state.proofs.applies.def_named.Given as goal

-- the first one is among the rest
abbrev pub invariant-loop-slot : goal.invariant-loop-slot
invariant-loop-slot l = first_def l.name (map def_of (drop l.slot-index l.slots)) ≡ first_def l.name (map def_of l.slots)
