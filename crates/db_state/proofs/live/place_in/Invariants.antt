use Rattle.std.proofs.Common.{◌≡◌, drop}
use Rattle.std.specs.List.{position_from}
use Rattle.db_state.specs.Live.{is_named}
use Rattle.db_state.proofs.live.place_in.Given as goal

-- the place is among the rest
abbrev pub invariant-loop-i : goal.invariant-loop-i
invariant-loop-i l = position_from (is_named l.name) l.i (drop l.i l.defs) ≡ position_from (is_named l.name) 0 l.defs
