use Rattle.std.proofs.Common.{◌≡◌, drop}
use Rattle.std.specs.List.{position_from}
use Rattle.db_state.specs.Inside.Parts.{is_for}
use Rattle.db_state.proofs.parts.part_for.Given as goal

-- the part is among the rest
abbrev pub invariant-loop-i : goal.invariant-loop-i
invariant-loop-i l = position_from (is_for l.place) l.i (drop l.i l.parts) ≡ position_from (is_for l.place) 0 l.parts
