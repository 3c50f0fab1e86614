use Rattle.std.proofs.Common.{◌≡◌, ℕ, ◌+◌, drop}
use Rattle.std.specs.List.{position_or_len}
use Rattle.std.specs.Ordering.{nat_cmp, is_lt}
use Rattle.db_state.proofs.positions.place_for.Given as goal

-- the rest of those before it are counted in the rest
abbrev pub invariant-loop-i : goal.invariant-loop-i
invariant-loop-i l = l.i + position_or_len (λ (other : ℕ). is_lt (nat_cmp l.position other)) (drop l.i l.positions)
    ≡ position_or_len (λ (other : ℕ). is_lt (nat_cmp l.position other)) l.positions
