use Rattle.std.proofs.Common.{◌≡◌, ℕ, not, take, filter}
use Rattle.std.specs.Prelude.{◌==◌}
use Rattle.db_state.proofs.positions.without_position.Given as goal

-- those that were read, without it
abbrev pub invariant-loop-other : goal.invariant-loop-other
invariant-loop-other l = l.now ≡ filter (λ (other : ℕ). not (other == l.position)) (take l.other-index l.other-items)
