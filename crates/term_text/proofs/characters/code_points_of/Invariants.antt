use Rattle.std.proofs.Common.{◌≡◌, ◌-◌, length, map, ℕ, List}
use Rattle.std.specs.Prelude.{pos}
use Rattle.term_core.specs.Tree.{int}
use Rattle.term_core.specs.View.{tree_of}
use Rattle.term_text.specs.Reading.{character_at, quoted_at}
use Rattle.term_text.proofs.Loop.{with_front}
use Rattle.term_text.proofs.characters.code_points_of.Given as goal

abbrev pub invariant-loop : goal.invariant-loop
invariant-loop l =
    (cs : List ℕ) × (map tree_of l.items ≡ map (λ n. int (pos n)) cs)
    × (with_front cs (quoted_at character_at 34 (length l.bytes - l.counter) l.rest) ≡ quoted_at character_at 34 (length l.bytes) l.bytes)
