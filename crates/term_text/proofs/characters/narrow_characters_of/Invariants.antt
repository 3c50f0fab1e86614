use Rattle.std.proofs.Common.{◌≡◌, ◌-◌, length}
use Rattle.term_text.specs.Reading.{narrow_at, quoted_at}
use Rattle.term_text.proofs.Loop.{with_front}
use Rattle.term_text.proofs.characters.narrow_characters_of.Given as goal

abbrev pub invariant-loop : goal.invariant-loop
invariant-loop l =
    with_front l.items (quoted_at narrow_at 34 (length l.bytes - l.counter) l.rest) ≡ quoted_at narrow_at 34 (length l.bytes) l.bytes
