use Rattle.std.proofs.Common.{◌≡◌, ◌-◌, length}
use Rattle.term_text.specs.Reading.{small_at, elements_at}
use Rattle.term_text.proofs.Loop.{with_front}
use Rattle.term_text.proofs.numbers.some_numbers_of.Given as goal

abbrev pub invariant-loop : goal.invariant-loop
invariant-loop l =
    with_front l.items (elements_at small_at 62 (length l.bytes - l.counter) l.rest) ≡ elements_at small_at 62 (length l.bytes) l.bytes
