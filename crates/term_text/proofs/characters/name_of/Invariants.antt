use Rattle.std.proofs.Common.{◌≡◌, ◌-◌, ◌≤◌, length}
use Rattle.std.specs.Prelude.{string_bytes}
use Rattle.std.specs.Str.{chars}
use Rattle.term_text.specs.Reading.{character_at, quoted_at}
use Rattle.term_text.proofs.Loop.{with_front}
use Rattle.term_text.proofs.characters.name_of.Given as goal

abbrev pub invariant-loop : goal.invariant-loop
invariant-loop l = record {
  read : with_front (chars (string_bytes l.name)) (quoted_at character_at 39 (255 - l.counter) l.rest) ≡ quoted_at character_at 39 255 l.bytes;
  short : length (chars (string_bytes l.name)) ≤ l.counter;
}
