use Rattle.std.proofs.Common.{◌≡◌, ◌++◌, List, ℕ, length, drop}
use Rattle.std.specs.List.{flat_map}
use Rattle.std.specs.Str.{chars}
use Rattle.term_text.specs.Printing.{character_text}
use Rattle.term_text.proofs.printing.put_characters.Given as goal

abbrev pub invariant-loop-character : goal.invariant-loop-character
invariant-loop-character l =
    (front : List ℕ) × (l.out.items ≡ l.initial.out.items ++ front)
    × (front ++ flat_map character_text (drop (length l.yielded) (chars l.name)) ≡ flat_map character_text (chars l.name))
