use Rattle.std.proofs.Common.{◌≡◌, ◌++◌, List, ℕ, drop}
use Rattle.term_text.specs.Printing.{bytes_text}
use Rattle.term_text.proofs.Written.{bytes_text_from}
use Rattle.term_text.proofs.printing.put_bytes.Given as goal

abbrev pub invariant-loop-i : goal.invariant-loop-i
invariant-loop-i l =
    (front : List ℕ) × (l.out.items ≡ l.initial.out.items ++ front) × (front ++ bytes_text_from l.i (drop l.i l.bytes) ≡ bytes_text l.bytes)
