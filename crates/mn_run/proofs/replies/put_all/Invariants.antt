use Rattle.std.proofs.Common.{◌≡◌, ◌++◌, List, ℕ, drop}
use Rattle.term_core.specs.View.{forest_of}
use Rattle.term_text.specs.Printing.{trees_text}
use Rattle.term_text.proofs.Written.{trees_text_from}
use Rattle.mn_run.proofs.replies.put_all.Given as goal

abbrev pub invariant-loop-i : goal.invariant-loop-i
invariant-loop-i l =
    (front : List ℕ) × (l.out.items ≡ l.initial.out.items ++ front)
    × (front ++ trees_text_from l.i (forest_of (drop l.i l.terms)) ≡ trees_text (forest_of l.terms))
