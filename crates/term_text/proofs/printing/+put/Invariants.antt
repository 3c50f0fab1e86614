use Rattle.std.proofs.Common.{◌≡◌, ◌++◌, List, ℕ, drop}
use Rattle.term_core.specs.View.{forest_of}
use Rattle.term_core.specs.Kept.{AreKept}
use Rattle.term_text.specs.Printing.{trees_text}
use Rattle.term_text.proofs.Written.{trees_text_from}
use Rattle.term_text.proofs.printing.+put.Given as goal

-- the text so far, and that all are kept where those to come are
abbrev pub invariant-put_all-loop-i : goal.invariant-put_all-loop-i
invariant-put_all-loop-i l = record {
  front : List ℕ;
  added : l.out.items ≡ l.initial.out.items ++ front;
  left : front ++ trees_text_from l.i (forest_of (drop l.i l.items)) ≡ trees_text (forest_of l.items);
  kept : AreKept (forest_of (drop l.i l.items)) → AreKept (forest_of l.items);
}
