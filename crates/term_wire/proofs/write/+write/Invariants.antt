use Rattle.std.proofs.Common.{◌≡◌, ◌++◌, List, ℕ, drop}
use Rattle.term_core.specs.View.{forest_of}
use Rattle.term_core.specs.Written.{all_written}
use Rattle.term_core.specs.Kept.{AreKept}
use Rattle.term_wire.proofs.write.+write.Given as goal

abbrev pub invariant-put_all-loop-item : goal.invariant-put_all-loop-item
invariant-put_all-loop-item l =
    (front : List ℕ) × (l.out.items ≡ l.initial.out.items ++ front) × (front ++ all_written (forest_of (drop l.item-index l.items)) ≡ all_written (forest_of l.items))
    × (AreKept (forest_of (drop l.item-index l.items)) → AreKept (forest_of l.items))
