use Rattle.std.proofs.Common.{◌≡◌, ◌++◌, List, ℕ, drop, true}
use Rattle.term_core.specs.View.{forest_of}
use Rattle.term_core.specs.Written.{all_bytes, bytes_of}
use Rattle.term_wire.proofs.write.put_bytes.Given as goal

abbrev pub invariant-loop-item : goal.invariant-loop-item
invariant-loop-item l =
    (front : List ℕ) × (l.out.items ≡ l.initial.out.items ++ front) × (front ++ bytes_of (forest_of (drop l.item-index l.items)) ≡ bytes_of (forest_of l.items))
    × (all_bytes (forest_of (drop l.item-index l.items)) ≡ true)
