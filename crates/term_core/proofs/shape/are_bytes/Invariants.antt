use Rattle.std.proofs.Common.{◌≡◌, drop}
use Rattle.term_core.specs.View.{forest_of}
use Rattle.term_core.specs.Written.{all_bytes}
use Rattle.term_core.proofs.shape.are_bytes.Given as goal

abbrev pub invariant-loop-item : goal.invariant-loop-item
invariant-loop-item l = all_bytes (forest_of (drop l.item-index l.items)) ≡ all_bytes (forest_of l.items)
