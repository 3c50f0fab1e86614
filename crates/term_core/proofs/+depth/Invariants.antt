use Rattle.std.proofs.Common.{◌≤◌, ◌↔◌, drop}
use Rattle.term_core.specs.Tree.{greatest_depth}
use Rattle.term_core.specs.View.{forest_of}
use Rattle.term_core.proofs.+depth.Given as goal

abbrev pub invariant-depth::all_within-loop-item : goal.invariant-depth::all_within-loop-item
invariant-depth::all_within-loop-item l =
    (greatest_depth (forest_of l.items) ≤ l.most) ↔ (greatest_depth (forest_of (drop l.item-index l.items)) ≤ l.most)
