use Rattle.std.proofs.Common.{◌≡◌, ◌≤◌, length, drop}
use Rattle.term_core.specs.Tree.{trees_cmp}
use Rattle.term_core.specs.View.{forest_of}
use Rattle.term_core.proofs.order.+compare.Given as goal

abbrev pub invariant-compare_all-loop-i : goal.invariant-compare_all-loop-i
invariant-compare_all-loop-i l = record {
  within : l.i ≤ length l.right;
  rest : trees_cmp (forest_of (drop l.i l.left)) (forest_of (drop l.i l.right)) ≡ trees_cmp (forest_of l.left) (forest_of l.right);
}
