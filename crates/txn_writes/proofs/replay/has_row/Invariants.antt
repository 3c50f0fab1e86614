use Rattle.std.proofs.Common.{◌≡◌, map, drop}
use Rattle.std.specs.List.{list_any}
use Rattle.term_core.specs.Order.{same_tree}
use Rattle.term_core.specs.View.{tree_of}
use Rattle.txn_writes.proofs.replay.has_row.Given as goal

-- whether it is among the others
abbrev pub invariant-loop-other : goal.invariant-loop-other
invariant-loop-other l = list_any (same_tree (tree_of l.row)) (map tree_of (drop l.other-index l.rows))
    ≡ list_any (same_tree (tree_of l.row)) (map tree_of l.rows)
