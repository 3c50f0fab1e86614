use Rattle.std.proofs.Common.{◌≡◌, ◌++◌, map, filter, drop}
use Rattle.term_core.specs.View.{tree_of}
use Rattle.table_query.specs.Values.{is_match}
use Rattle.txn_writes.proofs.writes.add_matching.Given as goal

-- those among the other records are still to be added
abbrev pub invariant-loop-row : goal.invariant-loop-row
invariant-loop-row l = map tree_of l.found ++ filter (is_match (tree_of l.pattern)) (map tree_of (drop l.row-index l.rows))
    ≡ map tree_of l.initial.found ++ filter (is_match (tree_of l.pattern)) (map tree_of l.rows)
