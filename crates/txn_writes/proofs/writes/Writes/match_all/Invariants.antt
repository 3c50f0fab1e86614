use Rattle.std.proofs.Common.{◌≡◌, ◌++◌, map, filter}
use Rattle.std.specs.Option.{option_map, option_copied}
use Rattle.term_core.specs.View.{tree_of}
use Rattle.table_query.specs.Values.{is_match}
use Rattle.txn_writes.specs.Seen.{seen}
use Rattle.txn_writes.specs.Walks.{rows_above, all_keys}
use Rattle.txn_writes.proofs.Nexts.{left}
use Rattle.txn_writes.proofs.writes.Writes.match_all.Given as goal

-- what is above the last key is still to be added
abbrev pub invariant-loop-key : goal.invariant-loop-key
invariant-loop-key l =
    map tree_of l.found
    ++ filter (is_match (tree_of l.pattern)) (rows_above (option_map tree_of (option_copied l.last)) (seen l.name l.self l.table))
    ≡ filter (is_match (tree_of l.pattern)) (seen l.name l.self l.table)

abbrev pub decreases-loop-key : goal.decreases-loop-key
decreases-loop-key l = left (option_map tree_of (option_copied l.last)) (all_keys (option_copied l.own) l.table)
