use Rattle.std.proofs.Common.{◌≡◌, ◌++◌, map}
use Rattle.std.specs.Option.{option_map, option_copied}
use Rattle.term_core.specs.View.{tree_of}
use Rattle.txn_writes.specs.Seen.{seen, keys}
use Rattle.txn_writes.specs.Walks.{rows_above, all_keys}
use Rattle.txn_writes.proofs.Nexts.{left}
use Rattle.txn_writes.proofs.writes.Writes.all_keys.Given as goal

-- what is above the last key is still to be added
abbrev pub invariant-loop-key : goal.invariant-loop-key
invariant-loop-key l =
    map tree_of l.found ++ keys (rows_above (option_map tree_of (option_copied l.last)) (seen l.name l.self l.table))
    ≡ keys (seen l.name l.self l.table)

abbrev pub decreases-loop-key : goal.decreases-loop-key
decreases-loop-key l = left (option_map tree_of (option_copied l.last)) (all_keys (option_copied l.own) l.table)
