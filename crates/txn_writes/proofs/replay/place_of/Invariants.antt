use Rattle.std.proofs.Common.{◌≡◌, ◌++◌, map, take, drop}
use Rattle.term_core.specs.View.{tree_of}
use Rattle.db_model.specs.Database.{with_record}
use Rattle.txn_writes.proofs.replay.place_of.Given as goal

-- its place is behind those that were passed
abbrev pub invariant-loop-i : goal.invariant-loop-i
invariant-loop-i l = with_record (tree_of l.row) (map tree_of l.rows)
    ≡ map tree_of (take l.i l.rows) ++ with_record (tree_of l.row) (map tree_of (drop l.i l.rows))
