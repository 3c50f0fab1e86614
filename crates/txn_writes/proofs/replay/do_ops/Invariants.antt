use Rattle.std.proofs.Common.{◌≡◌, map, drop}
use Rattle.term_core.specs.View.{tree_of}
use Rattle.ram_table.specs.Contents.{put_ops}
use Rattle.txn_writes.specs.Replays.{ops_of}
use Rattle.txn_writes.proofs.replay.do_ops.Given as goal

-- the ops at the other places are still to be done
abbrev pub invariant-loop-place : goal.invariant-loop-place
invariant-loop-place l = put_ops l.kind (ops_of l.ops (drop l.place-index l.places)) (map tree_of l.rows.items)
    ≡ put_ops l.kind (ops_of l.ops l.places) (map tree_of l.initial.rows.items)
