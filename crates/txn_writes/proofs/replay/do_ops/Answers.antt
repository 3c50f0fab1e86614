use Rattle.std.proofs.Common.{arith, map, refl}
use Rattle.term_core.specs.View.{tree_of}
use Rattle.txn_writes.proofs.Rows.{replay_step}
use Rattle.txn_writes.proofs.replay.do_ops.Goals as goal

pub loop-place-preserved : goal.loop-place-preserved
loop-place-preserved c =
    replay_step c.args.kind c.args.ops.now c.args.places.now c.loop-place.place-index _
    (map tree_of c.loop-place.rows.items) (map tree_of c.do_op_at.new.rows.items) _ (omega arith) refl
    c.in_ok-do_op_at.ensures c.loop-place.invariant
