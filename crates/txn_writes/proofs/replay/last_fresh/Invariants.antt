use Rattle.std.proofs.Common.{◌≤◌, length}
use Rattle.txn_writes.proofs.replay.last_fresh.Given as goal

abbrev pub invariant-loop-left : goal.invariant-loop-left
invariant-loop-left l = l.left ≤ length l.places

abbrev pub decreases-loop-left : goal.decreases-loop-left
decreases-loop-left l = l.left
