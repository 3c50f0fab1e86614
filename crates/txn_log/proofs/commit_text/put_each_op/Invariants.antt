use Rattle.std.proofs.Common.{◌≡◌, ◌++◌, List, ℕ, drop, map}
use Rattle.term_core.specs.Written.{all_written}
use Rattle.term_core.specs.Kept.{AreKept}
use Rattle.db_model.specs.View.{operation}
use Rattle.txn_log.specs.Commits.{op_trees}
use Rattle.txn_log.proofs.commit_text.put_each_op.Given as goal

-- what was added, and what is written of the ops that are left, are the whole
abbrev pub invariant-loop-op : goal.invariant-loop-op
invariant-loop-op l =
    let left = op_trees (map operation (drop l.op-index l.ops)) in
    let all = op_trees (map operation l.ops) in
    (front : List ℕ) × (l.out.items ≡ l.initial.out.items ++ front) × (front ++ all_written left ≡ all_written all)
    × (AreKept left → AreKept all)
