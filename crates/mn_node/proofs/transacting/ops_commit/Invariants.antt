use Rattle.std.proofs.Common.{◌≡◌, ◌++◌, map, drop}
use Rattle.db_model.specs.View.{operation}
use Rattle.mn_node.proofs.transacting.ops_commit.Given as goal

abbrev pub invariant-loop-op : goal.invariant-loop-op
invariant-loop-op l =
    map operation l.copies ++ map operation (drop l.op-index l.ops) ≡ map operation l.ops
