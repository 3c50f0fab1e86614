use Rattle.std.proofs.Common.{◌≡◌, map, take}
use Rattle.db_model.specs.View.{operation}
use Rattle.ram_table.specs.Contents.{contents, put_ops}
use Rattle.ram_table.specs.Plans.{planned, IsMadeFor}
use Rattle.ram_table.proofs.table.RamTable.plan.Given as goal

abbrev pub invariant-loop-op : goal.invariant-loop-op
invariant-loop-op l = record {
  planned : planned l.self l.plan ≡ put_ops l.self.kind (map operation (take l.op-index l.op-items)) (contents l.self);
  made_for : IsMadeFor l.self l.plan;
}
