use Rattle.std.proofs.Common.{ap, ◌∙◌, arith}
use Rattle.db_model.specs.Database.{put_op}
use Rattle.db_model.specs.View.{operation}
use Rattle.ram_table.specs.Contents.{contents}
use Rattle.ram_table.proofs.Plans.{put_ops_more}
use Rattle.ram_table.proofs.table.RamTable.plan.Goals as goal

pub loop-op-preserved : goal.loop-op-preserved
loop-op-preserved c =
    let kind = c.args.self.now.kind in
    let op = c.op-item.result in
    let more = put_ops_more kind c.as_slice-op-items.result.now c.loop-op.op-index op (contents c.args.self.now) in
    record {
      planned =
          c.in_ok-plan_op.ensures.planned ∙ ap (put_op kind (operation op)) c.loop-op.invariant.planned ∙ more (omega arith) c.op-item.is;
      made_for = c.in_ok-plan_op.ensures.made_for;
    }
