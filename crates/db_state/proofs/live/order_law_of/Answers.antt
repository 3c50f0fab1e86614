use Rattle.std.proofs.Common.{arith}
use Rattle.db_state.proofs.Shown.{ordered_more}
use Rattle.db_state.proofs.live.order_law_of.Goals as goal

pub loop-table-preserved : goal.loop-table-preserved
loop-table-preserved c =
    ordered_more c.args.tables.now c.loop-table.table-index _ (omega arith) c.table-item.is c.order_law.ensures c.loop-table.invariant
