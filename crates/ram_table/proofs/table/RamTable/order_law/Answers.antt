use Rattle.std.proofs.Common.{subst}
use Rattle.ram_table.specs.Contents.{TableRecords, contents, IsInOrder}
use Rattle.ram_table.proofs.Trees.{in_order}
use Rattle.ram_table.proofs.table.RamTable.order_law.Goals as goal

pub returns : goal.returns
returns c =
    subst (λ (v : TableRecords). IsInOrder (contents v)) c.self.view_is
    (in_order _ _ c.self.invariant.paged.increasing c.self.invariant.keyed)
