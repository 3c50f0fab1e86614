use Rattle.std.proofs.Common.{take}
use Rattle.std.specs.List.{AllByRecursion}
use Rattle.ram_table.specs.Contents.{contents, IsInOrder}
use Rattle.db_state.proofs.live.order_law_of.Given as goal

abbrev pub invariant-loop-table : goal.invariant-loop-table
invariant-loop-table l = AllByRecursion (λ table. IsInOrder (contents table)) (take l.table-index l.tables)
