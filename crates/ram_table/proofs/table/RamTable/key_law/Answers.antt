use Rattle.std.proofs.Common.{IsSome, subst}
use Rattle.std.specs.List.{AllByRecursion}
use Rattle.term_core.specs.Tree.{key_of}
use Rattle.ram_table.specs.Contents.{TableRecords, contents}
use Rattle.ram_table.proofs.Trees.{keyed_trees}
use Rattle.ram_table.proofs.table.RamTable.key_law.Goals as goal

pub returns : goal.returns
returns c =
    subst (λ (v : TableRecords). AllByRecursion (λ row. IsSome (key_of row)) (contents v)) c.self.view_is
    (keyed_trees _ c.self.invariant.keyed)
