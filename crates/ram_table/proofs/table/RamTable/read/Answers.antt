use Rattle.std.proofs.Common.{◌≡◌, map, ap, ◌∙◌, subst}
use Rattle.term_core.specs.View.{tree_of}
use Rattle.db_model.specs.Database.{records_of}
use Rattle.ram_table.specs.Contents.{TableRecords, contents}
use Rattle.ram_table.proofs.Trees.{read_trees}
use Rattle.ram_table.proofs.table.RamTable.read.Goals as goal

pub returns : goal.returns
returns c =
    let found = rw c.deref.ensures.value at c.read_rows.ensures in
    let key = tree_of c.args.key.now in
    subst (λ (v : TableRecords). map tree_of c.read_rows.result.now ≡ records_of key (contents v)) c.self.view_is
    (ap (map tree_of) found ∙ read_trees key _ c.self.invariant.keyed)
