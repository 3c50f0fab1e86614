use Rattle.std.proofs.Common.{refl}
use Rattle.term_core.specs.View.{tree_of}
use Rattle.store_files.proofs.filling.put_row.Goals as goal

pub row_of-requires : goal.row_of-requires
row_of-requires c = (tree_of c.args.row, refl)
