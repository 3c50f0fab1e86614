use Rattle.term_core.specs.View.{tree_of}
use Rattle.store_files.proofs.Definitions.{parts_told}
use Rattle.store_files.proofs.defining.table_of_term.Goals as goal

pub returns-in-Some : goal.returns-in-Some
returns-in-Some c =
    let parts = c.in-Some.ensures in
    parts_told (tree_of c.args.term.now) (tree_of c.in-Some.options.now) c.in-Some.table.now c.in-Some.cookie
    c.table_of_parts.result parts.0 parts.1 c.table_of_parts.ensures
