use Rattle.std.proofs.Common.{codes}
use Rattle.term_core.specs.View.{tree_of}
use Rattle.db_model.specs.SchemaTerms.{Defines}
use Rattle.db_model.specs.View.{definition}
use Rattle.store_files.proofs.TermTexts.{text_told}
use Rattle.store_files.proofs.defining.table_of.Goals as goal

pub returns-in-Some : goal.returns-in-Some
returns-in-Some c =
    text_told (Defines (codes "table")) definition c.args.content.now (tree_of c.in-Some.term) _
    (rw c.in-Some.is at c.in_ok-term.ensures) c.table_of_term.ensures

pub returns-in-None : goal.returns-in-None
returns-in-None c one is = let none = rw c.in-None.is at c.in_ok-term.ensures in none is.0 is.1
