use Rattle.term_core.specs.View.{tree_of}
use Rattle.db_model.specs.View.{definition}
use Rattle.store_files.specs.Tables.{dcd_form}
use Rattle.store_files.proofs.OneFile.{not_next}
use Rattle.store_files.proofs.TableForms.{dcd_told}
use Rattle.store_files.proofs.filling.next_record.Goals as goal

pub returns-in_default : goal.returns-in_default
returns-in_default c rows are last row allows says = let none = rw c.in_default.is at c.in_ok-row.ensures in none row says

pub returns-else-may_stand : goal.returns-else-may_stand
returns-else-may_stand c rows are last =
    let table = definition c.args.def.now in
    let says = rw c.in-Some.is at c.in_ok-row.ensures in
    let fails = c.if-may_stand.false in
    not_next (dcd_form table) (dcd_told table) rows c.args.content.now (tree_of c.in-Some.row) says
    (λ allows. let yes = (c.may_stand.ensures rows are last).1 allows in absurd (cc (yes, fails)))
