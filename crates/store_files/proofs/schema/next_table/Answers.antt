use Rattle.std.proofs.Common.{map}
use Rattle.db_model.specs.View.{definition}
use Rattle.store_files.specs.Schema.{schema_form}
use Rattle.store_files.proofs.Definitions.{schema_told}
use Rattle.store_files.proofs.OneFile.{not_next}
use Rattle.store_files.proofs.schema.next_table.Goals as goal

pub returns-in_default : goal.returns-in_default
returns-in_default c table allows says = let none = rw c.in_default.is at c.in_ok-table.ensures in none table says

pub returns-else-may_follow : goal.returns-else-may_follow
returns-else-may_follow c =
    let says = rw c.in-Some.is at c.in_ok-table.ensures in
    let follows = rw c.as_slice.ensures at c.may_follow.ensures in
    not_next schema_form schema_told (map definition c.args.tables.now) c.args.content.now (definition c.in-Some.table) says
    (λ allows. let yes = follows.1 allows in absurd (cc))
