use Rattle.std.proofs.Common.{subst}
use Rattle.db_model.specs.View.{definition, operation}
use Rattle.store_files.specs.Tables.{MayChange}
use Rattle.store_files.proofs.TableForms.{one_change}
use Rattle.store_files.proofs.filling.next_change.Goals as goal

pub returns-in_default : goal.returns-in_default
returns-in_default c op may says = let none = rw c.in_default.is at c.in_ok-op.ensures in none op says

pub returns-else-may_change : goal.returns-else-may_change
returns-else-may_change c op may says =
    let own = rw c.in-Some.is at c.in_ok-op.ensures in
    let same = one_change c.args.content.now op (operation c.in-Some.op) says own in
    let yes = c.may_change.ensures.1 (subst (MayChange (definition c.args.def.now)) same may) in
    let fails = c.if-may_change.false in
    absurd (cc (yes, fails))
