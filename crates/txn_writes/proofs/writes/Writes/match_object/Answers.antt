use Rattle.std.proofs.Common.{◌∙◌}
use Rattle.std.proofs.lemmas.Result.{IfOk-weaker}
use Rattle.term_core.specs.View.{tree_of}
use Rattle.txn_writes.specs.Seen.{seen}
use Rattle.txn_writes.proofs.Whole.{bound_rows}
use Rattle.txn_writes.proofs.writes.Writes.match_object.Goals as goal

pub returns-in-Some : goal.returns-in-Some
returns-in-Some c =
    let pattern = tree_of c.args.pattern.now in
    let key = tree_of c.in-Some.key.now in
    IfOk-weaker c.match_of_key.result _ _
    (λ rows is. is ∙ bound_rows pattern key (seen c.args.name.now c.args.self.now c.args.table.now)
    (λ row own. c.bound_key_law.ensures pattern row key c.in-Some.ensures.0 c.in-Some.ensures.1 own))
    c.match_of_key.ensures
