use Rattle.std.proofs.Common.{map, ap, ◌∙◌}
use Rattle.db_model.specs.View.{operation}
use Rattle.txn_core.proofs.Shown.{found_shown, when_there, when_absent}
use Rattle.txn_core.proofs.txns.Txns.ops.Goals as goal

pub returns-in-Some : goal.returns-in-Some
returns-in-Some c = λ pending h.
    let shown = found_shown c.args.name.now c.args.self.now.pending.entries pending h in
    let found = when_there _ c.in-Some.txn.now _ c.in-Some.ensures.value shown in
    (found.0, found.1, ap (λ ops. map operation ops) (c.ops.ensures ∙ c.writes.ensures) ∙ found.2.writes)

pub returns-in-None : goal.returns-in-None
returns-in-None c = λ pending h.
    when_absent _ _ c.in-None.ensures.value (found_shown c.args.name.now c.args.self.now.pending.entries pending h)
