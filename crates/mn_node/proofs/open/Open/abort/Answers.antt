use Rattle.std.proofs.Common.{Err, Ok, refl, ap, subst}
use Rattle.txn_core.specs.Machine as txns
use Rattle.txn_core.specs.Refusals.{no_txn}
use Rattle.txn_core.specs.Shown.{Answers, told_unit}
use Rattle.mn_node.specs.Effects as machine
use Rattle.mn_node.specs.Inside.Tries.{durable}
use Rattle.mn_node.specs.declared.reply.Reply.TheVariants as replies
use Rattle.mn_node.proofs.TxnCommands.{came}
use Rattle.mn_node.proofs.TxnOutcomes.{aborted_ok, aborted_none}
use Rattle.mn_node.proofs.open.Open.abort.Goals as goal

pub returns-in-Ok : goal.returns-in-Ok
returns-in-Ok c =
    let old = c.args.self.now in
    let name = c.args.name in
    let w = durable old in
    came old c.abort.new.self (machine.abort name) (txns.abort name) tt txns.ok (c.in-Ok.ensures.answers w.database.tables)
    (machine.refuses machine.ok) (λ pending later h. aborted_ok w pending name later h) replies.Ok (Ok c.told.result)
    (ap Ok c.told.ensures) refl refl refl refl (record { fault = refl; memory = refl; up = λ h. absurd (cc h) })

pub returns-in-Err : goal.returns-in-Err
returns-in-Err c =
    let old = c.args.self.now in
    let name = c.args.name in
    let w = durable old in
    let answers = subst (λ e. Answers (txns.abort name) w.database.tables old.txns c.abort.new.self (told_unit txns.ok (Err e)))
    c.in-Err.ensures.none (c.in-Err.ensures.answers w.database.tables) in
    came old c.abort.new.self (machine.abort name) (txns.abort name) tt (txns.refused no_txn) answers
    (machine.refuses (machine.no_transaction name)) (λ pending later h. aborted_none w pending name later no_txn h)
    (replies.NoTransaction name)
    (Ok c.told-in-Err.result) (ap Ok c.told-in-Err.ensures) refl refl refl refl
    (record { fault = refl; memory = refl; up = λ h. absurd (cc h) })
