use Rattle.std.proofs.Common.{None, Ok, refl, ap}
use Rattle.txn_core.specs.Calls.{all_keys}
use Rattle.txn_core.specs.Machine as txns
use Rattle.mn_node.specs.Effects as machine
use Rattle.mn_node.specs.Inside.Tries.{durable}
use Rattle.mn_node.specs.declared.reply.Reply.TheVariants as replies
use Rattle.mn_node.proofs.TxnCommands.{came, bar_of}
use Rattle.mn_node.proofs.TxnOutcomes.{begun_ok, begun_refused, begun_takes}
use Rattle.mn_node.proofs.open.Open.begin.Goals as goal

pub returns-in-Ok : goal.returns-in-Ok
returns-in-Ok c =
    let old = c.args.self.now in
    let name = c.args.name in
    let w = durable old in
    came old c.begin.new.self (machine.begin name) (txns.begin name) tt txns.ok (c.in-Ok.ensures w.database.tables)
    (machine.keeps machine.ok)
    (λ pending later h. begun_ok w pending name later h) replies.Ok (Ok c.told.result) (ap Ok c.told.ensures) refl refl refl refl
    (record { fault = refl; memory = refl; up = λ h. absurd (cc h) })

pub returns-in-Err : goal.returns-in-Err
returns-in-Err c =
    let old = c.args.self.now in
    let name = c.args.name in
    let w = durable old in
    bar_of old c.begin.new.self (machine.begin name) (txns.begin name) tt name (all_keys name)
    (λ pending later why h. begun_refused w pending name later why h) (λ pending. begun_takes w pending name)
    c.in-Err.error None c.no_item.result c.barred.result (c.in-Err.ensures w.database.tables) refl c.no_item.ensures c.barred.ensures
