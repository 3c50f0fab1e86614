use Rattle.std.proofs.Common.{Some, Ok, map, refl, ap}
use Rattle.term_core.specs.View.{tree_of}
use Rattle.txn_core.specs.Calls.{read, found}
use Rattle.txn_core.specs.Machine as txns
use Rattle.mn_node.specs.Effects as machine
use Rattle.mn_node.specs.Inside.Tries.{durable}
use Rattle.mn_node.specs.declared.reply.Reply.TheVariants as replies
use Rattle.mn_node.proofs.TxnCommands.{came, bar_of}
use Rattle.mn_node.proofs.TxnOutcomes.{asked_replied, asked_refused, asked_takes}
use Rattle.mn_node.proofs.open.Open.read.Goals as goal

pub returns-in-Ok : goal.returns-in-Ok
returns-in-Ok c =
    let old = c.args.self.now in
    let name = c.args.name in
    let table = c.args.table in
    let call = read table (tree_of c.args.key) in
    let w = durable old in
    let terms = map tree_of c.in-Ok.rows in
    came old c.read.new.self (machine.ask name call) (txns.ask name call) tt (txns.replied (found terms)) c.in-Ok.ensures
    (machine.keeps (machine.found terms)) (λ pending later h. asked_replied w pending name call later (found terms) h)
    (replies.Found c.in-Ok.rows) (Ok c.told.result) (ap Ok c.told.ensures) refl refl refl refl
    (record { fault = refl; memory = refl; up = λ h. absurd (cc h) })

pub returns-in-Err : goal.returns-in-Err
returns-in-Err c =
    let old = c.args.self.now in
    let name = c.args.name in
    let table = c.args.table in
    let call = read table (tree_of c.args.key) in
    let w = durable old in
    bar_of old c.read.new.self (machine.ask name call) (txns.ask name call) tt name call
    (λ pending later why h. asked_refused w pending name call later why h) (λ pending. asked_takes w pending name call)
    c.in-Err.error (Some table) c.args.key c.barred.result c.in-Err.ensures refl refl c.barred.ensures
