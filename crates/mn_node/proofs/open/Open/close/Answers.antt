use Rattle.std.proofs.Common.{true, refl, arith}
use Rattle.mn_node.specs.Effects.{stopped}
use Rattle.mn_node.specs.declared.reply.Reply.TheVariants.{Stopped}
use Rattle.txn_log.proofs.Acts.{touches_log}
use Rattle.txn_log.proofs.CallerLemmas.{own_calls}
use Rattle.mn_node.proofs.Acts.{settled, unsettled, stays_log}
use Rattle.mn_node.proofs.Owed.{done_owes, undone_owes}
use Rattle.mn_node.proofs.open.Open.close.Goals as goal

pub returns-in-Ok-clause-tries : goal.returns-in-Ok-clause-tries
returns-in-Ok-clause-tries g c told commits durable pending shown pends =
    let log = c.close.ensures in
    let done = c.in-Ok.ensures in
    settled shown stopped true true Stopped refl refl (done.stands commits durable told shown.log) (λ halts. done.closed)
    (log.any_moment commits durable told shown.log) (log.sound commits durable told shown.log) (touches_log _ _ (log.calls.touches told))

pub returns-in-Err-clause-tries : goal.returns-in-Err-clause-tries
returns-in-Err-clause-tries g c told commits durable pending shown pends =
    let log = c.close.ensures in
    let failed = c.in-Err.ensures in
    unsettled shown stopped true true c.in-Err.error c.why.result refl
    (record { only = failed.calls.only; named = failed.calls.named; file = c.why.ensures.file; memory = c.why.ensures.memory })
    (failed.left commits durable told shown.log)
    (log.any_moment commits durable told shown.log) (log.sound commits durable told shown.log) (touches_log _ _ (log.calls.touches told))
    (λ wanted. (refl, failed.kept commits durable told shown.log wanted))

pub returns-in-Ok-clause-owes : goal.returns-in-Ok-clause-owes
returns-in-Ok-clause-owes g c =
    done_owes g.D.Disk c.args.disk.now c.close.new.disk c.args.self.now.log _ _
    (own_calls g.D.Disk _ _ c.args.self.now.log _ c.in-Ok.ensures.calls) (λ told up. absurd (cc up))
    (omega (arith, c.close.ensures.commits)) (record { fault = refl; memory = refl; up = λ is. absurd (cc is) })

pub returns-in-Err-clause-owes : goal.returns-in-Err-clause-owes
returns-in-Err-clause-owes g c =
    undone_owes g.D.Disk c.args.disk.now c.close.new.disk c.args.self.now.log _ c.in-Err.error c.why.result
    (own_calls g.D.Disk _ _ c.args.self.now.log _ c.in-Err.ensures.calls) c.why.ensures.file c.why.ensures.only
    (λ told. stays_log _ _ c.in-Err.error c.why.result c.why.ensures.only_memory (c.in-Err.ensures.wanted told))
    (omega (arith, c.close.ensures.commits))
