use Rattle.std.proofs.Common.{false, refl, arith}
use Rattle.mn_node.specs.Effects.{synced}
use Rattle.mn_node.specs.declared.reply.Reply.TheVariants.{Synced}
use Rattle.txn_log.proofs.Acts.{touches_log}
use Rattle.txn_log.proofs.CallerLemmas.{own_calls}
use Rattle.mn_node.proofs.Acts.{settled, unsettled, stays_log, only_more, never_wants}
use Rattle.mn_node.proofs.Owed.{done_owes, undone_owes}
use Rattle.mn_node.proofs.open.Open.settle.Goals as goal

pub returns-in-Ok-clause-tries : goal.returns-in-Ok-clause-tries
returns-in-Ok-clause-tries g c told commits durable pending shown pends =
    let log = c.sync.ensures in
    settled shown synced false false Synced refl refl (c.in-Ok.ensures.stands commits durable told shown.log) (λ halts. absurd (cc halts))
    (log.any_moment commits durable told shown.log) (log.sound commits durable told shown.log) (touches_log _ _ (log.calls.touches told))

pub returns-in-Err-clause-tries : goal.returns-in-Err-clause-tries
returns-in-Err-clause-tries g c told commits durable pending shown pends =
    let log = c.sync.ensures in
    let failed = c.in-Err.ensures in
    unsettled shown synced false false c.in-Err.error c.why.result refl
    (record {
      only = only_more c.in-Err.error failed.calls.only;
      named = failed.calls.named;
      file = c.why.ensures.file;
      memory = c.why.ensures.memory;
    })
    (failed.left commits durable told shown.log)
    (log.any_moment commits durable told shown.log) (log.sound commits durable told shown.log) (touches_log _ _ (log.calls.touches told))
    (λ wanted. absurd (never_wants c.in-Err.error failed.calls.only wanted))

pub returns-in-Ok-clause-owes : goal.returns-in-Ok-clause-owes
returns-in-Ok-clause-owes g c =
    done_owes g.D.Disk c.args.disk.now c.sync.new.disk c.args.self.now.log _ _
    (own_calls g.D.Disk _ _ c.args.self.now.log _ c.in-Ok.ensures.calls) (λ told up. c.sync.ensures.log told)
    (rw c.sync.ensures.same (omega (arith))) (record { fault = refl; memory = refl; up = λ is. absurd (cc is) })

pub returns-in-Err-clause-owes : goal.returns-in-Err-clause-owes
returns-in-Err-clause-owes g c =
    undone_owes g.D.Disk c.args.disk.now c.sync.new.disk c.args.self.now.log _ c.in-Err.error c.why.result
    (own_calls g.D.Disk _ _ c.args.self.now.log _ c.in-Err.ensures.calls) c.why.ensures.file c.why.ensures.only
    (λ told. stays_log _ _ c.in-Err.error c.why.result c.why.ensures.only_memory (λ wanted. c.sync.ensures.log told))
    (rw c.sync.ensures.same (omega (arith)))
