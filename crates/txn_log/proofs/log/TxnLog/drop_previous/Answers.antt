use Rattle.std.proofs.Common.{inl, inr, ◌∙◌}
use Rattle.std.proofs.lemmas.Result.{err_from_is_err_and}
use Rattle.file_trait.specs.DiskModel.{Crashes}
use Rattle.file_trait.proofs.Moments.{then_done, weaker}
use Rattle.disk_logs.specs.Errors.{OnlyFileOrMemory}
use Rattle.disk_logs.proofs.Calls.{then_calls, passed_calls}
use Rattle.txn_log.specs.TwoLogs.{IsOfLogs, TwoLogs, Drops, AreSound, commits_of}
use Rattle.txn_log.proofs.Acts.{any_ok, own_log, wider_calls}
use Rattle.txn_log.proofs.Dropping.{drop_moments, drop_reads, drop_sound, drop_stands, drop_log}
use Rattle.txn_log.proofs.log.TxnLog.drop_previous.Goals as goal

pub returns-in_err-ready-clause-left : goal.returns-in_err-ready-clause-left
returns-in_err-ready-clause-left g c before after synced told logs = inl (c.ready.ensures.left before after synced told logs)

pub returns-in_err-ready-clause-any_moment : goal.returns-in_err-ready-clause-any_moment
returns-in_err-ready-clause-any_moment g c before after synced told logs =
    weaker (Crashes (TwoLogs (commits_of before) after synced)) _ _ _ (λ past h image is. inl (h image is))
    (c.ready.ensures.any_moment before after synced told logs)

pub returns-in_err-ready-clause-calls : goal.returns-in_err-ready-clause-calls
returns-in_err-ready-clause-calls g c =
    let p = err_from_is_err_and c.from_residual.result c.from_residual.ensures.1 in
    passed_calls g.D.Disk IsOfLogs _ _ c.ready.result _ _ _ p.1 p.2 c.in_err-ready.was
    (wider_calls g.D.Disk _ _ IsOfLogs OnlyFileOrMemory c.ready.result (λ n own. inl (own_log c.args.self.now n own)) (λ only. only)
    c.ready.ensures.calls)

pub returns-clause-log : goal.returns-clause-log
returns-clause-log g c told =
    any_ok c.discard.result
    (drop_log c.ready.new.self c.in_ok-ready.ensures.made c.previous.ensures.value
    (c.discard.ensures.calls.touches told) (c.in_ok-ready.ensures.log told))

pub returns-clause-stands : goal.returns-clause-stands
returns-clause-stands g c before after synced told logs =
    drop_stands c.previous.ensures.value
    (c.in_ok-ready.ensures.stands before after synced told logs) (c.discard.ensures.calls.touches told)
    (c.discard.ensures.images told) c.discard.result
    (c.discard.ensures.gone told)

pub returns-clause-left : goal.returns-clause-left
returns-clause-left g c before after synced told logs =
    drop_reads c.previous.ensures.value
    (c.in_ok-ready.ensures.stands before after synced told logs) (c.discard.ensures.calls.touches told) (c.discard.ensures.images told)

pub returns-clause-any_moment : goal.returns-clause-any_moment
returns-clause-any_moment g c before after synced told logs =
    then_done (Crashes (Drops (commits_of before) after synced)) (g.D.Disk.past c.args.disk.now) (g.D.Disk.past c.ready.new.disk)
    (g.D.Disk.past c.discard.new.disk)
    (weaker (Crashes (TwoLogs (commits_of before) after synced)) _ _ _ (λ past h image is. inl (h image is))
    (c.ready.ensures.any_moment before after synced told logs))
    (drop_moments c.previous.ensures.value
    (c.in_ok-ready.ensures.stands before after synced told logs) (c.discard.ensures.calls.touches told) (c.discard.ensures.images told))

pub returns-clause-sound : goal.returns-clause-sound
returns-clause-sound g c before after synced told logs =
    then_done AreSound (g.D.Disk.past c.args.disk.now) (g.D.Disk.past c.ready.new.disk) (g.D.Disk.past c.discard.new.disk)
    (c.ready.ensures.sound before after synced told logs)
    (drop_sound c.previous.ensures.value
    (c.in_ok-ready.ensures.stands before after synced told logs) (c.discard.ensures.calls.touches told) (c.discard.ensures.images told)
    (c.discard.ensures.sound told))

pub returns-clause-calls : goal.returns-clause-calls
returns-clause-calls g c =
    then_calls g.D.Disk IsOfLogs _ _ _ OnlyFileOrMemory OnlyFileOrMemory c.ready.result _ c.discard.result c.in_ok-ready.was
    (wider_calls g.D.Disk _ _ IsOfLogs OnlyFileOrMemory c.ready.result (λ n own. inl (own_log c.args.self.now n own)) (λ only. only)
    c.ready.ensures.calls)
    (wider_calls g.D.Disk _ _ IsOfLogs OnlyFileOrMemory c.discard.result (λ n is. inr (is ∙ c.previous.ensures.value)) (λ only. only)
    c.discard.ensures.calls)
