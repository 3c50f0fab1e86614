use Rattle.std.proofs.Common.{inl, inr, length, refl, sym, ap, ◌∙◌}
use Rattle.file_trait.specs.DiskModel.{reads, Crashes}
use Rattle.file_trait.specs.Moments.{Moments}
use Rattle.file_trait.proofs.Moments.{none_done, weaker}
use Rattle.disk_logs.specs.Errors.{OnlyFileOrMemory}
use Rattle.disk_logs.specs.Logs.{Handle}
use Rattle.txn_log.specs.Logs.{LogState, handle, IsOwn}
use Rattle.txn_log.specs.TwoLogs.{TwoLogs, Rotates, commits_of}
use Rattle.txn_log.proofs.Acts.{wider_calls}
use Rattle.txn_log.proofs.Held.{waits_closed}
use Rattle.txn_log.proofs.TwoLogs.{waiting_log, as_front, as_waits, logs_leave, logs_read, logs_sound}
use Rattle.txn_log.proofs.log.TxnLog.ready.Goals as goal

pub returns-then-self-clause-kept : goal.returns-then-self-clause-kept
returns-then-self-clause-kept g c before after synced told logs is =
    let (commits, b, a, z, w) = waiting_log (g.D.Disk.past c.args.disk.now) c.args.self.now before after synced
    (sym (ap (λ (l : LogState). l.waits) c.self.view_is) ∙ c.if-self.true) logs in
    inr (commits, b, a, z, c.renew.ensures.kept commits told w is)

pub returns-then-self-clause-left : goal.returns-then-self-clause-left
returns-then-self-clause-left g c before after synced told logs =
    let (commits, b, a, z, w) = waiting_log (g.D.Disk.past c.args.disk.now) c.args.self.now before after synced
    (sym (ap (λ (l : LogState). l.waits) c.self.view_is) ∙ c.if-self.true) logs in
    as_waits (λ o cs n. TwoLogs (commits_of o) cs (length cs) (reads (g.D.Disk.past c.renew.new.disk))) before after synced commits b a z
    (as_front commits (reads (g.D.Disk.past c.renew.new.disk)) (c.renew.ensures.left commits told w))

pub returns-then-self-clause-any_moment : goal.returns-then-self-clause-any_moment
returns-then-self-clause-any_moment g c before after synced told logs =
    let (commits, b, a, z, w) = waiting_log (g.D.Disk.past c.args.disk.now) c.args.self.now before after synced
    (sym (ap (λ (l : LogState). l.waits) c.self.view_is) ∙ c.if-self.true) logs in
    as_waits (λ o cs n. Moments (Crashes (TwoLogs (commits_of o) cs n)) (g.D.Disk.past c.args.disk.now)
    (g.D.Disk.past c.renew.new.disk)) before after synced commits b a z
    (weaker (Crashes (Rotates commits (length commits))) _ _ _ (λ past h image is. as_front commits image (h image is))
    (c.renew.ensures.any_moment commits told w))

pub returns-then-self-clause-sound : goal.returns-then-self-clause-sound
returns-then-self-clause-sound g c before after synced told logs =
    let (commits, b, a, z, w) = waiting_log (g.D.Disk.past c.args.disk.now) c.args.self.now before after synced
    (sym (ap (λ (l : LogState). l.waits) c.self.view_is) ∙ c.if-self.true) logs in
    c.renew.ensures.sound commits told w

pub returns-then-self-clause-calls : goal.returns-then-self-clause-calls
returns-then-self-clause-calls g c =
    wider_calls g.D.Disk _ _ (IsOwn c.args.self.now) OnlyFileOrMemory c.renew.result
    (λ n at. elim at [ inl is ↦ inl is | inr is ↦ inr (sym (ap (λ (l : LogState). l.waits) c.self.view_is) ∙ c.if-self.true, is) ])
    (λ only. only) c.renew.ensures.calls

pub returns-clause-left : goal.returns-clause-left
returns-clause-left g c before after synced told logs = logs_read _ c.args.self.now before after synced logs

pub returns-clause-any_moment : goal.returns-clause-any_moment
returns-clause-any_moment g c before after synced told logs = none_done _ _ _ refl (logs_leave _ c.args.self.now before after synced logs)

pub returns-clause-sound : goal.returns-clause-sound
returns-clause-sound g c before after synced told logs = none_done _ _ _ refl (logs_sound _ c.args.self.now before after synced logs)

pub returns-then-self-clause-open : goal.returns-then-self-clause-open
returns-then-self-clause-open g c open' =
    let waits = sym (ap (λ (l : LogState). l.waits) c.self.view_is) ∙ c.if-self.true in
    let at = waits_closed c.self.inside.log c.args.self.now (c.self.invariant ∙ ap handle c.self.view_is) waits in
    absurd (cc (ap (λ (l : Handle). l.closed) at, ap (λ (l : LogState). l.closed) c.self.view_is, open'))
