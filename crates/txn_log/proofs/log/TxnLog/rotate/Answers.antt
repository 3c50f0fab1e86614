use Rattle.std.proofs.Common.{inl, inr, length, None, refl, sym, ap, ◌∙◌}
use Rattle.file_trait.specs.DiskModel.{Crashes}
use Rattle.file_trait.proofs.Moments.{then_done, weaker}
use Rattle.disk_logs.specs.Errors.{OnlyFileOrMemory}
use Rattle.disk_logs.proofs.Calls.{then_calls}
use Rattle.txn_log.specs.Logs.{LogState}
use Rattle.txn_log.specs.TwoLogs.{IsOfLogs, Rotates, AreSound}
use Rattle.txn_log.proofs.Acts.{on_ok, wider_calls}
use Rattle.txn_log.proofs.TwoLogs.{made_both, some_synced, fewer_rotates}
use Rattle.txn_log.proofs.log.TxnLog.rotate.Goals as goal

pub returns-then-self-clause-calls : goal.returns-then-self-clause-calls
returns-then-self-clause-calls g c =
    wider_calls g.D.Disk _ _ IsOfLogs OnlyFileOrMemory c.renew.result (λ n is. inl is) (λ only. only) c.renew.ensures.calls

pub returns-in_err-retire-clause-left : goal.returns-in_err-retire-clause-left
returns-in_err-retire-clause-left g c commits synced told logs = c.retire.ensures.left commits synced told
    (made_both (g.D.Disk.past c.args.disk.now) c.args.self.now None commits synced
    (sym (ap (λ (l : LogState). l.waits) c.self.view_is) ∙ c.if-self.false) logs)

pub returns-in_err-retire-clause-sound : goal.returns-in_err-retire-clause-sound
returns-in_err-retire-clause-sound g c commits synced told logs = c.retire.ensures.sound commits synced told
    (made_both (g.D.Disk.past c.args.disk.now) c.args.self.now None commits synced
    (sym (ap (λ (l : LogState). l.waits) c.self.view_is) ∙ c.if-self.false) logs)

pub returns-clause-stands : goal.returns-clause-stands
returns-clause-stands g c commits synced told logs =
    on_ok _ (λ both. inl both) (c.renew-2.ensures.stands commits told
    (c.in_ok-retire.ensures.stands commits synced told (made_both (g.D.Disk.past c.args.disk.now) c.args.self.now None commits synced
    (sym (ap (λ (l : LogState). l.waits) c.self.view_is) ∙ c.if-self.false) logs)))

pub returns-clause-waiting : goal.returns-clause-waiting
returns-clause-waiting g c commits synced told logs is waits =
    inr (
      commits,
      refl,
      refl,
      refl,
      c.renew-2.ensures.kept commits told (c.in_ok-retire.ensures.stands commits synced told
          (made_both (g.D.Disk.past c.args.disk.now) c.args.self.now None commits synced
          (sym (ap (λ (l : LogState). l.waits) c.self.view_is) ∙ c.if-self.false) logs)) is,
    )

pub returns-clause-left : goal.returns-clause-left
returns-clause-left g c commits synced told logs =
    c.renew-2.ensures.left commits told (c.in_ok-retire.ensures.stands commits synced told
    (made_both (g.D.Disk.past c.args.disk.now) c.args.self.now None commits synced
    (sym (ap (λ (l : LogState). l.waits) c.self.view_is) ∙ c.if-self.false) logs))

pub returns-clause-any_moment : goal.returns-clause-any_moment
returns-clause-any_moment g c commits synced told logs =
    let both = (made_both (g.D.Disk.past c.args.disk.now) c.args.self.now None commits synced
    (sym (ap (λ (l : LogState). l.waits) c.self.view_is) ∙ c.if-self.false) logs) in
    then_done (Crashes (Rotates commits synced)) (g.D.Disk.past c.args.disk.now) (g.D.Disk.past c.retire.new.disk) _
    (c.retire.ensures.any_moment commits synced told both)
    (weaker (Crashes (Rotates commits (length commits))) (Crashes (Rotates commits synced)) _ _
    (λ past h image is. fewer_rotates commits (length commits) synced image (some_synced _ c.args.self.now commits synced both.in_latest)
    (h image is))
    (c.renew-2.ensures.any_moment commits told (c.in_ok-retire.ensures.stands commits synced told both)))

pub returns-clause-sound : goal.returns-clause-sound
returns-clause-sound g c commits synced told logs =
    let both = (made_both (g.D.Disk.past c.args.disk.now) c.args.self.now None commits synced
    (sym (ap (λ (l : LogState). l.waits) c.self.view_is) ∙ c.if-self.false) logs) in
    then_done AreSound (g.D.Disk.past c.args.disk.now) (g.D.Disk.past c.retire.new.disk) _ (c.retire.ensures.sound commits synced told both)
    (c.renew-2.ensures.sound commits told (c.in_ok-retire.ensures.stands commits synced told both))

pub returns-clause-calls : goal.returns-clause-calls
returns-clause-calls g c =
    then_calls g.D.Disk IsOfLogs _ _ _ OnlyFileOrMemory OnlyFileOrMemory c.retire.result _ c.renew-2.result c.in_ok-retire.was
    c.retire.ensures.calls
    (wider_calls g.D.Disk _ _ IsOfLogs OnlyFileOrMemory c.renew-2.result (λ n is. inl is) (λ only. only) c.renew-2.ensures.calls)
