use Rattle.std.proofs.Common.{inl, inr, ap, ◌∙◌, lit≤}
use Rattle.std.proofs.lemmas.Result.{err_from_is_err_and}
use Rattle.file_trait.proofs.Images.{reads_image}
use Rattle.file_trait.proofs.Moments.{at_end}
use Rattle.disk_logs.specs.Errors.{OnlyFileOrMemory}
use Rattle.disk_logs.specs.Logs.{draft_name}
use Rattle.disk_logs.proofs.Calls.{then_calls, done_calls, passed_calls}
use Rattle.disk_logs.proofs.Publishing.{same_error}
use Rattle.txn_log.specs.Logs.{LogState, IsLogName}
use Rattle.txn_log.proofs.Acts.{wider_calls}
use Rattle.txn_log.proofs.Rotating.{called, draft_touches, draft_waits, draft_moments, draft_sound, publish_touches, renewed_moments, renewed_sound, renewed_wanted, renewed_stands, renewed_log, still_previous}
use Rattle.txn_log.proofs.log.TxnLog.renew.Goals as goal

-- ---- no draft was made

pub returns-in_err-log-clause-wanted : goal.returns-in_err-log-clause-wanted
returns-in_err-log-clause-wanted g c told is =
    still_previous c.args.self.now c.requires.waits (draft_touches c.latest.ensures.value (c.draft.ensures.calls.touches told))
    (c.requires.log told)

pub returns-in_err-log-clause-kept : goal.returns-in_err-log-clause-kept
returns-in_err-log-clause-kept g c commits told waits is = draft_waits c.latest.ensures.value (c.draft.ensures.calls.touches told) waits

pub returns-in_err-log-clause-any_moment : goal.returns-in_err-log-clause-any_moment
returns-in_err-log-clause-any_moment g c commits told waits = draft_moments c.latest.ensures.value
    (c.draft.ensures.calls.touches told) waits

pub returns-in_err-log-clause-left : goal.returns-in_err-log-clause-left
returns-in_err-log-clause-left g c commits told waits =
    at_end _ _ _ (returns-in_err-log-clause-any_moment g c commits told waits) _ (reads_image _)

pub returns-in_err-log-clause-sound : goal.returns-in_err-log-clause-sound
returns-in_err-log-clause-sound g c commits told waits = draft_sound c.latest.ensures.value (c.draft.ensures.calls.touches told) waits

pub returns-in_err-log-clause-calls : goal.returns-in_err-log-clause-calls
returns-in_err-log-clause-calls g c =
    let p = err_from_is_err_and c.from_residual.result c.from_residual.ensures.1 in
    passed_calls g.D.Disk IsLogName _ _ c.draft.result _ _ _ p.1 p.2 c.in_err-log.was
    (wider_calls g.D.Disk _ _ IsLogName OnlyFileOrMemory c.draft.result (λ n is. inr (is ∙ ap draft_name c.latest.ensures.value))
    (λ only. only (lit≤ tt)) c.draft.ensures.calls)

-- ---- one was, and was to be published

pub returns-in_err-publish-clause-wanted : goal.returns-in_err-publish-clause-wanted
returns-in_err-publish-clause-wanted g c told is =
    still_previous c.args.self.now c.requires.waits
    (publish_touches c.latest.ensures.value c.in_ok-log.ensures.log (c.draft.ensures.calls.touches told)
    (c.publish.ensures.calls.touches told)) (c.requires.log told)

pub returns-in_err-publish-clause-kept : goal.returns-in_err-publish-clause-kept
returns-in_err-publish-clause-kept g c commits told waits is =
    let p = err_from_is_err_and c.from_residual-in_err-publish.result c.from_residual-in_err-publish.ensures.1 in
    renewed_wanted c.latest.ensures.value (c.draft.ensures.calls.touches told) waits c.in_ok-log.ensures.log (c.in_ok-log.ensures.made told)
    (c.publish.ensures.calls.touches told)
    (c.publish.ensures.wanted told (same_error _ _ _ _ _ p.1 p.2 c.in_err-publish.was is))

pub returns-in_err-publish-clause-any_moment : goal.returns-in_err-publish-clause-any_moment
returns-in_err-publish-clause-any_moment g c commits told waits =
    renewed_moments c.latest.ensures.value (c.draft.ensures.calls.touches told) waits c.in_ok-log.ensures.log
    (c.in_ok-log.ensures.made told)
    (c.publish.ensures.calls.touches told)
    (λ whole. c.publish.ensures.images whole told)

pub returns-in_err-publish-clause-left : goal.returns-in_err-publish-clause-left
returns-in_err-publish-clause-left g c commits told waits = at_end _ _ _
    (returns-in_err-publish-clause-any_moment g c commits told waits) _ (reads_image _)

pub returns-in_err-publish-clause-sound : goal.returns-in_err-publish-clause-sound
returns-in_err-publish-clause-sound g c commits told waits =
    renewed_sound c.latest.ensures.value (c.draft.ensures.calls.touches told) waits c.in_ok-log.ensures.log (c.in_ok-log.ensures.made told)
    (c.publish.ensures.calls.touches told)
    (λ items. c.publish.ensures.sound items told)

pub returns-in_err-publish-clause-calls : goal.returns-in_err-publish-clause-calls
returns-in_err-publish-clause-calls g c =
    let p = err_from_is_err_and c.from_residual-in_err-publish.result c.from_residual-in_err-publish.ensures.1 in
    passed_calls g.D.Disk IsLogName _ _ c.publish.result _ _ _ p.1 p.2 c.in_err-publish.was
    (then_calls g.D.Disk IsLogName _ _ _ OnlyFileOrMemory OnlyFileOrMemory c.draft.result _ c.publish.result c.in_ok-log.was
    (wider_calls g.D.Disk _ _ IsLogName OnlyFileOrMemory c.draft.result (λ n is. inr (is ∙ ap draft_name c.latest.ensures.value))
    (λ only. only (lit≤ tt)) c.draft.ensures.calls)
    (wider_calls g.D.Disk _ _ IsLogName OnlyFileOrMemory c.publish.result
    (λ n at. elim at [
      | inl is ↦ inl (is ∙ called c.in_ok-log.ensures.log c.latest.ensures.value)
      | inr is ↦ inr (is ∙ ap draft_name (called c.in_ok-log.ensures.log c.latest.ensures.value))
    ])
    (λ only. only) c.publish.ensures.calls))

pub returns-clause-any_moment : goal.returns-clause-any_moment
returns-clause-any_moment g c commits told waits =
    renewed_moments c.latest.ensures.value (c.draft.ensures.calls.touches told) waits c.in_ok-log.ensures.log
    (c.in_ok-log.ensures.made told)
    (c.publish.ensures.calls.touches told)
    (λ whole. c.publish.ensures.images whole told)

pub returns-clause-left : goal.returns-clause-left
returns-clause-left g c commits told waits = at_end _ _ _ (returns-clause-any_moment g c commits told waits) _ (reads_image _)

pub returns-clause-sound : goal.returns-clause-sound
returns-clause-sound g c commits told waits =
    renewed_sound c.latest.ensures.value (c.draft.ensures.calls.touches told) waits c.in_ok-log.ensures.log (c.in_ok-log.ensures.made told)
    (c.publish.ensures.calls.touches told)
    (λ items. c.publish.ensures.sound items told)

pub returns-clause-calls : goal.returns-clause-calls
returns-clause-calls g c =
    done_calls g.D.Disk IsLogName _ _ _ c.publish.result _ _ c.in_ok-publish.was
    (then_calls g.D.Disk IsLogName _ _ _ OnlyFileOrMemory OnlyFileOrMemory c.draft.result _ c.publish.result c.in_ok-log.was
    (wider_calls g.D.Disk _ _ IsLogName OnlyFileOrMemory c.draft.result (λ n is. inr (is ∙ ap draft_name c.latest.ensures.value))
    (λ only. only (lit≤ tt)) c.draft.ensures.calls)
    (wider_calls g.D.Disk _ _ IsLogName OnlyFileOrMemory c.publish.result
    (λ n at. elim at [
      | inl is ↦ inl (is ∙ called c.in_ok-log.ensures.log c.latest.ensures.value)
      | inr is ↦ inr (is ∙ ap draft_name (called c.in_ok-log.ensures.log c.latest.ensures.value))
    ])
    (λ only. only) c.publish.ensures.calls))

pub returns-clause-log : goal.returns-clause-log
returns-clause-log g c told =
    renewed_log (g.D.Disk.past c.draft.new.disk)
    (g.D.Disk.past c.publish.new.disk) c.self.inside.commits c.latest.ensures.value c.in_ok-log.ensures.log c.in_ok-publish.ensures.log
    (c.in_ok-log.ensures.reads told) (c.in_ok-publish.ensures.moved told)

pub returns-clause-stands : goal.returns-clause-stands
returns-clause-stands g c commits told waits =
    renewed_stands c.latest.ensures.value (c.draft.ensures.calls.touches told) waits c.in_ok-log.ensures.log (c.in_ok-log.ensures.made told)
    (c.publish.ensures.calls.touches told)
    c.publish.new.self c.self.inside.commits c.in_ok-publish.ensures.log (ap (λ (l : LogState). l.commits) c.self.view_is ∙ waits.none)
    (c.in_ok-publish.ensures.directory told) (λ items. c.in_ok-publish.ensures.stands items told)
