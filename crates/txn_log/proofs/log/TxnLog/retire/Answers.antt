use Rattle.std.proofs.Common.{inl, inr, ap, ◌∙◌}
use Rattle.std.proofs.lemmas.Result.{err_from_is_err_and}
use Rattle.disk_logs.specs.Errors.{OnlyFileOrMemory}
use Rattle.disk_logs.specs.Logs.{file_of}
use Rattle.disk_logs.proofs.Calls.{then_calls, done_calls, passed_calls}
use Rattle.disk_logs.proofs.Publishing.{same_error}
use Rattle.txn_log.specs.Logs.{LogState, handle}
use Rattle.txn_log.specs.TwoLogs.{IsOfLogs}
use Rattle.txn_log.proofs.Acts.{held_at, wider_calls}
use Rattle.txn_log.proofs.Rotating.{closed_name, closing_moments, closing_sound, closing_reads, closing_kept, retired_moments, retired_reads, retired_sound, retired_waits, retired_kept}
use Rattle.txn_log.proofs.log.TxnLog.retire.Goals as goal

-- ---- it could not be closed

pub returns-in_err-close-clause-kept : goal.returns-in_err-close-clause-kept
returns-in_err-close-clause-kept g c commits synced told h is =
    let p = err_from_is_err_and c.from_residual.result c.from_residual.ensures.1 in
    let wanted = same_error _ _ _ _ _ p.1 p.2 c.in_err-close.was is in
    closing_kept (held_at c.args.self.now (c.self.invariant ∙ ap handle c.self.view_is) c.requires.made) h
    (c.close.ensures.calls.touches told) _ _ _
    (ap (λ (l : LogState). l.waits) c.self.view_is) (ap (λ (l : LogState). l.commits) c.self.view_is)
    (c.close.ensures.wanted wanted) (λ all least before. c.close.ensures.kept all least told before wanted)

pub returns-in_err-close-clause-left : goal.returns-in_err-close-clause-left
returns-in_err-close-clause-left g c commits synced told h =
    closing_reads (held_at c.args.self.now (c.self.invariant ∙ ap handle c.self.view_is) c.requires.made) h
    (c.close.ensures.calls.touches told)
    c.close.result _ c.in_err-close.was (λ all. c.close.ensures.closed all told)

pub returns-in_err-close-clause-any_moment : goal.returns-in_err-close-clause-any_moment
returns-in_err-close-clause-any_moment g c commits synced told h =
    closing_moments (held_at c.args.self.now (c.self.invariant ∙ ap handle c.self.view_is) c.requires.made) h
    (c.close.ensures.calls.touches told)
    (λ all least. c.close.ensures.any_moment all least told)

pub returns-in_err-close-clause-sound : goal.returns-in_err-close-clause-sound
returns-in_err-close-clause-sound g c commits synced told h =
    closing_sound (held_at c.args.self.now (c.self.invariant ∙ ap handle c.self.view_is) c.requires.made) h
    (c.close.ensures.calls.touches told)
    (λ all least. c.close.ensures.sound all least told)

pub returns-in_err-close-clause-calls : goal.returns-in_err-close-clause-calls
returns-in_err-close-clause-calls g c =
    let p = err_from_is_err_and c.from_residual.result c.from_residual.ensures.1 in
    passed_calls g.D.Disk IsOfLogs _ _ c.close.result _ _ _ p.1 p.2 c.in_err-close.was
    (wider_calls g.D.Disk _ _ IsOfLogs OnlyFileOrMemory c.close.result
    (λ n is. inl (inl (is ∙ ap file_of (held_at c.args.self.now (c.self.invariant ∙ ap handle c.self.view_is) c.requires.made))))
    (λ only. only) c.close.ensures.calls)

-- ---- it was, and was to get its other name

pub returns-in_err-rename-clause-kept : goal.returns-in_err-rename-clause-kept
returns-in_err-rename-clause-kept g c commits synced told h is =
    let p = err_from_is_err_and c.from_residual-in_err-rename.result c.from_residual-in_err-rename.ensures.1 in
    retired_kept (held_at c.args.self.now (c.self.invariant ∙ ap handle c.self.view_is) c.requires.made) h
    (c.close.ensures.calls.touches told)
    c.in_ok-close.ensures.log c.previous.ensures.value
    (λ all least. c.in_ok-close.ensures.stands all least told) _ _ _
    (ap (λ (l : LogState). l.waits) c.self.view_is) (ap (λ (l : LogState). l.commits) c.self.view_is)
    c.in_err-rename.ensures.err (c.rename.ensures.wanted told (same_error _ _ _ _ _ p.1 p.2 c.in_err-rename.was is))

pub returns-in_err-rename-clause-left : goal.returns-in_err-rename-clause-left
returns-in_err-rename-clause-left g c commits synced told h =
    retired_reads (held_at c.args.self.now (c.self.invariant ∙ ap handle c.self.view_is) c.requires.made) h
    (c.close.ensures.calls.touches told)
    c.in_ok-close.ensures.log c.previous.ensures.value
    (λ all least. c.in_ok-close.ensures.stands all least told) (g.D.Disk.past c.rename.new.disk)
    (λ items. c.rename.ensures.left items told)

pub returns-in_err-rename-clause-any_moment : goal.returns-in_err-rename-clause-any_moment
returns-in_err-rename-clause-any_moment g c commits synced told h =
    retired_moments (held_at c.args.self.now (c.self.invariant ∙ ap handle c.self.view_is) c.requires.made) h
    (c.close.ensures.calls.touches told)
    c.in_ok-close.ensures.log c.previous.ensures.value
    (λ all least. c.in_ok-close.ensures.stands all least told)
    (λ all least. c.close.ensures.any_moment all least told) (λ items. c.rename.ensures.any_moment items told)

pub returns-in_err-rename-clause-sound : goal.returns-in_err-rename-clause-sound
returns-in_err-rename-clause-sound g c commits synced told h =
    retired_sound (held_at c.args.self.now (c.self.invariant ∙ ap handle c.self.view_is) c.requires.made) h
    (c.close.ensures.calls.touches told)
    c.in_ok-close.ensures.log c.previous.ensures.value
    (λ all least. c.in_ok-close.ensures.stands all least told)
    (λ all least. c.close.ensures.sound all least told) (λ items. c.rename.ensures.sound items told)

pub returns-clause-left : goal.returns-clause-left
returns-clause-left g c commits synced told h =
    retired_reads (held_at c.args.self.now (c.self.invariant ∙ ap handle c.self.view_is) c.requires.made) h
    (c.close.ensures.calls.touches told)
    c.in_ok-close.ensures.log c.previous.ensures.value
    (λ all least. c.in_ok-close.ensures.stands all least told) (g.D.Disk.past c.rename.new.disk)
    (λ items. c.rename.ensures.left items told)

pub returns-clause-any_moment : goal.returns-clause-any_moment
returns-clause-any_moment g c commits synced told h =
    retired_moments (held_at c.args.self.now (c.self.invariant ∙ ap handle c.self.view_is) c.requires.made) h
    (c.close.ensures.calls.touches told)
    c.in_ok-close.ensures.log c.previous.ensures.value
    (λ all least. c.in_ok-close.ensures.stands all least told)
    (λ all least. c.close.ensures.any_moment all least told) (λ items. c.rename.ensures.any_moment items told)

pub returns-clause-sound : goal.returns-clause-sound
returns-clause-sound g c commits synced told h =
    retired_sound (held_at c.args.self.now (c.self.invariant ∙ ap handle c.self.view_is) c.requires.made) h
    (c.close.ensures.calls.touches told)
    c.in_ok-close.ensures.log c.previous.ensures.value
    (λ all least. c.in_ok-close.ensures.stands all least told)
    (λ all least. c.close.ensures.sound all least told) (λ items. c.rename.ensures.sound items told)

pub returns-clause-stands : goal.returns-clause-stands
returns-clause-stands g c commits synced told h =
    retired_waits (held_at c.args.self.now (c.self.invariant ∙ ap handle c.self.view_is) c.requires.made) h
    (c.close.ensures.calls.touches told)
    c.in_ok-close.ensures.log c.previous.ensures.value
    (λ all least. c.in_ok-close.ensures.stands all least told) _ (λ items. c.in_ok-rename.ensures.renamed items told)

pub returns-in_err-rename-clause-calls : goal.returns-in_err-rename-clause-calls
returns-in_err-rename-clause-calls g c =
    let p = err_from_is_err_and c.from_residual-in_err-rename.result c.from_residual-in_err-rename.ensures.1 in
    passed_calls g.D.Disk IsOfLogs _ _ c.rename.result _ _ _ p.1 p.2 c.in_err-rename.was
    (then_calls g.D.Disk IsOfLogs _ _ _ OnlyFileOrMemory OnlyFileOrMemory c.close.result _ c.rename.result c.in_ok-close.was
    (wider_calls g.D.Disk _ _ IsOfLogs OnlyFileOrMemory c.close.result
    (λ n is. inl (inl (is ∙ ap file_of (held_at c.args.self.now (c.self.invariant ∙ ap handle c.self.view_is) c.requires.made))))
    (λ only. only) c.close.ensures.calls)
    (wider_calls g.D.Disk _ _ IsOfLogs OnlyFileOrMemory c.rename.result
    (λ n at. elim at [
      | inl is ↦ inl (inl (is ∙ closed_name c.args.self.now
          (held_at c.args.self.now (c.self.invariant ∙ ap handle c.self.view_is) c.requires.made) c.in_ok-close.ensures.log))
      | inr is ↦ inr (is ∙ c.previous.ensures.value)
    ])
    (λ only. only) c.rename.ensures.calls))

pub returns-clause-calls : goal.returns-clause-calls
returns-clause-calls g c =
    done_calls g.D.Disk IsOfLogs _ _ _ c.rename.result _ _ c.in_ok-rename.was
    (then_calls g.D.Disk IsOfLogs _ _ _ OnlyFileOrMemory OnlyFileOrMemory c.close.result _ c.rename.result c.in_ok-close.was
    (wider_calls g.D.Disk _ _ IsOfLogs OnlyFileOrMemory c.close.result
    (λ n is. inl (inl (is ∙ ap file_of (held_at c.args.self.now (c.self.invariant ∙ ap handle c.self.view_is) c.requires.made))))
    (λ only. only) c.close.ensures.calls)
    (wider_calls g.D.Disk _ _ IsOfLogs OnlyFileOrMemory c.rename.result
    (λ n at. elim at [
      | inl is ↦ inl (inl (is ∙ closed_name c.args.self.now
          (held_at c.args.self.now (c.self.invariant ∙ ap handle c.self.view_is) c.requires.made) c.in_ok-close.ensures.log))
      | inr is ↦ inr (is ∙ c.previous.ensures.value)
    ])
    (λ only. only) c.rename.ensures.calls))
