use Rattle.std.proofs.Common.{refl, sym, ap, ◌∙◌, subst}
use Rattle.std.proofs.lemmas.Result.{err_from_is_err_and}
use Rattle.file_trait.proofs.Moments.{none_done}
use Rattle.disk_logs.specs.Calls.{LogCalls}
use Rattle.disk_logs.specs.Errors.{OnlyFileOrMemory}
use Rattle.disk_logs.specs.Logs.{Handle}
use Rattle.disk_logs.proofs.Calls.{done_calls, passed_calls}
use Rattle.disk_logs.proofs.Publishing.{same_error}
use Rattle.store_files.specs.Names.{dcd_of}
use Rattle.store_files.specs.Pairs.{IsFileOf}
use Rattle.store_files.specs.Writers.{DcdState, dcd_handle, DcdStands}
use Rattle.store_files.proofs.Swapping.{writer_sound, published_moments, writer_untouched, draft_whole, draft_log, publishing, publishing_sound, publishing_done}
use Rattle.store_files.proofs.dcd_writer.DcdWriter.publish.Goals as goal

pub returns-then-self-clause-any_moment : goal.returns-then-self-clause-any_moment
returns-then-self-clause-any_moment g c files items told h =
    published_moments h (sym (ap (λ (w : DcdState). w.published) c.self.view_is) ∙ c.if-self.true)

pub returns-then-self-clause-sound : goal.returns-then-self-clause-sound
returns-then-self-clause-sound g c files items told h = none_done _ _ _ refl (writer_sound h)

-- ---- the draft was not published

pub returns-in_err-publish-clause-kept : goal.returns-in_err-publish-clause-kept
returns-in_err-publish-clause-kept g c files items told h wanted =
    let p = err_from_is_err_and c.from_residual.result c.from_residual.ensures.1 in
    subst (λ w. DcdStands (g.D.Disk.past c.publish.new.disk) w files items) (sym c.self.view_is)
    (writer_untouched (c.publish.ensures.wanted told (same_error _ _ _ _ _ p.1 p.2 c.in_err-publish.was wanted)) h)

pub returns-in_err-publish-clause-any_moment : goal.returns-in_err-publish-clause-any_moment
returns-in_err-publish-clause-any_moment g c files items told h =
    let at = c.self.invariant.1 ∙ ap dcd_handle c.self.view_is in
    let unpublished = sym (ap (λ (w : DcdState). w.published) c.self.view_is) ∙ c.if-self.false in
    publishing at unpublished h (c.publish.ensures.calls.touches told)
    (c.publish.ensures.images _ told (draft_whole at unpublished h))

pub returns-in_err-publish-clause-sound : goal.returns-in_err-publish-clause-sound
returns-in_err-publish-clause-sound g c files items told h =
    let at = c.self.invariant.1 ∙ ap dcd_handle c.self.view_is in
    let unpublished = sym (ap (λ (w : DcdState). w.published) c.self.view_is) ∙ c.if-self.false in
    publishing_sound at unpublished h (c.publish.ensures.calls.touches told)
    (c.publish.ensures.sound items told h.fit (draft_log at unpublished h))

pub returns-in_err-publish-clause-calls : goal.returns-in_err-publish-clause-calls
returns-in_err-publish-clause-calls g c =
    let at = c.self.invariant.1 ∙ ap dcd_handle c.self.view_is in
    let p = err_from_is_err_and c.from_residual.result c.from_residual.ensures.1 in
    passed_calls g.D.Disk (IsFileOf (dcd_of c.args.self.now.table)) _ _ c.publish.result _ _ _ p.1 p.2 c.in_err-publish.was
    (subst (λ m. LogCalls g.D.Disk c.args.disk.now c.publish.new.disk (IsFileOf m) OnlyFileOrMemory c.publish.result)
    (ap (λ (l : Handle). l.name) at) c.publish.ensures.calls)

-- ---- it was

pub returns-clause-stands : goal.returns-clause-stands
returns-clause-stands g c files items told h =
    let at = c.self.invariant.1 ∙ ap dcd_handle c.self.view_is in
    let unpublished = sym (ap (λ (w : DcdState). w.published) c.self.view_is) ∙ c.if-self.false in
    publishing_done at unpublished h (c.publish.ensures.calls.touches told) c.publish.new.self _ c.in_ok-publish.ensures.log
    (ap (λ (w : DcdState). w.table) c.self.view_is) refl (c.in_ok-publish.ensures.stands items told h.fit (draft_log at unpublished h))

pub returns-clause-any_moment : goal.returns-clause-any_moment
returns-clause-any_moment g c files items told h =
    let at = c.self.invariant.1 ∙ ap dcd_handle c.self.view_is in
    let unpublished = sym (ap (λ (w : DcdState). w.published) c.self.view_is) ∙ c.if-self.false in
    publishing at unpublished h (c.publish.ensures.calls.touches told)
    (c.publish.ensures.images _ told (draft_whole at unpublished h))

pub returns-clause-sound : goal.returns-clause-sound
returns-clause-sound g c files items told h =
    let at = c.self.invariant.1 ∙ ap dcd_handle c.self.view_is in
    let unpublished = sym (ap (λ (w : DcdState). w.published) c.self.view_is) ∙ c.if-self.false in
    publishing_sound at unpublished h (c.publish.ensures.calls.touches told)
    (c.publish.ensures.sound items told h.fit (draft_log at unpublished h))

pub returns-clause-calls : goal.returns-clause-calls
returns-clause-calls g c =
    let at = c.self.invariant.1 ∙ ap dcd_handle c.self.view_is in
    done_calls g.D.Disk (IsFileOf (dcd_of c.args.self.now.table)) _ _ _ c.publish.result _ _ c.in_ok-publish.was
    (subst (λ m. LogCalls g.D.Disk c.args.disk.now c.publish.new.disk (IsFileOf m) OnlyFileOrMemory c.publish.result)
    (ap (λ (l : Handle). l.name) at) c.publish.ensures.calls)
