use Rattle.std.proofs.Common.{◌≡◌, inl, inr, sym, ap, ◌∙◌, subst}
use Rattle.std.proofs.lemmas.Result.{err_from_is_err_and, on_ok_weaker}
use Rattle.file_trait.specs.DiskModel.{Crashes}
use Rattle.file_trait.specs.Moments.{Moments}
use Rattle.file_trait.proofs.Images.{reads_image}
use Rattle.file_trait.proofs.Moments.{then_done, weaker, at_end}
use Rattle.disk_logs.specs.Errors.{OnlyFileOrMemory}
use Rattle.disk_logs.proofs.Calls.{then_calls, passed_calls, wider_calls}
use Rattle.store_files.specs.Names.{dcl_of}
use Rattle.store_files.specs.Pairs.{AreSound, OldOrNew, IsSwapped, IsOfTable}
use Rattle.store_files.specs.Writers.{DcdState}
use Rattle.store_files.proofs.Swapping.{as_published, still_log, swap_moments, swap_sound, swap_stands}
use Rattle.store_files.proofs.dcd_writer.DcdWriter.swap.Goals as goal

-- ---- it was not published

pub returns-in_err-publish-clause-any_moment : goal.returns-in_err-publish-clause-any_moment
returns-in_err-publish-clause-any_moment g c files items told h =
    weaker (Crashes (OldOrNew c.args.self.now.table files items)) (Crashes (IsSwapped c.args.self.now.table files items)) _ _
    (λ past now image w. inl (now image w)) (c.publish.ensures.any_moment files items told h)

pub returns-in_err-publish-clause-left : goal.returns-in_err-publish-clause-left
returns-in_err-publish-clause-left g c files items told h =
    at_end _ _ _ (returns-in_err-publish-clause-any_moment g c files items told h) _ (reads_image _)

pub returns-in_err-publish-clause-calls : goal.returns-in_err-publish-clause-calls
returns-in_err-publish-clause-calls g c =
    let p = err_from_is_err_and c.from_residual.result c.from_residual.ensures.1 in
    passed_calls g.D.Disk (IsOfTable c.args.self.now.table) _ _ c.publish.result _ _ _ p.1 p.2 c.in_err-publish.was
    (wider_calls g.D.Disk _ _ (IsOfTable c.args.self.now.table) OnlyFileOrMemory c.publish.result (λ n own. inl own) (λ only. only)
    c.publish.ensures.calls)

-- ---- it was, and the ops were to be taken away

pub returns-clause-log : goal.returns-clause-log
returns-clause-log g c told =
    on_ok_weaker c.discard.result
    (λ gone. still_log _ _ c.publish.new.self c.args.self.now.table _ c.in_ok-publish.ensures.ok
    (c.self.invariant.0 ∙ ap (λ (w : DcdState). dcl_of w.table) (c.self.view_is ∙ c.in_ok-publish.ensures.ok))
    (c.discard.ensures.calls.touches told) (c.in_ok-publish.ensures.log told)) (c.discard.ensures.gone told)

pub returns-clause-stands : goal.returns-clause-stands
returns-clause-stands g c files items told h =
    on_ok_weaker c.discard.result
    (swap_stands (g.D.Disk.past c.args.disk.now) _ _ c.args.self.now.table _ files items
    (c.self.invariant.0 ∙ ap (λ (w : DcdState). dcl_of w.table) (c.self.view_is ∙ c.in_ok-publish.ensures.ok))
    (as_published c.args.self.now.table c.in_ok-publish.ensures.ok (c.in_ok-publish.ensures.stands files items told h))
    (c.discard.ensures.calls.touches told)) (c.discard.ensures.gone told)

pub returns-clause-any_moment : goal.returns-clause-any_moment
returns-clause-any_moment g c files items told h =
    swap_moments (g.D.Disk.past c.args.disk.now) _ _ c.args.self.now.table _ files items
    (c.self.invariant.0 ∙ ap (λ (w : DcdState). dcl_of w.table) (c.self.view_is ∙ c.in_ok-publish.ensures.ok))
    (as_published c.args.self.now.table c.in_ok-publish.ensures.ok (c.in_ok-publish.ensures.stands files items told h))
    (c.publish.ensures.any_moment files items told h) (c.discard.ensures.images told)

pub returns-clause-left : goal.returns-clause-left
returns-clause-left g c files items told h =
    at_end _ _ _ (returns-clause-any_moment g c files items told h) _ (reads_image _)

pub returns-clause-sound : goal.returns-clause-sound
returns-clause-sound g c files items told h =
    swap_sound (g.D.Disk.past c.args.disk.now) _ _ c.args.self.now.table _ files items
    (c.self.invariant.0 ∙ ap (λ (w : DcdState). dcl_of w.table) (c.self.view_is ∙ c.in_ok-publish.ensures.ok))
    (as_published c.args.self.now.table c.in_ok-publish.ensures.ok (c.in_ok-publish.ensures.stands files items told h))
    (c.discard.ensures.calls.touches told) (c.publish.ensures.sound files items told h) (c.discard.ensures.sound told)

pub returns-clause-calls : goal.returns-clause-calls
returns-clause-calls g c =
    then_calls g.D.Disk (IsOfTable c.args.self.now.table) _ _ _ OnlyFileOrMemory OnlyFileOrMemory c.publish.result _ c.discard.result
    c.in_ok-publish.was
    (wider_calls g.D.Disk _ _ (IsOfTable c.args.self.now.table) OnlyFileOrMemory c.publish.result (λ n own. inl own) (λ only. only)
    c.publish.ensures.calls)
    (wider_calls g.D.Disk _ _ (IsOfTable c.args.self.now.table) OnlyFileOrMemory c.discard.result
    (λ n is. inr (inl (is
    ∙ (c.self.invariant.0 ∙ ap (λ (w : DcdState). dcl_of w.table) (c.self.view_is ∙ c.in_ok-publish.ensures.ok)))))
    (λ only. only) c.discard.ensures.calls)
