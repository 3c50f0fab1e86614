use Rattle.std.proofs.Common.{inl, inr, sym, ◌∙◌, subst}
use Rattle.std.proofs.lemmas.Result.{err_from_is_err_and, on_ok_weaker}
use Rattle.file_trait.proofs.Images.{reads_image}
use Rattle.file_trait.proofs.Moments.{at_end}
use Rattle.disk_logs.specs.Errors.{OnlyFileOrMemory}
use Rattle.disk_logs.proofs.Calls.{then_calls, passed_calls, wider_calls}
use Rattle.store_files.specs.Pairs.{changes_alone, FilesStand, IsOfTable}
use Rattle.store_files.proofs.Taking.{first_moments, first_sound, first_alone, last_none, last_moments, last_sound}
use Rattle.store_files.proofs.removal.remove_table.Goals as goal

-- ---- the records were not taken away

pub returns-in_err-discard-clause-any_moment : goal.returns-in_err-discard-clause-any_moment
returns-in_err-discard-clause-any_moment g c files told h =
    first_moments _ _ c.args.table.now c.dcd_name.result c.dcd_name.ensures.value (c.discard.ensures.calls.touches told) files h
    (c.discard.ensures.images told)

pub returns-in_err-discard-clause-left : goal.returns-in_err-discard-clause-left
returns-in_err-discard-clause-left g c files told h =
    at_end _ _ _ (returns-in_err-discard-clause-any_moment g c files told h) _ (reads_image _)

pub returns-in_err-discard-clause-sound : goal.returns-in_err-discard-clause-sound
returns-in_err-discard-clause-sound g c told sound =
    first_sound _ _ c.args.table.now c.dcd_name.result c.dcd_name.ensures.value (c.discard.ensures.calls.touches told) sound
    (c.discard.ensures.sound told)

pub returns-in_err-discard-clause-calls : goal.returns-in_err-discard-clause-calls
returns-in_err-discard-clause-calls g c =
    let p = err_from_is_err_and c.from_residual.result c.from_residual.ensures.1 in
    passed_calls g.D.Disk (IsOfTable c.args.table.now) _ _ c.discard.result _ _ _ p.1 p.2 c.in_err-discard.was
    (wider_calls g.D.Disk _ _ (IsOfTable c.args.table.now) OnlyFileOrMemory c.discard.result
    (λ n is. inl (inl (is ∙ c.dcd_name.ensures.value))) (λ only. only) c.discard.ensures.calls)

-- ---- they were, and the ops were to be

pub returns-clause-stands : goal.returns-clause-stands
returns-clause-stands g c told =
    on_ok_weaker c.discard-2.result
    (last_none (g.D.Disk.past c.args.disk.now) _ c.args.table.now c.dcd_name.result c.dcd_name.ensures.value
    (c.discard.ensures.calls.touches told)
    (c.in_ok-discard.ensures.gone told) _ c.dcl_name.result c.dcl_name.ensures.value (c.discard-2.ensures.calls.touches told))
    (c.discard-2.ensures.gone told)

pub returns-clause-kept : goal.returns-clause-kept
returns-clause-kept g c files told h wanted =
    inr (subst (λ past. FilesStand past c.args.table.now (changes_alone files)) (sym (c.discard-2.ensures.wanted told wanted))
    (first_alone _ _ c.args.table.now c.dcd_name.result c.dcd_name.ensures.value (c.discard.ensures.calls.touches told)
    (c.in_ok-discard.ensures.gone told) files h))

pub returns-clause-any_moment : goal.returns-clause-any_moment
returns-clause-any_moment g c files told h =
    last_moments _ _ c.args.table.now c.dcd_name.result c.dcd_name.ensures.value (c.discard.ensures.calls.touches told)
    (c.in_ok-discard.ensures.gone told) _ c.dcl_name.result c.dcl_name.ensures.value (c.discard-2.ensures.calls.touches told) files h
    (c.discard.ensures.images told) (c.discard-2.ensures.images told)

pub returns-clause-left : goal.returns-clause-left
returns-clause-left g c files told h = at_end _ _ _ (returns-clause-any_moment g c files told h) _ (reads_image _)

pub returns-clause-sound : goal.returns-clause-sound
returns-clause-sound g c told sound =
    last_sound _ _ c.args.table.now c.dcd_name.result c.dcd_name.ensures.value (c.discard.ensures.calls.touches told)
    (c.in_ok-discard.ensures.gone told) _ c.dcl_name.result c.dcl_name.ensures.value (c.discard-2.ensures.calls.touches told) sound
    (c.discard.ensures.sound told) (c.discard-2.ensures.sound told)

pub returns-clause-calls : goal.returns-clause-calls
returns-clause-calls g c =
    then_calls g.D.Disk (IsOfTable c.args.table.now) _ _ _ OnlyFileOrMemory OnlyFileOrMemory c.discard.result _ c.discard-2.result
    c.in_ok-discard.was
    (wider_calls g.D.Disk _ _ (IsOfTable c.args.table.now) OnlyFileOrMemory c.discard.result
    (λ n is. inl (inl (is ∙ c.dcd_name.ensures.value))) (λ only. only) c.discard.ensures.calls)
    (wider_calls g.D.Disk _ _ (IsOfTable c.args.table.now) OnlyFileOrMemory c.discard-2.result
    (λ n is. inr (inl (is ∙ c.dcl_name.ensures.value))) (λ only. only) c.discard-2.ensures.calls)
