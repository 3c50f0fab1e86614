use Rattle.std.proofs.Common.{◌≡◌, [], ◌∷◌, true, false, refl, sym, ap, ◌∙◌, subst}
use Rattle.std.proofs.lemmas.Result.{err_from_is_err_and}
use Rattle.file_trait.specs.DiskModel.{reads}
use Rattle.log_items.specs.Items.{log_bytes, IsContent}
use Rattle.disk_logs.specs.Crash.{DraftStands}
use Rattle.disk_logs.specs.Errors.{OnlyFileOrMemory}
use Rattle.disk_logs.specs.Logs.{draft_name}
use Rattle.disk_logs.proofs.Calls.{done_calls, passed_calls, wider_calls}
use Rattle.store_files.specs.Names.{dcd_of}
use Rattle.store_files.specs.Writers.{DcdState}
use Rattle.store_files.proofs.Drafting.{before_ending, drafting_beside, started}
use Rattle.store_files.proofs.Swapping.{same_state}
use Rattle.store_files.proofs.dcd_writer.DcdWriter.start.Goals as goal

pub returns-in_err-log-clause-beside : goal.returns-in_err-log-clause-beside
returns-in_err-log-clause-beside g c files told =
    drafting_beside _ _ c.args.def.now.name c.dcd_name-name.result files (c.draft.ensures.calls.touches told)

pub returns-in_err-log-clause-calls : goal.returns-in_err-log-clause-calls
returns-in_err-log-clause-calls g c =
    let p = err_from_is_err_and c.from_residual-in_err-log.result c.from_residual-in_err-log.ensures.1 in
    passed_calls g.D.Disk (λ n. n ≡ draft_name (dcd_of c.args.def.now.name)) _ _ c.draft.result _ _ _ p.1 p.2 c.in_err-log.was
    (wider_calls g.D.Disk _ _ (λ n. n ≡ draft_name (dcd_of c.args.def.now.name)) OnlyFileOrMemory c.draft.result
    (λ n is. is ∙ ap draft_name c.dcd_name-name.ensures.value)
    (λ only. only (subst IsContent (sym c.deref.ensures.value) c.in_ok-head.ensures.fits)) c.draft.ensures.calls)

pub returns-clause-log : goal.returns-clause-log
returns-clause-log g c told = (
  c.deref.result.now ∷ [],
  ap (λ n. reads (g.D.Disk.past c.draft.new.disk) (draft_name n))
      (ap dcd_of (before_ending c.dcl_name-dcl.result c.args.def.now.name c.dcl_name-dcl.ensures.value)
      ∙ sym c.dcd_name-name.ensures.value)
      ∙ c.in_ok-log.ensures.reads told,
)

pub returns-clause-stands : goal.returns-clause-stands
returns-clause-stands g c files told h = (
  c.in_ok-head.head.items,
  c.in_ok-head.ensures.head,
  started _ _ c.args.def.now.name c.dcd_name-name.result c.in_ok-head.head.items files _
      (same_state _ _ (before_ending c.dcl_name-dcl.result c.args.def.now.name c.dcl_name-dcl.ensures.value) refl)
      c.dcd_name-name.ensures.value c.in_ok-head.ensures.fits (c.draft.ensures.calls.touches told) h
      (subst (λ head. DraftStands (g.D.Disk.past c.draft.new.disk) (draft_name c.dcd_name-name.result) (log_bytes true (head ∷ [])))
      c.deref.ensures.value (c.in_ok-log.ensures.made told)),
)

pub returns-clause-beside : goal.returns-clause-beside
returns-clause-beside g c files told =
    drafting_beside _ _ c.args.def.now.name c.dcd_name-name.result files (c.draft.ensures.calls.touches told)

pub returns-clause-calls : goal.returns-clause-calls
returns-clause-calls g c =
    done_calls g.D.Disk (λ n. n ≡ draft_name (dcd_of c.args.def.now.name)) _ _ OnlyFileOrMemory c.draft.result _ _ c.in_ok-log.was
    (wider_calls g.D.Disk _ _ (λ n. n ≡ draft_name (dcd_of c.args.def.now.name)) OnlyFileOrMemory c.draft.result
    (λ n is. is ∙ ap draft_name c.dcd_name-name.ensures.value)
    (λ only. only (subst IsContent (sym c.deref.ensures.value) c.in_ok-head.ensures.fits)) c.draft.ensures.calls)
