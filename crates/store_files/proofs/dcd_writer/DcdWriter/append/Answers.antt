use Rattle.std.proofs.Common.{◌≡◌, sym, ap, ◌∙◌, subst}
use Rattle.std.proofs.lemmas.Result.{on_ok_weaker}
use Rattle.disk_logs.specs.Calls.{LogCalls}
use Rattle.disk_logs.specs.Errors.{OnlyFileOrMemory}
use Rattle.disk_logs.specs.Logs.{IsLog}
use Rattle.file_trait.specs.Touched.{Touches}
use Rattle.store_files.specs.Names.{dcd_of}
use Rattle.store_files.specs.Writers.{dcd_handle}
use Rattle.store_files.proofs.Drafting.{drafting_beside, is_draft, its_draft, draft_appended, appended_stands}
use Rattle.store_files.proofs.Swapping.{draft_log}
use Rattle.store_files.proofs.dcd_writer.DcdWriter.append.Goals as goal

pub returns-clause-log : goal.returns-clause-log
returns-clause-log g c told =
    on_ok_weaker c.append.result
    (subst (λ w. IsLog (g.D.Disk.past c.append.new.disk) (dcd_handle w)) (sym c.self.view_is))
    (draft_appended c.args.self.now (c.self.invariant.1 ∙ ap dcd_handle c.self.view_is) c.requires.draft c.append.result
    (g.D.Disk.past c.args.disk.now) (g.D.Disk.past c.append.new.disk) c.args.items.now
    c.append.new.self c.requires.items (c.requires.log told) c.append.ensures.log (λ all more. c.append.ensures.appended all more told))

pub returns-clause-stands : goal.returns-clause-stands
returns-clause-stands g c files all more told fit is h =
    let at = c.self.invariant.1 ∙ ap dcd_handle c.self.view_is in
    on_ok_weaker c.append.result
    (appended_stands c.args.self.now at c.requires.draft _ _ files all more _ c.self.view_is fit (c.append.ensures.calls.touches told) h)
    (c.append.ensures.drafted all more told (is_draft c.args.self.now at c.requires.draft) is (draft_log at c.requires.draft h))

pub returns-clause-beside : goal.returns-clause-beside
returns-clause-beside g c files told =
    let at = c.self.invariant.1 ∙ ap dcd_handle c.self.view_is in
    drafting_beside _ _ c.args.self.now.table (dcd_of c.args.self.now.table) files
    (subst (λ m. Touches (λ n. n ≡ m) (g.D.Disk.past c.args.disk.now) (g.D.Disk.past c.append.new.disk))
    (its_draft c.args.self.now at c.requires.draft)
    (c.append.ensures.calls.touches told))

pub returns-clause-calls : goal.returns-clause-calls
returns-clause-calls g c =
    subst (λ m. LogCalls g.D.Disk c.args.disk.now c.append.new.disk (λ n. n ≡ m) OnlyFileOrMemory c.append.result)
    (its_draft c.args.self.now (c.self.invariant.1 ∙ ap dcd_handle c.self.view_is) c.requires.draft) c.append.ensures.calls
