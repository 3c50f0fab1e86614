use Rattle.std.proofs.Common.{◌≡◌, ◌++◌, inr, ap, ◌∙◌, subst}
use Rattle.std.proofs.lemmas.Result.{IfErr-at_err}
use Rattle.disk_logs.specs.Calls.{LogCalls}
use Rattle.disk_logs.specs.Errors.{OnlyFileOrMemory}
use Rattle.disk_logs.specs.Logs.{file_of}
use Rattle.store_files.specs.Writers.{dcl_handle}
use Rattle.store_files.proofs.Adding.{log_before, changing, changing_sound, changed_stands, added_log, wanted_log, either_mark}
use Rattle.store_files.proofs.Replacing.{both_ok}
use Rattle.store_files.proofs.dcl_writer.DclWriter.append.Goals as goal

pub returns-clause-log : goal.returns-clause-log
returns-clause-log g c told =
    added_log (g.D.Disk.past c.args.disk.now) (g.D.Disk.past c.append.new.disk) c.args.self.now c.self.inside.log
    c.append.new.self c.args.items.now
    (c.self.invariant ∙ ap dcl_handle c.self.view_is) c.self.view_is (c.requires.log told) c.requires.items c.append.result
    c.append.ensures.log (λ all more. c.append.ensures.appended all more told)

pub returns-clause-wanted : goal.returns-clause-wanted
returns-clause-wanted g c told wanted =
    wanted_log (g.D.Disk.past c.args.disk.now) (g.D.Disk.past c.append.new.disk) c.args.self.now c.self.inside.log
    c.append.new.self c.args.items.now
    (c.self.invariant ∙ ap dcl_handle c.self.view_is) c.self.view_is (c.requires.log told) c.requires.items c.append.result
    wanted (IfErr-at_err _ wanted c.append.ensures.err) (λ all more. c.append.ensures.appended all more told)

pub returns-clause-stands : goal.returns-clause-stands
returns-clause-stands g c records all more synced told fit is h =
    let at = c.self.invariant ∙ ap dcl_handle c.self.view_is in
    let touches = c.append.ensures.calls.touches told in
    both_ok c.append.result
    (λ marked stands. changed_stands (g.D.Disk.past c.args.disk.now) _ c.args.self.now c.self.inside.log at records all synced h touches
    c.append.new.self (all ++ more) synced c.self.view_is (inr (_, marked)) stands) c.append.ensures.log
    (c.append.ensures.stands all more synced told fit is
    (log_before _ (g.D.Disk.past c.append.new.disk) c.args.self.now c.self.inside.log at records all synced h touches))

pub returns-clause-kept : goal.returns-clause-kept
returns-clause-kept g c records all synced told h wanted =
    let at = c.self.invariant ∙ ap dcl_handle c.self.view_is in
    let touches = c.append.ensures.calls.touches told in
    changed_stands (g.D.Disk.past c.args.disk.now) _ c.args.self.now c.self.inside.log at records all synced h touches
    c.append.new.self all synced c.self.view_is
    (either_mark c.self.inside.log c.append.new.self (IfErr-at_err _ wanted c.append.ensures.err))
    (c.append.ensures.kept all synced told
    (log_before _ (g.D.Disk.past c.append.new.disk) c.args.self.now c.self.inside.log at records all synced h touches) wanted)

pub returns-clause-any_moment : goal.returns-clause-any_moment
returns-clause-any_moment g c records all more synced told fit is h =
    let at = c.self.invariant ∙ ap dcl_handle c.self.view_is in
    let touches = c.append.ensures.calls.touches told in
    changing _ _ c.args.self.now c.self.inside.log at records all synced h touches (all ++ more)
    (c.append.ensures.any_moment all more synced told fit is
    (log_before _ (g.D.Disk.past c.append.new.disk) c.args.self.now c.self.inside.log at records all synced h touches))

pub returns-clause-only_old : goal.returns-clause-only_old
returns-clause-only_old g c records all synced told h wanted =
    let at = c.self.invariant ∙ ap dcl_handle c.self.view_is in
    let touches = c.append.ensures.calls.touches told in
    changing _ _ c.args.self.now c.self.inside.log at records all synced h touches all
    (c.append.ensures.only_old all synced told
    (log_before _ (g.D.Disk.past c.append.new.disk) c.args.self.now c.self.inside.log at records all synced h touches) wanted)

pub returns-clause-sound : goal.returns-clause-sound
returns-clause-sound g c records all synced told h =
    let at = c.self.invariant ∙ ap dcl_handle c.self.view_is in
    let touches = c.append.ensures.calls.touches told in
    changing_sound _ _ c.args.self.now c.self.inside.log at records all synced h touches
    (c.append.ensures.sound all synced told
    (log_before _ (g.D.Disk.past c.append.new.disk) c.args.self.now c.self.inside.log at records all synced h touches))

pub returns-clause-calls : goal.returns-clause-calls
returns-clause-calls g c =
    subst (λ m. LogCalls g.D.Disk c.args.disk.now c.append.new.disk (λ n. n ≡ m) OnlyFileOrMemory c.append.result)
    (ap file_of (c.self.invariant ∙ ap dcl_handle c.self.view_is)) c.append.ensures.calls
