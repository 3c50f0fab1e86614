use Rattle.std.proofs.Common.{◌≡◌, inl, inr, length, ap, ◌∙◌, subst}
use Rattle.disk_logs.specs.Calls.{LogCalls}
use Rattle.disk_logs.specs.Errors.{OnlyFileOrMemory}
use Rattle.disk_logs.specs.Logs.{file_of}
use Rattle.store_files.specs.Writers.{dcl_handle}
use Rattle.store_files.proofs.Adding.{log_before, changing, changing_sound, changed_stands, closed_rests}
use Rattle.store_files.proofs.Replacing.{both_ok}
use Rattle.store_files.proofs.dcl_writer.DclWriter.finish.Goals as goal

pub returns-clause-stands : goal.returns-clause-stands
returns-clause-stands g c records items synced told h =
    let at = c.self.invariant ∙ ap dcl_handle c.self.view_is in
    let touches = c.close.ensures.calls.touches told in
    both_ok c.close.result
    (λ marked stands. changed_stands (g.D.Disk.past c.args.disk.now) _ c.args.self.now c.self.inside.log at records items synced h touches
    c.close.new.self items (length items) c.self.view_is (inr (_, marked)) stands) c.close.ensures.log
    (c.close.ensures.stands items synced told
    (log_before _ (g.D.Disk.past c.close.new.disk) c.args.self.now c.self.inside.log at records items synced h touches))

pub returns-clause-rests : goal.returns-clause-rests
returns-clause-rests g c records items synced told h =
    let at = c.self.invariant ∙ ap dcl_handle c.self.view_is in
    let touches = c.close.ensures.calls.touches told in
    both_ok c.close.result
    (λ marked stands. closed_rests (g.D.Disk.past c.args.disk.now) _ c.args.self.now c.self.inside.log at records items synced h touches
    c.close.new.self items marked stands) c.close.ensures.log
    (c.close.ensures.stands items synced told
    (log_before _ (g.D.Disk.past c.close.new.disk) c.args.self.now c.self.inside.log at records items synced h touches))

pub returns-clause-kept : goal.returns-clause-kept
returns-clause-kept g c records items synced told h wanted =
    let at = c.self.invariant ∙ ap dcl_handle c.self.view_is in
    let touches = c.close.ensures.calls.touches told in
    changed_stands (g.D.Disk.past c.args.disk.now) _ c.args.self.now c.self.inside.log at records items synced h touches
    c.close.new.self items synced c.self.view_is (inl (c.close.ensures.wanted wanted))
    (c.close.ensures.kept items synced told
    (log_before _ (g.D.Disk.past c.close.new.disk) c.args.self.now c.self.inside.log at records items synced h touches) wanted)

pub returns-clause-any_moment : goal.returns-clause-any_moment
returns-clause-any_moment g c records items synced told h =
    let at = c.self.invariant ∙ ap dcl_handle c.self.view_is in
    let touches = c.close.ensures.calls.touches told in
    changing _ _ c.args.self.now c.self.inside.log at records items synced h touches items
    (c.close.ensures.any_moment items synced told
    (log_before _ (g.D.Disk.past c.close.new.disk) c.args.self.now c.self.inside.log at records items synced h touches))

pub returns-clause-sound : goal.returns-clause-sound
returns-clause-sound g c records items synced told h =
    let at = c.self.invariant ∙ ap dcl_handle c.self.view_is in
    let touches = c.close.ensures.calls.touches told in
    changing_sound _ _ c.args.self.now c.self.inside.log at records items synced h touches
    (c.close.ensures.sound items synced told
    (log_before _ (g.D.Disk.past c.close.new.disk) c.args.self.now c.self.inside.log at records items synced h touches))

pub returns-clause-calls : goal.returns-clause-calls
returns-clause-calls g c =
    subst (λ m. LogCalls g.D.Disk c.args.disk.now c.close.new.disk (λ n. n ≡ m) OnlyFileOrMemory c.close.result)
    (ap file_of (c.self.invariant ∙ ap dcl_handle c.self.view_is)) c.close.ensures.calls
