use Rattle.std.proofs.Common.{inr, refl, ap, ◌∙◌, arith}
use Rattle.file_trait.proofs.Moments.{none_done}
use Rattle.file_trait.proofs.Touched.{sync_touches}
use Rattle.disk_logs.specs.Logs.{file_of}
use Rattle.disk_logs.proofs.Handles.{is_open, stands_safe, syncs_moments, syncs_sound, syncs_stands}
use Rattle.disk_logs.specs.Errors.{OnlyFile}
use Rattle.disk_logs.proofs.Calls.{told_file, told_calls}
use Rattle.disk_logs.proofs.log.Log.sync.Goals as goal

pub returns-then-is_closed-clause-any_moment : goal.returns-then-is_closed-clause-any_moment
returns-then-is_closed-clause-any_moment g c items synced told stands =
    none_done _ _ _ refl (stands_safe _ c.args.self.now items synced stands).0

pub returns-then-is_closed-clause-sound : goal.returns-then-is_closed-clause-sound
returns-then-is_closed-clause-sound g c items synced told stands =
    none_done _ _ _ refl (stands_safe _ c.args.self.now items synced stands).1

pub returns-clause-stands : goal.returns-clause-stands
returns-clause-stands g c items synced told stands =
    syncs_stands _ c.args.self.now items synced _ _ _ (c.self.invariant ∙ ap file_of c.self.view_is) stands (c.sync.ensures.done told) _
    c.told.ensures
    (is_open c.args.self.now _ c.is_closed.ensures c.if-is_closed.false stands.published)

pub returns-clause-any_moment : goal.returns-clause-any_moment
returns-clause-any_moment g c items synced told stands =
    syncs_moments _ c.args.self.now items synced _ _ _ (c.self.invariant ∙ ap file_of c.self.view_is) stands (c.sync.ensures.done told)

pub returns-clause-sound : goal.returns-clause-sound
returns-clause-sound g c items synced told stands =
    syncs_sound _ c.args.self.now items synced _ _ _ (c.self.invariant ∙ ap file_of c.self.view_is) stands (c.sync.ensures.done told)

pub returns-clause-calls : goal.returns-clause-calls
returns-clause-calls g c =
    let file = c.self.invariant ∙ ap file_of c.self.view_is in
    told_calls g.D.Disk _ _ _ OnlyFile _ _ _ _ c.told.ensures file (inr (0, omega arith, refl))
    (λ told. sync_touches _ _ _ _ _ (c.sync.ensures.done told) file)
    c.sync.ensures.time (told_file _ _ c.sync.ensures.memory) c.sync.ensures.cause
