use Rattle.std.proofs.Common.{◌≡◌, [], inl, refl}
use Rattle.file_trait.proofs.Touched.{sync_dir_touches}
use Rattle.disk_logs.specs.Errors.{OnlyFileOrMemory}
use Rattle.disk_logs.proofs.Calls.{told_some, told_calls, then_calls}
use Rattle.disk_logs.proofs.Removing.{clear_moments, discard_moments, clear_sound, discard_sound}
use Rattle.disk_logs.proofs.removal.discard.Goals as goal

pub returns-in_err-clear-clause-images : goal.returns-in_err-clear-clause-images
returns-in_err-clear-clause-images g c told = clear_moments _ _ _ _ (c.clear.ensures.cleared told)

pub returns-clause-images : goal.returns-clause-images
returns-clause-images g c told = discard_moments _ _ _ c.in_ok-clear.field-0 (c.in_ok-clear.ensures.cleared told) _ _
    (c.sync_dir.ensures.done told)

pub returns-clause-calls : goal.returns-clause-calls
returns-clause-calls g c =
    let clear = c.clear.ensures in
    then_calls g.D.Disk (λ n. n ≡ c.args.name) _ _ _ OnlyFileOrMemory OnlyFileOrMemory c.clear.result _ c.told.result c.in_ok-clear.was
    (record { touches = clear.touches; time = clear.time; named = clear.named; only = clear.only; cause = clear.cause })
    (told_calls g.D.Disk (λ n. n ≡ c.args.name) _ _ OnlyFileOrMemory [] _ _ _ c.told.ensures refl (inl refl)
    (λ told. sync_dir_touches _ _ _ _ (c.sync_dir.ensures.done told)) c.sync_dir.ensures.time (told_some _ _) c.sync_dir.ensures.cause)

pub returns-in_err-clear-clause-sound : goal.returns-in_err-clear-clause-sound
returns-in_err-clear-clause-sound g c told sound = clear_sound _ _ sound _ _ (c.clear.ensures.cleared told)

pub returns-clause-sound : goal.returns-clause-sound
returns-clause-sound g c told sound =
    discard_sound _ _ sound _ c.in_ok-clear.field-0 (c.in_ok-clear.ensures.cleared told) _ _ (c.sync_dir.ensures.done told)
