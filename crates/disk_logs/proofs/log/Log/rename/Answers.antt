use Rattle.std.proofs.Common.{ap, ◌∙◌}
use Rattle.std.proofs.lemmas.Result.{err_from_is_err_and}
use Rattle.disk_logs.specs.Logs.{file_of}
use Rattle.disk_logs.proofs.Calls.{done_calls, passed_calls}
use Rattle.disk_logs.proofs.Handles.{at_name}
use Rattle.disk_logs.proofs.Renaming.{under_name, rename_moments, rename_reads, rename_sound, rename_ok, rename_moved, rename_calls}
use Rattle.disk_logs.proofs.log.Log.rename.Goals as goal

pub returns-in_err-told-clause-left : goal.returns-in_err-told-clause-left
returns-in_err-told-clause-left g c items told stands gone =
    rename_reads _ _ _ items c.requires.other stands gone _ _
    (under_name _ _ _ _ _ _ (at_name _ c.args.self.now (c.self.invariant ∙ ap file_of c.self.view_is) c.requires.published)
    (c.rename.ensures.done told))

pub returns-in_err-told-clause-any_moment : goal.returns-in_err-told-clause-any_moment
returns-in_err-told-clause-any_moment g c items told stands gone =
    rename_moments _ _ _ items c.requires.other stands gone _ _
    (under_name _ _ _ _ _ _ (at_name _ c.args.self.now (c.self.invariant ∙ ap file_of c.self.view_is) c.requires.published)
    (c.rename.ensures.done told))

pub returns-in_err-told-clause-sound : goal.returns-in_err-told-clause-sound
returns-in_err-told-clause-sound g c items told stands gone =
    rename_sound _ _ _ items c.requires.other stands gone _ _
    (under_name _ _ _ _ _ _ (at_name _ c.args.self.now (c.self.invariant ∙ ap file_of c.self.view_is) c.requires.published)
    (c.rename.ensures.done told))

pub returns-in_err-told-clause-calls : goal.returns-in_err-told-clause-calls
returns-in_err-told-clause-calls g c =
    let p = err_from_is_err_and c.from_residual.result c.from_residual.ensures.1 in
    passed_calls g.D.Disk _ _ _ _ _ _ _ p.1 p.2 c.in_err-told.was
    (rename_calls g.D.Disk _ _ _ _ _ _ _ (at_name _ c.args.self.now (c.self.invariant ∙ ap file_of c.self.view_is) c.requires.published)
    c.told.ensures c.rename.ensures.done c.rename.ensures.time c.rename.ensures.cause)

pub returns-clause-renamed : goal.returns-clause-renamed
returns-clause-renamed g c items told stands gone =
    rename_ok _ _ _ items c.requires.other stands gone _ _ _ _ _ c.told.ensures c.in_ok-told.was
    (under_name _ _ _ _ _ _ (at_name _ c.args.self.now (c.self.invariant ∙ ap file_of c.self.view_is) c.requires.published)
    (c.rename.ensures.done told))

pub returns-clause-left : goal.returns-clause-left
returns-clause-left g c items told stands gone =
    rename_reads _ _ _ items c.requires.other stands gone _ _
    (under_name _ _ _ _ _ _ (at_name _ c.args.self.now (c.self.invariant ∙ ap file_of c.self.view_is) c.requires.published)
    (c.rename.ensures.done told))

pub returns-clause-any_moment : goal.returns-clause-any_moment
returns-clause-any_moment g c items told stands gone =
    rename_moments _ _ _ items c.requires.other stands gone _ _
    (under_name _ _ _ _ _ _ (at_name _ c.args.self.now (c.self.invariant ∙ ap file_of c.self.view_is) c.requires.published)
    (c.rename.ensures.done told))

pub returns-clause-sound : goal.returns-clause-sound
returns-clause-sound g c items told stands gone =
    rename_sound _ _ _ items c.requires.other stands gone _ _
    (under_name _ _ _ _ _ _ (at_name _ c.args.self.now (c.self.invariant ∙ ap file_of c.self.view_is) c.requires.published)
    (c.rename.ensures.done told))

pub returns-clause-calls : goal.returns-clause-calls
returns-clause-calls g c =
    done_calls g.D.Disk _ _ _ _ _ _ _ c.in_ok-told.was
    (rename_calls g.D.Disk _ _ _ _ _ _ _ (at_name _ c.args.self.now (c.self.invariant ∙ ap file_of c.self.view_is) c.requires.published)
    c.told.ensures c.rename.ensures.done c.rename.ensures.time c.rename.ensures.cause)

pub returns-clause-moved : goal.returns-clause-moved
returns-clause-moved g c told =
    rename_moved _ _ _ _ _ _ _ _ c.requires.other c.told.ensures c.in_ok-told.was
    (under_name _ _ _ _ _ _ (at_name _ c.args.self.now (c.self.invariant ∙ ap file_of c.self.view_is) c.requires.published)
    (c.rename.ensures.done told))
