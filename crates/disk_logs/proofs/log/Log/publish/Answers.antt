use Rattle.std.proofs.Common.{refl, sym, ◌∙◌, ap}
use Rattle.std.proofs.lemmas.Result.{err_from_is_err_and}
use Rattle.log_items.specs.Items.{log_bytes}
use Rattle.disk_logs.specs.Logs.{Handle, draft_name, file_of}
use Rattle.disk_logs.proofs.Appends.{published, draft_apart, file_of_draft}
use Rattle.disk_logs.proofs.Effects.{synced_kept}
use Rattle.disk_logs.proofs.Publishing.{first_step, second_step, third_step, last_step, name_step, images_step, sound_step, same_error, wanted_touches, whole_stands, whole_durable, dir_durable}
use Rattle.disk_logs.proofs.Calls.{first_calls, second_calls, third_calls, done_calls, passed_calls}
use Rattle.disk_logs.proofs.log.Log.publish.Goals as goal

pub returns-in_err-told-clause-any_moment : goal.returns-in_err-told-clause-any_moment
returns-in_err-told-clause-any_moment g c whole told here =
    name_step _ _ whole _ here _
    (first_step _ _ (draft_name c.args.self.now.name) _ _ _ _ (c.self.invariant ∙ ap file_of c.self.view_is ∙ file_of_draft c.args.self.now c.requires.draft)
    (ap (λ (h : Handle). h.name) c.self.view_is) (c.sync.ensures.done told))

pub returns-in_err-told-clause-sound : goal.returns-in_err-told-clause-sound
returns-in_err-told-clause-sound g c items told fit here sound =
    sound_step _ _ _ items _ _ (draft_apart c.args.self.now.name) fit here sound
    (first_step _ _ (draft_name c.args.self.now.name) _ _ _ _ (c.self.invariant ∙ ap file_of c.self.view_is ∙ file_of_draft c.args.self.now c.requires.draft)
    (ap (λ (h : Handle). h.name) c.self.view_is) (c.sync.ensures.done told))

pub returns-in_err-told-clause-images : goal.returns-in_err-told-clause-images
returns-in_err-told-clause-images g c whole told here =
    images_step _ _ whole _ here _
    (first_step _ _ (draft_name c.args.self.now.name) _ _ _ _ (c.self.invariant ∙ ap file_of c.self.view_is ∙ file_of_draft c.args.self.now c.requires.draft)
    (ap (λ (h : Handle). h.name) c.self.view_is) (c.sync.ensures.done told))

pub returns-in_err-told-2-clause-wanted : goal.returns-in_err-told-2-clause-wanted
returns-in_err-told-2-clause-wanted g c told wanted =
    let p = err_from_is_err_and c.from_residual-in_err-told-2.result c.from_residual-in_err-told-2.ensures.1 in
    wanted_touches _ _ _ _ _ _ _ _ _ _ c.told.ensures c.in_ok-told.was (c.sync.ensures.done told) c.told-2.ensures (same_error _ _ _ _ _ p.1 p.2 c.in_err-told-2.was wanted)
    (c.rename.ensures.done told)

pub returns-in_err-told-2-clause-any_moment : goal.returns-in_err-told-2-clause-any_moment
returns-in_err-told-2-clause-any_moment g c whole told here =
    name_step _ _ whole _ here _
    (second_step _ _ (draft_name c.args.self.now.name) _ _ _ _ (c.self.invariant ∙ ap file_of c.self.view_is ∙ file_of_draft c.args.self.now c.requires.draft)
    (ap (λ (h : Handle). h.name) c.self.view_is) (c.sync.ensures.done told) _ _ c.told.ensures c.in_ok-told.was _ _ (c.rename.ensures.done told))

pub returns-in_err-told-2-clause-sound : goal.returns-in_err-told-2-clause-sound
returns-in_err-told-2-clause-sound g c items told fit here sound =
    sound_step _ _ _ items _ _ (draft_apart c.args.self.now.name) fit here sound
    (second_step _ _ (draft_name c.args.self.now.name) _ _ _ _ (c.self.invariant ∙ ap file_of c.self.view_is ∙ file_of_draft c.args.self.now c.requires.draft)
    (ap (λ (h : Handle). h.name) c.self.view_is) (c.sync.ensures.done told) _ _ c.told.ensures c.in_ok-told.was _ _ (c.rename.ensures.done told))

pub returns-in_err-told-2-clause-images : goal.returns-in_err-told-2-clause-images
returns-in_err-told-2-clause-images g c whole told here =
    images_step _ _ whole _ here _
    (second_step _ _ (draft_name c.args.self.now.name) _ _ _ _ (c.self.invariant ∙ ap file_of c.self.view_is ∙ file_of_draft c.args.self.now c.requires.draft)
    (ap (λ (h : Handle). h.name) c.self.view_is) (c.sync.ensures.done told) _ _ c.told.ensures c.in_ok-told.was _ _ (c.rename.ensures.done told))

pub returns-in_err-told-3-clause-any_moment : goal.returns-in_err-told-3-clause-any_moment
returns-in_err-told-3-clause-any_moment g c whole told here =
    name_step _ _ whole _ here _
    (third_step _ _ (draft_name c.args.self.now.name) _ _ _ _ (c.self.invariant ∙ ap file_of c.self.view_is ∙ file_of_draft c.args.self.now c.requires.draft)
    (ap (λ (h : Handle). h.name) c.self.view_is) (c.sync.ensures.done told) _ _ c.told.ensures c.in_ok-told.was _ _ (c.rename.ensures.done told)
    _ _ c.told-2.ensures c.in_ok-told-2.was _ _ (c.sync_dir.ensures.done told))

pub returns-in_err-told-3-clause-sound : goal.returns-in_err-told-3-clause-sound
returns-in_err-told-3-clause-sound g c items told fit here sound =
    sound_step _ _ _ items _ _ (draft_apart c.args.self.now.name) fit here sound
    (third_step _ _ (draft_name c.args.self.now.name) _ _ _ _ (c.self.invariant ∙ ap file_of c.self.view_is ∙ file_of_draft c.args.self.now c.requires.draft)
    (ap (λ (h : Handle). h.name) c.self.view_is) (c.sync.ensures.done told) _ _ c.told.ensures c.in_ok-told.was _ _ (c.rename.ensures.done told)
    _ _ c.told-2.ensures c.in_ok-told-2.was _ _ (c.sync_dir.ensures.done told))

pub returns-in_err-told-3-clause-images : goal.returns-in_err-told-3-clause-images
returns-in_err-told-3-clause-images g c whole told here =
    images_step _ _ whole _ here _
    (third_step _ _ (draft_name c.args.self.now.name) _ _ _ _ (c.self.invariant ∙ ap file_of c.self.view_is ∙ file_of_draft c.args.self.now c.requires.draft)
    (ap (λ (h : Handle). h.name) c.self.view_is) (c.sync.ensures.done told) _ _ c.told.ensures c.in_ok-told.was _ _ (c.rename.ensures.done told)
    _ _ c.told-2.ensures c.in_ok-told-2.was _ _ (c.sync_dir.ensures.done told))

pub returns-clause-any_moment : goal.returns-clause-any_moment
returns-clause-any_moment g c whole told here =
    name_step _ _ whole _ here _
    (third_step _ _ (draft_name c.args.self.now.name) _ _ _ _ (c.self.invariant ∙ ap file_of c.self.view_is ∙ file_of_draft c.args.self.now c.requires.draft)
    (ap (λ (h : Handle). h.name) c.self.view_is) (c.sync.ensures.done told) _ _ c.told.ensures c.in_ok-told.was _ _ (c.rename.ensures.done told)
    _ _ c.told-2.ensures c.in_ok-told-2.was _ _ (c.sync_dir.ensures.done told))

pub returns-clause-sound : goal.returns-clause-sound
returns-clause-sound g c items told fit here sound =
    sound_step _ _ _ items _ _ (draft_apart c.args.self.now.name) fit here sound
    (third_step _ _ (draft_name c.args.self.now.name) _ _ _ _ (c.self.invariant ∙ ap file_of c.self.view_is ∙ file_of_draft c.args.self.now c.requires.draft)
    (ap (λ (h : Handle). h.name) c.self.view_is) (c.sync.ensures.done told) _ _ c.told.ensures c.in_ok-told.was _ _ (c.rename.ensures.done told)
    _ _ c.told-2.ensures c.in_ok-told-2.was _ _ (c.sync_dir.ensures.done told))

pub returns-clause-images : goal.returns-clause-images
returns-clause-images g c whole told here =
    images_step _ _ whole _ here _
    (third_step _ _ (draft_name c.args.self.now.name) _ _ _ _ (c.self.invariant ∙ ap file_of c.self.view_is ∙ file_of_draft c.args.self.now c.requires.draft)
    (ap (λ (h : Handle). h.name) c.self.view_is) (c.sync.ensures.done told) _ _ c.told.ensures c.in_ok-told.was _ _ (c.rename.ensures.done told)
    _ _ c.told-2.ensures c.in_ok-told-2.was _ _ (c.sync_dir.ensures.done told))

pub returns-clause-moved : goal.returns-clause-moved
returns-clause-moved g c told =
    published _ _ _ _ _ _ _ _ (g.D.Disk.past c.args.disk.now) (g.D.Disk.past c.sync.new.self) _ _ (draft_apart c.args.self.now.name)
    (c.self.invariant ∙ ap file_of c.self.view_is ∙ file_of_draft c.args.self.now c.requires.draft)
    (ap (λ (h : Handle). h.name) c.self.view_is) (λ other. synced_kept _ _ _ _ other (c.sync.ensures.done told)) c.told-2.ensures c.in_ok-told-2.was (c.rename.ensures.done told)
    (c.sync_dir.ensures.done told)

pub returns-clause-stands : goal.returns-clause-stands
returns-clause-stands g c items told fit here =
    whole_stands _ _ (log_bytes c.args.self.now.closed items) _ _
    (last_step _ _ (draft_name c.args.self.now.name) _ _ _ _ (c.self.invariant ∙ ap file_of c.self.view_is ∙ file_of_draft c.args.self.now c.requires.draft)
    refl (c.sync.ensures.done told) _ _ c.told.ensures c.in_ok-told.was _ _ (c.rename.ensures.done told)
    _ _ c.told-2.ensures c.in_ok-told-2.was _ _ (c.sync_dir.ensures.done told) _ _ c.told-3.ensures c.in_ok-told-3.was)
    here _ items fit (ap (λ (h : Handle). log_bytes h.closed items) (sym c.self.view_is))

pub returns-clause-durable : goal.returns-clause-durable
returns-clause-durable g c whole told here =
    whole_durable _ _ whole _ _
    (last_step _ _ (draft_name c.args.self.now.name) _ _ _ _ (c.self.invariant ∙ ap file_of c.self.view_is ∙ file_of_draft c.args.self.now c.requires.draft)
    (ap (λ (h : Handle). h.name) c.self.view_is) (c.sync.ensures.done told) _ _ c.told.ensures c.in_ok-told.was _ _ (c.rename.ensures.done told)
    _ _ c.told-2.ensures c.in_ok-told-2.was _ _ (c.sync_dir.ensures.done told) _ _ c.told-3.ensures c.in_ok-told-3.was)
    here

pub returns-clause-directory : goal.returns-clause-directory
returns-clause-directory g c told = dir_durable _ _ _ _ _ _ c.told-3.ensures c.in_ok-told-3.was (c.sync_dir.ensures.done told)

pub returns-in_err-told-clause-calls : goal.returns-in_err-told-clause-calls
returns-in_err-told-clause-calls g c =
    let p = err_from_is_err_and c.from_residual.result c.from_residual.ensures.1 in
    let name = ap (λ (h : Handle). h.name) c.self.view_is in
    let file = c.self.invariant ∙ ap file_of c.self.view_is ∙ file_of_draft c.args.self.now c.requires.draft in
    passed_calls g.D.Disk _ _ _ _ _ _ _ p.1 p.2 c.in_err-told.was
    (first_calls g.D.Disk _ _ _ _ file name _ _ _ _ c.told.ensures c.sync.ensures.done c.sync.ensures.time c.sync.ensures.cause)

pub returns-in_err-told-2-clause-calls : goal.returns-in_err-told-2-clause-calls
returns-in_err-told-2-clause-calls g c =
    let p = err_from_is_err_and c.from_residual-in_err-told-2.result c.from_residual-in_err-told-2.ensures.1 in
    let name = ap (λ (h : Handle). h.name) c.self.view_is in
    let file = c.self.invariant ∙ ap file_of c.self.view_is ∙ file_of_draft c.args.self.now c.requires.draft in
    passed_calls g.D.Disk _ _ _ _ _ _ _ p.1 p.2 c.in_err-told-2.was
    (second_calls g.D.Disk _ _ _ _ file name _ _ _ _ c.told.ensures c.sync.ensures.done c.sync.ensures.time c.sync.ensures.cause
    _ c.in_ok-told.was _ _ _ c.told-2.ensures c.rename.ensures.done c.rename.ensures.time c.rename.ensures.cause)

pub returns-in_err-told-3-clause-calls : goal.returns-in_err-told-3-clause-calls
returns-in_err-told-3-clause-calls g c =
    let p = err_from_is_err_and c.from_residual-in_err-told-3.result c.from_residual-in_err-told-3.ensures.1 in
    let name = ap (λ (h : Handle). h.name) c.self.view_is in
    let file = c.self.invariant ∙ ap file_of c.self.view_is ∙ file_of_draft c.args.self.now c.requires.draft in
    passed_calls g.D.Disk _ _ _ _ _ _ _ p.1 p.2 c.in_err-told-3.was
    (third_calls g.D.Disk _ _ _ _ file name _ _ _ _ c.told.ensures c.sync.ensures.done c.sync.ensures.time c.sync.ensures.cause
    _ c.in_ok-told.was _ _ _ c.told-2.ensures c.rename.ensures.done c.rename.ensures.time c.rename.ensures.cause
    _ c.in_ok-told-2.was _ _ _ c.told-3.ensures c.sync_dir.ensures.done c.sync_dir.ensures.time c.sync_dir.ensures.cause)

pub returns-clause-calls : goal.returns-clause-calls
returns-clause-calls g c =
    let name = ap (λ (h : Handle). h.name) c.self.view_is in
    let file = c.self.invariant ∙ ap file_of c.self.view_is ∙ file_of_draft c.args.self.now c.requires.draft in
    done_calls g.D.Disk _ _ _ _ _ _ _ c.in_ok-told-3.was
    (third_calls g.D.Disk _ _ _ _ file name _ _ _ _ c.told.ensures c.sync.ensures.done c.sync.ensures.time c.sync.ensures.cause
    _ c.in_ok-told.was _ _ _ c.told-2.ensures c.rename.ensures.done c.rename.ensures.time c.rename.ensures.cause
    _ c.in_ok-told-2.was _ _ _ c.told-3.ensures c.sync_dir.ensures.done c.sync_dir.ensures.time c.sync_dir.ensures.cause)
