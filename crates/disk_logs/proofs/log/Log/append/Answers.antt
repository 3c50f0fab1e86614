use Rattle.std.proofs.Common.{◌≡◌, ◌++◌, inl, inr, refl, ap, ◌∙◌, arith}
use Rattle.std.proofs.lemmas.Result.{err_from_is_err_and}
use Rattle.file_trait.proofs.Touched.{append_touches}
use Rattle.disk_logs.specs.Logs.{Handle, file_of}
use Rattle.disk_logs.proofs.Appends.{appended, not_opened}
use Rattle.disk_logs.proofs.Handles.{leaves_of, sound_of, more_of, wanted_same, wanted_kept, wanted_moments, appends_stands, appends_moments}
use Rattle.disk_logs.proofs.Handles.{appends_drafted}
use Rattle.disk_logs.specs.Calls.{LogCalls}
use Rattle.disk_logs.specs.Errors.{OnlyFileOrMemory}
use Rattle.disk_logs.proofs.Calls.{told_some, told_calls, then_calls}
use Rattle.disk_logs.proofs.log.Log.append.Goals as goal

pub returns-in_err-open-clause-appended : goal.returns-in_err-open-clause-appended
returns-in_err-open-clause-appended g c all more told is here =
    let p = err_from_is_err_and c.from_residual.result c.from_residual.ensures.1 in
    not_opened _ _ _ _ _ _ _ all more _ p.1 p.2 c.in_err-open.was (λ wanted. ap (λ (h : Handle). h.closed) (c.open.ensures.wanted wanted))
    (c.open.ensures.marked all told here)

pub returns-in_err-open-clause-any_moment : goal.returns-in_err-open-clause-any_moment
returns-in_err-open-clause-any_moment g c all more synced told fit is stands =
    leaves_of _ (all ++ more) synced _ _ (more_of _ all synced _ _ (c.open.ensures.any_moment all synced told stands) more)

pub returns-in_err-open-clause-only_old : goal.returns-in_err-open-clause-only_old
returns-in_err-open-clause-only_old g c all synced told stands wanted =
    leaves_of _ all synced _ _ (c.open.ensures.any_moment all synced told stands)

pub returns-in_err-open-clause-sound : goal.returns-in_err-open-clause-sound
returns-in_err-open-clause-sound g c all synced told stands = sound_of _ all synced _ _ (c.open.ensures.any_moment all synced told stands)

pub returns-clause-appended : goal.returns-clause-appended
returns-clause-appended g c all more told is here =
    appended _ _ _ _ _ all more _ _ _ _ (c.self.invariant ∙ ap file_of (c.self.view_is ∙ c.in_ok-open.ensures.log)) is
    (ap (λ (h : Handle). h.closed) c.in_ok-open.ensures.log)
    (c.in_ok-open.ensures.marked all told here) c.told.ensures (c.append.ensures.done told)

pub returns-clause-stands : goal.returns-clause-stands
returns-clause-stands g c all more synced told fit is stands =
    appends_stands _ _ c.args.self.now c.open.new.self all more synced _ _ _ (c.self.invariant ∙ ap file_of c.self.view_is) is fit
    c.in_ok-open.ensures.log
    (c.in_ok-open.ensures.stands all synced told stands) (c.append.ensures.done told) _ c.told.ensures

pub returns-clause-kept : goal.returns-clause-kept
returns-clause-kept g c all synced told stands wanted =
    wanted_kept _ _ c.open.new.self all synced _ _ _ _ c.told.ensures wanted (c.append.ensures.done told)
    (c.in_ok-open.ensures.stands all synced told stands)

pub returns-clause-any_moment : goal.returns-clause-any_moment
returns-clause-any_moment g c all more synced told fit is stands =
    leaves_of _ (all ++ more) synced _ _
    (appends_moments _ _ c.args.self.now c.open.new.self all more synced _ _ _ (c.self.invariant ∙ ap file_of c.self.view_is) is fit
    c.in_ok-open.ensures.log
    (c.in_ok-open.ensures.stands all synced told stands) (c.append.ensures.done told) _ (c.open.ensures.any_moment all synced told stands))

pub returns-clause-only_old : goal.returns-clause-only_old
returns-clause-only_old g c all synced told stands wanted =
    wanted_moments _ _ _ all synced _ _ _ _ _ c.told.ensures wanted (c.append.ensures.done told)
    (c.open.ensures.any_moment all synced told stands)

pub returns-clause-sound : goal.returns-clause-sound
returns-clause-sound g c all synced told stands =
    sound_of _ (all ++ c.requires.items.0) synced _ _
    (appends_moments _ _ c.args.self.now c.open.new.self all c.requires.items.0 synced _ _ _
    (c.self.invariant ∙ ap file_of c.self.view_is) c.requires.items.2 c.requires.items.1 c.in_ok-open.ensures.log
    (c.in_ok-open.ensures.stands all synced told stands) (c.append.ensures.done told) _ (c.open.ensures.any_moment all synced told stands))

pub returns-in_err-open-clause-undone : goal.returns-in_err-open-clause-undone
returns-in_err-open-clause-undone g c told drafted wanted = c.open.ensures.same told (inl drafted)

pub returns-clause-undone : goal.returns-clause-undone
returns-clause-undone g c told drafted wanted =
    wanted_same _ _ _ _ _ _ c.told.ensures wanted (c.append.ensures.done told) ∙ c.open.ensures.same told (inl drafted)

pub returns-clause-drafted : goal.returns-clause-drafted
returns-clause-drafted g c all more told drafted is draft =
    appends_drafted _ _ c.args.self.now all more _ _ _ _ _ (c.self.invariant ∙ ap file_of (c.self.view_is ∙ c.in_ok-open.ensures.log))
    drafted is (c.open.ensures.same told (inl drafted)) draft c.told.ensures
    (c.append.ensures.done told)

pub returns-clause-calls : goal.returns-clause-calls
returns-clause-calls g c =
    let file = c.self.invariant ∙ ap file_of (c.self.view_is ∙ c.in_ok-open.ensures.log) in
    let opens : LogCalls g.D.Disk c.args.disk.now c.open.new.disk (λ n. n ≡ file_of c.args.self.now) OnlyFileOrMemory
    c.open.result = record {
      touches = c.open.ensures.touches;
      time = c.open.ensures.time;
      named = c.open.ensures.named;
      only = c.open.ensures.only;
      cause = c.open.ensures.cause;
    } in
    then_calls g.D.Disk _ _ _ _ _ _ c.open.result _ _ c.in_ok-open.was opens
    (told_calls g.D.Disk _ _ _ _ _ _ _ _ c.told.ensures file (inr (0, omega arith, refl))
    (λ told. append_touches _ _ _ _ _ _ (c.append.ensures.done told) file)
    c.append.ensures.time (told_some _ _) c.append.ensures.cause)
