use Rattle.std.proofs.Common.{◌≡◌, ◌∷◌, true, inr, sym, ap, ◌∙◌, subst}
use Rattle.std.proofs.lemmas.List.Elements.{All-cons}
use Rattle.std.proofs.lemmas.Result.{err_from_is_err_and, on_ok_weaker}
use Rattle.log_items.specs.Items.{log_bytes, IsContent}
use Rattle.disk_logs.specs.Calls.{LogCalls}
use Rattle.disk_logs.specs.Crash.{DraftStands}
use Rattle.disk_logs.specs.Errors.{OnlyFileOrMemory}
use Rattle.disk_logs.specs.Logs.{Handle, draft_name}
use Rattle.disk_logs.proofs.Calls.{then_calls, passed_calls, wider_calls}
use Rattle.store_files.specs.Pairs.{IsFileOf}
use Rattle.store_files.proofs.Replacing.{as_drafted, drafted_rests, drafting_either, drafting_sound, replacing_either, replacing_sound, replaced_rests, replacing_kept, both_ok}
use Rattle.store_files.proofs.replacement.replace.Goals as goal

-- ---- the draft was not made

pub returns-in_err-log-clause-kept : goal.returns-in_err-log-clause-kept
returns-in_err-log-clause-kept g c file told rests wanted = drafted_rests _ _ c.args.name (c.drafted.ensures.calls.touches told) file rests

pub returns-in_err-log-clause-any_moment : goal.returns-in_err-log-clause-any_moment
returns-in_err-log-clause-any_moment g c file more told fit is rests =
    drafting_either _ _ c.args.name (c.drafted.ensures.calls.touches told) file (c.args.head.now ∷ more) rests

pub returns-in_err-log-clause-sound : goal.returns-in_err-log-clause-sound
returns-in_err-log-clause-sound g c told = drafting_sound _ _ c.args.name (c.drafted.ensures.calls.touches told)

pub returns-in_err-log-clause-calls : goal.returns-in_err-log-clause-calls
returns-in_err-log-clause-calls g c =
    let p = err_from_is_err_and c.from_residual.result c.from_residual.ensures.1 in
    passed_calls g.D.Disk (IsFileOf c.args.name) _ _ c.drafted.result _ _ _ p.1 p.2 c.in_err-log.was
    (wider_calls g.D.Disk _ _ (IsFileOf c.args.name) OnlyFileOrMemory c.drafted.result (λ n is. inr is) (λ only. only)
    c.drafted.ensures.calls)

-- ---- it was, and was to be published

pub returns-clause-kept : goal.returns-clause-kept
returns-clause-kept g c file told rests wanted =
    replacing_kept _ _ c.args.name (c.drafted.ensures.calls.touches told) _ c.in_ok-log.log c.in_ok-log.ensures.log file rests
    (c.publish.ensures.wanted told wanted)

pub returns-clause-any_moment : goal.returns-clause-any_moment
returns-clause-any_moment g c file more told fit is rests =
    replacing_either _ _ c.args.name (c.drafted.ensures.calls.touches told) _ c.in_ok-log.log c.in_ok-log.ensures.log file
    (c.args.head.now ∷ more) (All-cons IsContent c.args.head.now more c.requires.head fit) rests
    (c.publish.ensures.any_moment _ told
    (subst (λ (l : Handle). DraftStands (g.D.Disk.past c.drafted.new.disk) (draft_name l.name) (log_bytes true (c.args.head.now ∷ more)))
    (sym c.in_ok-log.ensures.log) (c.in_ok-log.ensures.made more told is)))

pub returns-clause-sound : goal.returns-clause-sound
returns-clause-sound g c told sound =
    replacing_sound _ _ c.args.name (c.drafted.ensures.calls.touches told) _ c.in_ok-log.log c.in_ok-log.ensures.log sound
    (c.publish.ensures.sound (c.args.head.now ∷ c.requires.items.0) told
    (All-cons IsContent c.args.head.now c.requires.items.0 c.requires.head c.requires.items.1)
    (as_drafted _ c.in_ok-log.log c.args.name (c.args.head.now ∷ c.requires.items.0) c.in_ok-log.ensures.log
    (c.in_ok-log.ensures.made c.requires.items.0 told c.requires.items.2)))

pub returns-clause-stands : goal.returns-clause-stands
returns-clause-stands g c more told fit is =
    let whole = c.args.head.now ∷ more in
    let made = as_drafted _ c.in_ok-log.log c.args.name whole c.in_ok-log.ensures.log (c.in_ok-log.ensures.made more told is) in
    both_ok c.publish.result
    (replaced_rests _ _ c.args.name (c.drafted.ensures.calls.touches told) _ c.in_ok-log.log c.in_ok-log.ensures.log c.publish.new.self
    whole) c.publish.ensures.log
    (c.publish.ensures.stands whole told (All-cons IsContent c.args.head.now more c.requires.head fit) made)

pub returns-clause-calls : goal.returns-clause-calls
returns-clause-calls g c =
    then_calls g.D.Disk (IsFileOf c.args.name) _ _ _ OnlyFileOrMemory OnlyFileOrMemory c.drafted.result _ c.publish.result
    c.in_ok-log.was
    (wider_calls g.D.Disk _ _ (IsFileOf c.args.name) OnlyFileOrMemory c.drafted.result (λ n is. inr is) (λ only. only)
    c.drafted.ensures.calls)
    (subst (λ m. LogCalls g.D.Disk c.drafted.new.disk c.publish.new.disk (IsFileOf m) OnlyFileOrMemory c.publish.result)
    (ap (λ (l : Handle). l.name) c.in_ok-log.ensures.log) c.publish.ensures.calls)
