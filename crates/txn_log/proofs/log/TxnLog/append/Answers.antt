use Rattle.std.proofs.Common.{◌+◌, ◌≤◌, ◌++◌, ◌∷◌, [], length, inl, Ok, sym, ap, ◌∙◌, subst}
use Rattle.std.proofs.lemmas.Result.{err_from_is_err_and}
use Rattle.file_trait.specs.DiskModel.{reads, Crashes}
use Rattle.file_trait.proofs.Moments.{then_done, weaker}
use Rattle.disk_logs.specs.Crash.{IsSound}
use Rattle.disk_logs.specs.Errors.{OnlyFileOrMemory}
use Rattle.disk_logs.specs.Logs.{file_of, IsLog}
use Rattle.disk_logs.proofs.Calls.{then_calls, done_calls, passed_calls}
use Rattle.disk_logs.proofs.Effects.{on_err}
use Rattle.disk_logs.proofs.Publishing.{same_error}
use Rattle.txn_log.specs.Logs.{latest, LogState, handle, IsOwn, Leaves}
use Rattle.txn_log.specs.TwoLogs.{TwoLogs, AreSound, commits_of}
use Rattle.txn_log.proofs.Acts.{item_is, held_at, made_handle, wider_calls, touches_latest, touches_log, handle_marked, handle_either, append_logs, append_fails, append_moments, appended_stands, kept_stands, same_moments, log_sound}
use Rattle.txn_log.proofs.Held.{state_of, begun, from_start}
use Rattle.txn_log.proofs.TwoLogs.{more_two, beside_moments, beside_sound, beside_stands, beside_either}
use Rattle.txn_log.proofs.log.TxnLog.append.Goals as goal

-- ---- the new log could not be made

pub returns-in_err-ready-clause-one : goal.returns-in_err-ready-clause-one
returns-in_err-ready-clause-one g c open' =
    absurd (cc ((c.ready.ensures.nothing (c.ready.ensures.open open')).0, c.in_err-ready.was))

pub returns-in_err-ready-clause-logs_left : goal.returns-in_err-ready-clause-logs_left
returns-in_err-ready-clause-logs_left g c before after synced commit told item logs =
    on_err _ (more_two (commits_of before) after (commit ∷ []) (length after) (reads (g.D.Disk.past c.ready.new.disk))
    (c.ready.ensures.left before after synced told logs))

pub returns-in_err-ready-clause-logs_moments : goal.returns-in_err-ready-clause-logs_moments
returns-in_err-ready-clause-logs_moments g c before after synced commit told item logs =
    weaker (Crashes (TwoLogs (commits_of before) after synced)) _ _ _
    (λ past h image is. more_two (commits_of before) after (commit ∷ []) synced image (h image is))
    (c.ready.ensures.any_moment before after synced told logs)

-- ---- the append

pub append-requires-clause-items : goal.append-requires-clause-items
append-requires-clause-items g c = item_is c.bytes.result.now c.args.item.now c.bytes.ensures.value c.bytes.ensures.item

pub returns-in_err-append-clause-wanted : goal.returns-in_err-append-clause-wanted
returns-in_err-append-clause-wanted g c told is =
    let p = err_from_is_err_and c.from_residual-in_err-append.result c.from_residual-in_err-append.ensures.1 in
    let wanted = same_error c.append.result _ _ _ _ p.1 p.2 c.in_err-append.was is in
    subst (IsLog (g.D.Disk.past c.append.new.disk)) (sym (made_handle
    (state_of c.self.inside.commits c.self.inside.waits c.append.new.self)
    (ap (λ (l : LogState). l.waits) c.self.view_is ∙ c.in_ok-ready.ensures.made)))
    (append_logs c.append.result (g.D.Disk.past c.ready.new.disk)
    (g.D.Disk.past c.append.new.disk) c.self.inside.log c.append.new.self c.ready.new.self c.bytes.result.now c.args.item.now
    (held_at c.ready.new.self
    (c.self.invariant ∙ ap handle c.self.view_is) c.in_ok-ready.ensures.made) c.bytes.ensures.value c.bytes.ensures.item
    (subst (IsLog (g.D.Disk.past c.ready.new.disk)) (made_handle c.ready.new.self c.in_ok-ready.ensures.made)
    (c.in_ok-ready.ensures.log told))
    (λ name other. absurd (cc (wanted, other))) (λ all more. c.append.ensures.appended all more told))

pub returns-in_err-append-clause-kept : goal.returns-in_err-append-clause-kept
returns-in_err-append-clause-kept g c commits synced told stands is =
    let n = c.ready.ensures.nothing stands.made in
    let p = err_from_is_err_and c.from_residual-in_err-append.result c.from_residual-in_err-append.ensures.1 in
    let wanted = same_error c.append.result _ _ _ _ p.1 p.2 c.in_err-append.was is in
    kept_stands (g.D.Disk.past c.ready.new.disk)
    (g.D.Disk.past c.append.new.disk) c.self.inside.log c.append.new.self c.ready.new.self commits synced
    (held_at c.ready.new.self (c.self.invariant ∙ ap handle c.self.view_is) c.in_ok-ready.ensures.made)
    (begun (g.D.Disk.past c.args.disk.now) (g.D.Disk.past c.ready.new.disk) c.args.self.now c.ready.new.self commits synced n.1
    (ap g.D.Disk.past n.2) stands) _ (ap (λ (l : LogState). l.waits) c.self.view_is ∙ c.in_ok-ready.ensures.made)
    (handle_either c.self.inside.log c.append.new.self c.ready.new.self c.self.inside.commits _
    (held_at c.ready.new.self (c.self.invariant ∙ ap handle c.self.view_is) c.in_ok-ready.ensures.made) c.in_err-append.ensures.err)
    (ap (λ (l : LogState). l.commits) c.self.view_is)
    (λ all least before. c.append.ensures.kept all least told before wanted)

pub returns-in_err-append-clause-left : goal.returns-in_err-append-clause-left
returns-in_err-append-clause-left g c commits synced commit told item stands =
    let n = c.ready.ensures.nothing stands.made in
    on_err _
    (append_fails (g.D.Disk.past c.ready.new.disk)
    (g.D.Disk.past c.append.new.disk) c.self.inside.log c.append.new.self c.ready.new.self commits synced
    (held_at c.ready.new.self (c.self.invariant ∙ ap handle c.self.view_is) c.in_ok-ready.ensures.made)
    (begun (g.D.Disk.past c.args.disk.now) (g.D.Disk.past c.ready.new.disk) c.args.self.now c.ready.new.self commits synced n.1
    (ap g.D.Disk.past n.2) stands)
    c.in_err-append.field-0.0 c.args.item.now commit item
    (λ all more is. c.in_err-append.ensures.appended all more told (c.bytes.ensures.value ∙ is)))

pub returns-in_err-append-clause-only_old : goal.returns-in_err-append-clause-only_old
returns-in_err-append-clause-only_old g c commits synced told stands is =
    let n = c.ready.ensures.nothing stands.made in
    let p = err_from_is_err_and c.from_residual-in_err-append.result c.from_residual-in_err-append.ensures.1 in
    let wanted = same_error c.append.result _ _ _ _ p.1 p.2 c.in_err-append.was is in
    from_start (Leaves commits synced) _ (g.D.Disk.past c.ready.new.disk) _ (ap g.D.Disk.past n.2)
    (same_moments (g.D.Disk.past c.ready.new.disk)
    (g.D.Disk.past c.append.new.disk) c.self.inside.log c.append.new.self c.ready.new.self commits synced
    (held_at c.ready.new.self (c.self.invariant ∙ ap handle c.self.view_is) c.in_ok-ready.ensures.made)
    (begun (g.D.Disk.past c.args.disk.now) (g.D.Disk.past c.ready.new.disk) c.args.self.now c.ready.new.self commits synced n.1
    (ap g.D.Disk.past n.2) stands)
    (λ all least before. c.append.ensures.only_old all least told before wanted))

pub returns-in_err-append-clause-any_moment : goal.returns-in_err-append-clause-any_moment
returns-in_err-append-clause-any_moment g c commits synced commit told item stands =
    let n = c.ready.ensures.nothing stands.made in
    from_start (Leaves (commits ++ commit ∷ []) synced) _ (g.D.Disk.past c.ready.new.disk) _ (ap g.D.Disk.past n.2)
    (append_moments (g.D.Disk.past c.ready.new.disk)
    (g.D.Disk.past c.append.new.disk) c.self.inside.log c.append.new.self c.ready.new.self commits synced
    (held_at c.ready.new.self (c.self.invariant ∙ ap handle c.self.view_is) c.in_ok-ready.ensures.made)
    (begun (g.D.Disk.past c.args.disk.now) (g.D.Disk.past c.ready.new.disk) c.args.self.now c.ready.new.self commits synced n.1
    (ap g.D.Disk.past n.2) stands)
    c.args.item.now commit item (λ all more least fit is. c.append.ensures.any_moment all more least told fit (c.bytes.ensures.value ∙ is)))

pub returns-in_err-append-clause-sound : goal.returns-in_err-append-clause-sound
returns-in_err-append-clause-sound g c commits synced told stands =
    let n = c.ready.ensures.nothing stands.made in
    from_start (λ past. IsSound past latest) _ (g.D.Disk.past c.ready.new.disk) _ (ap g.D.Disk.past n.2)
    (log_sound (g.D.Disk.past c.ready.new.disk)
    (g.D.Disk.past c.append.new.disk) c.self.inside.log c.append.new.self c.ready.new.self commits synced
    (held_at c.ready.new.self (c.self.invariant ∙ ap handle c.self.view_is) c.in_ok-ready.ensures.made)
    (begun (g.D.Disk.past c.args.disk.now) (g.D.Disk.past c.ready.new.disk) c.args.self.now c.ready.new.self commits synced n.1
    (ap g.D.Disk.past n.2) stands)
    (λ all least before. c.append.ensures.sound all least told before))

pub returns-clause-any_moment : goal.returns-clause-any_moment
returns-clause-any_moment g c commits synced commit told item stands =
    let n = c.ready.ensures.nothing stands.made in
    from_start (Leaves (commits ++ commit ∷ []) synced) _ (g.D.Disk.past c.ready.new.disk) _ (ap g.D.Disk.past n.2)
    (append_moments (g.D.Disk.past c.ready.new.disk)
    (g.D.Disk.past c.append.new.disk) c.self.inside.log c.append.new.self c.ready.new.self commits synced
    (held_at c.ready.new.self (c.self.invariant ∙ ap handle c.self.view_is) c.in_ok-ready.ensures.made)
    (begun (g.D.Disk.past c.args.disk.now) (g.D.Disk.past c.ready.new.disk) c.args.self.now c.ready.new.self commits synced n.1
    (ap g.D.Disk.past n.2) stands)
    c.args.item.now commit item (λ all more least fit is. c.append.ensures.any_moment all more least told fit (c.bytes.ensures.value ∙ is)))

pub returns-clause-sound : goal.returns-clause-sound
returns-clause-sound g c commits synced told stands =
    let n = c.ready.ensures.nothing stands.made in
    from_start (λ past. IsSound past latest) _ (g.D.Disk.past c.ready.new.disk) _ (ap g.D.Disk.past n.2)
    (log_sound (g.D.Disk.past c.ready.new.disk)
    (g.D.Disk.past c.append.new.disk) c.self.inside.log c.append.new.self c.ready.new.self commits synced
    (held_at c.ready.new.self (c.self.invariant ∙ ap handle c.self.view_is) c.in_ok-ready.ensures.made)
    (begun (g.D.Disk.past c.args.disk.now) (g.D.Disk.past c.ready.new.disk) c.args.self.now c.ready.new.self commits synced n.1
    (ap g.D.Disk.past n.2) stands)
    (λ all least before. c.append.ensures.sound all least told before))

pub returns-in_err-append-clause-calls : goal.returns-in_err-append-clause-calls
returns-in_err-append-clause-calls g c =
    let p = err_from_is_err_and c.from_residual-in_err-append.result c.from_residual-in_err-append.ensures.1 in
    passed_calls g.D.Disk (IsOwn c.args.self.now) _ _ c.append.result _ _ _ p.1 p.2 c.in_err-append.was
    (then_calls g.D.Disk (IsOwn c.args.self.now) _ _ _ OnlyFileOrMemory OnlyFileOrMemory c.ready.result _ c.append.result c.in_ok-ready.was
    c.ready.ensures.calls
    (wider_calls g.D.Disk _ _ (IsOwn c.args.self.now) OnlyFileOrMemory c.append.result
    (λ n is. inl (is ∙ ap file_of (held_at c.ready.new.self (c.self.invariant ∙ ap handle c.self.view_is) c.in_ok-ready.ensures.made)))
    (λ only. only) c.append.ensures.calls))

pub returns-clause-calls : goal.returns-clause-calls
returns-clause-calls g c =
    done_calls g.D.Disk (IsOwn c.args.self.now) _ _ _ c.append.result _ _ c.in_ok-append.was
    (then_calls g.D.Disk (IsOwn c.args.self.now) _ _ _ OnlyFileOrMemory OnlyFileOrMemory c.ready.result _ c.append.result c.in_ok-ready.was
    c.ready.ensures.calls
    (wider_calls g.D.Disk _ _ (IsOwn c.args.self.now) OnlyFileOrMemory c.append.result
    (λ n is. inl (is ∙ ap file_of (held_at c.ready.new.self (c.self.invariant ∙ ap handle c.self.view_is) c.in_ok-ready.ensures.made)))
    (λ only. only) c.append.ensures.calls))

pub returns-clause-log : goal.returns-clause-log
returns-clause-log g c told =
    subst (IsLog (g.D.Disk.past c.append.new.disk)) (sym (made_handle
    (state_of c.self.inside.commits c.self.inside.waits c.append.new.self)
    (ap (λ (l : LogState). l.waits) c.self.view_is ∙ c.in_ok-ready.ensures.made)))
    (append_logs (Ok c.in_ok-append.field-0) (g.D.Disk.past c.ready.new.disk)
    (g.D.Disk.past c.append.new.disk) c.self.inside.log c.append.new.self c.ready.new.self c.bytes.result.now
    c.args.item.now (held_at c.ready.new.self (c.self.invariant ∙ ap handle c.self.view_is) c.in_ok-ready.ensures.made)
    c.bytes.ensures.value c.bytes.ensures.item
    (subst (IsLog (g.D.Disk.past c.ready.new.disk)) (made_handle c.ready.new.self c.in_ok-ready.ensures.made)
    (c.in_ok-ready.ensures.log told))
    (λ name other. absurd (cc other)) (λ all more. c.in_ok-append.ensures.appended all more told))

pub returns-clause-stands : goal.returns-clause-stands
returns-clause-stands g c commits synced commit told item stands =
    let n = c.ready.ensures.nothing stands.made in
    appended_stands (g.D.Disk.past c.ready.new.disk)
    (g.D.Disk.past c.append.new.disk) c.self.inside.log c.append.new.self c.ready.new.self commits synced
    (held_at c.ready.new.self (c.self.invariant ∙ ap handle c.self.view_is) c.in_ok-ready.ensures.made)
    (begun (g.D.Disk.past c.args.disk.now) (g.D.Disk.past c.ready.new.disk) c.args.self.now c.ready.new.self commits synced n.1
    (ap g.D.Disk.past n.2) stands) _ (ap (λ (l : LogState). l.waits) c.self.view_is ∙ c.in_ok-ready.ensures.made)
    (handle_marked c.self.inside.log c.append.new.self c.ready.new.self c.self.inside.commits _
    (held_at c.ready.new.self
    (c.self.invariant ∙ ap handle c.self.view_is) c.in_ok-ready.ensures.made) c.in_ok-append.ensures.log) c.args.item.now commit
    (ap (λ (l : LogState). l.commits + 1) c.self.view_is) item
    (λ all more least fit is. c.in_ok-append.ensures.stands all more least told fit (c.bytes.ensures.value ∙ is))

pub returns-in_err-append-clause-one : goal.returns-in_err-append-clause-one
returns-in_err-append-clause-one g c open' =
    let n = c.ready.ensures.nothing (c.ready.ensures.open open') in
    subst (λ d. g.D.Disk.moment c.append.new.disk ≤ g.D.Disk.moment d + 1) n.2
    (c.append.ensures.one (ap (λ (l : LogState). l.closed) (c.self.view_is ∙ n.1) ∙ open'))

pub returns-clause-one : goal.returns-clause-one
returns-clause-one g c open' =
    let n = c.ready.ensures.nothing (c.ready.ensures.open open') in
    subst (λ d. g.D.Disk.moment c.append.new.disk ≤ g.D.Disk.moment d + 1) n.2
    (c.append.ensures.one (ap (λ (l : LogState). l.closed) (c.self.view_is ∙ n.1) ∙ open'))

-- ---- both logs

pub returns-in_err-append-clause-logs_kept : goal.returns-in_err-append-clause-logs_kept
returns-in_err-append-clause-logs_kept g c before after synced told logs is =
    let both = (c.in_ok-ready.ensures.stands before after synced told logs) in
    let p = err_from_is_err_and c.from_residual-in_err-append.result c.from_residual-in_err-append.ensures.1 in
    let wanted = same_error c.append.result _ _ _ _ p.1 p.2 c.in_err-append.was is in
    beside_stands before (touches_log _ _ (touches_latest _ _ _
    (ap file_of (held_at c.ready.new.self (c.self.invariant ∙ ap handle c.self.view_is) c.in_ok-ready.ensures.made))
    (c.append.ensures.calls.touches told))) both.in_previous _ after synced
    (kept_stands (g.D.Disk.past c.ready.new.disk)
    (g.D.Disk.past c.append.new.disk) c.self.inside.log c.append.new.self c.ready.new.self after synced
    (held_at c.ready.new.self (c.self.invariant ∙ ap handle c.self.view_is) c.in_ok-ready.ensures.made) both.in_latest _
    (ap (λ (l : LogState). l.waits) c.self.view_is ∙ c.in_ok-ready.ensures.made)
    (handle_either c.self.inside.log c.append.new.self c.ready.new.self c.self.inside.commits _
    (held_at c.ready.new.self (c.self.invariant ∙ ap handle c.self.view_is) c.in_ok-ready.ensures.made) c.in_err-append.ensures.err)
    (ap (λ (l : LogState). l.commits) c.self.view_is)
    (λ all least before. c.append.ensures.kept all least told before wanted))

pub returns-in_err-append-clause-logs_left : goal.returns-in_err-append-clause-logs_left
returns-in_err-append-clause-logs_left g c before after synced commit told item logs =
    let both = (c.in_ok-ready.ensures.stands before after synced told logs) in
    on_err _ (beside_either before (touches_log _ _ (touches_latest _ _ _
    (ap file_of (held_at c.ready.new.self (c.self.invariant ∙ ap handle c.self.view_is) c.in_ok-ready.ensures.made))
    (c.append.ensures.calls.touches told))) both.in_previous after commit
    (append_fails (g.D.Disk.past c.ready.new.disk)
    (g.D.Disk.past c.append.new.disk) c.self.inside.log c.append.new.self c.ready.new.self after synced
    (held_at c.ready.new.self (c.self.invariant ∙ ap handle c.self.view_is) c.in_ok-ready.ensures.made) both.in_latest
    c.in_err-append.field-0.0 c.args.item.now commit item
    (λ all more is. c.in_err-append.ensures.appended all more told (c.bytes.ensures.value ∙ is))))

pub returns-in_err-append-clause-logs_moments : goal.returns-in_err-append-clause-logs_moments
returns-in_err-append-clause-logs_moments g c before after synced commit told item logs =
    let both = (c.in_ok-ready.ensures.stands before after synced told logs) in
    then_done (Crashes (TwoLogs (commits_of before) (after ++ commit ∷ []) synced)) (g.D.Disk.past c.args.disk.now)
    (g.D.Disk.past c.ready.new.disk) (g.D.Disk.past c.append.new.disk)
    (weaker (Crashes (TwoLogs (commits_of before) after synced)) _ _ _
    (λ past h image is. more_two (commits_of before) after (commit ∷ []) synced image (h image is))
    (c.ready.ensures.any_moment before after synced told logs))
    (beside_moments before (touches_log _ _ (touches_latest _ _ _
    (ap file_of (held_at c.ready.new.self (c.self.invariant ∙ ap handle c.self.view_is) c.in_ok-ready.ensures.made))
    (c.append.ensures.calls.touches told))) both.in_previous (after ++ commit ∷ []) synced
    (append_moments (g.D.Disk.past c.ready.new.disk)
    (g.D.Disk.past c.append.new.disk) c.self.inside.log c.append.new.self c.ready.new.self after synced
    (held_at c.ready.new.self (c.self.invariant ∙ ap handle c.self.view_is) c.in_ok-ready.ensures.made) both.in_latest
    c.args.item.now commit item (λ all more least fit is. c.append.ensures.any_moment all more least told fit
    (c.bytes.ensures.value ∙ is))))

pub returns-in_err-append-clause-logs_only_old : goal.returns-in_err-append-clause-logs_only_old
returns-in_err-append-clause-logs_only_old g c before after synced told logs is =
    let both = (c.in_ok-ready.ensures.stands before after synced told logs) in
    let p = err_from_is_err_and c.from_residual-in_err-append.result c.from_residual-in_err-append.ensures.1 in
    let wanted = same_error c.append.result _ _ _ _ p.1 p.2 c.in_err-append.was is in
    then_done (Crashes (TwoLogs (commits_of before) after synced)) (g.D.Disk.past c.args.disk.now)
    (g.D.Disk.past c.ready.new.disk) (g.D.Disk.past c.append.new.disk) (c.ready.ensures.any_moment before after synced told logs)
    (beside_moments before (touches_log _ _ (touches_latest _ _ _
    (ap file_of (held_at c.ready.new.self (c.self.invariant ∙ ap handle c.self.view_is) c.in_ok-ready.ensures.made))
    (c.append.ensures.calls.touches told))) both.in_previous after synced
    (same_moments (g.D.Disk.past c.ready.new.disk)
    (g.D.Disk.past c.append.new.disk) c.self.inside.log c.append.new.self c.ready.new.self after synced
    (held_at c.ready.new.self (c.self.invariant ∙ ap handle c.self.view_is) c.in_ok-ready.ensures.made) both.in_latest
    (λ all least before. c.append.ensures.only_old all least told before wanted)))

pub returns-in_err-append-clause-logs_sound : goal.returns-in_err-append-clause-logs_sound
returns-in_err-append-clause-logs_sound g c before after synced told logs =
    let both = (c.in_ok-ready.ensures.stands before after synced told logs) in
    then_done AreSound (g.D.Disk.past c.args.disk.now) (g.D.Disk.past c.ready.new.disk) (g.D.Disk.past c.append.new.disk)
    (c.ready.ensures.sound before after synced told logs)
    (beside_sound before (touches_log _ _ (touches_latest _ _ _
    (ap file_of (held_at c.ready.new.self (c.self.invariant ∙ ap handle c.self.view_is) c.in_ok-ready.ensures.made))
    (c.append.ensures.calls.touches told))) both.in_previous
    (log_sound (g.D.Disk.past c.ready.new.disk)
    (g.D.Disk.past c.append.new.disk) c.self.inside.log c.append.new.self c.ready.new.self after synced
    (held_at c.ready.new.self (c.self.invariant ∙ ap handle c.self.view_is) c.in_ok-ready.ensures.made) both.in_latest
    (λ all least before. c.append.ensures.sound all least told before)))

pub returns-clause-logs_moments : goal.returns-clause-logs_moments
returns-clause-logs_moments g c before after synced commit told item logs =
    let both = (c.in_ok-ready.ensures.stands before after synced told logs) in
    then_done (Crashes (TwoLogs (commits_of before) (after ++ commit ∷ []) synced)) (g.D.Disk.past c.args.disk.now)
    (g.D.Disk.past c.ready.new.disk) (g.D.Disk.past c.append.new.disk)
    (weaker (Crashes (TwoLogs (commits_of before) after synced)) _ _ _
    (λ past h image is. more_two (commits_of before) after (commit ∷ []) synced image (h image is))
    (c.ready.ensures.any_moment before after synced told logs))
    (beside_moments before (touches_log _ _ (touches_latest _ _ _
    (ap file_of (held_at c.ready.new.self (c.self.invariant ∙ ap handle c.self.view_is) c.in_ok-ready.ensures.made))
    (c.append.ensures.calls.touches told))) both.in_previous (after ++ commit ∷ []) synced
    (append_moments (g.D.Disk.past c.ready.new.disk)
    (g.D.Disk.past c.append.new.disk) c.self.inside.log c.append.new.self c.ready.new.self after synced
    (held_at c.ready.new.self (c.self.invariant ∙ ap handle c.self.view_is) c.in_ok-ready.ensures.made) both.in_latest
    c.args.item.now commit item (λ all more least fit is. c.append.ensures.any_moment all more least told fit
    (c.bytes.ensures.value ∙ is))))

pub returns-clause-logs_sound : goal.returns-clause-logs_sound
returns-clause-logs_sound g c before after synced told logs =
    let both = (c.in_ok-ready.ensures.stands before after synced told logs) in
    then_done AreSound (g.D.Disk.past c.args.disk.now) (g.D.Disk.past c.ready.new.disk) (g.D.Disk.past c.append.new.disk)
    (c.ready.ensures.sound before after synced told logs)
    (beside_sound before (touches_log _ _ (touches_latest _ _ _
    (ap file_of (held_at c.ready.new.self (c.self.invariant ∙ ap handle c.self.view_is) c.in_ok-ready.ensures.made))
    (c.append.ensures.calls.touches told))) both.in_previous
    (log_sound (g.D.Disk.past c.ready.new.disk)
    (g.D.Disk.past c.append.new.disk) c.self.inside.log c.append.new.self c.ready.new.self after synced
    (held_at c.ready.new.self (c.self.invariant ∙ ap handle c.self.view_is) c.in_ok-ready.ensures.made) both.in_latest
    (λ all least before. c.append.ensures.sound all least told before)))

pub returns-clause-logs_stand : goal.returns-clause-logs_stand
returns-clause-logs_stand g c before after synced commit told item logs =
    let both = (c.in_ok-ready.ensures.stands before after synced told logs) in
    beside_stands before (touches_log _ _ (touches_latest _ _ _
    (ap file_of (held_at c.ready.new.self (c.self.invariant ∙ ap handle c.self.view_is) c.in_ok-ready.ensures.made))
    (c.append.ensures.calls.touches told))) both.in_previous _ (after ++ commit ∷ []) synced
    (appended_stands (g.D.Disk.past c.ready.new.disk)
    (g.D.Disk.past c.append.new.disk) c.self.inside.log c.append.new.self c.ready.new.self after synced
    (held_at c.ready.new.self (c.self.invariant ∙ ap handle c.self.view_is) c.in_ok-ready.ensures.made) both.in_latest _
    (ap (λ (l : LogState). l.waits) c.self.view_is ∙ c.in_ok-ready.ensures.made)
    (handle_marked c.self.inside.log c.append.new.self c.ready.new.self c.self.inside.commits _
    (held_at c.ready.new.self
    (c.self.invariant ∙ ap handle c.self.view_is) c.in_ok-ready.ensures.made) c.in_ok-append.ensures.log) c.args.item.now commit
    (ap (λ (l : LogState). l.commits + 1) c.self.view_is) item
    (λ all more least fit is. c.in_ok-append.ensures.stands all more least told fit (c.bytes.ensures.value ∙ is)))
