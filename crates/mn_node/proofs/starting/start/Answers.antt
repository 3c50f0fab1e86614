use Rattle.db_state.specs.Live.{database}
use Rattle.std.proofs.Common.{◌≡◌, Err, refl, sym, ap, ◌∙◌, subst, inl}
use Rattle.std.proofs.lemmas.Result.{err_from_is_err_and}
use Rattle.file_trait.specs.DiskModel.{Past, reads}
use Rattle.file_trait.proofs.Moments.{none_done}
use Rattle.txn_log.specs.Logs.{Reads, OldOrCommits}
use Rattle.mn_node.specs.Meaning.{latest}
use Rattle.mn_node.specs.declared.starting.StartErr.TheVariants.{Damaged, File}
use Rattle.mn_node.proofs.Loading.{calls_as, start_calls, synced_moments, opened_moments, synced_stays, sound_now, opened_stays, untouched_log, log_touched, opened_touched, same_log, commits_read, left_as, opens, loaded_means, fails_broken}
use Rattle.mn_node.proofs.TxnKept.{none_pends}
use Rattle.mn_node.proofs.starting.start.Goals as goal

-- ---- the log could not be read

pub returns-in_err-read-clause-failed : goal.returns-in_err-read-clause-failed
returns-in_err-read-clause-failed g c told commits has can =
    left_as c.from_residual.result (subst (λ past. Reads commits (reads past latest)) (sym (c.in_err-read.ensures.same told)) has)

pub returns-in_err-read-clause-any_moment : goal.returns-in_err-read-clause-any_moment
returns-in_err-read-clause-any_moment g c told commits has can =
    let old : Past = g.D.Disk.past c.args.disk.now in
    none_done (OldOrCommits old commits) old (g.D.Disk.past c.found.new.disk) (c.in_err-read.ensures.same told)
    (λ image is. inl (image, is, refl))

pub returns-in_err-read-clause-meaning : goal.returns-in_err-read-clause-meaning
returns-in_err-read-clause-meaning g c told name at broken =
    let p = err_from_is_err_and c.from_residual.result c.from_residual.ensures.1 in
    rw (p.1, p.2) (fails_broken (reads (g.D.Disk.past c.args.disk.now)) name at c.in_err-read.field-0.0
    (λ other place is. c.in_err-read.ensures.damaged told other place (ap (λ e. Err e) is)) broken)

-- ---- no database was made

pub returns-in_err-tables-clause-failed : goal.returns-in_err-tables-clause-failed
returns-in_err-tables-clause-failed g c told commits has can =
    left_as c.from_residual-in_err-tables.result
    (subst (λ past. Reads commits (reads past latest)) (sym (c.in_ok-read.ensures.same told)) has)

pub returns-in_err-tables-clause-damaged : goal.returns-in_err-tables-clause-damaged
returns-in_err-tables-clause-damaged g c told name at is =
    let p = err_from_is_err_and c.from_residual-in_err-tables.result c.from_residual-in_err-tables.ensures.1 in
    let files = reads (g.D.Disk.past c.args.disk.now) in
    let error_is : c.in_err-tables.field-0.0 ≡ Damaged name at = cc (p.1, p.2, is) in
    c.in_err-tables.ensures.damaged files (c.in_ok-read.ensures.read told) name at (ap (λ e. Err e) error_is)

pub returns-in_err-tables-clause-meaning : goal.returns-in_err-tables-clause-meaning
returns-in_err-tables-clause-meaning g c told name at broken =
    let files = reads (g.D.Disk.past c.args.disk.now) in
    let p = err_from_is_err_and c.from_residual-in_err-tables.result c.from_residual-in_err-tables.ensures.1 in
    rw (p.1, p.2) (fails_broken files name at c.in_err-tables.field-0.0
    (λ other place is. c.in_err-tables.ensures.damaged files (c.in_ok-read.ensures.read told) other place (ap (λ e. Err e) is)) broken)

-- ---- the directory was not synced

pub returns-in_err-synced_directory-clause-failed : goal.returns-in_err-synced_directory-clause-failed
returns-in_err-synced_directory-clause-failed g c told commits has can =
    left_as c.from_residual-in_err-synced_directory.result
    (commits_read (g.D.Disk.past c.args.disk.now) (g.D.Disk.past c.found.new.disk) (g.D.Disk.past c.synced_directory.new.disk) commits has
    (c.in_ok-read.ensures.same told) (c.in_err-synced_directory.ensures.as_before told))

pub returns-in_err-synced_directory-clause-any_moment : goal.returns-in_err-synced_directory-clause-any_moment
returns-in_err-synced_directory-clause-any_moment g c told commits has can =
    synced_moments (g.D.Disk.past c.args.disk.now) (g.D.Disk.past c.found.new.disk) (g.D.Disk.past c.synced_directory.new.disk) commits
    (c.in_ok-read.ensures.same told) (c.in_err-synced_directory.ensures.any_moment told)

pub returns-in_err-synced_directory-clause-sound : goal.returns-in_err-synced_directory-clause-sound
returns-in_err-synced_directory-clause-sound g c told =
    synced_stays (g.D.Disk.past c.args.disk.now) (g.D.Disk.past c.found.new.disk) (g.D.Disk.past c.synced_directory.new.disk)
    (c.in_ok-read.ensures.same told) (c.in_err-synced_directory.ensures.sound told)

pub returns-in_err-synced_directory-clause-touches : goal.returns-in_err-synced_directory-clause-touches
returns-in_err-synced_directory-clause-touches g c told =
    log_touched (g.D.Disk.past c.args.disk.now) (g.D.Disk.past c.found.new.disk) (g.D.Disk.past c.synced_directory.new.disk)
    (c.in_ok-read.ensures.same told) (c.in_err-synced_directory.ensures.touches told)

pub returns-in_err-synced_directory-clause-kept : goal.returns-in_err-synced_directory-clause-kept
returns-in_err-synced_directory-clause-kept g c told name at broken =
    let files = reads (g.D.Disk.past c.args.disk.now) in
    let loads = c.in_ok-tables.ensures.loads files (c.in_ok-read.ensures.read told) in
    absurd (loaded_means files (database c.in_ok-tables.tables) name at loads broken)

-- ---- the log was opened

pub returns-in-Ok-clause-started : goal.returns-in-Ok-clause-started
returns-in-Ok-clause-started g c told sound commits has can safe =
    let old : Past = g.D.Disk.past c.args.disk.now in
    let read : Past = g.D.Disk.past c.found.new.disk in
    let mid : Past = g.D.Disk.past c.synced_directory.new.disk in
    let same = c.in_ok-read.ensures.same told in
    let synced = c.in_ok-synced_directory.ensures in
    opens (record { log = c.in-Ok.log; tables = c.in_ok-tables.tables; txns = c.new.result }) old (g.D.Disk.past c.open.new.disk) commits
    can safe has
    (c.in_ok-tables.ensures.loads (reads old) (c.in_ok-read.ensures.read told))
    (c.in-Ok.ensures.stands commits told (commits_read old read mid commits has same (synced.as_before told)) (synced.settled told)
    (sound_now old mid (synced_stays old read mid same (synced.sound told)) sound))

pub returns-in-Ok-clause-any_moment : goal.returns-in-Ok-clause-any_moment
returns-in-Ok-clause-any_moment g c told commits has can =
    let old : Past = g.D.Disk.past c.args.disk.now in
    let read : Past = g.D.Disk.past c.found.new.disk in
    let mid : Past = g.D.Disk.past c.synced_directory.new.disk in
    let same = c.in_ok-read.ensures.same told in
    let synced = c.in_ok-synced_directory.ensures in
    opened_moments old read mid (g.D.Disk.past c.open.new.disk) commits same (synced.any_moment told)
    (c.in-Ok.ensures.any_moment commits told (commits_read old read mid commits has same (synced.as_before told)) (synced.settled told))

pub returns-in-Ok-clause-sound : goal.returns-in-Ok-clause-sound
returns-in-Ok-clause-sound g c told =
    opened_stays (g.D.Disk.past c.args.disk.now) (g.D.Disk.past c.found.new.disk)
    (g.D.Disk.past c.synced_directory.new.disk) (g.D.Disk.past c.open.new.disk)
    (c.in_ok-read.ensures.same told) (c.in_ok-synced_directory.ensures.sound told) (c.in-Ok.ensures.sound told)

pub returns-in-Ok-clause-unwritten : goal.returns-in-Ok-clause-unwritten
returns-in-Ok-clause-unwritten g c told items fit is =
    let old : Past = g.D.Disk.past c.args.disk.now in
    let read : Past = g.D.Disk.past c.found.new.disk in
    let mid : Past = g.D.Disk.past c.synced_directory.new.disk in
    let same = c.in_ok-read.ensures.same told in
    let synced = c.in_ok-synced_directory.ensures in
    untouched_log old read mid (g.D.Disk.past c.open.new.disk) same (synced.touches told)
    (ap g.D.Disk.past (c.in-Ok.ensures.trusted items told fit (same_log old read mid same (synced.as_before told) ∙ is)).1)

pub returns-in-Ok-clause-touches : goal.returns-in-Ok-clause-touches
returns-in-Ok-clause-touches g c told =
    opened_touched (g.D.Disk.past c.args.disk.now) (g.D.Disk.past c.found.new.disk)
    (g.D.Disk.past c.synced_directory.new.disk) (g.D.Disk.past c.open.new.disk)
    (c.in_ok-read.ensures.same told) (c.in_ok-synced_directory.ensures.touches told) (c.in-Ok.ensures.calls.touches told)

pub returns-in-Ok-clause-meaning : goal.returns-in-Ok-clause-meaning
returns-in-Ok-clause-meaning g c told name at broken =
    let files = reads (g.D.Disk.past c.args.disk.now) in
    let loads = c.in_ok-tables.ensures.loads files (c.in_ok-read.ensures.read told) in
    loaded_means files (database c.in_ok-tables.tables) name at loads broken

pub returns-in-Ok-clause-kept : goal.returns-in-Ok-clause-kept
returns-in-Ok-clause-kept g c told name at broken =
    let files = reads (g.D.Disk.past c.args.disk.now) in
    let loads = c.in_ok-tables.ensures.loads files (c.in_ok-read.ensures.read told) in
    absurd (loaded_means files (database c.in_ok-tables.tables) name at loads broken)

-- ---- the log could not be opened

pub returns-clause-failed : goal.returns-clause-failed
returns-clause-failed g c told commits has can =
    c.in-Err.ensures.kept commits told
    (commits_read (g.D.Disk.past c.args.disk.now) (g.D.Disk.past c.found.new.disk) (g.D.Disk.past c.synced_directory.new.disk) commits has
    (c.in_ok-read.ensures.same told) (c.in_ok-synced_directory.ensures.as_before told))

pub returns-clause-any_moment : goal.returns-clause-any_moment
returns-clause-any_moment g c told commits has can =
    let old : Past = g.D.Disk.past c.args.disk.now in
    let read : Past = g.D.Disk.past c.found.new.disk in
    let mid : Past = g.D.Disk.past c.synced_directory.new.disk in
    let same = c.in_ok-read.ensures.same told in
    let synced = c.in_ok-synced_directory.ensures in
    opened_moments old read mid (g.D.Disk.past c.open.new.disk) commits same (synced.any_moment told)
    (c.in-Err.ensures.any_moment commits told (commits_read old read mid commits has same (synced.as_before told)) (synced.settled told))

pub returns-clause-sound : goal.returns-clause-sound
returns-clause-sound g c told =
    opened_stays (g.D.Disk.past c.args.disk.now) (g.D.Disk.past c.found.new.disk)
    (g.D.Disk.past c.synced_directory.new.disk) (g.D.Disk.past c.open.new.disk)
    (c.in_ok-read.ensures.same told) (c.in_ok-synced_directory.ensures.sound told) (c.in-Err.ensures.sound told)

pub returns-clause-unwritten : goal.returns-clause-unwritten
returns-clause-unwritten g c told items fit is =
    let old : Past = g.D.Disk.past c.args.disk.now in
    let read : Past = g.D.Disk.past c.found.new.disk in
    let mid : Past = g.D.Disk.past c.synced_directory.new.disk in
    let same = c.in_ok-read.ensures.same told in
    let synced = c.in_ok-synced_directory.ensures in
    untouched_log old read mid (g.D.Disk.past c.open.new.disk) same (synced.touches told)
    (ap g.D.Disk.past (c.in-Err.ensures.trusted items told fit (same_log old read mid same (synced.as_before told) ∙ is)).1)

pub returns-clause-touches : goal.returns-clause-touches
returns-clause-touches g c told =
    opened_touched (g.D.Disk.past c.args.disk.now) (g.D.Disk.past c.found.new.disk)
    (g.D.Disk.past c.synced_directory.new.disk) (g.D.Disk.past c.open.new.disk)
    (c.in_ok-read.ensures.same told) (c.in_ok-synced_directory.ensures.touches told) (c.in-Err.ensures.calls.touches told)

pub returns-clause-kept : goal.returns-clause-kept
returns-clause-kept g c told name at broken =
    let files = reads (g.D.Disk.past c.args.disk.now) in
    let loads = c.in_ok-tables.ensures.loads files (c.in_ok-read.ensures.read told) in
    absurd (loaded_means files (database c.in_ok-tables.tables) name at loads broken)

pub returns-clause-calls : goal.returns-clause-calls
returns-clause-calls g c =
    start_calls c.in-Err.error c.open_error.result
    (c.in_ok-synced_directory.ensures.calls.answered (λ name is. absurd (cc is))
    ∙ c.in_ok-read.ensures.calls.answered (λ name is. absurd (cc is))) c.in-Err.ensures.calls.cause c.open_error.ensures.file

pub returns-clause-named : goal.returns-clause-named
returns-clause-named g c name is =
    let failed_is : c.open_error.result ≡ File name = cc is in
    c.in-Err.ensures.calls.named name (ap (λ e. Err e) ((c.open_error.ensures.file name).1 failed_is))

pub returns-in_err-synced_directory-clause-calls : goal.returns-in_err-synced_directory-clause-calls
returns-in_err-synced_directory-clause-calls g c =
    let p = err_from_is_err_and c.from_residual-in_err-synced_directory.result c.from_residual-in_err-synced_directory.ensures.1 in
    rw (p.1, p.2) (calls_as c.in_err-synced_directory.field-0.0 (c.in_ok-read.ensures.calls.answered (λ name is. absurd (cc is)))
    c.in_err-synced_directory.ensures.calls)

pub returns-in-Ok-clause-pends : goal.returns-in-Ok-clause-pends
returns-in-Ok-clause-pends g c =
    none_pends (record { log = c.in-Ok.log; tables = c.in_ok-tables.tables; txns = c.new.result }) c.new.ensures c.order_law.ensures
    c.key_law.ensures c.in_ok-tables.ensures.named
