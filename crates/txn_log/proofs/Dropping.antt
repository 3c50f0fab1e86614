-- PREVIOUS.LOG is taken away.
use Rattle.std.proofs.Common.{◌≡◌, ◌⊎◌, inl, inr, ℕ, false, List, [], length, Option, None, Result, OnOk, refl, sym, ◌∙◌, subst}
use Rattle.file_trait.specs.DiskModel.{Past, did, to_dir, remove, sync_dir, reads, Crashes}
use Rattle.file_trait.specs.Moments.{Moments}
use Rattle.file_trait.specs.Touched.{Touches}
use Rattle.file_trait.proofs.Images.{reads_image}
use Rattle.file_trait.proofs.Moments.{weaker, at_end}
use Rattle.disk_logs.specs.Crash.{IsSound}
use Rattle.disk_logs.specs.Logs.{IsLog}
use Rattle.disk_logs.specs.Rests.{IsGone, OldOrRemoved}
use Rattle.disk_logs.specs.declared.error.LogErr.{LogErr}
use Rattle.disk_logs.proofs.Both.{both}
use Rattle.disk_logs.proofs.Drafts.{others_read}
use Rattle.disk_logs.proofs.Removing.{removed_image}
use Rattle.db_model.specs.Commits.{CommitRecord}
use Rattle.txn_log.specs.Logs.{latest, previous, LogState, handle, Reads, TxnStands}
use Rattle.txn_log.specs.TwoLogs.{Drops, AreSound, BothStand, LogsStand, commits_of}
use Rattle.txn_log.proofs.Acts.{on_ok, made_handle}
use Rattle.txn_log.proofs.LogName.{latest_no_previous}
use Rattle.txn_log.proofs.TwoLogs.{previous_leaves, latest_leaves, latest_reads, latest_sound, spared_txn, txn_kept, together, whole_two, both_leaves, both_sound}

module _ {old new : Past} {log : LogState} {before : Option (List CommitRecord)} {after : List CommitRecord} {synced : ℕ} {name : List ℕ}
    (name_is : name ≡ previous) (h : BothStand old log before after synced) (touches : Touches (λ n. n ≡ name) old new)
    (images : Moments (OldOrRemoved old name) old new) where
  latest_moments : Moments (λ past. TxnStands past log after synced) old new
  latest_moments = txn_kept (λ n. n ≡ name) log after synced old new (λ is. latest_no_previous (is ∙ name_is)) touches h.in_latest

  latest_now : TxnStands new log after synced
  latest_now = at_end (λ past. TxnStands past log after synced) old new latest_moments

  abbrev removed_past : Past
  removed_past = did sync_dir (did (to_dir (remove previous)) old)

  latest_then : TxnStands removed_past log after synced
  latest_then = spared_txn (did (to_dir (remove previous)) old) sync_dir log after synced tt
      (spared_txn old (to_dir (remove previous)) log after synced (λ is. latest_no_previous (sym is)) h.in_latest)

  -- PREVIOUS.LOG is as it was, or not there
  either : (P : (List ℕ → Option (List ℕ)) → Type 0) → Crashes P old → Crashes (λ image. image previous ≡ None → P image) removed_past
      → Moments (Crashes P) old new
  either P first second =
      weaker (OldOrRemoved old previous) (Crashes P) old new
      (λ past moment image w. elim (moment image w) [
        | inl is ↦ first image is
        | inr is ↦ second image is (removed_image old previous image is)
      ])
      (subst (λ n. Moments (OldOrRemoved old n) old new) name_is images)

  pub drop_moments : Moments (Crashes (Drops (commits_of before) after synced)) old new
  drop_moments = either (Drops (commits_of before) after synced)
      (λ image is. inl (both_leaves old log before after synced h image is))
      (λ image is none. inr (together [] after synced image (inl (none, refl))
      (latest_leaves removed_past log after synced latest_then image is)))

  pub drop_reads : Drops (commits_of before) after (length after) (reads new)
  drop_reads = elim (at_end _ old new (either (λ image. Reads (commits_of before) (image previous) ⊎ (image previous ≡ None))
      (λ image is. inl (previous_leaves old before h.in_previous image is)) (λ image is none. inr none)) (reads new) (reads_image new)) [
        | inl has ↦ inl (whole_two (commits_of before) after (reads new) has (latest_reads new log after synced latest_now))
        | inr none ↦ inr (whole_two [] after (reads new) (inl (none, refl)) (latest_reads new log after synced latest_now))
      ]

  pub drop_sound : (IsSound old name → Moments (λ past. IsSound past name) old new) → Moments AreSound old new
  drop_sound given =
      let sound = both_sound old log before after synced h in
      weaker (λ past. TxnStands past log after synced × IsSound past previous) AreSound old new
      (λ past here. (latest_sound past log after synced here.0, here.1))
      (both (λ past. TxnStands past log after synced) (λ past. IsSound past previous) old new latest_moments
      (subst (λ n. Moments (λ past. IsSound past n) old new) name_is (given (subst (IsSound old) (sym name_is) sound.1))))

  pub drop_stands : (r : Result Unit LogErr) → OnOk r (IsGone new name) → OnOk r (LogsStand new log None after synced)
  drop_stands r = on_ok r (λ gone. inl (record { in_previous = subst (IsGone new) name_is gone; in_latest = latest_now }))

-- the file of the log that is left
pub drop_log : {old new : Past} {name : List ℕ} (log : LogState) → log.waits ≡ false → name ≡ previous → Touches (λ n. n ≡ name) old new
    → IsLog old (handle log) → IsLog new (handle log)
drop_log {old = old} {new = new} {name = name} log made name_is touches here =
    subst (IsLog new) (sym (made_handle log made))
    (let (all, is) = subst (IsLog old) (made_handle log made) here in
    (all, others_read (λ n. n ≡ name) old new touches latest (λ at. latest_no_previous (at ∙ name_is)) ∙ is))
