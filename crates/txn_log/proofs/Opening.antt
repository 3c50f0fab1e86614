-- The log that was read is opened.
use Rattle.std.proofs.Common.{◌≡◌, ◌⊎◌, ℕ, ◌+◌, List, ◌++◌, length, Bool, true, false, not, Some, Ok, Err, refl, sym, ap, ◌∙◌, subst, inl, inr, arith}
use Rattle.file_trait.specs.DiskModel.{Past, reads, IsSettled}
use Rattle.file_trait.specs.Calls.{Has}
use Rattle.file_trait.specs.Moments.{Moments}
use Rattle.file_trait.specs.Touched.{Touches}
use Rattle.file_trait.proofs.Moments.{weaker}
use Rattle.log_items.specs.Items.{wire, log_bytes, HasItems}
use Rattle.log_items.proofs.Unique.{behind_head, same_head}
use Rattle.disk_logs.specs.Crash.{Stands, IsSound, OldOrItems}
use Rattle.disk_logs.specs.Logs.{Handle, FileRead, draft_name, IsRead, IsLog}
use Rattle.disk_logs.specs.declared.error.LogErr.{LogErr}
use Rattle.db_model.specs.Commits.{CommitRecord}
use Rattle.txn_log.specs.Commits.{AreItemsOf}
use Rattle.txn_log.specs.Logs as here
use Rattle.txn_log.specs.Logs.{latest, LogState, Reads, OldOrCommits, IsLogName}
use Rattle.txn_log.specs.Opens.{Opens}
use Rattle.txn_log.proofs.Acts.{reads_whole, touches_more, txn_synced, made_handle}
use Rattle.txn_log.proofs.CommitLists.{count_items, items_are}

-- ---- it was read

not_false : (b : Bool) → not b ≡ true → b ≡ false
not_false true is = absurd (cc)
not_false false is = refl

-- what was done to the log that was read: at each moment a crash leaves what it could leave before, or exactly its items
pub record Resumes (old new : Past) (name : List ℕ) (read : FileRead) : Type 0 where
  pub any_moment : IsSettled old name → Moments (OldOrItems old name read.items) old new
  pub sound : IsSound old name → Moments (λ past. IsSound past name) old new
  pub touches : Touches (λ n. (n ≡ name) ⊎ (n ≡ draft_name name)) old new

module _ (old : Past) (read : FileRead) (whole : IsRead read) (there : reads old latest ≡ Some read.bytes) where
  -- its items are those of the commits that it reads as
  are_items : (commits : List CommitRecord) → Reads commits (reads old latest) → AreItemsOf commits read.items
  are_items commits = items_are read (reads old latest) commits whole there

  -- a mark that says closed was read so
  pub was_closed : (items : List (List ℕ)) → reads old latest ≡ Some (log_bytes true items) → read.was_open ≡ false
  was_closed items closed =
      let both : Some read.bytes ≡ Some (log_bytes true items) = sym there ∙ closed in
      let same : read.bytes ≡ log_bytes true items = cc in
      let bytes = sym (behind_head read.bytes (not read.was_open) read.items whole.rest whole.is) ∙ same in
      not_false read.was_open (same_head (not read.was_open) true (wire read.items ++ whole.rest) (wire items) bytes).0

  module _ (new : Past) (own : List ℕ) (own_is : own ≡ latest) (resumes : Resumes old new own read) where
    at_latest : Resumes old new latest read
    at_latest = subst (λ name. Resumes old new name read) own_is resumes

    commit_moments : (commits : List CommitRecord) → Reads commits (reads old latest) → IsSettled old latest
        → Moments (OldOrCommits old commits) old new
    commit_moments commits has settled =
        weaker (OldOrItems old latest read.items) (OldOrCommits old commits) old new
        (λ past moment image w. elim (moment image w) [
          | inl before ↦ inl before
          | inr now ↦ inr (inr (now.0, now.1, (read.items, are_items commits has, now.2)))
        ])
        (at_latest.any_moment settled)

    log_touches : Touches IsLogName old new
    log_touches = touches_more (λ n. (n ≡ latest) ⊎ (n ≡ draft_name latest)) IsLogName old new (λ name at. at) at_latest.touches

    -- it could not be resumed
    pub not_resumed : (error : LogErr) → Has new own (λ left. HasItems left read.items)
        → Opens old new (Err error)
    not_resumed error kept = record {
      log = tt;
      opened = λ commits has. tt;
      kept = λ commits has.
          let left = subst (λ name. Has new name (λ left. HasItems left read.items)) own_is kept in
          inr (left.0, left.1, (read.items, are_items commits has, left.2));
      stands = λ commits has settled sound. tt;
      any_moment = commit_moments;
      sound = at_latest.sound;
      touches = log_touches;
    }

    -- it was resumed
    pub resumed : (state : LogState) (log : Handle) → state.waits ≡ false → state.commits + 1 ≡ length read.items
        → log ≡ here.at_latest state
        → log ≡ record { name = own; draft = false; closed = true }
        → reads new own ≡ Some (log_bytes true read.items)
        → (IsSettled old own → IsSound old own → Stands new log read.items (length read.items))
        → Opens old new (Ok state)
    resumed state log made number log_is is reads_own stands = record {
      log = subst (IsLog new) (sym (made_handle state made)) (
        read.items,
        reads_now ∙ ap (λ b. Some (log_bytes b read.items))
            (sym is_closed),
      );
      opened = λ commits has. (count commits has, reads_whole true new commits read.items (are_items commits has) whole.fit reads_now);
      kept = λ commits has. tt;
      stands = λ commits has settled sound.
          txn_synced new log state commits read.items made log_is (count commits has) (are_items commits has)
          (stands (subst (IsSettled old) (sym own_is) settled) (subst (IsSound old) (sym own_is) sound));
      any_moment = commit_moments;
      sound = at_latest.sound;
      touches = log_touches;
    }
      where
        is_closed : state.closed ≡ true
        is_closed = ap (λ (l : Handle). l.closed) (sym log_is ∙ is)

        reads_now : reads new latest ≡ Some (log_bytes true read.items)
        reads_now = ap (reads new) (sym own_is) ∙ reads_own

        count : (commits : List CommitRecord) → Reads commits (reads old latest) → state.commits ≡ length commits
        count commits has = let size = count_items commits read.items (are_items commits has) in omega (arith, number, size)
