-- The calls that do nothing to a log which waits for its file.
use Rattle.std.proofs.Common.{◌≡◌, inl, inr, ℕ, Bool, true, false, List, length, Option, Some, Result, Ok, Err, OnOk, OnErr, sym, ap, ◌∙◌, subst}
use Rattle.std.specs.Prelude.{IsErrOf}
use Rattle.std.proofs.lemmas.Bool.{cases_Bool}
use Rattle.file_trait.specs.DiskModel.{Past, reads}
use Rattle.file_trait.specs.declared.disk.Disk.{Ghosts}
use Rattle.file_trait.specs.DiskModel.{Crashes}
use Rattle.file_trait.specs.Moments.{Moments}
use Rattle.file_trait.specs.Touched.{Touches}
use Rattle.file_trait.proofs.Moments.{none_done}
use Rattle.file_trait.proofs.Touched.{untouched}
use Rattle.disk_logs.specs.Crash.{IsSound}
use Rattle.db_model.specs.Commits.{CommitRecord}
use Rattle.disk_logs.specs.Calls.{LogCalls}
use Rattle.log_items.specs.Items.{log_bytes}
use Rattle.disk_logs.specs.Logs.{Handle, file_of, with_mark, IsLog, HasMarked}
use Rattle.disk_logs.specs.declared.error.LogErr.{LogErr}
use Rattle.disk_logs.specs.declared.error.LogErr.TheVariants.{Memory}
use Rattle.txn_log.specs.Logs.{latest, LogState, at_latest, at_previous, handle, Reads, TxnStands, Leaves}
use Rattle.txn_log.specs.TwoLogs.{TwoLogs, AreSound, LogWaits, LogsStand, commits_of}
use Rattle.txn_log.proofs.Acts.{on_ok, any_ok, touches_latest, touches_log, held_at, made_handle, waits_handle, close_logs}
use Rattle.txn_log.proofs.TwoLogs.{latest_reads, logs_leave, logs_read, logs_sound, beside_moments, beside_sound, beside_stands, beside_reads}

-- a log that waits is closed, and no draft
pub waits_closed : (log : Handle) (state : LogState) → log ≡ handle state → state.waits ≡ true → log ≡ at_previous
waits_closed log state is waits = is ∙ waits_handle state waits

-- and where a call does nothing to a closed log, it does nothing to it
pub waits_nothing : (log : Handle) (state : LogState) (P : Type 0) → log ≡ handle state
    → (log.closed ≡ true → log.draft ≡ false → P) → state.waits ≡ true → P
waits_nothing log state P is nothing waits =
    let at = waits_closed log state is waits in nothing (ap (λ (l : Handle). l.closed) at) (ap (λ (l : Handle). l.draft) at)

-- a log is seen by its mark
abbrev pub state_of : ℕ → Bool → Handle → LogState
state_of commits waits log = record { commits = commits; closed = log.closed; waits = waits }

pub same_state : (commits : ℕ) (waits : Bool) (log now : Handle) (was : LogState) → now.closed ≡ log.closed
    → state_of commits waits log ≡ was → state_of commits waits now ≡ was
same_state commits waits log now was same is =
    ap (λ closed. state_of commits waits (record { name = latest; draft = false; closed = closed })) same ∙ is

-- what a call owes whose file is the log's, where it does nothing to a log that is closed
module _ {D : Type 0} (g : Ghosts D) (old new : D) (log : Handle) (state : LogState) (Only : Result (Unit {0}) LogErr → Type 0)
    (result : Result (Unit {0}) LogErr) (is : log ≡ handle state)
    (nothing : log.closed ≡ true → log.draft ≡ false → (result ≡ Ok tt) × (new ≡ old))
    (calls : LogCalls g old new (λ n. n ≡ file_of log) Only result) where
  waiting_calls : state.waits ≡ true → LogCalls g old new (λ n. n ≡ latest) Only result
  waiting_calls waits =
      let none = waits_nothing log state _ is nothing waits in
      record {
        touches = λ told. untouched (λ n. n ≡ latest) _ _ (ap g.past none.1);
        time = calls.time;
        named = λ name failed. absurd (cc (none.0, failed));
        only = calls.only;
        cause = calls.cause;
      }

  made_calls : state.waits ≡ false → LogCalls g old new (λ n. n ≡ latest) Only result
  made_calls made =
      let file = ap file_of (held_at state is made) in
      record {
        touches = λ told. touches_latest _ _ _ file (calls.touches told);
        time = calls.time;
        named = λ name failed. calls.named name failed ∙ file;
        only = calls.only;
        cause = calls.cause;
      }

  pub latest_calls : LogCalls g old new (λ n. n ≡ latest) Only result
  latest_calls = elim (cases_Bool state.waits) [ inl waits ↦ waiting_calls waits | inr made ↦ made_calls made ]

-- a close for which memory was wanting leaves the log's file
pub close_wanted : (r : Result Unit LogErr) (old new : Past) (log now : Handle) (was : LogState) (commits : ℕ) (waits : Bool)
    → waits ≡ was.waits → log ≡ handle was → (log.closed ≡ true → r ≡ Ok tt) → IsLog old (handle was) → IsErrOf r Memory
    → (IsErrOf r Memory → now ≡ log)
    → ((all : List (List ℕ)) → reads old (file_of log) ≡ Some (log_bytes log.closed all)
    → HasMarked r log.closed true all (reads new (file_of log))) → IsLog new (handle (state_of commits waits now))
close_wanted r old new log now was commits waits same is nothing here wanted kept given = elim (cases_Bool was.waits) [
  | inl waiting ↦ absurd (cc (nothing (ap (λ (l : Handle). l.closed) (waits_closed log was is waiting)), wanted))
  | inr made ↦
      subst (IsLog new) (sym (made_handle (state_of commits waits now) (same ∙ made)))
      (close_logs r old new log now was (held_at was is made) (subst (IsLog old) (made_handle was made) here) wanted kept given)
]

-- one that was done leaves it too
marked_log : (r : Result Unit LogErr) (new : Past) (log now : Handle) (was : LogState) (all : List (List ℕ)) → log ≡ at_latest was
    → OnOk r (now ≡ with_mark true log) → HasMarked r log.closed true all (reads new (file_of log))
    → OnOk r ((all : List (List ℕ)) × (reads new latest ≡ Some (log_bytes now.closed all)))
marked_log (Ok done) new log now was all is marked has =
    (all, ap (reads new) (sym (ap file_of is)) ∙ has ∙ ap (λ (l : Handle). Some (log_bytes l.closed all)) (sym marked))
marked_log (Err error) new log now was all is marked has = tt

pub close_log : (r : Result Unit LogErr) (old new : Past) (log now : Handle) (was : LogState) (commits : ℕ) (waits : Bool)
    → waits ≡ was.waits → log ≡ handle was → (was.waits ≡ true → (new ≡ old) × (state_of commits waits now ≡ was))
    → IsLog old (handle was) → OnOk r (now ≡ with_mark true log)
    → ((all : List (List ℕ)) → reads old (file_of log) ≡ Some (log_bytes log.closed all)
    → HasMarked r log.closed true all (reads new (file_of log))) → OnOk r (IsLog new (handle (state_of commits waits now)))
close_log r old new log now was commits waits same is nothing here marked given = elim (cases_Bool was.waits) [
  | inl waiting ↦
      any_ok r (subst (λ (l : LogState). IsLog new (handle l)) (sym (nothing waiting).1)
      (subst (λ past. IsLog past (handle was)) (sym (nothing waiting).0) here))
  | inr made ↦
      let (all, reads_so) = subst (IsLog old) (sym is) here in
      subst (λ l. OnOk r (IsLog new l)) (sym (made_handle (state_of commits waits now) (same ∙ made)))
      (marked_log r new log now was all (held_at was is made) marked (given all reads_so))
]

-- a log that is read as it was
pub same_log : (old new : Past) (log : Handle) → IsLog old log → ((other : List ℕ) → reads new other ≡ reads old other) → IsLog new log
same_log old new log (all, here) same = (all, same (file_of log) ∙ here)

pub either_reads : (new : Past) (now : LogState) (after : List CommitRecord) (synced : ℕ) (r : Result Unit LogErr)
    → OnOk r (TxnStands new now after synced) → OnErr r (Reads after (reads new latest)) → Reads after (reads new latest)
either_reads new now after synced (Ok x) stands left = latest_reads new now after synced stands
either_reads new now after synced (Err e) stands left = left

-- ---- a call on both logs that does nothing to the one which waits

module _ {old new : Past} {log now : LogState} {before : Option (List CommitRecord)} {after : List CommitRecord} {synced : ℕ}
    (logs : LogsStand old log before after synced) (touches : Touches (λ n. n ≡ latest) old new)
    (waiting : log.waits ≡ true → (new ≡ old) × (now ≡ log)) where
  pub call_moments : (TxnStands old log after synced → Moments (Leaves after synced) old new)
      → Moments (Crashes (TwoLogs (commits_of before) after synced)) old new
  call_moments given = elim logs [
    | inl both ↦ beside_moments before (touches_log old new touches) both.in_previous after synced (given both.in_latest)
    | inr (commits, b, a, z, w) ↦ none_done _ old new (waiting w.waits).0
        (logs_leave old log before after synced (inr (commits, b, a, z, w)))
  ]

  pub call_sound : (TxnStands old log after synced → Moments (λ past. IsSound past latest) old new) → Moments AreSound old new
  call_sound given = elim logs [
    | inl both ↦ beside_sound before (touches_log old new touches) both.in_previous (given both.in_latest)
    | inr (commits, b, a, z, w) ↦ none_done AreSound old new (waiting w.waits).0
        (logs_sound old log before after synced (inr (commits, b, a, z, w)))
  ]

  pub call_reads : (TxnStands old log after synced → Reads after (reads new latest))
      → TwoLogs (commits_of before) after (length after) (reads new)
  call_reads given = elim logs [
    | inl both ↦ beside_reads before (touches_log old new touches) both.in_previous after (given both.in_latest)
    | inr (commits, b, a, z, w) ↦
        subst (λ past. TwoLogs (commits_of before) after (length after) (reads past)) (sym (waiting w.waits).0)
        (logs_read old log before after synced (inr (commits, b, a, z, w)))
  ]

  still_waits : (commits : List CommitRecord) → LogWaits old log commits → LogWaits new now commits
  still_waits commits w =
      subst (λ (l : LogState). LogWaits new l commits) (sym (waiting w.waits).1)
      (subst (λ past. LogWaits past log commits) (sym (waiting w.waits).0) w)

  pub call_kept : (TxnStands old log after synced → TxnStands new now after synced) → LogsStand new now before after synced
  call_kept given = elim logs [
    | inl both ↦ beside_stands before (touches_log old new touches) both.in_previous now after synced (given both.in_latest)
    | inr (commits, b, a, z, w) ↦ inr (commits, b, a, z, still_waits commits w)
  ]

  pub call_synced : (r : Result Unit LogErr) → (TxnStands old log after synced → OnOk r (TxnStands new now after (length after)))
      → OnOk r (LogsStand new now before after (length after))
  call_synced r given = elim logs [
    | inl both ↦
        on_ok r (beside_stands before (touches_log old new touches) both.in_previous now after (length after))
        (given both.in_latest)
    | inr (commits, b, a, z, w) ↦ any_ok r (inr (commits, b, a, ap length a, still_waits commits w))
  ]

-- ---- a call that was made ready for, where nothing was done before

pub begun : (old mid : Past) (log now : LogState) (commits : List CommitRecord) (synced : ℕ) → now ≡ log → mid ≡ old
    → TxnStands old log commits synced → TxnStands mid now commits synced
begun old mid log now commits synced same still h =
    subst (λ past. TxnStands past now commits synced) (sym still) (subst (λ (l : LogState). TxnStands old l commits synced) (sym same) h)

pub from_start : (P : Past → Type 0) (old mid new : Past) → mid ≡ old → Moments P mid new → Moments P old new
from_start P old mid new still h = subst (λ past. Moments P past new) still h
