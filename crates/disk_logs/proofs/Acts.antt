-- What the calls of a disk do to a log, at each moment.
use Rattle.std.proofs.Common.{◌≡◌, inl, inr, ℕ, ◌≤◌, Bool, true, false, List, ◌++◌, length, take, Some, Result, Ok, Err, OnOk, refl, sym}
use Rattle.std.proofs.Common.{subst, arith, length-append}
use Rattle.std.proofs.Math.Seq.{take-length}
use Rattle.std.proofs.lemmas.List.{take-append-le}
use Rattle.file_trait.specs.declared.disk.DiskErr.{DiskErr}
use Rattle.file_trait.specs.declared.disk.DiskErr.TheVariants.{Failed, Memory}
use Rattle.file_trait.specs.DiskModel.{Past, did, to_file, sync, sync_failed, append, mark, reads}
use Rattle.file_trait.specs.Calls.{IsDurable, IsSureOf, Appended, Synced}
use Rattle.file_trait.specs.Moments.{Moments}
use Rattle.file_trait.proofs.Changes.{sync_failed_adds_none}
use Rattle.file_trait.proofs.Files.{file_changed}
use Rattle.file_trait.proofs.Moments.{none_done, one_done, then_done}
use Rattle.log_items.specs.Items.{wire, log_bytes, AreContents, HasItems}
use Rattle.disk_logs.specs.declared.error.LogErr.{LogErr}
use Rattle.disk_logs.specs.declared.error.LogErr.TheVariants.{File, Bad, TooLong}
use Rattle.disk_logs.specs.Logs.{mark_bytes, SetsMark}
use Rattle.disk_logs.specs.Crash.{HasPrefix, LogStands, IsSound, LogLeaves, IsSafe}
use Rattle.disk_logs.proofs.Runs.{has_fewer}
use Rattle.disk_logs.proofs.Sound.{open_sound, stands_sound}
use Rattle.disk_logs.proofs.Standing.{stands_leaves, appended, part_appended, all_synced, was_synced, synced_durable, sure_synced}
use Rattle.disk_logs.proofs.Standing.{sure_changed, not_synced, at_least, closed, opening_leaves, opening_read, opening_sure, opened}
use Rattle.disk_logs.proofs.Standing.{opened_traceless, fewer_synced}

leaves_more : (name : List ℕ) (items more : List (List ℕ)) (synced : ℕ) (past : Past) → LogLeaves name items synced past
    → LogLeaves name (items ++ more) synced past
leaves_more name items more synced past h image w = let r = h image w in (r.0, r.1, grown r.0 r.2)
  where
    grown : (bytes : List ℕ) → HasPrefix items synced bytes → HasPrefix (items ++ more) synced bytes
    grown bytes (n, low, high, is) =
        (n, low, omega (arith, high, length-append items more), subst (HasItems bytes) (sym (take-append-le n items more high)) is)

pub safe_more : (name : List ℕ) (items more : List (List ℕ)) (synced : ℕ) (past : Past) → IsSafe name items synced past
    → IsSafe name (items ++ more) synced past
safe_more name items more synced past (leaves, sound) = (leaves_more name items more synced past leaves, sound)

-- a log that stands, with at least so many items synced
pub safe : (past : Past) (name : List ℕ) (closed : Bool) (items : List (List ℕ)) (synced less : ℕ) → less ≤ synced
    → LogStands past name closed items synced → IsSafe name items less past
safe past name closed items synced less le h =
    let now = fewer_synced past name closed items synced less le h in
    (stands_leaves past name closed items less now, stands_sound past name closed items less now)

-- ---- each call, with each answer

pub sync_each : (P : Past → Type 0) (name : List ℕ) (r : Result Unit DiskErr) (old new : Past) → P old → P (did (sync name) old)
    → P (did (sync_failed name) old) → Synced name r old new → Moments P old new
sync_each P name (Ok x) old new before done failed (inl is) = one_done P (sync name) old new is before done
sync_each P name (Ok x) old new before done failed (inr (is, durable)) = none_done P old new is before
sync_each P name (Err Failed) old new before done failed (inl is) = none_done P old new is before
sync_each P name (Err Failed) old new before done failed (inr (inl is)) = one_done P (sync name) old new is before done
sync_each P name (Err Failed) old new before done failed (inr (inr is)) = one_done P (sync_failed name) old new is before failed
sync_each P name (Err Memory) old new before done failed never = absurd never

append_each : (P : Past → Type 0) (name bytes : List ℕ) (r : Result Unit DiskErr) (old new : Past) → P old
    → ((k : ℕ) → P (did (to_file name (append (take k bytes))) old)) → Appended name bytes r old new → Moments P old new
append_each P name bytes (Ok x) old new before part is =
    one_done P (to_file name (append bytes)) old new is before
    (subst (λ b. P (did (to_file name (append b)) old)) (take-length bytes) (part (length bytes)))
append_each P name bytes (Err Failed) old new before part (inl is) = none_done P old new is before
append_each P name bytes (Err Failed) old new before part (inr (k, le, is)) =
    one_done P (to_file name (append (take k bytes))) old new is before (part k)
append_each P name bytes (Err Memory) old new before part is = none_done P old new is before

module _ (P : Past → Type 0) (name : List ℕ) (closed : Bool) (old new : Past) where
  abbrev pub marked : Past
  marked = did (to_file name (mark (mark_bytes closed))) old

  then_synced : (r : Result Unit DiskErr) → P old → P marked → P (did (sync name) marked) → P (did (sync_failed name) marked)
      → Synced name r marked new → Moments P old new
  then_synced r before set done failed is =
      then_done P old marked new (one_done P (to_file name (mark (mark_bytes closed))) old marked refl before set)
      (sync_each P name r marked new set done failed is)

  set_each : (r : Result Unit LogErr) → P old → P marked → P (did (sync name) marked) → P (did (sync_failed name) marked)
      → SetsMark name closed r old new → Moments P old new
  set_each (Ok x) before set done failed is = then_synced (Ok tt) before set done failed is
  set_each (Err (File at)) before set done failed (inl is) = none_done P old new is before
  set_each (Err (File at)) before set done failed (inr is) = then_synced (Err Failed) before set done failed is
  set_each (Err (Bad at place)) before set done failed never = absurd never
  set_each (Err TooLong) before set done failed never = absurd never
  set_each (Err LogErr.Memory) before set done failed is = none_done P old new is before

-- ---- a sync

module _ (name : List ℕ) (closed : Bool) (items : List (List ℕ)) (synced : ℕ) (old new : Past)
    (h : LogStands old name closed items synced) where
  pub sync_moments : (r : Result Unit DiskErr) → Synced name r old new → Moments (λ past. LogStands past name closed items synced) old new
  sync_moments r done =
      sync_each (λ past. LogStands past name closed items synced) name r old new h (at_least old name name closed items synced h)
      (not_synced old name closed items synced h name) done

  -- where it is sure and answered well, all is durable
  pub sync_all : (x : Unit {0}) → IsSureOf old name → Synced name (Ok x) old new
      → LogStands new name closed items (length items) × IsSureOf new name × IsDurable new name
  sync_all x sure (inl is) = (
    subst (λ p. LogStands p name closed items (length items)) (sym is) (all_synced old name closed items synced h sure),
    subst (λ p. IsSureOf p name) (sym is) (sure_synced old name sure),
    subst (λ p. IsDurable p name) (sym is) (synced_durable old name sure),
  )
  sync_all x sure (inr (is, durable)) = (
    subst (λ p. LogStands p name closed items (length items)) (sym is) (was_synced old name closed items synced h durable),
    subst (λ p. IsSureOf p name) (sym is) sure,
    subst (λ p. IsDurable p name) (sym is) durable,
  )

-- ---- an append to an open log

module _ (name : List ℕ) (items more : List (List ℕ)) (synced : ℕ) (old new : Past) (fit : AreContents more)
    (h : LogStands old name false items synced) where
  pub append_ok : (x : Unit {0}) → Appended name (wire more) (Ok x) old new → LogStands new name false (items ++ more) synced
  append_ok x is = subst (λ p. LogStands p name false (items ++ more) synced) (sym is) (appended old name items more synced fit h)

  pub append_moments : (r : Result Unit DiskErr) → Appended name (wire more) r old new
      → Moments (IsSafe name (items ++ more) synced) old new
  append_moments r done =
      append_each (IsSafe name (items ++ more) synced) name (wire more) r old new
      (safe_more name items more synced old (safe old name false items synced synced (omega arith) h))
      (λ k. (part_appended old name items more synced fit h k, still_open k)) done
    where
      still_open : (k : ℕ) → IsSound (did (to_file name (append (take k (wire more)))) old) name
      still_open k = open_sound (did (to_file name (append (take k (wire more)))) old) name (wire items ++ take k (wire more))
          (file_changed old name (append (take k (wire more))) (log_bytes false items) h.read)

-- ---- a mark, set over a log that is closed or durable, and synced

module _ (name : List ℕ) (items : List (List ℕ)) (synced : ℕ) (old new : Past) (h : LogStands old name true items synced) where
  abbrev marked_open : Past
  marked_open = did (to_file name (mark (mark_bytes false))) old

  pub opening_ok : (r : Result Unit LogErr) → SetsMark name false r old new
      → OnOk r (LogStands new name false items synced × IsSureOf new name)
  opening_ok (Ok x) (inl is) = (
    subst (λ p. LogStands p name false items synced) (sym is)
        (fewer_synced _ name false items (length items) synced h.within (opened old name items synced h)),
    subst (λ p. IsSureOf p name) (sym is) (sure_synced marked_open name (opening_sure old name items synced h)),
  )
  opening_ok (Ok x) (inr (is, durable)) = (
    subst (λ p. LogStands p name false items synced) (sym is)
        (fewer_synced marked_open name false items (length items) synced h.within (opened_traceless old name items synced h durable)),
    subst (λ p. IsSureOf p name) (sym is) (opening_sure old name items synced h),
  )
  opening_ok (Err e) done = tt

  pub opening_moments : (r : Result Unit LogErr) → SetsMark name false r old new → Moments (IsSafe name items synced) old new
  opening_moments r done =
      set_each (IsSafe name items synced) name false old new r (safe old name true items synced synced (omega arith) h)
      (marked_leaves, reads_open marked_open read)
      (safe (did (sync name) marked_open) name false items (length items) synced h.within (opened old name items synced h)) (
        (λ image w. marked_leaves image (sync_failed_adds_none marked_open name image w)),
        reads_open (did (sync_failed name) marked_open) read,
      ) done
    where
      read : reads marked_open name ≡ Some (log_bytes false items)
      read = opening_read old name items synced h

      reads_open : (past : Past) → reads past name ≡ Some (log_bytes false items) → IsSound past name
      reads_open past is = open_sound past name (wire items) is

      marked_leaves : LogLeaves name items synced marked_open
      marked_leaves image w = let r = opening_leaves old name items synced h image w in
          (r.0, r.1, has_fewer items (length items) synced r.0 h.within r.2)

module _ (name : List ℕ) (items : List (List ℕ)) (synced : ℕ) (old new : Past) (h : LogStands old name false items synced)
    (durable : IsDurable old name) where
  abbrev marked_closed : Past
  marked_closed = did (to_file name (mark (mark_bytes true))) old

  now_closed : LogStands marked_closed name true items (length items)
  now_closed = closed old name items synced h durable

  pub closing_ok : (r : Result Unit LogErr) → IsSureOf old name → SetsMark name true r old new
      → OnOk r (LogStands new name true items (length items) × IsDurable new name)
  closing_ok (Ok x) sure done =
      let all = sync_all name true items (length items) marked_closed new now_closed tt
      (sure_changed old name (mark (mark_bytes true)) sure) done in (all.0, all.2)
  closing_ok (Err e) sure done = tt

  pub closing_moments : (r : Result Unit LogErr) → SetsMark name true r old new → Moments (IsSafe name items synced) old new
  closing_moments r done =
      set_each (IsSafe name items synced) name true old new r (safe old name false items synced synced (omega arith) h)
      (safe marked_closed name true items (length items) synced h.within now_closed)
      (safe (did (sync name) marked_closed) name true items (length items) synced h.within
      (at_least marked_closed name name true items (length items) now_closed))
      (safe (did (sync_failed name) marked_closed) name true items (length items) synced h.within
      (not_synced marked_closed name true items (length items) now_closed name)) done
