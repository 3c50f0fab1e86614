-- A file of a table is taken away.
use Rattle.std.proofs.Common.{◌≡◌, inl, inr, ℕ, List, Option, None, refl, sym, subst}
use Rattle.file_trait.specs.DiskModel.{Past, did, to_dir, remove, sync_dir, Crashes}
use Rattle.file_trait.specs.Moments.{Moments}
use Rattle.file_trait.specs.Touched.{Touches}
use Rattle.file_trait.proofs.Moments.{then_done, weaker, at_end}
use Rattle.file_trait.proofs.Touched.{touched, then_touched}
use Rattle.disk_logs.specs.Crash.{IsSound}
use Rattle.disk_logs.specs.Rests.{IsGone, Rests, OldOrRemoved}
use Rattle.disk_logs.proofs.Both.{both}
use Rattle.disk_logs.proofs.Frames.{sound_other}
use Rattle.disk_logs.proofs.Removing.{removed_image}
use Rattle.disk_logs.proofs.Resting.{rests_leaves, rests_kept}
use Rattle.store_files.specs.Names.{dcd_of, dcl_of}
use Rattle.store_files.specs.Pairs.{TableFiles, changes_alone, no_files, ChangesStand, FilesStand, AreSound, FilesHave, IsRemoved}
use Rattle.store_files.proofs.PairFacts.{changes_kept, changes_leave, files_leave}
use Rattle.store_files.proofs.PairNames.{dcl_no_dcd, dcd_no_dcl}

-- once a file is
abbrev taken_at : List ℕ → Past → Past
taken_at name past = did sync_dir (did (to_dir (remove name)) past)

to_taken : (old : Past) (name : List ℕ) → Touches (λ n. n ≡ name) old (taken_at name old)
to_taken old name =
    then_touched (λ n. n ≡ name) old _ (taken_at name old) (touched (λ n. n ≡ name) _ old _ refl refl)
    (touched (λ n. n ≡ name) sync_dir _ _ refl tt)

-- the records are left
abbrev pub without_changes : TableFiles → TableFiles
without_changes files = record { records = files.records; changes = None }

-- ---- the ops

module _ (old : Past) (table : List ℕ) (files : TableFiles) (h : FilesStand old table files) (new : Past) where
  records_at : (to : Past) → Touches (λ n. n ≡ dcl_of table) old to → Rests to (dcd_of table) files.records
  records_at to t = at_end (λ past. Rests past (dcd_of table) files.records) old to
      (rests_kept (λ n. n ≡ dcl_of table) (dcd_of table) files.records old to (λ is. dcd_no_dcl table table (inl is)) t h.0)

  pub taking_changes : (P : (List ℕ → Option (List ℕ)) → Type 0)
      → ((image : List ℕ → Option (List ℕ)) → FilesHave table files image → P image)
      → ((image : List ℕ → Option (List ℕ)) → FilesHave table (without_changes files) image → P image)
      → Moments (OldOrRemoved old (dcl_of table)) old new → Moments (Crashes P) old new
  taking_changes P first second =
      weaker (OldOrRemoved old (dcl_of table)) (Crashes P) old new
      (λ past moment image w. elim (moment image w) [
        | inl before ↦ first image (files_leave old table files h image before)
        | inr is ↦ second image (
          rests_leaves (taken_at (dcl_of table) old) (dcd_of table) files.records
              (records_at (taken_at (dcl_of table) old) (to_taken old (dcl_of table))) image is,
          removed_image old (dcl_of table) image is,
        )
      ])

  pub without_stands : Touches (λ n. n ≡ dcl_of table) old new → IsGone new (dcl_of table) → FilesStand new table (without_changes files)
  without_stands touches gone = (records_at new touches, gone)

pub taking_changes_sound : (old new : Past) (table : List ℕ) → Touches (λ n. n ≡ dcl_of table) old new → AreSound table old
    → Moments (λ past. IsSound past (dcl_of table)) old new → Moments (AreSound table) old new
taking_changes_sound old new table touches sound second =
    both (λ past. IsSound past (dcd_of table)) (λ past. IsSound past (dcl_of table)) old new
    (sound_other (dcl_of table) (dcd_of table) old new (λ is. dcl_no_dcd table table (inl is)) touches sound.0) second

-- ---- the records

module _ (old : Past) (table : List ℕ) (files : TableFiles) (h : FilesStand old table files) (new : Past) where
  changes_at : (to : Past) → Touches (λ n. n ≡ dcd_of table) old to → ChangesStand to (dcl_of table) files.changes
  changes_at to t = at_end (λ past. ChangesStand past (dcl_of table) files.changes) old to
      (changes_kept (λ n. n ≡ dcd_of table) (dcl_of table) files.changes old to (λ is. dcl_no_dcd table table (inl is)) t h.1)

  pub taking_records : Moments (OldOrRemoved old (dcd_of table)) old new → Moments (Crashes (IsRemoved table files)) old new
  taking_records =
      weaker (OldOrRemoved old (dcd_of table)) (Crashes (IsRemoved table files)) old new
      (λ past moment image w. elim (moment image w) [
        | inl before ↦ inl (files_leave old table files h image before)
        | inr is ↦ inr (inl (
          removed_image old (dcd_of table) image is,
          changes_leave (taken_at (dcd_of table) old) (dcl_of table) files.changes
              (changes_at (taken_at (dcd_of table) old) (to_taken old (dcd_of table))) image is,
        ))
      ])

  pub alone_stands : Touches (λ n. n ≡ dcd_of table) old new → IsGone new (dcd_of table) → FilesStand new table (changes_alone files)
  alone_stands touches gone = (gone, changes_at new touches)

pub taking_records_sound : (old new : Past) (table : List ℕ) → Touches (λ n. n ≡ dcd_of table) old new → AreSound table old
    → Moments (λ past. IsSound past (dcd_of table)) old new → Moments (AreSound table) old new
taking_records_sound old new table touches sound first =
    both (λ past. IsSound past (dcd_of table)) (λ past. IsSound past (dcl_of table)) old new first
    (sound_other (dcd_of table) (dcl_of table) old new (λ is. dcd_no_dcl table table (inl is)) touches sound.1)

-- ---- one after the other

module _ (old mid new : Past) (table : List ℕ) where
  pub gone_both : IsGone mid (dcd_of table) → Touches (λ n. n ≡ dcl_of table) mid new → IsGone new (dcl_of table)
      → FilesStand new table no_files
  gone_both first touches second = (
    at_end (λ past. Rests past (dcd_of table) None) mid new
        (rests_kept (λ n. n ≡ dcl_of table) (dcd_of table) None mid new (λ is. dcd_no_dcl table table (inl is)) touches first),
    second,
  )

  pub removing : (files : TableFiles) → FilesStand old table files → Touches (λ n. n ≡ dcd_of table) old mid
      → Moments (OldOrRemoved old (dcd_of table)) old mid → IsGone mid (dcd_of table)
      → Moments (OldOrRemoved mid (dcl_of table)) mid new → Moments (Crashes (IsRemoved table files)) old new
  removing files h touches first gone second =
      then_done (Crashes (IsRemoved table files)) old mid new (taking_records old table files h mid first)
      (taking_changes mid table (changes_alone files) (alone_stands old table files h mid touches gone) new (IsRemoved table files)
      (λ image has. inr (inl has)) (λ image has. inr (inr has)) second)

  pub removing_sound : AreSound table old → Touches (λ n. n ≡ dcd_of table) old mid
      → (IsSound old (dcd_of table) → Moments (λ past. IsSound past (dcd_of table)) old mid) → Touches (λ n. n ≡ dcl_of table) mid new
      → (IsSound mid (dcl_of table) → Moments (λ past. IsSound past (dcl_of table)) mid new) → Moments (AreSound table) old new
  removing_sound sound t1 first t2 second =
      let before = taking_records_sound old mid table t1 sound (first sound.0) in
      let now = at_end (AreSound table) old mid before in
      then_done (AreSound table) old mid new before (taking_changes_sound mid new table t2 now (second now.1))

-- under the names that are given
module _ (old mid : Past) (table dcd : List ℕ) (dcd_is : dcd ≡ dcd_of table) (touches : Touches (λ n. n ≡ dcd) old mid) where
  its_touches : Touches (λ n. n ≡ dcd_of table) old mid
  its_touches = subst (λ m. Touches (λ n. n ≡ m) old mid) dcd_is touches

  its_sound : (IsSound old dcd → Moments (λ past. IsSound past dcd) old mid) → IsSound old (dcd_of table)
      → Moments (λ past. IsSound past (dcd_of table)) old mid
  its_sound given sound =
      subst (λ m. Moments (λ past. IsSound past m) old mid) dcd_is (given (subst (IsSound old) (sym dcd_is) sound))

  pub first_moments : (files : TableFiles) → FilesStand old table files → Moments (OldOrRemoved old dcd) old mid
      → Moments (Crashes (IsRemoved table files)) old mid
  first_moments files h images =
      taking_records old table files h mid (subst (λ m. Moments (OldOrRemoved old m) old mid) dcd_is images)

  pub first_sound : AreSound table old → (IsSound old dcd → Moments (λ past. IsSound past dcd) old mid) → Moments (AreSound table) old mid
  first_sound sound given = taking_records_sound old mid table its_touches sound (its_sound given sound.0)

  module _ (gone : IsGone mid dcd) where
    pub first_alone : (files : TableFiles) → FilesStand old table files → FilesStand mid table (changes_alone files)
    first_alone files h = alone_stands old table files h mid its_touches (subst (IsGone mid) dcd_is gone)

    module _ (new : Past) (dcl : List ℕ) (dcl_is : dcl ≡ dcl_of table) (then_touches : Touches (λ n. n ≡ dcl) mid new) where
      dcl_touches : Touches (λ n. n ≡ dcl_of table) mid new
      dcl_touches = subst (λ m. Touches (λ n. n ≡ m) mid new) dcl_is then_touches

      pub last_none : IsGone new dcl → FilesStand new table no_files
      last_none second = gone_both old mid new table (subst (IsGone mid) dcd_is gone) dcl_touches (subst (IsGone new) dcl_is second)

      pub last_moments : (files : TableFiles) → FilesStand old table files → Moments (OldOrRemoved old dcd) old mid
          → Moments (OldOrRemoved mid dcl) mid new → Moments (Crashes (IsRemoved table files)) old new
      last_moments files h first second =
          removing old mid new table files h its_touches (subst (λ m. Moments (OldOrRemoved old m) old mid) dcd_is first)
          (subst (IsGone mid) dcd_is gone) (subst (λ m. Moments (OldOrRemoved mid m) mid new) dcl_is second)

      pub last_sound : AreSound table old → (IsSound old dcd → Moments (λ past. IsSound past dcd) old mid)
          → (IsSound mid dcl → Moments (λ past. IsSound past dcl) mid new) → Moments (AreSound table) old new
      last_sound sound first second =
          removing_sound old mid new table sound its_touches (its_sound first) dcl_touches
          (λ now. subst (λ m. Moments (λ past. IsSound past m) mid new) dcl_is (second (subst (IsSound mid) (sym dcl_is) now)))
