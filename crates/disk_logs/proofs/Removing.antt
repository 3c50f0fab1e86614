-- A file is taken away.
use Rattle.std.proofs.Common.{◌≡◌, inl, inr, ℕ, List, None, Option, option_map, if◌then◌else◌, Result, Ok, Err, refl, sym, ap, ◌∙◌, subst}
use Rattle.file_trait.specs.declared.disk.DiskErr.{DiskErr}
use Rattle.file_trait.specs.declared.disk.DiskErr.TheVariants.{Failed, Memory}
use Rattle.file_trait.specs.Calls.{IsAbsent, IsDirDurable, Done, SyncedDir}
use Rattle.file_trait.specs.DiskModel.{Past, did, to_dir, remove, sync_dir, FileId, named, reads, Crashes}
use Rattle.file_trait.specs.Moments.{Moments}
use Rattle.file_trait.proofs.Changes.{sync_dir_adds_none, old_or_new}
use Rattle.file_trait.proofs.Durable.{synced_dir_durable, durable_settled}
use Rattle.file_trait.proofs.Files.{removed}
use Rattle.file_trait.proofs.Images.{honest_later}
use Rattle.file_trait.proofs.Moments.{none_done, one_done, then_done}
use Rattle.file_trait.proofs.Names.{same_name_refl}
use Rattle.disk_logs.specs.Crash.{IsSound}
use Rattle.disk_logs.specs.declared.error.LogErr.{LogErr}
use Rattle.disk_logs.specs.declared.error.LogErr.TheVariants.{File, Bad, TooLong}
use Rattle.disk_logs.specs.Errors.{told}
use Rattle.disk_logs.specs.Rests.{IsGone, Cleared, OldOrRemoved}
use Rattle.disk_logs.proofs.Effects.{synced_dir_kept}
use Rattle.disk_logs.proofs.Resting.{absent_gone}
use Rattle.disk_logs.proofs.Sound.{absent_sound, spared_sound}

-- ---- where it is there

pub removes : (name : List ℕ) (r : Result Unit DiskErr) (old new : Past) → Done (to_dir (remove name)) r old new
    → Cleared name (told name r) old new
removes name (Ok x) old new is = inr is
removes name (Err Failed) old new done = done
removes name (Err Memory) old new is = is

-- ---- what a crash leaves

module _ (old : Past) (name : List ℕ) where
  abbrev gone_past : Past
  gone_past = did (to_dir (remove name)) old

  as_old : OldOrRemoved old name old
  as_old image w = inl w

  synced_old : OldOrRemoved old name (did sync_dir old)
  synced_old image w = inl (sync_dir_adds_none old image w)

  once_removed : OldOrRemoved old name gone_past
  once_removed image w = elim (old_or_new old (remove name) image w) [
    | inl before ↦ inl before
    | inr (bytes, each, honest, is) ↦ inr (record {
      names = named gone_past;
      bytes = bytes;
      directory = refl;
      each = each;
      honest = λ i. honest_later gone_past sync_dir i (bytes i) (honest_later old (to_dir (remove name)) i (bytes i) (honest i));
      is = is;
    })
  ]

  synced_removed : OldOrRemoved old name (did sync_dir gone_past)
  synced_removed image w = inr w

-- ---- at each moment

module _ (P : Past → Type 0) (old : Past) (name : List ℕ) (before : P old) (synced : P (did sync_dir old))
    (after : P (did (to_dir (remove name)) old)) (settled : P (did sync_dir (did (to_dir (remove name)) old))) where
  each_clear : (r : Result Unit LogErr) (mid : Past) → Cleared name r old mid → Moments P old mid
  each_clear (Ok x) mid (inl (is, absent)) = none_done P old mid is before
  each_clear (Ok x) mid (inr is) = one_done P (to_dir (remove name)) old mid is before after
  each_clear (Err (File other)) mid (inl is) = none_done P old mid is before
  each_clear (Err (File other)) mid (inr is) = one_done P (to_dir (remove name)) old mid is before after
  each_clear (Err (Bad other at)) mid never = absurd never
  each_clear (Err TooLong) mid never = absurd never
  each_clear (Err LogErr.Memory) mid is = none_done P old mid is before

  each_settle : (past new : Past) (r : Result Unit DiskErr) → P past → P (did sync_dir past) → SyncedDir r past new → Moments P past new
  each_settle past new (Ok x) first last (inl is) = one_done P sync_dir past new is first last
  each_settle past new (Ok x) first last (inr is) = none_done P past new is.0 first
  each_settle past new (Err Failed) first last (inl is) = none_done P past new is first
  each_settle past new (Err Failed) first last (inr is) = one_done P sync_dir past new is first last
  each_settle past new (Err Memory) first last never = absurd never

  each_discard : (mid : Past) (x : Unit {0}) → Cleared name (Ok x) old mid → (r : Result Unit DiskErr) (new : Past) → SyncedDir r mid new
      → Moments P old new
  each_discard mid x (inl (is, absent)) r new done = each_settle old new r before synced (subst (λ past. SyncedDir r past new) is done)
  each_discard mid x (inr is) r new done =
      then_done P old mid new (one_done P (to_dir (remove name)) old mid is before after)
      (subst (λ past. Moments P past new) (sym is)
      (each_settle (did (to_dir (remove name)) old) new r after settled (subst (λ past. SyncedDir r past new) is done)))

module _ (old : Past) (name : List ℕ) where
  pub clear_moments : (r : Result Unit LogErr) (mid : Past) → Cleared name r old mid → Moments (OldOrRemoved old name) old mid
  clear_moments =
      each_clear (OldOrRemoved old name) old name (as_old old name) (synced_old old name) (once_removed old name) (synced_removed old name)

  pub discard_moments : (mid : Past) (x : Unit {0}) → Cleared name (Ok x) old mid → (r : Result Unit DiskErr) (new : Past)
      → SyncedDir r mid new → Moments (OldOrRemoved old name) old new
  discard_moments =
      each_discard (OldOrRemoved old name) old name (as_old old name) (synced_old old name) (once_removed old name)
      (synced_removed old name)

  module _ (sound : IsSound old name) where
    gone_sound : IsSound (did (to_dir (remove name)) old) name
    gone_sound = absent_sound (did (to_dir (remove name)) old) name (removed old name)

    still_sound : (past : Past) → IsSound past name → IsSound (did sync_dir past) name
    still_sound past now = spared_sound past sync_dir name tt now

    pub clear_sound : (r : Result Unit LogErr) (mid : Past) → Cleared name r old mid → Moments (λ past. IsSound past name) old mid
    clear_sound = each_clear (λ past. IsSound past name) old name sound (still_sound old sound) gone_sound
        (still_sound (did (to_dir (remove name)) old) gone_sound)

    pub discard_sound : (mid : Past) (x : Unit {0}) → Cleared name (Ok x) old mid → (r : Result Unit DiskErr) (new : Past)
        → SyncedDir r mid new → Moments (λ past. IsSound past name) old new
    discard_sound = each_discard (λ past. IsSound past name) old name sound (still_sound old sound) gone_sound
        (still_sound (did (to_dir (remove name)) old) gone_sound)

cleared_absent : (name : List ℕ) (x : Unit {0}) (old mid : Past) → Cleared name (Ok x) old mid → IsAbsent mid name
cleared_absent name x old mid (inl (is, absent)) = ap (λ past. reads past name) is ∙ absent
cleared_absent name x old mid (inr is) = ap (λ past. reads past name) is ∙ removed old name

-- ---- where both answered Ok

pub settled_dir : (x : Unit {0}) (old new : Past) → SyncedDir (Ok x) old new → IsDirDurable new
settled_dir x old new (inl is) = subst IsDirDurable (sym is) (synced_dir_durable old)
settled_dir x old new (inr (is, durable)) = subst IsDirDurable (sym is) durable

pub discarded : (name : List ℕ) (x y : Unit {0}) (old mid new : Past) → Cleared name (Ok x) old mid → SyncedDir (Ok y) mid new
    → IsGone new name
discarded name x y old mid new clear settles =
    absent_gone new name (durable_settled new name (settled_dir y mid new settles))
    (synced_dir_kept (Ok y) mid new name settles ∙ cleared_absent name x old mid clear)

-- once it is gone
pub removed_image : (past : Past) (name : List ℕ) → Crashes (λ image. image name ≡ None) (did sync_dir (did (to_dir (remove name)) past))
removed_image past name image w =
    w.is name ∙ ap (λ (f : List ℕ → Option FileId). option_map w.bytes (f name)) w.directory
    ∙ ap (λ b. option_map w.bytes (if b then None else named past name)) (same_name_refl name)
