-- A commit is appended, and then made durable where it settles.
use Rattle.std.proofs.Common.{◌≡◌, ◌⊎◌, ℕ, Bool, true, false, if◌then◌else◌, List, [], ◌∷◌, ◌++◌, length, Result, Ok, Err, refl, sym, subst, inr}
use Rattle.file_trait.specs.DiskModel.{Past, reads}
use Rattle.file_trait.specs.Moments.{Moments}
use Rattle.file_trait.proofs.Moments.{then_done}
use Rattle.disk_logs.specs.declared.error.LogErr.{LogErr}
use Rattle.disk_logs.specs.declared.error.LogErr.TheVariants as log
use Rattle.db_model.specs.Commits.{CommitRecord}
use Rattle.txn_log.specs.Logs.{LogState, Reads, TxnStands, Leaves}
use Rattle.mn_node.specs.Inside.Tries.{Appends}
use Rattle.mn_node.specs.Meaning.{latest}
use Rattle.mn_node.specs.declared.open.Done.{Done}
use Rattle.mn_node.specs.declared.open.Trouble.{Trouble}
use Rattle.mn_node.specs.declared.reply.Reply.TheVariants as replies
use Rattle.mn_node.proofs.Acts.{Sound, IsWant, IsToldAs, none_more}

-- it is appended, and made durable where it settles
abbrev pub appended_done : Bool → Done
appended_done settles = record { reply = replies.Done; wrote = true; settles = settles; halts = false }

abbrev also : List CommitRecord → CommitRecord → List CommitRecord
also commits c = commits ++ c ∷ []

module _ {settles : Bool} {state : LogState} {before now : Past} (c : CommitRecord) (commits : List CommitRecord) (synced : ℕ) where
  pub append_failed : (error : LogErr) (trouble : Trouble) → IsToldAs error true trouble
      → Reads commits (reads now latest) ⊎ Reads (also commits c) (reads now latest)
      → Moments (Leaves (also commits c) synced) before now → Moments Sound before now
      → (IsWant error → TxnStands now state commits synced × Moments (Leaves commits synced) before now)
      → Appends settles c commits synced (Err trouble) state before now
  append_failed (log.File name) trouble told left during sound wanted =
      subst (λ (t : Trouble). Appends settles c commits synced (Err t) state before now) (sym (told.file name refl))
      (record { out = (told.named name refl, refl, left); during = during; sound = sound })
  append_failed log.Memory trouble told left during sound wanted =
      let (stands, only_old) = wanted refl in
      subst (λ (t : Trouble). Appends settles c commits synced (Err t) state before now) (sym (told.memory refl)) (record {
        out = stands;
        during = none_more (λ cs. Moments (Leaves cs synced) before now) commits only_old;
        sound = sound;
      })
  append_failed (log.Bad name at) trouble told left during sound wanted = absurd told.only
  append_failed log.TooLong trouble told left during sound wanted = absurd told.only

  -- it does not settle
  pub appended_only : settles ≡ false → TxnStands now state (also commits c) synced
      → Moments (Leaves (also commits c) synced) before now → Moments Sound before now
      → Appends settles c commits synced (Ok (appended_done settles)) state before now
  appended_only is stands during sound = record {
    out = (
      refl,
      subst (λ (b : Bool). TxnStands now state (also commits c) (if b then length (also commits c) else synced)) (sym is) stands,
    );
    during = during;
    sound = sound;
  }

  pub appended_synced : (mid : Past) → settles ≡ true → TxnStands now state (also commits c) (length (also commits c))
      → Moments (Leaves (also commits c) synced) before mid
      → Moments (Leaves (also commits c) synced) mid now → Moments Sound before mid → Moments Sound mid now
      → Appends settles c commits synced (Ok (appended_done settles)) state before now
  appended_synced mid is stands first second sound later = record {
    out = (
      refl,
      subst (λ (b : Bool). TxnStands now state (also commits c) (if b then length (also commits c) else synced)) (sym is) stands,
    );
    during = then_done (Leaves (also commits c) synced) before mid now first second;
    sound = then_done Sound before mid now sound later;
  }

  -- it was appended, and the sync failed
  pub append_unsynced : (mid : Past) (error : LogErr) (trouble : Trouble) → IsToldAs error true trouble → (IsWant error → ⊥)
      → Reads (also commits c) (reads now latest) → Moments (Leaves (also commits c) synced) before mid
      → Moments (Leaves (also commits c) synced) mid now
      → Moments Sound before mid → Moments Sound mid now
      → Appends settles c commits synced (Err trouble) state before now
  append_unsynced mid error trouble told never left first second sound later =
      append_failed error trouble told (inr left) (then_done (Leaves (also commits c) synced) before mid now first second)
      (then_done Sound before mid now sound later) (λ wanted. absurd (never wanted))

-- over the log and the disk as they were left
pub appends_at : (settles : Bool) (c : CommitRecord) (commits : List CommitRecord) (synced : ℕ) (result : Result Done Trouble)
    (state left : LogState) (before now past : Past) → state ≡ left → now ≡ past
    → Appends settles c commits synced result left before past → Appends settles c commits synced result state before now
appends_at settles c commits synced result state left before now past same at h =
    subst (λ (s : LogState). Appends settles c commits synced result s before now) (sym same)
    (subst (λ (p : Past). Appends settles c commits synced result left before p) (sym at) h)
