-- Where nothing is pending all is durable.
use Rattle.std.proofs.Common.{◌≡◌, inl, inr, ℕ, ◌+◌, ◌≤◌, Bool, true, false, if◌then◌else◌, List, Option, refl, sym, ap, ◌∙◌, arith}
use Rattle.file_trait.specs.DiskModel.{Past, handed, did, FileOp, to_file, to_dir, sync, sync_failed, sync_dir, FileId, made, clock, is_file, named, content, FileLeaves, DirLeaves, IsSure}
use Rattle.file_trait.proofs.Images.{this_or_not, whole_is}
use Rattle.file_trait.proofs.Files.{content_self, content_other}
use Rattle.file_trait.proofs.Names.{is_file_some, is_file_other, young}
use Rattle.file_mem.specs.Pending.{pending, doubtful, dir_pending}

-- where nothing is in doubt a sync makes all durable
abbrev Sure : Past → FileId → Type 0
Sure past i = doubtful past i ≡ 0 → IsSure past i

-- where nothing is pending a crash leaves what the file reads as
abbrev Durable : Past → FileId → Type 0
Durable past i = pending past i ≡ 0 → (bytes : List ℕ) → FileLeaves past i bytes → bytes ≡ content past i

module _ (past : Past) (i : FileId) (sure : Sure past i) (durable : Durable past i) (name : List ℕ) where
  sure_file : (op : FileOp) → Sure (did (to_file name op) past) i
  sure_file op none bytes redone = elim (this_or_not (named past name) i) [
    | inl is ↦ let r = redone.0 is in whole_is op (content past i) r.0 bytes (sure none r.0 r.1) r.2 ∙ sym (content_self past name op i is)
    | inr not ↦ sure none bytes (redone.1 not) ∙ sym (content_other past name op i not)
  ]

  durable_file : (op : FileOp) → Durable (did (to_file name op) past) i
  durable_file op none bytes h = elim (this_or_not (named past name) i) [
    | inl is ↦ absurd (omega (arith, none, ap (λ b. if b then pending past i + 1 else pending past i) (is_file_some (named past name) i is)))
    | inr not ↦ elim h [
      | inl before ↦ durable (sym (ap (λ b. if b then pending past i + 1 else pending past i) (is_file_other (named past name) i not)) ∙ none) bytes before ∙ sym (content_other past name op i not)
      | inr (is, part) ↦ absurd (not is)
    ]
  ]

  durable_sync : Durable (did (sync name) past) i
  durable_sync none bytes h = elim (this_or_not (named past name) i) [
    | inl is ↦ sure (sym (ap (λ b. if b then doubtful past i else pending past i) (is_file_some (named past name) i is)) ∙ none) bytes (h.1 is)
    | inr not ↦ durable (sym (ap (λ b. if b then doubtful past i else pending past i) (is_file_other (named past name) i not)) ∙ none) bytes h.0
  ]

  sure_lost : Sure (did (sync_failed name) past) i
  sure_lost none bytes redone = elim (this_or_not (named past name) i) [
    | inl is ↦ durable (sym (ap (λ b. if b then pending past i else doubtful past i) (is_file_some (named past name) i is)) ∙ none) bytes (redone.0 is)
    | inr not ↦ sure (sym (ap (λ b. if b then pending past i else doubtful past i) (is_file_other (named past name) i not)) ∙ none) bytes (redone.1 not)
  ]

sure_durable : (past : Past) (i : FileId) → Sure past i × Durable past i
sure_durable (handed files) i = (λ none bytes redone. redone, λ none bytes h. h)
sure_durable (did (to_dir op) past) i = sure_durable past i
sure_durable (did sync_dir past) i = sure_durable past i
sure_durable (did (to_file name op) past) i =
    let before = sure_durable past i in (sure_file past i before.0 before.1 name op, durable_file past i before.0 before.1 name op)
sure_durable (did (sync name) past) i = let before = sure_durable past i in (before.0, durable_sync past i before.0 before.1 name)
sure_durable (did (sync_failed name) past) i = let before = sure_durable past i in (sure_lost past i before.0 before.1 name, before.1)

pub file_durable : (past : Past) (i : FileId) (bytes : List ℕ) → pending past i ≡ 0 → FileLeaves past i bytes → bytes ≡ content past i
file_durable past i bytes none = (sure_durable past i).1 none bytes

-- a crash leaves such a directory as it reads
pub dir_durable : (past : Past) (names : List ℕ → Option FileId) → dir_pending past ≡ 0 → DirLeaves past names → names ≡ named past
dir_durable (handed files) names none h = h
dir_durable (did (to_dir op) past) names none h = absurd (omega (arith, none))
dir_durable (did sync_dir past) names none h = h
dir_durable (did (to_file name op) past) names none h = dir_durable past names none h
dir_durable (did (sync name) past) names none h = dir_durable past names none h
dir_durable (did (sync_failed name) past) names none h = dir_durable past names none h

-- nothing is pending of a file that is not yet made, or in doubt
pub none_pending : (past : Past) (m : ℕ) → clock past ≤ m → (pending past (made m) ≡ 0) × (doubtful past (made m) ≡ 0)
none_pending (handed files) m le = (refl, refl)
none_pending (did (to_dir op) past) m le = none_pending past m (omega (arith, le))
none_pending (did sync_dir past) m le = none_pending past m (omega (arith, le))
none_pending (did (to_file name op) past) m le =
    let before = none_pending past m (omega (arith, le)) in (
      ap (λ b. if b then pending past (made m) + 1 else pending past (made m)) (is_file_other (named past name) (made m) (λ is. omega (arith, young past name m is, le))) ∙ before.0,
      before.1,
    )
none_pending (did (sync name) past) m le =
    let before = none_pending past m (omega (arith, le)) in (
      ap (λ b. if b then doubtful past (made m) else pending past (made m)) (is_file_other (named past name) (made m) (λ is. omega (arith, young past name m is, le))) ∙ before.0,
      before.1,
    )
none_pending (did (sync_failed name) past) m le =
    let before = none_pending past m (omega (arith, le)) in (
      before.0,
      ap (λ b. if b then pending past (made m) else doubtful past (made m)) (is_file_other (named past name) (made m) (λ is. omega (arith, young past name m is, le))) ∙ before.1,
    )

-- there are no more of either than what was done
pub few_pending : (past : Past) (i : FileId) → (pending past i ≤ clock past) × (doubtful past i ≤ clock past)
few_pending (handed files) i = (omega arith, omega arith)
few_pending (did (to_dir op) past) i = let before = few_pending past i in (omega (arith, before.0), omega (arith, before.1))
few_pending (did sync_dir past) i = let before = few_pending past i in (omega (arith, before.0), omega (arith, before.1))
few_pending (did (to_file name op) past) i = let before = few_pending past i in (go (is_file (named past name) i) before.0, omega (arith, before.1))
  where
    go : (b : Bool) → pending past i ≤ clock past → (if b then pending past i + 1 else pending past i) ≤ clock past + 1
    go true few = omega (arith, few)
    go false few = omega (arith, few)
few_pending (did (sync name) past) i = let before = few_pending past i in (go (is_file (named past name) i) before.0 before.1, omega (arith, before.1))
  where
    go : (b : Bool) → pending past i ≤ clock past → doubtful past i ≤ clock past → (if b then doubtful past i else pending past i) ≤ clock past + 1
    go true few some = omega (arith, some)
    go false few some = omega (arith, few)
few_pending (did (sync_failed name) past) i = let before = few_pending past i in (omega (arith, before.0), go (is_file (named past name) i) before.0 before.1)
  where
    go : (b : Bool) → pending past i ≤ clock past → doubtful past i ≤ clock past → (if b then pending past i else doubtful past i) ≤ clock past + 1
    go true few some = omega (arith, few)
    go false few some = omega (arith, some)
