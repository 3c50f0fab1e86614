-- What the calls of a disk do to the files as they read.
use Rattle.std.proofs.Common.{◌≡◌, inl, inr, ℕ, List, Result, Ok, Err, OnErr, sym, ap, ◌∙◌, subst}
use Rattle.file_trait.specs.declared.disk.DiskErr.{DiskErr}
use Rattle.file_trait.specs.declared.disk.DiskErr.TheVariants.{Failed, Memory}
use Rattle.file_trait.specs.DiskModel.{Past, did, DiskOp, to_file, append, reads}
use Rattle.file_trait.specs.Calls.{Done, Appended, Synced, SyncedDir}
use Rattle.disk_logs.specs.declared.error.LogErr.{LogErr}
use Rattle.disk_logs.specs.Errors.{told}

pub on_err : {T E : Type 0} {P : Type 0} (r : Result T E) → P → OnErr r P
on_err (Ok x) p = tt
on_err (Err e) p = p

-- ---- with each answer

pub synced_kept : (name : List ℕ) (r : Result Unit DiskErr) (old new : Past) (other : List ℕ) → Synced name r old new
    → reads new other ≡ reads old other
synced_kept name (Ok x) old new other (inl is) = ap (λ p. reads p other) is
synced_kept name (Ok x) old new other (inr is) = ap (λ p. reads p other) is.0
synced_kept name (Err Failed) old new other (inl is) = ap (λ p. reads p other) is
synced_kept name (Err Failed) old new other (inr (inl is)) = ap (λ p. reads p other) is
synced_kept name (Err Failed) old new other (inr (inr is)) = ap (λ p. reads p other) is
synced_kept name (Err Memory) old new other is = absurd is

pub synced_dir_kept : (r : Result Unit DiskErr) (old new : Past) (other : List ℕ) → SyncedDir r old new → reads new other ≡ reads old other
synced_dir_kept (Ok x) old new other (inl is) = ap (λ p. reads p other) is
synced_dir_kept (Ok x) old new other (inr is) = ap (λ p. reads p other) is.0
synced_dir_kept (Err Failed) old new other (inl is) = ap (λ p. reads p other) is
synced_dir_kept (Err Failed) old new other (inr is) = ap (λ p. reads p other) is
synced_dir_kept (Err Memory) old new other is = absurd is

-- ---- where the answer was Ok

pub told_ok : {T : Type 0} (name : List ℕ) (r : Result T DiskErr) (x : T) → told name r ≡ Ok x → r ≡ Ok x
told_ok name (Ok y) x is = cc is
told_ok name (Err Failed) x is = cc is
told_ok name (Err Memory) x is = cc is

pub done_ok : (op : DiskOp) (name : List ℕ) (r : Result Unit DiskErr) (t : Result Unit LogErr) (x : Unit {0}) (old new : Past)
    → t ≡ told name r → t ≡ Ok x
    → Done op r old new → new ≡ did op old
done_ok op name r t x old new told_so is =
    subst (λ a. Done op a old new → new ≡ did op old) (sym (told_ok name r x (sym told_so ∙ is))) (λ done. done)

pub appended_ok : (file bytes name : List ℕ) (r : Result Unit DiskErr) (t : Result Unit LogErr) (x : Unit {0}) (old new : Past)
    → t ≡ told name r → t ≡ Ok x
    → Appended file bytes r old new → new ≡ did (to_file file (append bytes)) old
appended_ok file bytes name r t x old new told_so is =
    subst (λ a. Appended file bytes a old new → new ≡ did (to_file file (append bytes)) old) (sym (told_ok name r x (sym told_so ∙ is)))
    (λ done. done)
