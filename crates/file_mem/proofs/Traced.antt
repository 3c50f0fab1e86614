-- A file on its way through what was done is that of the model.
use Rattle.std.proofs.Common.{◌≡◌, ℕ, ◌+◌, ◌<◌, ◌≤◌, Bool, true, false, if◌then◌else◌, List, [], ◌∷◌, ◌++◌, length, take, get_or, Option, refl, sym, ap, ◌∙◌, length-take-le, arith}
use Rattle.std.proofs.lemmas.List.{take_more}
use Rattle.file_trait.specs.DiskModel.{Past, did, DiskOp, FileOp, to_file, to_dir, sync, sync_failed, sync_dir, FileId, made, clock, same_file, is_file, named, changed}
use Rattle.file_mem.specs.Operations.{op_of}
use Rattle.file_mem.specs.Pending.{pending, doubtful}
use Rattle.file_mem.specs.Files.{past_from}
use Rattle.file_mem.specs.Taken.{left_after}
use Rattle.file_mem.specs.Chosen.{file_left, file_redone, called}
use Rattle.file_mem.specs.Track.{Traced, traced_in, stepped}
use Rattle.file_mem.specs.declared.choice.Taken.{Taken}
use Rattle.file_mem.specs.declared.operation.Operation.{Operation}
use Rattle.file_mem.specs.declared.files.File.{File}
use Rattle.file_mem.proofs.Called.{file_test}
use Rattle.file_mem.proofs.Pending.{few_pending}
use Rattle.file_mem.proofs.Kept.{grown, clock-from}

abbrev as_traced : Option (List ℕ) → (left redone : List ℕ) → (count doubtful : ℕ) → Traced
as_traced name left redone count doubtful = record { name = name; left = left; redone = redone; count = count; doubtful = doubtful }

abbrev after_change : FileOp → Taken → Traced → Traced
after_change op taken t = record { name = t.name; left = left_after taken op t.count t.left; redone = changed op t.redone; count = t.count + 1; doubtful = t.doubtful }

abbrev after_sync : Traced → Traced
after_sync t = record { name = t.name; left = t.redone; redone = t.redone; count = t.doubtful; doubtful = t.doubtful }

abbrev after_lost : Traced → Traced
after_lost t = record { name = t.name; left = t.left; redone = t.left; count = t.count; doubtful = t.count }

pub traced_step : (past : Past) (op : DiskOp) (i : FileId) (taken : Taken) → traced_in (did op past) i taken ≡ stepped op (same_file (made (clock past)) i) taken (traced_in past i taken)
traced_step past (to_dir op) i taken = refl
traced_step past sync_dir i taken = refl
traced_step past (sync_failed name) i taken =
    go (is_file (named past name) i)
    ∙ ap (λ b. if b then after_lost (traced_in past i taken) else traced_in past i taken) (file_test past name i)
  where
    go : (b : Bool) → as_traced (called past i) (file_left past i taken) (if b then file_left past i taken else file_redone past i taken) (pending past i) (if b then pending past i else doubtful past i)
        ≡ (if b then after_lost (traced_in past i taken) else traced_in past i taken)
    go true = refl
    go false = refl
traced_step past (sync name) i taken =
    go (is_file (named past name) i)
    ∙ ap (λ b. if b then after_sync (traced_in past i taken) else traced_in past i taken) (file_test past name i)
  where
    go : (b : Bool) → as_traced (called past i) (if b then file_redone past i taken else file_left past i taken) (file_redone past i taken) (if b then doubtful past i else pending past i) (doubtful past i)
        ≡ (if b then after_sync (traced_in past i taken) else traced_in past i taken)
    go true = refl
    go false = refl
traced_step past (to_file name op) i taken =
    go (is_file (named past name) i)
    ∙ ap (λ b. if b then after_change op taken (traced_in past i taken) else traced_in past i taken) (file_test past name i)
  where
    go : (b : Bool) → as_traced (called past i)
        (if b then left_after taken op (pending past i) (file_left past i taken) else file_left past i taken)
        (if b then changed op (file_redone past i taken) else file_redone past i taken)
        (if b then pending past i + 1 else pending past i) (doubtful past i)
        ≡ (if b then after_change op taken (traced_in past i taken) else traced_in past i taken)
    go true = refl
    go false = refl

-- one step of the loop
module _ (first : List File) (done : List Operation) (at : ℕ) (i : FileId) (taken : Taken) where
  pub step_traced : (operation : Operation) (new : Traced) (mid : Traced) → at < length done → operation ≡ get_or done at operation
      → mid ≡ traced_in (past_from first (take at done)) i taken
      → new ≡ stepped (op_of operation) (same_file (made at) i) taken mid
      → new ≡ traced_in (past_from first (take (at + 1) done)) i taken
  step_traced operation new mid lt is before step =
      step ∙ ap (stepped (op_of operation) (same_file (made at) i) taken) before
      ∙ ap (λ m. stepped (op_of operation) (same_file (made m) i) taken (traced_in (past_from first (take at done)) i taken))
      (omega (arith, clock-from first (take at done), length-take-le at done (omega (arith, lt))))
      ∙ sym (traced_step (past_from first (take at done)) (op_of operation) i taken)
      ∙ ap (λ past. traced_in past i taken) (sym (grown first (take at done) (take (at + 1) done) operation
      (take_more done at operation lt ∙ ap (λ o. take at done ++ o ∷ []) (sym is))))

  -- there are no more operations pending than there were
  pub few_traced : (mid : Traced) → at ≤ length done → mid ≡ traced_in (past_from first (take at done)) i taken → mid.count ≤ at
  few_traced mid le is =
      omega (arith, ap (λ (t : Traced). t.count) is, (few_pending (past_from first (take at done)) i).0, clock-from first (take at done), length-take-le at done le)
