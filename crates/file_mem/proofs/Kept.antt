-- The files of a disk in memory stay those that it reads.
use Rattle.std.proofs.Common.{◌≡◌, ◌⊎◌, inl, inr, ℕ, ◌+◌, ◌≤◌, min, Bool, true, false, if◌then◌else◌, List, [], ◌∷◌, ◌++◌, length, take, nat_eq, nat_lt, Option, None, Some, option_map, is_some, Result, Ok, Err, refl, sym, ap, ◌∙◌, arith}
use Rattle.std.proofs.lemmas.Bool.{cases_Bool, ltb-true, ltb-false, eqb-true}
use Rattle.std.proofs.lemmas.List.{nil_from_length, take_min}
use Rattle.std.proofs.lemmas.List.Sums.{count_by-le-length}
use Rattle.file_trait.specs.DiskModel.{Past, handed, did, FileOp, DirOp, to_file, to_dir, append, sync, sync_failed, FileId, clock, same_name, named, reads}
use Rattle.file_trait.specs.Calls.{IsDurable, IsDirDurable}
use Rattle.file_trait.proofs.Names.{same_name_true}
use Rattle.file_trait.proofs.Files.{reads_handed}
use Rattle.file_mem.specs.Operations.{op_of, past_after}
use Rattle.file_mem.specs.Pending.{pending, doubtful, dir_pending, IsSynced, IsInDoubt, IsDirSynced}
use Rattle.file_mem.specs.Files.{Stored, stored, stored_as, found, is_unsynced, is_doubtful, one_if, unsynced_count, written, synced, lost, new_file, handed_file, placed, past_from, file_in, stored_in, AreStored}
use Rattle.file_mem.specs.Directory.{past_of, DidOrNot, front_put, FrontPut, loses}
use Rattle.std.specs.declared.alloc.AllocError.{AllocError}
use Rattle.file_mem.specs.declared.directory.Directory.{Directory}
use Rattle.file_mem.specs.declared.operation.Operation.{Operation}
use Rattle.file_mem.specs.declared.files.File.{File}
use Rattle.file_mem.proofs.Pending.{file_durable, dir_durable}
use Rattle.file_mem.proofs.After.{map_if, stored_file, stored_sync, stored_lost, stored_dir, stored_handed, placed_same}

-- ---- the history grows

pub past_after-push : (done : List Operation) (operation : Operation) (past : Past) → past_after (done ++ operation ∷ []) past ≡ did (op_of operation) (past_after done past)
past_after-push [] operation past = refl
past_after-push (o ∷ done) operation past = past_after-push done operation (did (op_of o) past)

clock-after : (done : List Operation) (past : Past) → clock (past_after done past) ≡ clock past + length done
clock-after [] past = omega arith
clock-after (o ∷ done) past = omega (arith, clock-after done (did (op_of o) past))

pub clock-from : (first : List File) (done : List Operation) → clock (past_from first done) ≡ length done
clock-from first done = omega (arith, clock-after done (handed (found first)))

module _ (first : List File) (done new : List Operation) (operation : Operation) (is : new ≡ done ++ operation ∷ []) where
  pub grown : past_from first new ≡ did (op_of operation) (past_from first done)
  grown = ap (past_from first) is ∙ past_after-push done operation (handed (found first))

  -- where the files are those after the operation
  pub kept : (files : List File) → ((other : List ℕ) → stored files other ≡ stored_in (did (op_of operation) (past_from first done)) other) → AreStored first new files
  kept files h other = h other ∙ ap (λ past. stored_in past other) (sym grown)

  -- where the directory's count is that after the operation
  pub counted : (unsynced : Bool) → unsynced ≡ nat_lt 0 (dir_pending (did (op_of operation) (past_from first done))) → unsynced ≡ nat_lt 0 (dir_pending (past_from first new))
  counted unsynced h = h ∙ ap (λ past. nat_lt 0 (dir_pending past)) (sym grown)

-- ---- the files after the operation

module _ (past : Past) (files : List File) (h : (name : List ℕ) → stored files name ≡ stored_in past name) where
  pub after_file : (name : List ℕ) (op : FileOp) (after : List File)
      → ((other : List ℕ) → stored after other ≡ (if same_name name other then option_map (written op) (stored files other) else stored files other))
      → (other : List ℕ) → stored after other ≡ stored_in (did (to_file name op) past) other
  after_file name op after new other =
      new other ∙ ap (λ o. if same_name name other then option_map (written op) o else o) (h other) ∙ sym (stored_file past name op other)

  pub after_sync : (name : List ℕ) (after : List File)
      → ((other : List ℕ) → stored after other ≡ (if same_name name other then option_map synced (stored files other) else stored files other))
      → (other : List ℕ) → stored after other ≡ stored_in (did (sync name) past) other
  after_sync name after new other =
      new other ∙ ap (λ o. if same_name name other then option_map synced o else o) (h other) ∙ sym (stored_sync past name other)

  pub after_lost : (name : List ℕ) (after : List File)
      → ((other : List ℕ) → stored after other ≡ (if same_name name other then option_map lost (stored files other) else stored files other))
      → (other : List ℕ) → stored after other ≡ stored_in (did (sync_failed name) past) other
  after_lost name after new other =
      new other ∙ ap (λ o. if same_name name other then option_map lost o else o) (h other) ∙ sym (stored_lost past name other)

  pub after_dir : (op : DirOp) (moment : ℕ) (after : List File) → moment ≡ clock past
      → ((other : List ℕ) → stored after other ≡ placed op (new_file moment) (stored files) other)
      → (other : List ℕ) → stored after other ≡ stored_in (did (to_dir op) past) other
  after_dir op moment after at new other =
      new other ∙ placed_same op (new_file moment) (stored files) (stored_in past) other h
      ∙ ap (λ m. placed op (new_file m) (stored_in past) other) at ∙ sym (stored_dir past op other)

  -- nothing of the file is pending, so a crash leaves what it reads as
  pub is_durable : (name : List ℕ) → is_unsynced (stored files name) ≡ false → IsDurable past name
  is_durable name none i is = λ bytes. file_durable past i bytes (omega (arith, ltb-false 0 (pending past i) (is_none i is)))
    where
      is_none : (i : FileId) → named past name ≡ Some i → nat_lt 0 (pending past i) ≡ false
      is_none i is = sym (ap is_unsynced (h name ∙ ap (option_map (file_in past)) is)) ∙ none

  -- something of the file is pending
  pub not_synced : {A : Type 0} (name : List ℕ) → is_unsynced (stored files name) ≡ true → IsSynced past name → A
  not_synced name some none = go (named past name) refl
    where
      go : {A : Type 0} (o : Option FileId) → named past name ≡ o → A
      go None is = cc (some, ap is_unsynced (h name ∙ ap (option_map (file_in past)) is))
      go (Some i) is =
          let there : nat_lt 0 (pending past i) ≡ true = sym (ap is_unsynced (h name ∙ ap (option_map (file_in past)) is)) ∙ some in
          absurd (omega (arith, none i is, ltb-true 0 (pending past i) there))

  -- something of the file is in doubt
  pub in_doubt : (name : List ℕ) → is_doubtful (stored files name) ≡ true → IsInDoubt past name
  in_doubt name some = go (named past name) refl
    where
      go : (o : Option FileId) → named past name ≡ o → IsInDoubt past name
      go None is = cc (some, ap is_doubtful (h name ∙ ap (option_map (file_in past)) is))
      go (Some i) is = (
        i,
        is,
        ltb-true 0 (doubtful past i) (sym (ap is_doubtful (h name ∙ ap (option_map (file_in past)) is)) ∙ some),
      )

-- nothing of the directory is pending
pub is_dir_durable : (past : Past) (unsynced : Bool) → unsynced ≡ nat_lt 0 (dir_pending past) → unsynced ≡ false → IsDirDurable past
is_dir_durable past unsynced is none names = dir_durable past names (omega (arith, ltb-false 0 (dir_pending past) (sym is ∙ none)))

-- something of the directory is pending
pub not_dir_synced : {A : Type 0} (past : Past) (unsynced : Bool) → unsynced ≡ nat_lt 0 (dir_pending past) → unsynced ≡ true → IsDirSynced past → A
not_dir_synced past unsynced is some none = absurd (omega (arith, none, ltb-true 0 (dir_pending past) (sym is ∙ some)))

-- ---- a front of bytes

pub front_noted : (name bytes front : List ℕ) (count : ℕ) (result : Result Unit AllocError) (old new : Directory) → (count ≡ 0 → ⊥) → front ≡ take count bytes
    → DidOrNot (to_file name (append front)) result old new → FrontPut name bytes count result old new
front_noted name bytes front count (Ok done) old new some is noted =
    noted
    ∙ ap (λ b. did (to_file name (append b)) (past_of old)) is
    ∙ sym (ap (λ b. if b then past_of old else did (to_file name (append (take count bytes))) (past_of old)) not_none)
  where
    not_none : nat_eq count 0 ≡ false
    not_none = elim (cases_Bool (nat_eq count 0)) [ inl none ↦ absurd (some (eqb-true count 0 none)) | inr not ↦ not ]
front_noted name bytes front count (Err e) old new some is noted = noted

pub front_appended : (name bytes : List ℕ) (count : ℕ) (old new : Past) → new ≡ front_put name bytes count old
    → (new ≡ old) ⊎ ((k : ℕ) × (k ≤ length bytes) × (new ≡ did (to_file name (append (take k bytes))) old))
front_appended name bytes count old new = go (nat_eq count 0)
  where
    go : (b : Bool) → new ≡ (if b then old else did (to_file name (append (take count bytes))) old)
        → (new ≡ old) ⊎ ((k : ℕ) × (k ≤ length bytes) × (new ≡ did (to_file name (append (take k bytes))) old))
    go true is = inl is
    go false is = inr (min count (length bytes), omega arith, is ∙ ap (λ b. did (to_file name (append b)) old) (sym (take_min count bytes)))

-- ---- the room that is kept

pub one_at_most : (b : Bool) → one_if b ≤ 1
one_at_most true = omega arith
one_at_most false = omega arith

-- a call is named to lose
pub some_losing : (losing : Option ℕ) (call : ℕ) → loses losing call ≡ true → one_if (is_some losing) ≡ 1
some_losing None call h = cc h
some_losing (Some at) call h = refl

pub few_unsynced : (files : List File) → unsynced_count files ≤ length files
few_unsynced files = count_by-le-length (λ (file : File). file.unsynced) files

-- ---- a file more is handed over

module _ (first first_after files files_after : List File) (done : List Operation) (nothing : length done ≡ 0) (name bytes : List ℕ) where
  abbrev Put : List File → List File → Type 0
  Put before after = (other : List ℕ) → stored after other ≡ (if same_name name other then Some (handed_file name bytes) else stored before other)

  pub put_so : (file : File) (before mid after : List File) → mid ≡ before → file.name ≡ name → stored_as file ≡ handed_file name bytes
      → ((other : List ℕ) → stored after other ≡ (if same_name file.name other then Some (stored_as file) else stored mid other)) → Put before after
  put_so file before mid after same named is put other =
      put other
      ∙ ap (λ n. if same_name n other then Some (stored_as file) else stored mid other) named
      ∙ ap (λ s. if same_name name other then Some s else stored mid other) is
      ∙ ap (λ fs. if same_name name other then Some (handed_file name bytes) else stored fs other) same

  put_found : Put first first_after → (other : List ℕ) → found first_after other ≡ (if same_name name other then Some bytes else found first other)
  put_found put other =
      ap (option_map (λ (s : Stored). s.bytes)) (put other) ∙ map_if (λ (s : Stored). s.bytes) (same_name name other) (Some (handed_file name bytes)) (stored first other)

  handed_so : (list : List File) → past_from list done ≡ handed (found list)
  handed_so list = ap (past_from list) (nil_from_length done nothing)

  pub put_stored : AreStored first done files → Put first first_after → Put files files_after → AreStored first_after done files_after
  put_stored h put_first put_files other =
      put_files other
      ∙ ap (λ o. if same_name name other then Some (handed_file name bytes) else o)
      (h other ∙ ap (λ past. stored_in past other) (handed_so first) ∙ stored_handed (found first) other)
      ∙ go (same_name name other) refl
      ∙ sym (ap (λ past. stored_in past other) (handed_so first_after) ∙ stored_handed (found first_after) other ∙ ap (option_map (handed_file other)) (put_found put_first other))
    where
      go : (b : Bool) → same_name name other ≡ b → (if b then Some (handed_file name bytes) else option_map (handed_file other) (found first other))
          ≡ option_map (handed_file other) (if b then Some bytes else found first other)
      go true same = ap (λ n. Some (handed_file n bytes)) (same_name_true name other same)
      go false same = refl

  pub put_reads : Put first first_after → (other : List ℕ) → reads (past_from first_after done) other ≡ (if same_name name other then Some bytes else reads (past_from first done) other)
  put_reads put other =
      ap (λ past. reads past other) (handed_so first_after) ∙ reads_handed (found first_after) other ∙ put_found put other
      ∙ ap (λ o. if same_name name other then Some bytes else o) (sym (ap (λ past. reads past other) (handed_so first) ∙ reads_handed (found first) other))

  pub put_count : (unsynced : Bool) → unsynced ≡ nat_lt 0 (dir_pending (past_from first done)) → unsynced ≡ nat_lt 0 (dir_pending (past_from first_after done))
  put_count unsynced h = h ∙ ap (λ past. nat_lt 0 (dir_pending past)) (handed_so first) ∙ sym (ap (λ past. nat_lt 0 (dir_pending past)) (handed_so first_after))
