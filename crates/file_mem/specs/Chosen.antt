-- One crash image, by which of the pending operations were done.
use Rattle.std.specs.Prelude.{ℕ, ◌≤◌, Bool, false, if◌then◌else◌, List, nat_lt, Option, None, Some, option_map}
use Rattle.file_trait.specs.DiskModel.{Past, handed, did, DirOp, create, rename, remove, to_file, to_dir, sync, sync_failed, sync_dir, FileId, first, made, clock, same_name, same_file, is_file, named, changed, handed_bytes}
use Rattle.file_mem.specs.declared.choice.Taken.{Taken}
use Rattle.file_mem.specs.declared.choice.Taken.TheVariants.{Front, Each}
use Rattle.file_mem.specs.Pending.{pending, doubtful, dir_pending}
use Rattle.file_mem.specs.Taken.{left_after}

abbrev mutual
  -- a file of whose pending operations so much is taken
  pub file_left : Past → FileId → Taken → List ℕ
  file_left (handed files) i taken = handed_bytes files i
  file_left (did (to_file name op) past) i taken = if is_file (named past name) i then left_after taken op (pending past i) (file_left past i taken) else file_left past i taken
  file_left (did (sync name) past) i taken = if is_file (named past name) i then file_redone past i taken else file_left past i taken
  file_left (did (sync_failed name) past) i taken = file_left past i taken
  file_left (did (to_dir op) past) i taken = file_left past i taken
  file_left (did sync_dir past) i taken = file_left past i taken

  -- the file after all that was done to it, or where a sync of it has failed, after all since the last that failed, on what is taken of the rest
  pub file_redone : Past → FileId → Taken → List ℕ
  file_redone (handed files) i taken = handed_bytes files i
  file_redone (did (to_file name op) past) i taken = if is_file (named past name) i then changed op (file_redone past i taken) else file_redone past i taken
  file_redone (did (sync_failed name) past) i taken = if is_file (named past name) i then file_left past i taken else file_redone past i taken
  file_redone (did (sync name) past) i taken = file_redone past i taken
  file_redone (did (to_dir op) past) i taken = file_redone past i taken
  file_redone (did sync_dir past) i taken = file_redone past i taken

-- what is taken of the file is a front of what was done to it: all that is in doubt, and a front of the rest
abbrev pub IsFrontOf : Past → FileId → Taken → Type 0
IsFrontOf past i (Front ops bytes) = doubtful past i ≤ ops
IsFrontOf past i (Each front later) = ⊥

-- what was done up to the last of the first so many pending operations of the directory
abbrev pub dir_left : Past → ℕ → Past
dir_left (handed files) count = handed files
dir_left (did (to_dir op) past) count = if nat_lt (dir_pending past) count then did (to_dir op) past else dir_left past count
dir_left (did sync_dir past) count = did sync_dir past
dir_left (did (to_file name op) past) count = dir_left past count
dir_left (did (sync name) past) count = dir_left past count
dir_left (did (sync_failed name) past) count = dir_left past count

-- ---- what a file is called

-- this is its name
abbrev pub is_called : Option (List ℕ) → List ℕ → Bool
is_called None name = false
is_called (Some at) name = same_name at name

-- it loses this name
abbrev pub without : List ℕ → Option (List ℕ) → Option (List ℕ)
without name None = None
without name (Some at) = if same_name name at then None else Some at

-- its name after it is done, where perhaps it is the file that is made
abbrev pub moved : DirOp → Bool → Option (List ℕ) → Option (List ℕ)
moved (create name) is_new at = if is_new then Some name else without name at
moved (rename from to) is_new None = None
moved (rename from to) is_new (Some at) = if same_name from at then Some to else if same_name to at then None else Some at
moved (remove name) is_new at = without name at

-- the name of a file
abbrev pub called : Past → FileId → Option (List ℕ)
called (handed files) (first name) = option_map (λ _. name) (files name)
called (handed files) (made moment) = None
called (did (to_dir op) past) i = moved op (same_file (made (clock past)) i) (called past i)
called (did (to_file name op) past) i = called past i
called (did (sync name) past) i = called past i
called (did (sync_failed name) past) i = called past i
called (did sync_dir past) i = called past i
