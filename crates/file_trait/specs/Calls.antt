-- What the calls of a disk do.
use Rattle.std.specs.Prelude.{◌≡◌, ◌⊎◌, ℕ, ◌+◌, ◌<◌, ◌≤◌, List, ◌++◌, length, take, drop, Option, None, Some, IsSome, Result, Ok, Err, IsErrOf}
use Rattle.file_trait.specs.declared.disk.DiskErr.{DiskErr}
use Rattle.file_trait.specs.declared.disk.DiskErr.TheVariants.{Failed, Memory}
use Rattle.file_trait.specs.Counts.{Rose}
use Rattle.file_trait.specs.DiskModel.{Past, did, DiskOp, FileId, to_file, sync, sync_failed, sync_dir, append, named, content, reads, FileLeaves, DirLeaves, IsSure}

abbrev pub IsThere : Past → List ℕ → Type 0
IsThere past name = IsSome (reads past name)

abbrev pub IsAbsent : Past → List ℕ → Type 0
IsAbsent past name = reads past name ≡ None

-- the file is there, and its bytes are such
abbrev pub Has : Past → List ℕ → (List ℕ → Type 0) → Type 0
Has past name P = (bytes : List ℕ) × (reads past name ≡ Some bytes) × P bytes

-- it is done, or where it failed done or not, or where memory was wanting not
abbrev pub Done : DiskOp → Result Unit DiskErr → Past → Past → Type 0
Done op (Ok done) old new = new ≡ did op old
Done op (Err Failed) old new = (new ≡ old) ⊎ (new ≡ did op old)
Done op (Err Memory) old new = new ≡ old

-- the bytes are appended, or a front of them where it failed, or none where memory was wanting
abbrev pub Appended : List ℕ → List ℕ → Result Unit DiskErr → Past → Past → Type 0
Appended name bytes (Ok done) old new = new ≡ did (to_file name (append bytes)) old
Appended name bytes (Err Failed) old new = (new ≡ old) ⊎ ((k : ℕ) × (k ≤ length bytes) × (new ≡ did (to_file name (append (take k bytes))) old))
Appended name bytes (Err Memory) old new = new ≡ old

-- whatever a crash leaves of the file that has this name now is what it reads as
abbrev pub IsDurable : Past → List ℕ → Type 0
IsDurable past name = (i : FileId) → named past name ≡ Some i → (bytes : List ℕ) → FileLeaves past i bytes → bytes ≡ content past i

-- a sync of the file that has this name now, if it is answered well, makes all of it durable
abbrev pub IsSureOf : Past → List ℕ → Type 0
IsSureOf past name = (i : FileId) → named past name ≡ Some i → IsSure past i

-- whatever directory a crash leaves is the one that is read
abbrev pub IsDirDurable : Past → Type 0
IsDirDurable past = (names : List ℕ → Option FileId) → DirLeaves past names → names ≡ named past

-- the file is synced; where nothing was pending this may take no moment; where it failed it is not, and the next may not be sure
abbrev pub Synced : List ℕ → Result Unit DiskErr → Past → Past → Type 0
Synced name (Ok done) old new = (new ≡ did (sync name) old) ⊎ ((new ≡ old) × IsDurable old name)
Synced name (Err Failed) old new = (new ≡ old) ⊎ (new ≡ did (sync name) old) ⊎ (new ≡ did (sync_failed name) old)
Synced name (Err Memory) old new = ⊥

abbrev pub SyncedDir : Result Unit DiskErr → Past → Past → Type 0
SyncedDir (Ok done) old new = (new ≡ did sync_dir old) ⊎ ((new ≡ old) × IsDirDurable old)
SyncedDir (Err Failed) old new = (new ≡ old) ⊎ (new ≡ did sync_dir old)
SyncedDir (Err Memory) old new = ⊥

-- some bytes from this place on are copied, and none only at the end or into nothing
pub record Copied (bytes : List ℕ) (at : ℕ) (old new : List ℕ) (n : ℕ) : Type 0 where
  pub short : n ≤ length old
  pub is : new ≡ take n (drop at bytes) ++ drop n old
  pub some : 0 < length old → at < length bytes → 0 < n

-- The count of faults never falls. `Failed` comes only where it rose, and then the names that the call was given are
-- blamed; any other answer counts and blames as before.
pub record Cause {T : Type 0} (names : List (List ℕ)) (faults faults_now : ℕ) (blamed blamed_now : List (List ℕ)) (result : Result T DiskErr) : Type 0 where
  pub later : faults ≤ faults_now
  pub failed : IsErrOf result Failed → Rose faults faults_now
  pub blames : IsErrOf result Failed → blamed_now ≡ names
  pub as_before : (IsErrOf result Failed → ⊥) → blamed_now ≡ blamed
  pub uncounted : (IsErrOf result Failed → ⊥) → faults_now ≡ faults

-- a call that changes the disk takes a moment at most, and one that looks takes none
abbrev pub Follows : ℕ → ℕ → Type 0
Follows before now = (before ≤ now) × (now ≤ before + 1)
