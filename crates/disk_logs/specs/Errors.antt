-- Why a call on a log failed.
use Rattle.std.specs.Prelude.{◌≡◌, ◌⊎◌, ℕ, ◌≤◌, List, [], Contains, Result, Ok, Err, IsErrOf}
use Rattle.file_trait.specs.declared.disk.DiskErr.{DiskErr}
use Rattle.file_trait.specs.declared.disk.DiskErr.TheVariants.{Failed}
use Rattle.file_trait.specs.Counts.{Rose}
use Rattle.disk_logs.specs.declared.error.LogErr.{LogErr}
use Rattle.disk_logs.specs.declared.error.LogErr.TheVariants.{File, Bad, TooLong, Memory}

-- a disk's answer at a file, with a log's errors
abbrev pub told : {T : Type 0} → List ℕ → Result T DiskErr → Result T LogErr
told name (Ok x) = Ok x
told name (Err Failed) = Err (File name)
told name (Err DiskErr.Memory) = Err Memory

-- the only error is that the disk failed
abbrev pub OnlyFile : {T : Type 0} → Result T LogErr → Type 0
OnlyFile (Ok x) = Unit {0}
OnlyFile (Err (File name)) = Unit {0}
OnlyFile (Err (Bad name at)) = ⊥
OnlyFile (Err TooLong) = ⊥
OnlyFile (Err Memory) = ⊥

-- the only errors are that the disk failed and that memory was wanting
abbrev pub OnlyFileOrMemory : {T : Type 0} → Result T LogErr → Type 0
OnlyFileOrMemory (Ok x) = Unit {0}
OnlyFileOrMemory (Err (File name)) = Unit {0}
OnlyFileOrMemory (Err (Bad name at)) = ⊥
OnlyFileOrMemory (Err TooLong) = ⊥
OnlyFileOrMemory (Err Memory) = Unit {0}

-- The count of faults never falls. A file is named only where it rose, and where the call that last failed was given
-- names it is one of them. Where no file is named the count is as it was.
pub record LogCause {T : Type 0} (faults faults_now : ℕ) (blamed_now : List (List ℕ)) (result : Result T LogErr) : Type 0 where
  pub later : faults ≤ faults_now
  pub failed : (name : List ℕ) → IsErrOf result (File name) → Rose faults faults_now
  pub blames : (name : List ℕ) → IsErrOf result (File name) → (blamed_now ≡ []) ⊎ Contains blamed_now name
  pub uncounted : ((name : List ℕ) → IsErrOf result (File name) → ⊥) → faults_now ≡ faults
