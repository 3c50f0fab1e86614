-- The narrower model, of a disk that leaves of each file a prefix of what was done to it, the last append perhaps cut short.
use Rattle.std.specs.Prelude.{◌≡◌, ◌⊎◌, ℕ, ◌≤◌, List, ◌++◌, length, take, Option, Some, option_map}
use Rattle.file_trait.specs.DiskModel.{Past, handed, did, FileOp, append, mark, cut, to_file, to_dir, sync, sync_failed, sync_dir, FileId, handed_bytes, named, changed, content, DirLeaves}

abbrev pub PrefixDone : FileOp → List ℕ → List ℕ → Type 0
PrefixDone (append bytes) old new = (k : ℕ) × (k ≤ length bytes) × (new ≡ old ++ take k bytes)
PrefixDone (mark four) old new = new ≡ changed (mark four) old
PrefixDone (cut len) old new = new ≡ changed (cut len) old

abbrev pub PrefixLeaves : Past → FileId → List ℕ → Type 0
PrefixLeaves (handed files) i bytes = bytes ≡ handed_bytes files i
PrefixLeaves (did (to_file name op) past) i bytes = PrefixLeaves past i bytes ⊎ ((named past name ≡ Some i) × PrefixDone op (content past i) bytes)
PrefixLeaves (did (sync name) past) i bytes = PrefixLeaves past i bytes × (named past name ≡ Some i → bytes ≡ content past i)
PrefixLeaves (did (sync_failed name) past) i bytes = PrefixLeaves past i bytes
PrefixLeaves (did (to_dir op) past) i bytes = PrefixLeaves past i bytes
PrefixLeaves (did sync_dir past) i bytes = PrefixLeaves past i bytes

pub record IsPrefixImage (past : Past) (image : List ℕ → Option (List ℕ)) : Type 0 where
  pub names : List ℕ → Option FileId
  pub bytes : FileId → List ℕ
  pub directory : DirLeaves past names
  pub each : (i : FileId) → PrefixLeaves past i (bytes i)
  pub is : (name : List ℕ) → image name ≡ option_map bytes (names name)
