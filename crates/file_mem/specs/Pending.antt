-- What is pending: done since the last sync. Where a sync has failed, what was pending then stays so.
use Rattle.std.specs.Prelude.{◌≡◌, ℕ, ◌+◌, ◌<◌, if◌then◌else◌, List, Some}
use Rattle.file_trait.specs.DiskModel.{Past, handed, did, to_file, to_dir, sync, sync_failed, sync_dir, FileId, is_file, named}

abbrev mutual
  -- how many operations of a file are pending
  pub pending : Past → FileId → ℕ
  pending (handed files) i = 0
  pending (did (to_file name op) past) i = if is_file (named past name) i then pending past i + 1 else pending past i
  pending (did (sync name) past) i = if is_file (named past name) i then doubtful past i else pending past i
  pending (did (sync_failed name) past) i = pending past i
  pending (did (to_dir op) past) i = pending past i
  pending (did sync_dir past) i = pending past i

  -- how many of them are in doubt, since they were pending when a sync failed
  pub doubtful : Past → FileId → ℕ
  doubtful (handed files) i = 0
  doubtful (did (sync_failed name) past) i = if is_file (named past name) i then pending past i else doubtful past i
  doubtful (did (to_file name op) past) i = doubtful past i
  doubtful (did (sync name) past) i = doubtful past i
  doubtful (did (to_dir op) past) i = doubtful past i
  doubtful (did sync_dir past) i = doubtful past i

-- how many operations of the directory are pending
abbrev pub dir_pending : Past → ℕ
dir_pending (handed files) = 0
dir_pending (did (to_dir op) past) = dir_pending past + 1
dir_pending (did sync_dir past) = 0
dir_pending (did (to_file name op) past) = dir_pending past
dir_pending (did (sync name) past) = dir_pending past
dir_pending (did (sync_failed name) past) = dir_pending past

-- nothing of the file that has this name is pending
abbrev pub IsSynced : Past → List ℕ → Type 0
IsSynced past name = (i : FileId) → named past name ≡ Some i → pending past i ≡ 0

-- something of the file that has this name is in doubt
abbrev pub IsInDoubt : Past → List ℕ → Type 0
IsInDoubt past name = (i : FileId) × (named past name ≡ Some i) × (0 < doubtful past i)

-- nothing of the directory is pending
abbrev pub IsDirSynced : Past → Type 0
IsDirSynced past = dir_pending past ≡ 0
