-- Two logs that are one list of commits: those of PREVIOUS.LOG, and then those of LATEST.LOG.
use Rattle.std.specs.Prelude.{◌≡◌, ◌⊎◌, ℕ, ◌≤◌, true, List, [], ◌++◌, length, take, Option, None, Some}
use Rattle.file_trait.specs.DiskModel.{Past}
use Rattle.disk_logs.specs.Crash.{IsSound}
use Rattle.disk_logs.specs.Rests.{Rests, IsRenamed}
use Rattle.db_model.specs.Commits.{CommitRecord}
use Rattle.txn_log.specs.Commits.{AreItemsOf}
use Rattle.txn_log.specs.Logs.{latest, previous, LogState, Reads, TxnStands, IsLogName}

-- the names that the calls on both logs touch
abbrev pub IsOfLogs : List ℕ → Type 0
IsOfLogs name = IsLogName name ⊎ (name ≡ previous)

-- ---- what a crash may leave

-- The commits of the two files, one behind the other, are all of `before` and then the first ones of `after`, so many
-- at least.
pub record TwoLogs (before after : List CommitRecord) (least : ℕ) (files : List ℕ → Option (List ℕ)) : Type 0 where
  pub one : List CommitRecord
  pub two : List CommitRecord
  pub in_previous : Reads one (files previous)
  pub in_latest : Reads two (files latest)
  pub n : ℕ
  pub enough : least ≤ n
  pub within : n ≤ length after
  pub is : one ++ two ≡ before ++ take n after

-- While these commits, of which so many are synced, go from the one log to the other, PREVIOUS.LOG is not there or has
-- all of them.
abbrev pub Rotates : List CommitRecord → ℕ → (List ℕ → Option (List ℕ)) → Type 0
Rotates commits synced files =
    TwoLogs [] commits synced files × ((files previous ≡ None) ⊎ Reads commits (files previous))

-- while PREVIOUS.LOG is dropped
abbrev pub Drops : List CommitRecord → List CommitRecord → ℕ → (List ℕ → Option (List ℕ)) → Type 0
Drops before after synced files = TwoLogs before after synced files ⊎ TwoLogs [] after synced files

-- a closed log of either name may be trusted
abbrev pub AreSound : Past → Type 0
AreSound past = IsSound past latest × IsSound past previous

-- ---- between calls

-- whatever a crash leaves, PREVIOUS.LOG is not there, or it has exactly these commits; it is marked closed
abbrev pub PreviousStands : Past → Option (List CommitRecord) → Type 0
PreviousStands past None = Rests past previous None
PreviousStands past (Some commits) =
    (items : List (List ℕ)) × AreItemsOf commits items × Rests past previous (Some items)

-- Each log stands under its name. Of the commits of LATEST.LOG so many are synced.
pub record BothStand (past : Past) (log : LogState) (before : Option (List CommitRecord)) (after : List CommitRecord)
    (synced : ℕ) : Type 0 where
  pub in_previous : PreviousStands past before
  pub in_latest : TxnStands past log after synced

-- The log waits for its file to be made. The one before it got its other name, and a crash may leave it its old one.
pub record LogWaits (past : Past) (log : LogState) (commits : List CommitRecord) : Type 0 where
  pub waits : log.waits ≡ true
  pub none : log.commits ≡ 0
  pub items : List (List ℕ)
  pub are : AreItemsOf commits items
  pub renamed : IsRenamed past latest previous items

-- The two logs stand with these commits, or the second, without any, waits to be made.
abbrev pub LogsStand : Past → LogState → Option (List CommitRecord) → List CommitRecord → ℕ → Type 0
LogsStand past log before after synced = BothStand past log before after synced
    ⊎ ((commits : List CommitRecord) × (before ≡ Some commits) × (after ≡ []) × (synced ≡ 0)
    × LogWaits past log commits)

-- no file has no commits
abbrev pub commits_of : Option (List CommitRecord) → List CommitRecord
commits_of None = []
commits_of (Some commits) = commits
