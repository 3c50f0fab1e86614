-- The log of the commits, and what a crash may leave of it.
use Rattle.std.specs.Prelude.{◌≡◌, ◌⊎◌, ℕ, Bool, true, false, if◌then◌else◌, suc, ◌+◌, ◌≤◌, List, [], ◌∷◌, ◌++◌, length, take, codes, Option, None, Some, Result, Ok, Err}
use Rattle.file_trait.specs.DiskModel.{Past, IsImage, Crashes}
use Rattle.file_trait.specs.Shown.{ReadsAs}
use Rattle.log_items.specs.Items.{wire, HasItems}
use Rattle.log_items.specs.Scan.{IsBadAt}
use Rattle.disk_logs.specs.Crash.{Stands}
use Rattle.disk_logs.specs.Logs.{Handle, FileRead, draft_name}
use Rattle.disk_logs.specs.declared.error.LogErr.{LogErr}
use Rattle.disk_logs.specs.declared.error.LogErr.TheVariants.{File, Bad, TooLong, Memory}
use Rattle.db_model.specs.Commits.{CommitRecord}
use Rattle.txn_log.specs.Commits.{IsHead, IsCommit, AreItemsOf, HasCommits}

abbrev pub latest : List ℕ
latest = codes "LATEST.LOG"

-- the other name, which a log gets when a new one takes its place
abbrev pub previous : List ℕ
previous = codes "PREVIOUS.LOG"

-- The log of the commits: how many it has, whether its mark says closed, and whether it waits for its file to be made,
-- since the one before it has its other name already.
pub record LogState : Type 0 where
  pub commits : ℕ
  pub closed : Bool
  pub waits : Bool

-- its file: published, under its name
abbrev pub at_latest : LogState → Handle
at_latest log = record { name = latest; draft = false; closed = log.closed }

-- the file of the one before it: published and closed, under the other name
abbrev pub at_previous : Handle
at_previous = record { name = previous; draft = false; closed = true }

-- the file that is there
abbrev pub handle : LogState → Handle
handle log = if log.waits then at_previous else at_latest log

-- no file has no commits, and a file those of its log
abbrev pub Reads : List CommitRecord → Option (List ℕ) → Type 0
Reads commits file = ((file ≡ None) × (commits ≡ []))
    ⊎ ((bytes : List ℕ) × (file ≡ Some bytes) × HasCommits commits bytes)

-- ---- files without a meaning

-- Which commits a log may have is said of the list of them, from the first: what may stand in a place depends on what
-- stands before it.

-- the first item is missing, or not a log's
abbrev pub LacksHead : List (List ℕ) → Type 0
LacksHead items = (first : List ℕ) (others : List (List ℕ)) → items ≡ first ∷ others → IsHead first → ⊥

-- behind these commits, the content is a text of no commit that is allowed there
abbrev pub IsOther : (List CommitRecord → Type 0) → List CommitRecord → List ℕ → Type 0
IsOther Allowed commits content =
    (commit : CommitRecord) → Allowed (commits ++ commit ∷ []) → IsCommit content commit → ⊥

-- behind the first item stand commits that are allowed, and then, as item number n, one that is none behind them
pub record HasOther (Allowed : List CommitRecord → Type 0) (items : List (List ℕ)) (n : ℕ) : Type 0 where
  pub commits : List CommitRecord
  pub front : List (List ℕ)
  pub other : List ℕ
  pub others : List (List ℕ)
  pub are : AreItemsOf commits front
  pub allowed : Allowed commits
  pub bad : IsOther Allowed commits other
  pub is : items ≡ front ++ other ∷ others
  pub number : n ≡ length front

-- the first item that should not be there, or the missing one, is number n, counted from 0
abbrev pub IsWrongFrom : (List CommitRecord → Type 0) → List (List ℕ) → ℕ → Type 0
IsWrongFrom Allowed items n = ((n ≡ 0) × LacksHead items) ⊎ HasOther Allowed items n

-- such an item stands at this place, or would
pub record IsWrongAt (Allowed : List CommitRecord → Type 0) (items : List (List ℕ)) (at : ℕ) : Type 0 where
  pub number : ℕ
  pub wrong : IsWrongFrom Allowed items number
  pub place : at ≡ 8 + length (wire (take number items))

-- the file is no log of commits that are allowed, from this place on
abbrev pub IsWrong : (List CommitRecord → Type 0) → ℕ → Option (List ℕ) → Type 0
IsWrong Allowed at file = (bytes : List ℕ) × (file ≡ Some bytes)
    × (IsBadAt bytes at ⊎ ((items : List (List ℕ)) × HasItems bytes items × IsWrongAt Allowed items at))

-- all commits are allowed
abbrev pub IsAny : List CommitRecord → Type 0
IsAny commits = Unit {0}

-- ---- crashes

-- a published log has these commits, whatever a crash leaves has the first ones of them, and so many at least
pub record TxnStands (past : Past) (log : LogState) (commits : List CommitRecord) (synced : ℕ) : Type 0 where
  pub made : log.waits ≡ false
  pub count : log.commits ≡ length commits
  pub items : List (List ℕ)
  pub are : AreItemsOf commits items
  pub stands : Stands past (at_latest log) items (suc synced)

-- the file has the first ones of these commits, and at least so many
abbrev pub HasFirst : List CommitRecord → ℕ → List ℕ → Type 0
HasFirst commits least bytes = (n : ℕ) × (least ≤ n) × (n ≤ length commits) × HasCommits (take n commits) bytes

-- whatever a crash leaves now, the log has the first ones of these commits, and at least so many
abbrev pub Leaves : List CommitRecord → ℕ → Past → Type 0
Leaves commits least = Crashes (ReadsAs latest (HasFirst commits least))

-- whatever a crash leaves now, the log reads as a crash could leave it at first, or has exactly these commits
abbrev pub OldOrCommits : Past → List CommitRecord → Past → Type 0
OldOrCommits old commits = Crashes (λ image.
    ((earlier : List ℕ → Option (List ℕ)) × IsImage old earlier × (image latest ≡ earlier latest))
    ⊎ Reads commits (image latest))

-- the names that the log's calls touch
abbrev pub IsLogName : List ℕ → Type 0
IsLogName name = (name ≡ latest) ⊎ (name ≡ draft_name latest)

-- the same of one call: a draft is touched only where the log waits for its file
abbrev pub IsOwn : LogState → List ℕ → Type 0
IsOwn log name = (name ≡ latest) ⊎ ((log.waits ≡ true) × (name ≡ draft_name latest))

-- ---- reading

-- the file is no file of items, or its first item is not a log's
abbrev pub IsNoLog : ℕ → Option (List ℕ) → Type 0
IsNoLog at file = (bytes : List ℕ) × (file ≡ Some bytes)
    × (IsBadAt bytes at ⊎ ((items : List (List ℕ)) × HasItems bytes items × LacksHead items × (at ≡ 8)))

-- What is read of the log of this name: nothing where there is no file, its bytes where it begins as a log, and else
-- where it does not.
abbrev pub HasFoundAt : List ℕ → Result (Option FileRead) LogErr → Option (List ℕ) → Type 0
HasFoundAt own (Ok None) file = file ≡ None
HasFoundAt own (Ok (Some read)) file = file ≡ Some read.bytes
HasFoundAt own (Err (Bad name at)) file = (name ≡ own) × IsNoLog at file
HasFoundAt own (Err TooLong) file = ⊥
HasFoundAt own (Err (File name)) file = Unit {0}
HasFoundAt own (Err Memory) file = Unit {0}

abbrev pub HasFound : Result (Option FileRead) LogErr → Option (List ℕ) → Type 0
HasFound = HasFoundAt latest

-- the file is as it was read
abbrev pub IsAsRead : Option FileRead → Option (List ℕ) → Type 0
IsAsRead None file = file ≡ None
IsAsRead (Some read) file = file ≡ Some read.bytes

-- all items behind the first are commits
abbrev pub HasOnlyCommits : Option FileRead → Type 0
HasOnlyCommits None = Unit {0}
HasOnlyCommits (Some read) = (commits : List CommitRecord) × AreItemsOf commits read.items
