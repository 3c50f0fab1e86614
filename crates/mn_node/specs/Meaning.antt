-- What a directory of files means.
use Rattle.std.specs.Prelude.{◌≡◌, ◌⊎◌, ℕ, ◌≤◌, true, List, length, take, Option, Some}
use Rattle.file_trait.specs.DiskModel.{Past, IsImage}
use Rattle.log_items.specs.Items.{log_bytes, AreContents}
use Rattle.db_model.specs.Commits.{CommitRecord}
use Rattle.db_model.specs.Histories.{no_database, CanTakeAll}
use Rattle.txn_log.specs.Commits.{AreItemsOf}
use Rattle.txn_log.specs.Logs as logs
use Rattle.txn_log.specs.Logs.{Reads, IsWrong}
use Rattle.mn_node.specs.Durable.{Entry, Durable, after, made}

-- the files of a directory, by their names
abbrev pub Files : Type 0
Files = List ℕ → Option (List ℕ)

abbrev pub latest : List ℕ
latest = logs.latest

-- a directory means a durable state, or nothing, from a place of a file on
pub data Meaning : Type 0 where
  stands : (w : Durable) → Meaning
  broken : (file : List ℕ) (at : ℕ) → Meaning

-- a start can take these commits of a log, from the first
abbrev pub AreTaken : List CommitRecord → Type 0
AreTaken commits = CanTakeAll commits no_database

-- The files stand for what the commits of the log make, and no log for no commits. Of an open log these are its
-- longest run of whole items: what stands behind that is no commit.
abbrev pub Stands : Files → Durable → Type 0
Stands files w = (commits : List CommitRecord) × Reads commits (files latest) × AreTaken commits × (w ≡ made commits)

-- the log is no file of items, or one with an item that is no commit which a start can take there, from this place on
abbrev pub IsBroken : Files → List ℕ → ℕ → Type 0
IsBroken files name at = (name ≡ latest) × IsWrong AreTaken at (files latest)

abbrev pub Means : Files → Meaning → Type 0
Means files (stands w) = Stands files w
Means files (broken name at) = IsBroken files name at

-- the log is closed, and its commits make this
abbrev pub StandsClosed : Files → Durable → Type 0
StandsClosed files w =
    (commits : List CommitRecord) × (items : List (List ℕ)) × AreItemsOf commits items × AreContents items
    × (files latest ≡ Some (log_bytes true items)) × AreTaken commits × (w ≡ made commits)

-- the files stand for what the first ones of these entries make, and at least so many
abbrev pub IsPrefixOf : Durable → List Entry → ℕ → Files → Type 0
IsPrefixOf w entries least files =
    (n : ℕ) × (least ≤ n) × (n ≤ length entries) × Stands files (after w (take n entries))

-- the log reads as a crash then could leave it, or the directory means this
abbrev pub IsOldOr : Past → Meaning → Files → Type 0
IsOldOr old meaning files =
    ((earlier : Files) × IsImage old earlier × (files latest ≡ earlier latest)) ⊎ Means files meaning
