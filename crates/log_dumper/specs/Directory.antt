-- A whole directory: the two logs, the schema file, and the two files of each table, between calls and after a crash.
use Rattle.std.specs.Prelude.{◌⊎◌, ℕ, if◌then◌else◌, List, [], ◌∷◌, length, Option, option_map}
use Rattle.file_trait.specs.DiskModel.{Past}
use Rattle.disk_logs.specs.Crash.{IsSound}
use Rattle.disk_logs.specs.Rests.{FileHas, Rests}
use Rattle.db_model.specs.Commits.{CommitRecord}
use Rattle.db_model.specs.Database.{same_name}
use Rattle.db_model.specs.Names.{IsTableName}
use Rattle.txn_log.specs.Logs.{LogState}
use Rattle.txn_log.specs.TwoLogs.{TwoLogs, AreSound as LogsSound, LogsStand, commits_of}
use Rattle.store_files.specs.Names.{schema_name}
use Rattle.store_files.specs.Pairs.{Changes, TableFiles, FilesStand, FilesHave, AreSound as FilesSound}

abbrev pub Files : Type 0
Files = List ℕ → Option (List ℕ)

-- ---- what there is

-- The log that is written, the commits of PREVIOUS.LOG where there is one, and those of LATEST.LOG, of which so many
-- are synced.
pub record Logs : Type 0 where
  pub log : LogState
  pub before : Option (List CommitRecord)
  pub after : List CommitRecord
  pub synced : ℕ

-- the two logs, the items of the schema file, and the files of each table by its name
pub record State : Type 0 where
  pub logs : Logs
  pub schema : Option (List (List ℕ))
  pub tables : List ℕ → TableFiles

abbrev pub with_logs : Logs → State → State
with_logs logs s = record s { logs = logs }

abbrev pub with_schema : Option (List (List ℕ)) → State → State
with_schema schema s = record s { schema = schema }

abbrev pub with_files : List ℕ → TableFiles → State → State
with_files table files s = record s { tables = λ other. if same_name table other then files else s.tables other }

-- the same with all commits and all ops synced
abbrev pub all_synced : Logs → Logs
all_synced logs = record logs { synced = length logs.after }

abbrev pub all_changes : Changes → Changes
all_changes changes = record changes { synced = length changes.items }

abbrev pub files_now : TableFiles → TableFiles
files_now files = record files { changes = option_map all_changes files.changes }

abbrev pub now : State → State
now s = record { logs = all_synced s.logs; schema = s.schema; tables = λ table. files_now (s.tables table) }

-- ---- between calls

abbrev pub LogsAre : Past → Logs → Type 0
LogsAre past logs = LogsStand past logs.log logs.before logs.after logs.synced

pub record DirectoryStands (past : Past) (s : State) : Type 0 where
  pub logs : LogsAre past s.logs
  pub schema : Rests past schema_name s.schema
  pub tables : (table : List ℕ) → IsTableName table → FilesStand past table (s.tables table)

-- a closed file of any of its names may be trusted
pub record DirectorySound (past : Past) : Type 0 where
  pub logs : LogsSound past
  pub schema : IsSound past schema_name
  pub tables : (table : List ℕ) → IsTableName table → FilesSound table past

-- ---- what a crash leaves

abbrev pub LogsHave : Logs → Files → Type 0
LogsHave logs = TwoLogs (commits_of logs.before) logs.after logs.synced

pub record DirectoryHas (s : State) (image : Files) : Type 0 where
  pub logs : LogsHave s.logs image
  pub schema : FileHas s.schema (image schema_name)
  pub tables : (table : List ℕ) → IsTableName table → FilesHave table (s.tables table) image

-- what one of these states has
abbrev pub HasOne : List State → Files → Type 0
HasOne [] image = ⊥
HasOne (s ∷ states) image = DirectoryHas s image ⊎ HasOne states image

-- one of these of a table's files
abbrev pub FilesHaveOne : List ℕ → List TableFiles → Files → Type 0
FilesHaveOne table [] image = ⊥
FilesHaveOne table (files ∷ others) image = FilesHave table files image ⊎ FilesHaveOne table others image
