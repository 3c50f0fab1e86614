-- The two files of a table as lists of items, from call to call and after a crash.
use Rattle.std.specs.Prelude.{◌≡◌, ◌⊎◌, ℕ, Bool, List, Option, None, Some}
use Rattle.file_trait.specs.DiskModel.{Past}
use Rattle.disk_logs.specs.Crash.{HasPrefix, LogStands, IsSound}
use Rattle.disk_logs.specs.Logs.{draft_name}
use Rattle.disk_logs.specs.Rests.{IsGone, FileHas, Rests}
use Rattle.store_files.specs.Names.{dcd_of, dcl_of}

-- a file of ops that is written to: its items, and how many of them are synced
pub record Changes : Type 0 where
  pub items : List (List ℕ)
  pub synced : ℕ

-- a table's files: the items of its records, and its ops; none where there is no such file
pub record TableFiles : Type 0 where
  pub records : Option (List (List ℕ))
  pub changes : Option Changes

-- the same with these records
abbrev pub with_records : List (List ℕ) → TableFiles → TableFiles
with_records items files = record { records = Some items; changes = files.changes }

-- these records alone
abbrev pub records_alone : List (List ℕ) → TableFiles
records_alone items = record { records = Some items; changes = None }

-- the ops alone
abbrev pub changes_alone : TableFiles → TableFiles
changes_alone files = record { records = None; changes = files.changes }

abbrev pub no_files : TableFiles
no_files = record { records = None; changes = None }

-- these records beside these ops, of which so many are synced
abbrev pub beside : Option (List (List ℕ)) → List (List ℕ) → ℕ → TableFiles
beside records items synced = record { records = records; changes = Some (record { items = items; synced = synced }) }

-- ---- between calls

-- whatever a crash leaves, there is no file, or one with the first ones of these items, and at least the synced ones
abbrev pub ChangesStand : Past → List ℕ → Option Changes → Type 0
ChangesStand past name None = IsGone past name
ChangesStand past name (Some changes) = (closed : Bool) × LogStands past name closed changes.items changes.synced

-- The records are durable, as no file or as one that is closed, and the ops as far as they are synced.
abbrev pub FilesStand : Past → List ℕ → TableFiles → Type 0
FilesStand past table files = Rests past (dcd_of table) files.records × ChangesStand past (dcl_of table) files.changes

-- a closed file of either name may be trusted
abbrev pub AreSound : List ℕ → Past → Type 0
AreSound table past = IsSound past (dcd_of table) × IsSound past (dcl_of table)

-- ---- what a crash leaves

-- no file, or one with the first ones of these items, and at least the synced ones
abbrev pub ChangesHave : Option Changes → Option (List ℕ) → Type 0
ChangesHave None file = file ≡ None
ChangesHave (Some changes) file =
    (bytes : List ℕ) × (file ≡ Some bytes) × HasPrefix changes.items changes.synced bytes

abbrev pub FilesHave : List ℕ → TableFiles → (List ℕ → Option (List ℕ)) → Type 0
FilesHave table files image =
    FileHas files.records (image (dcd_of table)) × ChangesHave files.changes (image (dcl_of table))

-- the old files, or the new records beside the old ops
abbrev pub OldOrNew : List ℕ → TableFiles → List (List ℕ) → (List ℕ → Option (List ℕ)) → Type 0
OldOrNew table files items image = FilesHave table files image ⊎ FilesHave table (with_records items files) image

-- the old files, the new records beside the old ops, or the new records alone
abbrev pub IsSwapped : List ℕ → TableFiles → List (List ℕ) → (List ℕ → Option (List ℕ)) → Type 0
IsSwapped table files items image = OldOrNew table files items image ⊎ FilesHave table (records_alone items) image

-- both files, the ops alone, or none
abbrev pub IsRemoved : List ℕ → TableFiles → (List ℕ → Option (List ℕ)) → Type 0
IsRemoved table files image =
    FilesHave table files image ⊎ FilesHave table (changes_alone files) image ⊎ FilesHave table no_files image

-- ---- names

-- the file or its draft
abbrev pub IsFileOf : List ℕ → List ℕ → Type 0
IsFileOf file name = (name ≡ file) ⊎ (name ≡ draft_name file)

-- the files of a table and their drafts
abbrev pub IsOfTable : List ℕ → List ℕ → Type 0
IsOfTable table name = IsFileOf (dcd_of table) name ⊎ IsFileOf (dcl_of table) name
