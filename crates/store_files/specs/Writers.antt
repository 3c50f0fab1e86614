-- What writes the files of a table, and how it stands on a disk.
use Rattle.std.specs.Prelude.{◌≡◌, ℕ, Bool, true, false, not, if◌then◌else◌, List, Option}
use Rattle.file_trait.specs.DiskModel.{Past}
use Rattle.log_items.specs.Items.{log_bytes, AreContents}
use Rattle.disk_logs.specs.Crash.{Stands, DraftStands}
use Rattle.disk_logs.specs.Logs.{Handle, draft_name}
use Rattle.disk_logs.specs.Rests.{Rests}
use Rattle.store_files.specs.Names.{dcd_of, dcl_of}
use Rattle.store_files.specs.Pairs.{TableFiles, with_records, FilesStand}

-- ---- new records

-- the table's name, and whether the new records are in the place of the old ones
pub record DcdState : Type 0 where
  pub table : List ℕ
  pub published : Bool

-- its file, which is a draft until then
abbrev pub dcd_handle : DcdState → Handle
dcd_handle writer = record { name = dcd_of writer.table; draft = not writer.published; closed = true }

-- the files that there are then
abbrev pub files_now : DcdState → TableFiles → List (List ℕ) → TableFiles
files_now writer files items = if writer.published then with_records items files else files

-- These items are written beside the files of the table, or are its records already.
pub record DcdStands (past : Past) (writer : DcdState) (files : TableFiles) (items : List (List ℕ)) : Type 0 where
  pub fit : AreContents items
  pub stand : FilesStand past writer.table (files_now writer files items)
  pub draft : writer.published ≡ false
      → DraftStands past (draft_name (dcd_of writer.table)) (log_bytes true items)

-- ---- ops

-- the table's name, and whether the mark of its file says closed
pub record DclState : Type 0 where
  pub table : List ℕ
  pub closed : Bool

-- its file, which has its name already
abbrev pub dcl_handle : DclState → Handle
dcl_handle writer = record { name = dcl_of writer.table; draft = false; closed = writer.closed }

-- The file has these items, of which so many are synced, and stands beside the records of the table.
pub record DclStands (past : Past) (writer : DclState) (records : Option (List (List ℕ))) (items : List (List ℕ))
    (synced : ℕ) : Type 0 where
  pub beside : Rests past (dcd_of writer.table) records
  pub stands : Stands past (dcl_handle writer) items synced
