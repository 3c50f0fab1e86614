-- What the files of a directory say, as items and as bytes.
use Rattle.std.specs.Prelude.{◌≡◌, ℕ, suc, List, [], codes, ⊤, Option, None, Some}
use Rattle.std.specs.List.{AllByRecursion}
use Rattle.term_core.specs.Tree.{Tree}
use Rattle.term_wire.specs.Spelling.{IsText}
use Rattle.db_model.specs.Definitions.{Definition}
use Rattle.db_model.specs.Names.{IsTableName}
use Rattle.db_model.specs.Ops.{Operation}
use Rattle.db_model.specs.declared.definition.Kind.{Kind}
use Rattle.dump_laws.specs.Contents.{AreOrdered, IsKeyed}
use Rattle.dump_laws.specs.Lists.{Directory}
use Rattle.txn_log.specs.Logs.{latest, previous, Reads}
use Rattle.txn_log.specs.TwoLogs.{commits_of}
use Rattle.store_files.specs.Forms.{Form, AreItemsOf, Gives}
use Rattle.store_files.specs.Names.{schema_name, dcd_of, dcl_of}
use Rattle.store_files.specs.Pairs.{Changes, TableFiles}
use Rattle.store_files.specs.Schema.{schema_form, HasSchema}
use Rattle.store_files.specs.Tables.{IsChange}
use Rattle.log_dumper.specs.Directory.{Files, State}
use Rattle.log_dumper.specs.Stored.{StoredRecords, StoredOps, StoredTable, Stored, contents_at}

-- ---- the forms of a table's files, whatever its definition

-- records in the order of contents
abbrev pub records_form : Form Tree
records_form = record { word = codes "dcd"; Counts = λ cookie. ⊤; Says = IsText; Allows = AreOrdered }

-- ops, of which those that write a record write one with a key
abbrev pub changes_form : Form Operation
changes_form = record { word = codes "dcl"; Counts = λ cookie. ⊤; Says = IsChange; Allows = AllByRecursion IsKeyed }

-- ---- items

abbrev pub SaysSchema : Option (List (List ℕ)) → ℕ → List Definition → Type 0
SaysSchema None version definitions = (version ≡ 0) × (definitions ≡ [])
SaysSchema (Some items) version definitions = AreItemsOf schema_form version definitions items

abbrev pub SaysRecords : Option (List (List ℕ)) → Option StoredRecords → Type 0
SaysRecords None None = ⊤
SaysRecords None (Some records) = ⊥
SaysRecords (Some items) None = ⊥
SaysRecords (Some items) (Some records) = AreItemsOf records_form records.cookie records.rows items

-- the first item is always synced
abbrev pub SaysChanges : Option Changes → Option StoredOps → Type 0
SaysChanges None None = ⊤
SaysChanges None (Some changes) = ⊥
SaysChanges (Some file) None = ⊥
SaysChanges (Some file) (Some changes) =
    AreItemsOf changes_form changes.cookie changes.ops file.items × (file.synced ≡ suc changes.synced)

abbrev pub SaysTable : TableFiles → StoredTable → Type 0
SaysTable files table = SaysRecords files.records table.records × SaysChanges files.changes table.changes

-- the items of a directory say what is stored
pub record Says (s : State) (stored : Stored) : Type 0 where
  pub schema : SaysSchema s.schema stored.version stored.definitions
  pub before : commits_of s.logs.before ≡ stored.before
  pub after : s.logs.after ≡ stored.after
  pub synced : s.logs.synced ≡ stored.synced
  pub tables : (name : List ℕ) → IsTableName name → SaysTable (s.tables name) (stored.tables name)

-- ---- bytes

abbrev pub HasStoredRecords : Option StoredRecords → Option (List ℕ) → Type 0
HasStoredRecords None file = file ≡ None
HasStoredRecords (Some records) file = Gives records_form records.cookie records.rows file

abbrev pub HasStoredOps : Option StoredOps → Option (List ℕ) → Type 0
HasStoredOps None file = file ≡ None
HasStoredOps (Some changes) file = Gives changes_form changes.cookie changes.ops file

abbrev pub HasTable : StoredTable → Option (List ℕ) → Option (List ℕ) → Type 0
HasTable table dcd dcl = HasStoredRecords table.records dcd × HasStoredOps table.changes dcl

-- The files are this directory, with these files of the tables: they give to a table of any kind and cookie what the
-- directory says.
pub record HasDirectory (image : Files) (tables : List ℕ → StoredTable) (directory : Directory) : Type 0 where
  pub schema : HasSchema record { version = directory.version; tables = directory.definitions } (image schema_name)
  pub in_previous : Reads directory.previous (image previous)
  pub in_latest : Reads directory.latest (image latest)
  pub tables_read : (name : List ℕ) → IsTableName name
      → HasTable (tables name) (image (dcd_of name)) (image (dcl_of name))
  pub gives : (name : List ℕ) (kind : Kind) (cookie : ℕ)
      → directory.files name kind cookie ≡ contents_at kind cookie (tables name)
