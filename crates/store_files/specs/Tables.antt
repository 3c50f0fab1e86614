-- The two files of a table: its records, and the ops that are to be done on them. Both have the table's cookie.
use Rattle.std.specs.Prelude.{◌≡◌, ◌⊎◌, ℕ, Bool, List, [], codes, All, Option, None, Some, Result, Ok, Err, IsTrue}
use Rattle.term_core.specs.Tree.{Tree, key_of}
use Rattle.term_wire.specs.Spelling.{IsText}
use Rattle.db_model.specs.Database.{Contents, is_key_below, comes_before}
use Rattle.db_model.specs.Definitions.{Definition}
use Rattle.db_model.specs.Ops.{Operation, table_of, IsOp}
use Rattle.db_model.specs.Records.{Fits, Allows}
use Rattle.db_model.specs.declared.definition.Kind.{Kind}
use Rattle.db_model.specs.declared.definition.Kind.TheVariants.{Bag}
use Rattle.disk_logs.specs.Logs.{FileRead, IsRead}
use Rattle.disk_logs.specs.declared.error.LogErr.{LogErr}
use Rattle.disk_logs.specs.declared.error.LogErr.TheVariants.{File, Bad, TooLong, Memory}
use Rattle.ram_table.specs.Contents.{contents, put_ops}
use Rattle.store_files.specs.Forms.{Form, AreIncreasing, BeginWith, Gives, IsAbsent, IsWrong}
use Rattle.store_files.specs.Names.{dcd_of, dcl_of}
use Rattle.store_files.specs.declared.load.TableFiles.{TableFiles}

-- ---- records

-- in a bag in the order of contents, and else by keys, of which no two are the same
abbrev pub is_before : Kind → Tree → Tree → Bool
is_before Bag row other = comes_before row other
is_before kind row other = is_key_below (key_of row) (key_of other)

abbrev pub IsBefore : Kind → Tree → Tree → Type 0
IsBefore kind row other = IsTrue (is_before kind row other)

-- records that fit the table, each once, in the order of contents
pub record AreRecords (table : Definition) (rows : Contents) : Type 0 where
  pub fit : All (Fits table) rows
  pub increasing : AreIncreasing (IsBefore table.kind) rows

-- `{dcd,Cookie}`, and the records
abbrev pub dcd_form : Definition → Form Tree
dcd_form table = record {
  word = codes "dcd";
  Counts = λ cookie. cookie ≡ table.cookie;
  Says = IsText;
  Allows = AreRecords table;
}

-- no file, or one of another table, has no records
abbrev pub HasRecords : Definition → Contents → Option (List ℕ) → Type 0
HasRecords table rows file = Gives (dcd_form table) table.cookie rows file
    ⊎ ((rows ≡ []) × IsAbsent (dcd_form table) file)

-- ---- ops

-- the content is a text of the op's term
abbrev pub IsChange : List ℕ → Operation → Type 0
IsChange content op = (term : Tree) × IsText content term × IsOp term op

-- the op names the table, and may be done on it
abbrev pub MayChange : Definition → Operation → Type 0
MayChange table op = (table_of op ≡ table.name) × Allows table op

-- `{dcl,Cookie}`, and the ops
abbrev pub dcl_form : Definition → Form Operation
dcl_form table = record {
  word = codes "dcl";
  Counts = λ cookie. cookie ≡ table.cookie;
  Says = IsChange;
  Allows = All (MayChange table);
}

-- no file, or one of another table, has no ops
abbrev pub HasOps : Definition → List Operation → Option (List ℕ) → Type 0
HasOps table ops file = Gives (dcl_form table) table.cookie ops file
    ⊎ ((ops ≡ []) × IsAbsent (dcl_form table) file)

-- ---- both

-- What the two files give the table: the records of the one, with the ops of the other done in their order.
pub record HaveContents (table : Definition) (contents : Contents) (dcd dcl : Option (List ℕ)) : Type 0 where
  pub rows : Contents
  pub ops : List Operation
  pub records : HasRecords table rows dcd
  pub changes : HasOps table ops dcl
  pub is : contents ≡ put_ops table.kind ops rows

-- The first place from which the two files have no meaning: in that of the records, or where this has one in that of
-- the ops.
abbrev pub AreWrong : Definition → List ℕ → ℕ → Option (List ℕ) → Option (List ℕ) → Type 0
AreWrong table name at dcd dcl = ((name ≡ dcd_of table.name) × IsWrong (dcd_form table) at dcd)
    ⊎ ((name ≡ dcl_of table.name) × ((rows : Contents) × HasRecords table rows dcd) × IsWrong (dcl_form table) at dcl)

-- ---- what is read

-- the file as it was read, where it is there and counts
abbrev pub IsOwnFile : {X : Type 0} → Form X → ℕ → Option FileRead → Option (List ℕ) → Type 0
IsOwnFile form number None file = IsAbsent form file
IsOwnFile form number (Some read) file =
    IsRead read × BeginWith form.word number read.items × (file ≡ Some read.bytes)

-- the table with its contents, and its files as they were read
pub record IsLoaded (table : Definition) (files : TableFiles) (dcd dcl : Option (List ℕ)) : Type 0 where
  pub same_kind : files.table.kind ≡ table.kind
  pub holds : HaveContents table (contents files.table) dcd dcl
  pub records_file : IsOwnFile (dcd_form table) table.cookie files.dcd dcd
  pub changes_file : IsOwnFile (dcl_form table) table.cookie files.dcl dcl

-- what is read of the two files: the table, or the first wrong place
abbrev pub HasLoaded : Definition → Result TableFiles LogErr → Option (List ℕ) → Option (List ℕ) → Type 0
HasLoaded table (Ok files) dcd dcl = IsLoaded table files dcd dcl
HasLoaded table (Err (Bad name at)) dcd dcl = AreWrong table name at dcd dcl
HasLoaded table (Err TooLong) dcd dcl = ⊥
HasLoaded table (Err (File name)) dcd dcl = Unit {0}
HasLoaded table (Err Memory) dcd dcl = Unit {0}
