-- What comes of reading one file of a table.
use Rattle.std.specs.Prelude.{◌≡◌, ℕ, List, Option, Result, Ok, Err}
use Rattle.disk_logs.specs.Logs.{FileRead}
use Rattle.disk_logs.specs.declared.error.LogErr.{LogErr}
use Rattle.disk_logs.specs.declared.error.LogErr.TheVariants.{File, Bad, TooLong, Memory}
use Rattle.db_model.specs.Database.{Contents}
use Rattle.db_model.specs.Definitions.{Definition}
use Rattle.db_model.specs.Ops.{Operation}
use Rattle.ram_table.specs.Contents.{TableRecords, contents, put_ops}
use Rattle.store_files.specs.Forms.{IsWrong}
use Rattle.store_files.specs.Names.{dcd_of, dcl_of}
use Rattle.store_files.specs.Tables.{dcd_form, dcl_form, HasRecords, HasOps, IsOwnFile}

-- the records of its file, or the first wrong place
abbrev pub HasRecordsRead : Definition → Result (TableRecords × Option FileRead) LogErr → Option (List ℕ) → Type 0
HasRecordsRead table (Ok (rows, found)) file =
    HasRecords table (contents rows) file × IsOwnFile (dcd_form table) table.cookie found file
HasRecordsRead table (Err (Bad name at)) file = (name ≡ dcd_of table.name) × IsWrong (dcd_form table) at file
HasRecordsRead table (Err TooLong) file = ⊥
HasRecordsRead table (Err (File name)) file = Unit {0}
HasRecordsRead table (Err Memory) file = Unit {0}

-- the ops of its file, which were done on these rows, or the first wrong place
abbrev pub HasOpsRead : Definition → Contents → Contents → Result (Option FileRead) LogErr → Option (List ℕ) → Type 0
HasOpsRead table rows after (Ok found) file = (ops : List Operation) × HasOps table ops file
    × (after ≡ put_ops table.kind ops rows) × IsOwnFile (dcl_form table) table.cookie found file
HasOpsRead table rows after (Err (Bad name at)) file = (name ≡ dcl_of table.name) × IsWrong (dcl_form table) at file
HasOpsRead table rows after (Err TooLong) file = ⊥
HasOpsRead table rows after (Err (File name)) file = Unit {0}
HasOpsRead table rows after (Err Memory) file = Unit {0}
