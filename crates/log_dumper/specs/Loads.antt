-- What a start can load: files of tables that have what their tables can have.
use Rattle.std.specs.Prelude.{◌≡◌, ℕ, ◌≤◌, List, ⊤, Option, None, Some, All}
use Rattle.db_model.specs.Definitions.{Definition}
use Rattle.dump_laws.specs.Order.{First}
use Rattle.store_files.specs.Tables.{AreRecords, MayChange}
use Rattle.log_dumper.specs.Ordered.{standing}
use Rattle.log_dumper.specs.Stored.{StoredRecords, StoredOps, StoredTable, Stored, commits_at}

-- a file under the table's cookie has records or ops that the table can have
abbrev pub RecordsFit : Definition → Option StoredRecords → Type 0
RecordsFit definition None = ⊤
RecordsFit definition (Some records) = records.cookie ≡ definition.cookie → AreRecords definition records.rows

abbrev pub OpsFit : Definition → Option StoredOps → Type 0
OpsFit definition None = ⊤
OpsFit definition (Some changes) = changes.cookie ≡ definition.cookie → All (MayChange definition) changes.ops

abbrev pub FilesFit : Definition → StoredTable → Type 0
FilesFit definition table = RecordsFit definition table.records × OpsFit definition table.changes

-- whatever commits a crash leaves, the files of each table that stands behind them fit it
abbrev pub IsLoadable : First → Stored → Type 0
IsLoadable first stored = (n : ℕ) → stored.synced ≤ n → (name : List ℕ) (definition : Definition)
    → standing (commits_at n stored) first.schema name ≡ Some definition → FilesFit definition (stored.tables name)
