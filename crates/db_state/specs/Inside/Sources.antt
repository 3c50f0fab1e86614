-- Where the tables of a new arrangement come from.
use Rattle.std.specs.Prelude.{◌≡◌, ℕ, suc, ◌<◌, ◌≤◌, List, [], ◌∷◌, map, length, vec_len, vec_capacity, Option, None, Some, slice_get, slice_set}
use Rattle.std.specs.Option.{unwrap_or}
use Rattle.db_model.specs.declared.definition.Kind.TheVariants.{Set}
use Rattle.db_model.specs.declared.definition.TableDef.{TableDef}
use Rattle.ram_table.specs.Contents.{TableRecords}
use Rattle.db_state.specs.Live.{AreTables}
use Rattle.db_state.specs.declared.arrangement.Source.{Source}
use Rattle.db_state.specs.declared.arrangement.Source.TheVariants.{Kept, Made}
use Rattle.db_state.specs.declared.arrangement.Arrangement.{Arrangement}

abbrev pub no_records : TableRecords
no_records = record { kind = Set; records = [] }

-- the table that comes from there, where these stood before
abbrev pub table_from : List TableRecords → Source → TableRecords
table_from old (Kept place) = unwrap_or (slice_get old place) no_records
table_from old (Made table) = table

-- what stands once it was taken away
abbrev pub left_by : List TableRecords → Source → List TableRecords
left_by old (Kept place) = slice_set old place no_records
left_by old (Made table) = old

-- it is there, among so many
abbrev pub IsThere : ℕ → Source → Type 0
IsThere count (Kept place) = place < count
IsThere count (Made table) = Unit {0}

-- The places of those that are kept increase from this one on, and are below the count.
abbrev pub AreFrom : ℕ → ℕ → List Source → Type 0
AreFrom count least [] = Unit {0}
AreFrom count least (Kept place ∷ sources) = (least ≤ place) × (place < count) × AreFrom count (suc place) sources
AreFrom count least (Made table ∷ sources) = AreFrom count least sources

-- the definitions in the new arrangement, and as they stood where there is none
abbrev pub defs_in : List TableDef → Option Arrangement → List TableDef
defs_in defs None = defs
defs_in defs (Some new) = new.defs

-- the tables in the new arrangement
abbrev pub tables_in : List TableRecords → Option Arrangement → List TableRecords
tables_in tables None = tables
tables_in tables (Some new) = map (table_from tables) new.sources.items

-- the tables that are kept stand once each, each is of its definition, and there is room for all
pub record IsArrangement (tables : List TableRecords) (new : Arrangement) : Type 0 where
  pub once : AreFrom (length tables) 0 new.sources.items
  pub fit : AreTables new.defs (map (table_from tables) new.sources.items)
  pub empty : new.room.items ≡ []
  pub roomy : vec_len new.sources ≤ vec_capacity new.room

abbrev pub IsArranged : List TableRecords → Option Arrangement → Type 0
IsArranged tables None = Unit {0}
IsArranged tables (Some new) = IsArrangement tables new
