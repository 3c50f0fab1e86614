-- The live database.
use Rattle.std.specs.Prelude.{◌≡◌, ℕ, ◌<◌, Bool, List, [], ◌∷◌, map, length}
use Rattle.std.specs.List.{AllByRecursion}
use Rattle.db_model.specs.Database.{Contents, Table, Database, same_name}
use Rattle.db_model.specs.Definitions.{Definition}
use Rattle.db_model.specs.View.{definition}
use Rattle.db_model.specs.declared.definition.Kind.{Kind}
use Rattle.db_model.specs.declared.definition.Schema.{Schema}
use Rattle.db_model.specs.declared.definition.TableDef.{TableDef}
use Rattle.ram_table.specs.Contents.{TableRecords, contents, IsInOrder}

-- the live database as contracts see it: its schema, and the table of each definition in the same order
pub record LiveTables : Type 0 where
  pub schema : Schema
  pub tables : List TableRecords

-- each definition with its contents
abbrev pub with_contents : List TableDef → List Contents → List Table
with_contents [] contents = []
with_contents (def ∷ defs) [] = []
with_contents (def ∷ defs) (rows ∷ others) =
    record { definition = definition def; contents = rows } ∷ with_contents defs others

-- the database that it is
abbrev pub database : LiveTables → Database
database live = record {
  version = live.schema.version;
  tables = with_contents live.schema.tables (map contents live.tables);
}

abbrev pub definition_of : Table → Definition
definition_of table = table.definition

-- a record that a table of this definition can have has a key: it has an element for each attribute
abbrev pub HasKey : TableDef → Type 0
HasKey def = 0 < length def.attributes

-- each table's records are in the order of their keys
abbrev pub AreInOrder : List Table → Type 0
AreInOrder tables = AllByRecursion (λ table. IsInOrder table.contents) tables

-- a record that the table can have has a key
abbrev pub IsKeyedTable : Table → Type 0
IsKeyedTable table = 0 < length table.definition.attributes

-- a table is its kind with its contents
abbrev pub table_seen : TableRecords → Kind × Contents
table_seen table = (table.kind, contents table)

abbrev pub table_shown : Table → Kind × Contents
table_shown table = (table.definition.kind, table.contents)

-- the table is of the definition's kind
pub record IsTableOf (def : TableDef) (table : TableRecords) : Type 0 where
  pub kind : table.kind ≡ def.kind
  pub keyed : HasKey def

-- a table for each definition
abbrev pub AreTables : List TableDef → List TableRecords → Type 0
AreTables [] [] = Unit {0}
AreTables [] (table ∷ tables) = ⊥
AreTables (def ∷ defs) [] = ⊥
AreTables (def ∷ defs) (table ∷ tables) = IsTableOf def table × AreTables defs tables

-- the definition has this name
abbrev pub is_named : List ℕ → TableDef → Bool
is_named name def = same_name name def.name
