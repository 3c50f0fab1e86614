-- Which commits may be done on which databases.
use Rattle.std.specs.Prelude.{◌≡◌, ℕ, ◌+◌, ◌<◌, ◌≤◌, ◌^◌, if◌then◌else◌, List, [], ◌∷◌, length, All, Contains, ⊤, Option, None, Some, IsSome, IsNone, IsSomeAnd}
use Rattle.db_model.specs.Commits.{SchemaOperation, create, drop_table, add_index, del_index, remake, CommitRecord}
use Rattle.db_model.specs.Database.{Table, is_called, Database, do_schema_op, do_schema_ops}
use Rattle.db_model.specs.Definitions.{IsPosition, IsDefinition}
use Rattle.db_model.specs.Ops.{Operation, table_of}
use Rattle.db_model.specs.Records.{Allows}

-- the first table of this name
abbrev pub table_in : List ℕ → List Table → Option Table
table_in name [] = None
table_in name (table ∷ tables) = if is_called name table then Some table else table_in name tables

-- the attribute at the position is no key, and is not indexed
abbrev pub LacksIndex : ℕ → Table → Type 0
LacksIndex position table = IsPosition (length table.definition.attributes) position
    × (Contains table.definition.index position → ⊥)

abbrev pub HasIndex : ℕ → Table → Type 0
HasIndex position table = Contains table.definition.index position

-- A table is made where none of its name stands, and with it there are at most 1000; all else is done to a table that
-- stands. What is made or remade is defined as a table can be.
abbrev pub Applies : SchemaOperation → List Table → Type 0
Applies (create definition) tables = IsDefinition definition × IsNone (table_in definition.name tables)
    × (length tables < 1000)
Applies (drop_table name) tables = IsSome (table_in name tables)
Applies (add_index name position) tables = IsSomeAnd (table_in name tables) (LacksIndex position)
Applies (del_index name position) tables = IsSomeAnd (table_in name tables) (HasIndex position)
Applies (remake definition) tables = IsDefinition definition × IsSome (table_in definition.name tables)

-- each applies to what those before it made
abbrev pub AllApply : List SchemaOperation → List Table → Type 0
AllApply [] tables = ⊤
AllApply (op ∷ ops) tables = Applies op tables × AllApply ops (do_schema_op op tables)

-- the op's table stands, and allows it
abbrev pub IsAllowedIn : List Table → Operation → Type 0
IsAllowedIn tables op = IsSomeAnd (table_in (table_of op) tables) (λ table. Allows table.definition op)

-- a table that is made or remade has this version as its cookie
abbrev pub HasCookie : ℕ → SchemaOperation → Type 0
HasCookie version (create definition) = definition.cookie ≡ version
HasCookie version (drop_table name) = ⊤
HasCookie version (add_index name position) = ⊤
HasCookie version (del_index name position) = ⊤
HasCookie version (remake definition) = definition.cookie ≡ version

-- the version stays where there are no schema ops, and else is the next, of 64 bits
abbrev pub IsVersionBehind : ℕ → List SchemaOperation → ℕ → Type 0
IsVersionBehind before [] version = version ≡ before
IsVersionBehind before (op ∷ ops) version = (version ≡ before + 1) × (version < 2 ^ 64)

-- The commit may be done. Ops do not change definitions, so each is allowed where it is by the tables that the schema
-- ops made.
pub record IsLawful (commit : CommitRecord) (database : Database) : Type 0 where
  pub version : IsVersionBehind database.version commit.schema_operations commit.version
  pub applies : AllApply commit.schema_operations database.tables
  pub cookies : All (HasCookie commit.version) commit.schema_operations
  pub allowed : All (IsAllowedIn (do_schema_ops commit.schema_operations database.tables)) commit.operations

-- no table was made later than the database's version
abbrev pub IsNoNewer : ℕ → Table → Type 0
IsNoNewer version table = table.definition.cookie ≤ version

abbrev pub IsSound : Database → Type 0
IsSound database = All (IsNoNewer database.version) database.tables
