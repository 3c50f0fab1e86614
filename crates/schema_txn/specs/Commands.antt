-- What the commands on whole tables make of a database, and where they are refused.
use Rattle.std.specs.Prelude.{◌≡◌, ℕ, ◌+◌, ◌<◌, ◌≤◌, ◌^◌, not, List, [], ◌∷◌, length, filter, IsSome, IsNone}
use Rattle.db_model.specs.Commits.{SchemaOperation, create, drop_table, CommitRecord}
use Rattle.db_model.specs.Database.{Database, is_called, with_table, empty_table}
use Rattle.db_model.specs.Definitions.{Definition}
use Rattle.db_model.specs.Lawful.{table_in}
use Rattle.schema_txn.specs.declared.error.SchemaErr.{SchemaErr}
use Rattle.schema_txn.specs.declared.error.SchemaErr.TheVariants.{Exists, NoTable, TooManyTables, TooManyVersions, Memory}

abbrev pub with_cookie : ℕ → Definition → Definition
with_cookie cookie definition = record definition { cookie = cookie }

-- the next version's commit, which does this alone
abbrev pub schema_commit : SchemaOperation → Database → CommitRecord
schema_commit op database = record { version = database.version + 1; schema_operations = op ∷ []; operations = [] }

-- the table is made with the next version as its cookie
abbrev pub create_commit : Definition → Database → CommitRecord
create_commit definition database = schema_commit (create (with_cookie (database.version + 1) definition)) database

abbrev pub delete_commit : List ℕ → Database → CommitRecord
delete_commit name database = schema_commit (drop_table name) database

-- the table stands at its place, without records, and the next version is its cookie
abbrev pub created : Definition → Database → Database
created definition database = record {
  version = database.version + 1;
  tables = with_table (empty_table (with_cookie (database.version + 1) definition)) database.tables;
}

-- no table of the name stands any more
abbrev pub deleted : List ℕ → Database → Database
deleted name database = record {
  version = database.version + 1;
  tables = filter (λ table. not (is_called name table)) database.tables;
}

-- no version of 64 bits is behind the database's
abbrev pub IsLastVersion : Database → Type 0
IsLastVersion database = 2 ^ 64 ≤ database.version + 1

-- Why no such table can be made. Only want of memory has no cause that is said.
abbrev pub RefusesCreate : SchemaErr → Definition → Database → Type 0
RefusesCreate (Exists name) definition database = (name ≡ definition.name) × IsSome (table_in name database.tables)
RefusesCreate NoTable definition database = ⊥
RefusesCreate TooManyTables definition database =
    IsNone (table_in definition.name database.tables) × (1000 ≤ length database.tables)
RefusesCreate TooManyVersions definition database =
    IsNone (table_in definition.name database.tables) × (length database.tables < 1000) × IsLastVersion database
RefusesCreate Memory definition database = Unit {0}

-- why the table cannot be taken away
abbrev pub RefusesDelete : SchemaErr → List ℕ → Database → Type 0
RefusesDelete (Exists other) name database = ⊥
RefusesDelete NoTable name database = IsNone (table_in name database.tables)
RefusesDelete TooManyTables name database = ⊥
RefusesDelete TooManyVersions name database = IsSome (table_in name database.tables) × IsLastVersion database
RefusesDelete Memory name database = Unit {0}
