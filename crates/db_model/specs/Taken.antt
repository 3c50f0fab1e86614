-- How a start takes a commit that it reads in a log. The tables may have been written behind that commit or before it,
-- so what they have already is skipped.
use Rattle.std.specs.Prelude.{◌≡◌, ℕ, ◌+◌, Bool, false, ◌==◌, nat_le, IsTrue, if◌then◌else◌, List, [], ◌∷◌, All, Option, None, Some}
use Rattle.db_model.specs.Commits.{CommitRecord}
use Rattle.db_model.specs.Database.{Table, Database, do_op, do_schema_ops}
use Rattle.db_model.specs.Lawful.{table_in, AllApply, IsAllowedIn}
use Rattle.db_model.specs.Ops.{Operation, table_of}

-- the commit is of the version behind the database's
abbrev pub is_next : CommitRecord → Database → Bool
is_next commit database = commit.version == database.version + 1

-- then its schema ops are done, and else they are skipped
abbrev pub tables_before_ops : CommitRecord → Database → List Table
tables_before_ops commit database =
    if is_next commit database then do_schema_ops commit.schema_operations database.tables else database.tables

-- the table stands, and was made no later
abbrev pub is_due : ℕ → Option Table → Bool
is_due version None = false
is_due version (Some table) = nat_le table.definition.cookie version

-- the op is done where its table is due, and else is skipped
abbrev pub take_op : ℕ → Operation → List Table → List Table
take_op version op tables = if is_due version (table_in (table_of op) tables) then do_op op tables else tables

abbrev pub take_ops : ℕ → List Operation → List Table → List Table
take_ops version [] tables = tables
take_ops version (op ∷ ops) tables = take_ops version ops (take_op version op tables)

-- the database behind the commit
abbrev pub taken : CommitRecord → Database → Database
taken commit database = record {
  version = if is_next commit database then commit.version else database.version;
  tables = take_ops commit.version commit.operations (tables_before_ops commit database);
}

-- the op is skipped, or its table allows it
abbrev pub MayTakeOp : ℕ → List Table → Operation → Type 0
MayTakeOp version tables op = IsTrue (is_due version (table_in (table_of op) tables)) → IsAllowedIn tables op

-- What is done of the commit may be done. Ops do not change definitions, so each is allowed where it is by the tables
-- before the ops.
pub record CanTake (commit : CommitRecord) (database : Database) : Type 0 where
  pub applies : IsTrue (is_next commit database) → AllApply commit.schema_operations database.tables
  pub allowed : All (MayTakeOp commit.version (tables_before_ops commit database)) commit.operations

-- what a start makes of a database by a commit, and nothing where it cannot take it
abbrev pub Takes : CommitRecord → Database → Option Database → Type 0
Takes commit database None = CanTake commit database → ⊥
Takes commit database (Some after) = CanTake commit database × (after ≡ taken commit database)
