-- A directory over the lists of db_model: the database that a start makes of it, and how that is told by look-ups.
use Rattle.std.specs.Prelude.{◌≡◌, ℕ, true, IsTrue, if◌then◌else◌, map, List, [], ◌∷◌, ◌++◌, All, ⊤, option_map}
use Rattle.std.specs.List.{AllByRecursion}
use Rattle.std.specs.Ordering.{nat_cmp, is_lt}
use Rattle.std.specs.Cmp.Lexicographic.{slice_cmp}
use Rattle.db_model.specs.Commits.{SchemaOperation, create, drop_table, add_index, del_index, remake, CommitRecord}
use Rattle.db_model.specs.Database.{Contents, Table, Database, change_table, with_table, do_schema_op}
use Rattle.db_model.specs.Definitions.{Definition}
use Rattle.db_model.specs.Lawful.{table_in, Applies}
use Rattle.db_model.specs.Taken.{is_next, take_ops, MayTakeOp}
use Rattle.db_model.specs.declared.definition.Kind.{Kind}
use Rattle.dump_laws.specs.Contents.{has, AreOrdered, IsKeyed}
use Rattle.dump_laws.specs.Directory.{Files, TableOf, DatabaseOf, Schema, View}
use Rattle.dump_laws.specs.Effects.{Rows}

-- the version and the definitions of the schema file, the commits of the two logs, and what the table files give
pub record Directory : Type 0 where
  pub version : ℕ
  pub definitions : List Definition
  pub previous : List CommitRecord
  pub latest : List CommitRecord
  pub files : Files Contents

-- ---- how a start takes commits where there are table files

-- a table that is made begins as its files give it
abbrev pub made_table : Files Contents → Definition → Table
made_table files definition = record {
  definition = definition;
  contents = files definition.name definition.kind definition.cookie;
}

abbrev pub make : Files Contents → SchemaOperation → List Table → List Table
make files (create definition) tables = with_table (made_table files definition) tables
make files (drop_table name) tables = do_schema_op (drop_table name) tables
make files (add_index name position) tables = do_schema_op (add_index name position) tables
make files (del_index name position) tables = do_schema_op (del_index name position) tables
make files (remake definition) tables = change_table definition.name (λ table. made_table files definition) tables

abbrev pub make_all : Files Contents → List SchemaOperation → List Table → List Table
make_all files [] tables = tables
make_all files (op ∷ ops) tables = make_all files ops (make files op tables)

abbrev pub AllApplyWith : Files Contents → List SchemaOperation → List Table → Type 0
AllApplyWith files [] tables = ⊤
AllApplyWith files (op ∷ ops) tables = Applies op tables × AllApplyWith files ops (make files op tables)

abbrev pub tables_with : Files Contents → CommitRecord → Database → List Table
tables_with files commit database =
    if is_next commit database then make_all files commit.schema_operations database.tables else database.tables

-- the database behind the commit
abbrev pub taken_with : Files Contents → CommitRecord → Database → Database
taken_with files commit database = record {
  version = if is_next commit database then commit.version else database.version;
  tables = take_ops commit.version commit.operations (tables_with files commit database);
}

-- what is done of the commit may be done
pub record CanTakeWith (files : Files Contents) (commit : CommitRecord) (database : Database) : Type 0 where
  pub applies : IsTrue (is_next commit database) → AllApplyWith files commit.schema_operations database.tables
  pub allowed : All (MayTakeOp commit.version (tables_with files commit database)) commit.operations

abbrev pub all_taken_with : Files Contents → List CommitRecord → Database → Database
all_taken_with files [] database = database
all_taken_with files (commit ∷ commits) database = all_taken_with files commits (taken_with files commit database)

abbrev pub CanTakeAllWith : Files Contents → List CommitRecord → Database → Type 0
CanTakeAllWith files [] database = ⊤
CanTakeAllWith files (commit ∷ commits) database =
    CanTakeWith files commit database × CanTakeAllWith files commits (taken_with files commit database)

-- ---- a directory

-- each table of the schema file as its files give it
abbrev pub begun : Directory → Database
begun directory = record {
  version = directory.version;
  tables = map (made_table directory.files) directory.definitions;
}

-- the database that the directory stands for
abbrev pub database_of : Directory → Database
database_of directory = all_taken_with directory.files (directory.previous ++ directory.latest) (begun directory)

-- it stands for one, as far as its schema file and its logs say
abbrev pub HasMeaning : Directory → Type 0
HasMeaning directory = CanTakeAllWith directory.files (directory.previous ++ directory.latest) (begun directory)

-- a log of these commits, and nothing beside it
abbrev pub no_files : Files Contents
no_files name kind cookie = []

abbrev pub log_alone : List CommitRecord → Directory
log_alone commits = record { version = 0; definitions = []; previous = []; latest = commits; files = no_files }

-- ---- by look-ups

-- a table with its contents seen in some way
abbrev pub seen_table : {X : Type 0} → (Contents → X) → Table → TableOf X
seen_table see table = record { definition = table.definition; rows = see table.contents }

-- what a database has under each name
abbrev pub seen_by : {X : Type 0} → (Contents → X) → Database → DatabaseOf X
seen_by see database = record {
  version = database.version;
  tables = λ name. option_map (seen_table see) (table_in name database.tables);
}

abbrev pub seen : Database → DatabaseOf Rows
seen database = seen_by has database

abbrev pub schema_of : Database → Schema
schema_of database = seen_by (λ contents. tt) database

abbrev pub view_of : Directory → View
view_of directory = record {
  schema = schema_of (begun directory);
  previous = directory.previous;
  latest = directory.latest;
  files = λ name kind cookie. has (directory.files name kind cookie);
}

-- the database behind these commits, which come first
abbrev pub behind : List CommitRecord → Directory → Database
behind front directory = all_taken_with directory.files front (begun directory)

-- the schema file is written as the schema is there
abbrev pub with_schema_behind : List CommitRecord → Directory → Directory
with_schema_behind front directory = record directory {
  version = (behind front directory).version;
  definitions = map (λ table. table.definition) (behind front directory).tables;
}

-- ---- order

abbrev pub IsNamedBefore : Table → Table → Type 0
IsNamedBefore table later = is_lt (slice_cmp nat_cmp table.definition.name later.definition.name) ≡ true

-- the tables stand by increasing names, and the records of each are in order
abbrev pub AreSorted : List Table → Type 0
AreSorted [] = ⊤
AreSorted (table ∷ tables) =
    AreOrdered table.contents × AllByRecursion (IsNamedBefore table) tables × AreSorted tables

abbrev pub AreKeyed : List CommitRecord → Type 0
AreKeyed commits = AllByRecursion (λ commit. AllByRecursion IsKeyed commit.operations) commits

-- what the table files give is in order, of the tables of the schema file too, and what the logs write has keys
pub record IsOrderly (directory : Directory) : Type 0 where
  pub files : (name : List ℕ) (kind : Kind) (cookie : ℕ) → AreOrdered (directory.files name kind cookie)
  pub schema : AreSorted (begun directory).tables
  pub keyed : AreKeyed (directory.previous ++ directory.latest)
