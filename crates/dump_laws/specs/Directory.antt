-- What a directory means: its schema file, what its table files give, and its two logs. A database is told here by what
-- it has under each name.
use Rattle.std.specs.Prelude.{ℕ, ◌+◌, Bool, not, ◌&&◌, if◌then◌else◌, nat_le, ◌==◌, filter, length, List, [], ◌∷◌, ◌++◌, Option, None, Some, option_map, option_and_then}
use Rattle.std.specs.List.{list_any}
use Rattle.db_model.specs.Commits.{SchemaOperation, create, drop_table, add_index, del_index, remake, CommitRecord}
use Rattle.db_model.specs.Database.{same_name, with_position}
use Rattle.db_model.specs.Definitions.{Definition}
use Rattle.db_model.specs.Ops.{Operation, table_of}
use Rattle.db_model.specs.declared.definition.Kind.{Kind}
use Rattle.dump_laws.specs.Effects.{Rows, put, after}

-- a table with contents of any kind X; with `Unit` for X, its definition alone
pub record TableOf (X : Type 0) : Type 0 where
  pub definition : Definition
  pub rows : X

abbrev pub Tables : Type 0 → Type 0
Tables X = List ℕ → Option (TableOf X)

pub record DatabaseOf (X : Type 0) : Type 0 where
  pub version : ℕ
  pub tables : Tables X

abbrev pub Schema : Type 0
Schema = DatabaseOf (Unit {0})

-- what the files of a table give, by its name, its kind and the cookie that they must have: the records of its DCD with
-- the ops of its DCL done in order
abbrev pub Files : Type 0 → Type 0
Files X = List ℕ → Kind → ℕ → X

-- ---- schema ops

-- what becomes of the table that a schema op names
pub data Change : Type 0 where
  made : (definition : Definition) → Change
  gone : Change
  changed : (definition : Definition) → Change

abbrev pub named : SchemaOperation → List ℕ
named (create table) = table.name
named (drop_table table) = table
named (add_index table position) = table
named (del_index table position) = table
named (remake table) = table.name

abbrev pub is_indexed : ℕ → Definition → Bool
is_indexed position definition = list_any (λ other. other == position) definition.index

-- the attribute at the position is no key, and is not indexed
abbrev pub can_index : ℕ → Definition → Bool
can_index position definition =
    nat_le 3 position && nat_le position (length definition.attributes + 1) && not (is_indexed position definition)

abbrev pub reindexed : List ℕ → Definition → Definition
reindexed index definition = record definition { index = index }

-- None where the op does not apply to the table as it stands. That a definition can be one, and that there are at most
-- 1000 tables, is said of the database as a whole, by what a start can take.
abbrev pub change : SchemaOperation → Option Definition → Option Change
change (create table) None = Some (made table)
change (create table) (Some old) = None
change (drop_table table) None = None
change (drop_table table) (Some old) = Some gone
change (add_index table position) None = None
change (add_index table position) (Some old) =
    if can_index position old then Some (changed (reindexed (with_position position old.index) old)) else None
change (del_index table position) None = None
change (del_index table position) (Some old) =
    if is_indexed position old
    then Some (changed (reindexed (filter (λ other. not (other == position)) old.index) old)) else None
change (remake table) None = None
change (remake table) (Some old) = Some (made table)

abbrev pub definition_of : {X : Type 0} → Option (TableOf X) → Option Definition
definition_of table = option_map (λ table. table.definition) table

-- a table that is made begins as its files give it
abbrev pub changed_table : {X : Type 0} → Files X → List ℕ → Change → Option (TableOf X) → Option (TableOf X)
changed_table files name (made d) old = Some record { definition = d; rows = files name d.kind d.cookie }
changed_table files name gone old = None
changed_table files name (changed d) old = option_map (λ table. record { definition = d; rows = table.rows }) old

abbrev pub set_table : {X : Type 0} → List ℕ → Option (TableOf X) → Tables X → Tables X
set_table name table tables other = if same_name name other then table else tables other

abbrev pub schema_op_taken : {X : Type 0} → Files X → SchemaOperation → Tables X → Option (Tables X)
schema_op_taken files op tables =
    option_map (λ c. set_table (named op) (changed_table files (named op) c (tables (named op))) tables)
    (change op (definition_of (tables (named op))))

abbrev pub schema_ops_taken : {X : Type 0} → Files X → List SchemaOperation → Tables X → Option (Tables X)
schema_ops_taken files [] tables = Some tables
schema_ops_taken files (op ∷ ops) tables =
    option_and_then (λ now. schema_ops_taken files ops now) (schema_op_taken files op tables)

-- ---- ops

-- an op is done where the table's cookie is at most the version of the commit
abbrev pub touched : {X : Type 0} → (Kind → Operation → X → X) → ℕ → Operation → TableOf X → TableOf X
touched put_one version op table = record {
  definition = table.definition;
  rows = if nat_le table.definition.cookie version then put_one table.definition.kind op table.rows else table.rows;
}

abbrev pub op_taken : {X : Type 0} → (Kind → Operation → X → X) → ℕ → Operation → Tables X → Tables X
op_taken put_one version op tables other =
    if same_name (table_of op) other then option_map (touched put_one version op) (tables other) else tables other

abbrev pub ops_taken : {X : Type 0} → (Kind → Operation → X → X) → ℕ → List Operation → Tables X → Tables X
ops_taken put_one version [] tables = tables
ops_taken put_one version (op ∷ ops) tables = ops_taken put_one version ops (op_taken put_one version op tables)

-- ---- commits

-- the version reached becomes that of the commit where this is one above it
abbrev pub reached : ℕ → CommitRecord → ℕ
reached version commit = if commit.version == version + 1 then commit.version else version

abbrev pub reached_after : ℕ → List CommitRecord → ℕ
reached_after version [] = version
reached_after version (commit ∷ commits) = reached_after (reached version commit) commits

-- then the schema ops are done, and else they are skipped
abbrev pub tables_made : {X : Type 0} → Files X → CommitRecord → DatabaseOf X → Option (Tables X)
tables_made files commit database =
    if commit.version == database.version + 1
    then schema_ops_taken files commit.schema_operations database.tables else Some database.tables

abbrev pub commit_taken : {X : Type 0} → (Kind → Operation → X → X) → Files X → CommitRecord → DatabaseOf X
    → Option (DatabaseOf X)
commit_taken put_one files commit database =
    option_map
    (λ tables. record {
      version = reached database.version commit;
      tables = ops_taken put_one commit.version commit.operations tables;
    })
    (tables_made files commit database)

abbrev pub run : {X : Type 0} → (Kind → Operation → X → X) → Files X → List CommitRecord → DatabaseOf X
    → Option (DatabaseOf X)
run put_one files [] database = Some database
run put_one files (commit ∷ commits) database =
    option_and_then (λ now. run put_one files commits now) (commit_taken put_one files commit database)

-- each table of the schema begins as its files give it
abbrev pub begin : {X : Type 0} → Files X → Schema → DatabaseOf X
begin files schema = record {
  version = schema.version;
  tables = λ name. option_map
      (λ table. record {
        definition = table.definition;
        rows = files name table.definition.kind table.definition.cookie;
      })
      (schema.tables name);
}

-- the same of definitions alone
abbrev pub put_unit : Kind → Operation → Unit {0} → Unit {0}
put_unit kind op commit = tt

abbrev pub no_rows : Files (Unit {0})
no_rows name kind cookie = tt

abbrev pub schema_after : List CommitRecord → Schema → Option Schema
schema_after commits schema = run put_unit no_rows commits schema

-- ---- a directory

-- the schema as the schema file says it, the commits of PREVIOUS.LOG and of LATEST.LOG, and what the table files give
pub record View : Type 0 where
  pub schema : Schema
  pub previous : List CommitRecord
  pub latest : List CommitRecord
  pub files : Files Rows

abbrev pub commits : View → List CommitRecord
commits view = view.previous ++ view.latest

-- the database that it stands for
abbrev pub under : View → Option (DatabaseOf Rows)
under view = run put view.files (commits view) (begin view.files view.schema)

-- ---- the ops on a table

abbrev pub naming : List ℕ → List Operation → List Operation
naming name [] = []
naming name (op ∷ ops) = if same_name (table_of op) name then op ∷ naming name ops else naming name ops

-- those that a dump carries: they name the table, in commits whose version is at least its cookie
abbrev pub of_table : List ℕ → ℕ → List CommitRecord → List Operation
of_table name cookie [] = []
of_table name cookie (commit ∷ commits) =
    (if nat_le cookie commit.version then naming name commit.operations else []) ++ of_table name cookie commits

-- each table as it begins, with those ops of the commits done
abbrev pub filled : {X : Type 0} → (Kind → Operation → X → X) → Files X → List CommitRecord → Schema → DatabaseOf X
filled put_one files commits schema = record {
  version = schema.version;
  tables = λ name. option_map
      (λ table. record {
        definition = table.definition;
        rows = after put_one table.definition.kind (of_table name table.definition.cookie commits)
            (files name table.definition.kind table.definition.cookie);
      })
      (schema.tables name);
}

-- ops as contents: the list of those that are done
abbrev pub note : Kind → Operation → List Operation → List Operation
note kind op ops = ops ++ op ∷ []

abbrev pub none_noted : Files (List Operation)
none_noted name kind cookie = []

-- each table that stands after the commits, with the ops that are done on it, one after another
abbrev pub done_on : List CommitRecord → Schema → Option (DatabaseOf (List Operation))
done_on commits schema = run note none_noted commits (begin none_noted schema)

-- the same by the rule of the dump
abbrev pub by_rule : List CommitRecord → Schema → DatabaseOf (List Operation)
by_rule commits schema = record {
  version = schema.version;
  tables = λ name. option_map
      (λ table. record { definition = table.definition; rows = of_table name table.definition.cookie commits })
      (schema.tables name);
}

-- ---- the live database

-- an op is done on its table, where that stands
abbrev pub op_done : {X : Type 0} → (Kind → Operation → X → X) → Operation → Tables X → Tables X
op_done put_one op tables other =
    if same_name (table_of op) other
    then option_map
    (λ table. record { definition = table.definition; rows = put_one table.definition.kind op table.rows })
    (tables other)
    else tables other

abbrev pub ops_done : {X : Type 0} → (Kind → Operation → X → X) → List Operation → Tables X → Tables X
ops_done put_one [] tables = tables
ops_done put_one (op ∷ ops) tables = ops_done put_one ops (op_done put_one op tables)

-- the schema ops in order, where what is made is empty, then the ops in order, and the commit's version
abbrev pub commit_done : {X : Type 0} → (Kind → Operation → X → X) → X → CommitRecord → DatabaseOf X
    → Option (DatabaseOf X)
commit_done put_one empty commit database =
    option_map (λ tables. record { version = commit.version; tables = ops_done put_one commit.operations tables })
    (schema_ops_taken (λ name kind cookie. empty) commit.schema_operations database.tables)
