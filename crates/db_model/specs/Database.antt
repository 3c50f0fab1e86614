-- A database as plain data, and what commits do to it.
use Rattle.std.specs.Prelude.{ℕ, Bool, false, not, ◌==◌, filter, map, if◌then◌else◌, List, [], ◌∷◌, Option, None, Some}
use Rattle.std.specs.List.{list_any}
use Rattle.std.specs.Ordering.{nat_cmp, is_eq, is_lt, ordering_then}
use Rattle.std.specs.Cmp.Lexicographic.{slice_cmp}
use Rattle.term_core.specs.Tree.{Tree, key_of, tree_cmp}
use Rattle.term_core.specs.Order.{same_tree}
use Rattle.db_model.specs.Commits.{SchemaOperation, create, drop_table, add_index, del_index, remake, CommitRecord}
use Rattle.db_model.specs.Definitions.{Definition}
use Rattle.db_model.specs.Ops.{Operation, write, delete, delete_object, clear, table_of}
use Rattle.db_model.specs.declared.definition.Kind.{Kind}
use Rattle.db_model.specs.declared.definition.Kind.TheVariants.{Bag}

-- ---- contents

-- the records of a table: by increasing keys, and those of one key in the order of terms, which is kept so by put_op
abbrev pub Contents : Type 0
Contents = List Tree

-- this is the key
abbrev pub is_key : Tree → Option Tree → Bool
is_key key None = false
is_key key (Some own) = same_tree own key

-- the record has this key
abbrev pub has_key : Tree → Tree → Bool
has_key key row = is_key key (key_of row)

-- the second record has the first one's key
abbrev pub has_key_of : Option Tree → Tree → Bool
has_key_of None other = false
has_key_of (Some key) other = has_key key other

-- what a read of a key gives
abbrev pub records_of : Tree → Contents → List Tree
records_of key contents = filter (has_key key) contents

-- the records with another key
abbrev pub without_key : Option Tree → Contents → Contents
without_key key contents = filter (λ row. not (has_key_of key row)) contents

abbrev pub is_key_below : Option Tree → Option Tree → Bool
is_key_below (Some key) (Some other) = is_lt (tree_cmp key other)
is_key_below key other = false

-- the record comes before the other one: its key does, or it has that key and comes before it in the order of terms
abbrev pub comes_before : Tree → Tree → Bool
comes_before row other =
    if has_key_of (key_of row) other then is_lt (tree_cmp row other)
    else is_key_below (key_of row) (key_of other)

-- the record at its place
abbrev pub with_record : Tree → Contents → Contents
with_record row [] = row ∷ []
with_record row (other ∷ others) =
    if comes_before row other then row ∷ other ∷ others else other ∷ with_record row others

abbrev pub put_record : Kind → Tree → Contents → Contents
put_record Bag row contents = if list_any (same_tree row) contents then contents else with_record row contents
put_record other row contents = with_record row (without_key (key_of row) contents)

-- what one op does to the contents of its table
abbrev pub put_op : Kind → Operation → Contents → Contents
put_op kind (write table row) contents = put_record kind row contents
put_op kind (delete table key) contents = without_key (Some key) contents
put_op kind (delete_object table row) contents = filter (λ other. not (same_tree row other)) contents
put_op kind (clear table) contents = []

-- ---- tables

-- a table's definition with its contents
pub record Table : Type 0 where
  pub definition : Definition
  pub contents : Contents

abbrev pub same_name : List ℕ → List ℕ → Bool
same_name name other = is_eq (slice_cmp nat_cmp name other)

abbrev pub is_called : List ℕ → Table → Bool
is_called name table = same_name name table.definition.name

-- The tables, by increasing names, which is kept so by do_schema_op, and the version of the last commit that changed their
-- definitions.
pub record Database : Type 0 where
  pub version : ℕ
  pub tables : List Table

-- the contents of the first table of this name, and none where there is none
abbrev pub contents_in : List ℕ → List Table → Contents
contents_in name [] = []
contents_in name (table ∷ tables) = if is_called name table then table.contents else contents_in name tables

-- ---- commits

-- the tables, after this was done to each one of the name
abbrev pub change_table : List ℕ → (Table → Table) → List Table → List Table
change_table name change tables = map (λ table. if is_called name table then change table else table) tables

abbrev pub with_op : Operation → Table → Table
with_op op table = record table { contents = put_op table.definition.kind op table.contents }

abbrev pub do_op : Operation → List Table → List Table
do_op op tables = change_table (table_of op) (with_op op) tables

abbrev pub do_ops : List Operation → List Table → List Table
do_ops [] tables = tables
do_ops (op ∷ ops) tables = do_ops ops (do_op op tables)

-- a new table at its place
abbrev pub with_table : Table → List Table → List Table
with_table table [] = table ∷ []
with_table table (other ∷ others) =
    if is_lt (slice_cmp nat_cmp table.definition.name other.definition.name) then table ∷ other ∷ others
    else other ∷ with_table table others

abbrev pub empty_table : Definition → Table
empty_table definition = record { definition = definition; contents = [] }

-- the positions, with this one at its place
abbrev pub with_position : ℕ → List ℕ → List ℕ
with_position position [] = position ∷ []
with_position position (other ∷ others) =
    if is_lt (nat_cmp position other) then position ∷ other ∷ others else other ∷ with_position position others

abbrev pub with_index : List ℕ → Table → Table
with_index index table = record table { definition = record table.definition { index = index } }

abbrev pub indexed : ℕ → Table → Table
indexed position table = with_index (with_position position table.definition.index) table

abbrev pub unindexed : ℕ → Table → Table
unindexed position table = with_index (filter (λ other. not (other == position)) table.definition.index) table

abbrev pub do_schema_op : SchemaOperation → List Table → List Table
do_schema_op (create definition) tables = with_table (empty_table definition) tables
do_schema_op (drop_table name) tables = filter (λ table. not (is_called name table)) tables
do_schema_op (add_index name position) tables = change_table name (indexed position) tables
do_schema_op (del_index name position) tables = change_table name (unindexed position) tables
do_schema_op (remake definition) tables = change_table definition.name (λ table. empty_table definition) tables

abbrev pub do_schema_ops : List SchemaOperation → List Table → List Table
do_schema_ops [] tables = tables
do_schema_ops (op ∷ ops) tables = do_schema_ops ops (do_schema_op op tables)

-- the schema operations in order, then the ops in order; the version is the commit's
abbrev pub do_commit : CommitRecord → Database → Database
do_commit commit database = record {
  version = commit.version;
  tables = do_ops commit.operations (do_schema_ops commit.schema_operations database.tables);
}
