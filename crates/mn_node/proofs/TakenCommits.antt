-- What is so of each table that a log's commits make.
use Rattle.std.proofs.Common.{ℕ, Bool, true, false, not, if◌then◌else◌, IsTrue, List, [], ◌∷◌, refl}
use Rattle.std.specs.List.{AllByRecursion}
use Rattle.std.specs.Ordering.{nat_cmp, is_lt}
use Rattle.std.specs.Cmp.Lexicographic.{slice_cmp}
use Rattle.db_model.specs.Commits.{SchemaOperation, create, drop_table, add_index, del_index, remake, CommitRecord}
use Rattle.db_model.specs.Database.{Table, is_called, Database, change_table, do_op, do_ops, with_table, empty_table, indexed, unindexed, with_op, do_schema_op, do_schema_ops}
use Rattle.db_model.specs.Definitions.{Definition, IsDefinition}
use Rattle.db_model.specs.Histories.{no_database, all_taken, CanTakeAll}
use Rattle.db_model.specs.Lawful.{table_in, Applies, AllApply}
use Rattle.db_model.specs.Ops.{Operation, table_of}
use Rattle.db_model.specs.Taken.{is_next, tables_before_ops, is_due, take_op, take_ops, taken, CanTake}
use Rattle.txn_core.proofs.Each.{each_filter}
use Rattle.mn_node.specs.Durable.{made}
use Rattle.mn_node.specs.Meaning.{AreTaken}

-- it is so of a new table, and stays so
pub record Keeps (P : Table → Type 0) : Type 0 where
  pub made : (definition : Definition) → IsDefinition definition → P (empty_table definition)
  pub indexed : (position : ℕ) (table : Table) → P table → P (indexed position table)
  pub unindexed : (position : ℕ) (table : Table) → P table → P (unindexed position table)
  pub written : (op : Operation) (table : Table) → P table → P (with_op op table)

-- either is so
either : {X : Type 0} (F : X → Type 0) (b : Bool) (one other : X) → F one → F other → F (if b then one else other)
either F true one other x y = x
either F false one other x y = y

module _ (P : Table → Type 0) where
  abbrev Each : List Table → Type 0
  Each = AllByRecursion P

  pub each_changed : (name : List ℕ) (change : Table → Table) → ((table : Table) → P table → P (change table))
      → (tables : List Table) → Each tables → Each (change_table name change tables)
  each_changed name change keeps [] all = tt
  each_changed name change keeps (t ∷ ts) all =
      (either P (is_called name t) (change t) t (keeps t all.0) all.0, each_changed name change keeps ts all.1)

  each_added : (table : Table) → P table → (tables : List Table) → Each tables → Each (with_table table tables)
  each_added table new [] all = (new, tt)
  each_added table new (t ∷ ts) all =
      either Each (is_lt (slice_cmp nat_cmp table.definition.name t.definition.name)) (table ∷ t ∷ ts) (t ∷ with_table table ts)
      (new, all) (all.0, each_added table new ts all.1)

  module _ (keeps : Keeps P) where
    pub each_schema_op : (op : SchemaOperation) (tables : List Table) → Applies op tables → Each tables → Each (do_schema_op op tables)
    each_schema_op (create definition) tables applies all =
        each_added (empty_table definition) (keeps.made definition applies.0) tables all
    each_schema_op (drop_table name) tables applies all = each_filter P (λ table. not (is_called name table)) tables all
    each_schema_op (add_index name position) tables applies all =
        each_changed name (indexed position) (keeps.indexed position) tables all
    each_schema_op (del_index name position) tables applies all =
        each_changed name (unindexed position) (keeps.unindexed position) tables all
    each_schema_op (remake definition) tables applies all =
        each_changed definition.name (λ table. empty_table definition) (λ table is. keeps.made definition applies.0) tables all

    pub each_op : (op : Operation) (tables : List Table) → Each tables → Each (do_op op tables)
    each_op op tables all = each_changed (table_of op) (with_op op) (keeps.written op) tables all

    pub each_ops : (ops : List Operation) (tables : List Table) → Each tables → Each (do_ops ops tables)
    each_ops [] tables all = all
    each_ops (op ∷ ops) tables all = each_ops ops (do_op op tables) (each_op op tables all)

    schema_ops : (ops : List SchemaOperation) (tables : List Table) → AllApply ops tables → Each tables → Each (do_schema_ops ops tables)
    schema_ops [] tables applies all = all
    schema_ops (op ∷ ops) tables applies all =
        schema_ops ops (do_schema_op op tables) applies.1 (each_schema_op op tables applies.0 all)

    taken_ops : (version : ℕ) (ops : List Operation) (tables : List Table) → Each tables → Each (take_ops version ops tables)
    taken_ops version [] tables all = all
    taken_ops version (op ∷ ops) tables all =
        taken_ops version ops (take_op version op tables)
        (either Each (is_due version (table_in (table_of op) tables)) (do_op op tables) tables (each_op op tables all) all)

    before_ops : (b : Bool) (ops : List SchemaOperation) (tables : List Table) → (IsTrue b → AllApply ops tables) → Each tables
        → Each (if b then do_schema_ops ops tables else tables)
    before_ops true ops tables applies all = schema_ops ops tables (applies refl) all
    before_ops false ops tables applies all = all

    taken_keeps : (commit : CommitRecord) (database : Database) → CanTake commit database → Each database.tables
        → Each (taken commit database).tables
    taken_keeps commit database can all =
        taken_ops commit.version commit.operations (tables_before_ops commit database)
        (before_ops (is_next commit database) commit.schema_operations database.tables can.applies all)

    all_keep : (commits : List CommitRecord) (database : Database) → CanTakeAll commits database → Each database.tables
        → Each (all_taken commits database).tables
    all_keep [] database can all = all
    all_keep (commit ∷ commits) database can all =
        all_keep commits (taken commit database) can.1 (taken_keeps commit database can.0 all)

    pub made_keeps : (commits : List CommitRecord) → AreTaken commits → Each (made commits).database.tables
    made_keeps commits can = all_keep commits no_database can tt
