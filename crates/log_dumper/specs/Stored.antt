-- What is stored in a directory, as values, and what a crash may leave of it.
use Rattle.std.specs.Prelude.{◌≡◌, ℕ, ◌≤◌, nat_eq, if◌then◌else◌, take, length, map, List, [], ◌∷◌, ◌++◌, ⊤, Option, None, Some, option_map}
use Rattle.db_model.specs.Commits.{CommitRecord}
use Rattle.db_model.specs.Database.{Contents, put_op, same_name}
use Rattle.db_model.specs.Definitions.{Definition}
use Rattle.db_model.specs.Ops.{Operation}
use Rattle.db_model.specs.declared.definition.Kind.{Kind}
use Rattle.dump_laws.specs.Effects.{after}
use Rattle.dump_laws.specs.Lists.{Directory, behind}

-- ---- what is stored

-- records, under the cookie of their table
pub record StoredRecords : Type 0 where
  pub cookie : ℕ
  pub rows : Contents

-- ops on records, under the cookie of their table, and how many of them are synced
pub record StoredOps : Type 0 where
  pub cookie : ℕ
  pub ops : List Operation
  pub synced : ℕ

-- the two files of a table, where they are there
pub record StoredTable : Type 0 where
  pub records : Option StoredRecords
  pub changes : Option StoredOps

-- The version and the definitions of the schema file, the commits of the two logs, of which so many of LATEST.LOG are
-- synced, and the files of each table.
pub record Stored : Type 0 where
  pub version : ℕ
  pub definitions : List Definition
  pub before : List CommitRecord
  pub after : List CommitRecord
  pub synced : ℕ
  pub tables : List ℕ → StoredTable

-- a file under another cookie counts as absent
abbrev pub rows_at : ℕ → Option StoredRecords → Contents
rows_at cookie None = []
rows_at cookie (Some records) = if nat_eq records.cookie cookie then records.rows else []

abbrev pub ops_at : ℕ → Option StoredOps → List Operation
ops_at cookie None = []
ops_at cookie (Some changes) = if nat_eq changes.cookie cookie then changes.ops else []

-- what the files give to a table of this kind and cookie
abbrev pub contents_at : Kind → ℕ → StoredTable → Contents
contents_at kind cookie table = after put_op kind (ops_at cookie table.changes) (rows_at cookie table.records)

-- ---- what calls make of it

-- a file without ops
abbrev pub no_ops : ℕ → StoredOps
no_ops cookie = record { cookie = cookie; ops = []; synced = 0 }

abbrev pub with_op : Operation → StoredOps → StoredOps
with_op op changes = record changes { ops = changes.ops ++ op ∷ [] }

abbrev pub with_synced : ℕ → StoredOps → StoredOps
with_synced synced changes = record changes { synced = synced }

abbrev pub with_changes : Option StoredOps → StoredTable → StoredTable
with_changes changes table = record table { changes = changes }

-- new records, beside the ops or without them
abbrev pub with_rows : ℕ → Contents → StoredTable → StoredTable
with_rows cookie rows table = record table { records = Some (record { cookie = cookie; rows = rows }) }

abbrev pub rows_alone : ℕ → Contents → StoredTable
rows_alone cookie rows = record { records = Some (record { cookie = cookie; rows = rows }); changes = None }

-- no records
abbrev pub without_rows : StoredTable → StoredTable
without_rows table = record table { records = None }

abbrev pub no_table : StoredTable
no_table = record { records = None; changes = None }

abbrev pub with_table : List ℕ → StoredTable → Stored → Stored
with_table name table stored =
    record stored { tables = λ other. if same_name name other then table else stored.tables other }

-- ---- what a crash leaves

-- so many commits of LATEST.LOG, and so many ops of each table
pub record Cut : Type 0 where
  pub commits : ℕ
  pub ops : List ℕ → ℕ

abbrev pub synced_ops : Option StoredOps → ℕ
synced_ops None = 0
synced_ops (Some changes) = changes.synced

-- all ops are synced
abbrev pub AreOpsSynced : Option StoredOps → Type 0
AreOpsSynced None = ⊤
AreOpsSynced (Some changes) = length changes.ops ≤ changes.synced

-- what is synced is left
pub record IsCut (cut : Cut) (stored : Stored) : Type 0 where
  pub commits : stored.synced ≤ cut.commits
  pub ops : (name : List ℕ) → synced_ops (stored.tables name).changes ≤ cut.ops name

abbrev pub cut_changes : ℕ → StoredOps → StoredOps
cut_changes n changes = record changes { ops = take n changes.ops }

abbrev pub cut_table : ℕ → StoredTable → StoredTable
cut_table n table = record table { changes = option_map (cut_changes n) table.changes }

abbrev pub tables_at : Cut → Stored → List ℕ → StoredTable
tables_at cut stored name = cut_table (cut.ops name) (stored.tables name)

-- all commits, with so many of LATEST.LOG
abbrev pub commits_at : ℕ → Stored → List CommitRecord
commits_at n stored = stored.before ++ take n stored.after

-- what is left, as a directory
abbrev pub image_at : Cut → Stored → Directory
image_at cut stored = record {
  version = stored.version;
  definitions = stored.definitions;
  previous = stored.before;
  latest = take cut.commits stored.after;
  files = λ name kind cookie. contents_at kind cookie (tables_at cut stored name);
}

-- all of it
abbrev pub whole : Stored → Directory
whole stored = record {
  version = stored.version;
  definitions = stored.definitions;
  previous = stored.before;
  latest = stored.after;
  files = λ name kind cookie. contents_at kind cookie (stored.tables name);
}

abbrev pub with_commits : List CommitRecord → List CommitRecord → Directory → Directory
with_commits previous latest directory = record directory { previous = previous; latest = latest }

-- A crash may leave the directory so. Its commits may stand in the two logs cut elsewhere, since a log may have either
-- name.
pub record IsImageOf (stored : Stored) (directory : Directory) : Type 0 where
  pub cut : Cut
  pub left : IsCut cut stored
  pub commits : directory.previous ++ directory.latest ≡ commits_at cut.commits stored
  pub is : directory ≡ with_commits directory.previous directory.latest (image_at cut stored)

-- a crash leaves all
pub record IsAllSynced (stored : Stored) : Type 0 where
  pub commits : length stored.after ≤ stored.synced
  pub ops : (name : List ℕ) → AreOpsSynced (stored.tables name).changes

-- ---- what calls make of the logs and of the schema file

abbrev pub with_commit : CommitRecord → Stored → Stored
with_commit commit stored = record stored { after = stored.after ++ commit ∷ [] }

abbrev pub with_log_synced : ℕ → Stored → Stored
with_log_synced synced stored = record stored { synced = synced }

-- all commits are those of PREVIOUS.LOG
abbrev pub rotated : Stored → Stored
rotated stored = record stored { before = stored.before ++ stored.after; after = []; synced = 0 }

abbrev pub without_previous : Stored → Stored
without_previous stored = record stored { before = [] }

-- the schema file is written as the schema is behind these commits, which come first
abbrev pub with_schema_at : List CommitRecord → Stored → Stored
with_schema_at front stored = record stored {
  version = (behind front (whole stored)).version;
  definitions = map (λ table. table.definition) (behind front (whole stored)).tables;
}
