-- What keeps it that whatever a crash leaves of a directory stands for its commits, done over one first database.
use Rattle.std.specs.Prelude.{◌≡◌, ◌⊎◌, ℕ, ◌≤◌, take, List, [], ◌∷◌, ◌++◌, ⊤, Option, None, Some, option_and_then}
use Rattle.std.specs.List.{AllZip, AllByRecursion}
use Rattle.db_model.specs.Commits.{CommitRecord}
use Rattle.db_model.specs.Definitions.{Definition}
use Rattle.db_model.specs.Ops.{Operation}
use Rattle.dump_laws.specs.Contents.{has, AreOrdered as AreRowsOrdered, IsKeyed}
use Rattle.dump_laws.specs.Directory.{DatabaseOf, Schema, definition_of, reached_after, run, begin, schema_after, of_table}
use Rattle.dump_laws.specs.Effects.{Rows, put, after, Between, IsCarried}
use Rattle.dump_laws.specs.Lists.{Directory, HasMeaning, view_of, AreKeyed}
use Rattle.dump_laws.specs.Order.{AreInTurn, NoneAbove, IsStrict, First, IsOn}
use Rattle.store_files.specs.Forms.{AreIncreasing}
use Rattle.store_files.specs.Schema.{IsNamedBefore}
use Rattle.log_dumper.specs.Directory.{Files, State}
use Rattle.log_dumper.specs.Says.{Says, HasDirectory}
use Rattle.log_dumper.specs.Stored.{StoredRecords, StoredOps, StoredTable, Stored, contents_at, Cut, synced_ops, IsCut, cut_table, tables_at, commits_at, image_at, IsImageOf}

-- ---- order

abbrev pub AreRowsInOrder : Option StoredRecords → Type 0
AreRowsInOrder None = ⊤
AreRowsInOrder (Some records) = AreRowsOrdered records.rows

abbrev pub AreOpsKeyed : Option StoredOps → Type 0
AreOpsKeyed None = ⊤
AreOpsKeyed (Some changes) = AllByRecursion IsKeyed changes.ops

abbrev pub IsTableInOrder : StoredTable → Type 0
IsTableInOrder table = AreRowsInOrder table.records × AreOpsKeyed table.changes

-- definitions by increasing names, records in the order of contents, and no op that writes a record without a key
pub record IsInOrder (stored : Stored) : Type 0 where
  pub definitions : AreIncreasing IsNamedBefore stored.definitions
  pub commits : AreKeyed (stored.before ++ stored.after)
  pub tables : (name : List ℕ) → IsTableInOrder (stored.tables name)

-- ---- cookies

abbrev pub RecordsUpTo : ℕ → Option StoredRecords → Type 0
RecordsUpTo version None = ⊤
RecordsUpTo version (Some records) = records.cookie ≤ version

abbrev pub OpsUpTo : ℕ → Option StoredOps → Type 0
OpsUpTo version None = ⊤
OpsUpTo version (Some changes) = changes.cookie ≤ version

-- no file of the table has a cookie above this
abbrev pub IsTableUpTo : ℕ → StoredTable → Type 0
IsTableUpTo version table = RecordsUpTo version table.records × OpsUpTo version table.changes

-- the version that the synced commits reach
abbrev pub synced_version : First → Stored → ℕ
synced_version first stored = reached_after first.schema.version (commits_at stored.synced stored)

-- ---- images

-- a start can take it, and it stands on the first database
pub record StandsOn (first : First) (directory : Directory) : Type 0 where
  pub meaning : HasMeaning directory
  pub on : IsOn first (view_of directory)
  pub strict : IsStrict (view_of directory)

-- The commits are in turn over the first schema, whose contents are nothing above the version that they reach. No table
-- file is younger than the version that the synced ones reach. And whatever a crash leaves stands on the first
-- database.
pub record IsOrdered (first : First) (stored : Stored) : Type 0 where
  pub in_turn : AreInTurn first.schema.version (stored.before ++ stored.after)
  pub young : NoneAbove (reached_after first.schema.version (stored.before ++ stored.after)) first.rows
  pub in_order : IsInOrder stored
  pub cookies : (name : List ℕ) → IsTableUpTo (synced_version first stored) (stored.tables name)
  pub each : (cut : Cut) → IsCut cut stored → StandsOn first (image_at cut stored)

-- the database that these commits make over the first one
abbrev pub over : First → List CommitRecord → Option (DatabaseOf Rows)
over first commits = run put first.rows commits (begin first.rows first.schema)

-- A start finds a directory in the files, which is one of the images of what is stored and stands on the first
-- database.
pub record Recovers (first : First) (stored : Stored) (image : Files) : Type 0 where
  pub directory : Directory
  pub of : IsImageOf stored directory
  pub has : HasDirectory image (tables_at of.cut stored) directory
  pub stands : StandsOn first directory

-- the same of one of these, each over a first database of its own
abbrev pub RecoversOne : List (First × Stored) → Files → Type 0
RecoversOne [] image = ⊥
RecoversOne (one ∷ others) image = Recovers one.0 one.1 image ⊎ RecoversOne others image

-- each of the states says one of these, which is ordered
abbrev pub AreOrdered : List State → List (First × Stored) → Type 0
AreOrdered states ones = AllZip (λ s one. Says s one.1 × IsOrdered one.0 one.1) states ones

-- ---- tables that stand

-- how the table is defined behind these commits, where it stands
abbrev pub standing : List CommitRecord → Schema → List ℕ → Option Definition
standing commits schema name =
    option_and_then (λ last. definition_of (last.tables name)) (schema_after commits schema)

-- behind whatever commits a crash leaves the table is defined so, or does not stand
abbrev pub IsDefined : First → Stored → List ℕ → Option Definition → Type 0
IsDefined first stored name definition =
    (n : ℕ) → stored.synced ≤ n → standing (commits_at n stored) first.schema name ≡ definition

-- ---- what a dump does with PREVIOUS.LOG

-- these commits make no table and take none away
abbrev pub ArePlain : List CommitRecord → Type 0
ArePlain commits = AllByRecursion (λ commit. commit.schema_operations ≡ []) commits

-- All ops of PREVIOUS.LOG on the table are in its files, whatever a crash leaves: the files are between the first
-- contents with these ops done, and with those of LATEST.LOG too.
abbrev pub IsCarriedIn : First → Stored → List ℕ → Type 0
IsCarriedIn first stored name = (n k : ℕ) → stored.synced ≤ n → synced_ops (stored.tables name).changes ≤ k
    → (d : Definition) → standing (commits_at n stored) first.schema name ≡ Some d
    → IsCarried d.kind (first.rows name d.kind d.cookie) (of_table name d.cookie stored.before)
    (of_table name d.cookie (take n stored.after))
    (has (contents_at d.kind d.cookie (cut_table k (stored.tables name))))

-- Of the ops of PREVIOUS.LOG on the table these are in its files, and those are left to carry: the files are contents
-- that are between, with the former done.
pub record IsCarriedUpTo (first : First) (stored : Stored) (name : List ℕ) (d : Definition)
    (carried left : List Operation) : Type 0 where
  pub base : Rows
  pub between : (n : ℕ) → stored.synced ≤ n
      → Between d.kind (first.rows name d.kind d.cookie) (of_table name d.cookie (commits_at n stored)) base
  pub files : has (contents_at d.kind d.cookie (stored.tables name)) ≡ after put d.kind carried base
  pub all : carried ++ left ≡ of_table name d.cookie stored.before
