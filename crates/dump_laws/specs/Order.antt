-- What holds of a directory and of what a crash may leave of it.
use Rattle.std.specs.Prelude.{◌≡◌, ◌⊎◌, ℕ, ◌+◌, ◌<◌, ◌≤◌, ◌&&◌, if◌then◌else◌, nat_eq, List, [], ◌∷◌, ◌++◌, Option, Some, IsSome, length, option_and_then}
use Rattle.std.specs.List.{AllByRecursion}
use Rattle.db_model.specs.Commits.{CommitRecord}
use Rattle.db_model.specs.Database.{same_name}
use Rattle.db_model.specs.Definitions.{Definition}
use Rattle.db_model.specs.Lawful.{HasCookie}
use Rattle.db_model.specs.declared.definition.Kind.{Kind}
use Rattle.dump_laws.specs.Effects.{Rows, nothing, put, after, Between}
use Rattle.dump_laws.specs.Directory.{Files, TableOf, DatabaseOf, Schema, commit_done, reached, reached_after, schema_after, View, commits, under, of_table}

-- the commit's version is reached with it, and what it makes or remakes has that version as its cookie
pub record IsInTurn (version : ℕ) (commit : CommitRecord) : Type 0 where
  pub within : commit.version ≤ reached version commit
  pub cookies : AllByRecursion (HasCookie commit.version) commit.schema_operations

-- each commit is in turn at the version that is reached before it
abbrev pub AreInTurn : ℕ → List CommitRecord → Type 0
AreInTurn version [] = Unit {0}
AreInTurn version (commit ∷ commits) = IsInTurn version commit × AreInTurn (reached version commit) commits

-- their versions are at most this
abbrev pub AllUpTo : ℕ → List CommitRecord → Type 0
AllUpTo version [] = Unit {0}
AllUpTo version (commit ∷ commits) = (commit.version ≤ version) × AllUpTo version commits

-- no table file has a cookie above this
abbrev pub NoneAbove : ℕ → Files Rows → Type 0
NoneAbove version files =
    (name : List ℕ) (kind : Kind) (cookie : ℕ) → version < cookie → files name kind cookie ≡ nothing

-- The directory stands for a database, its commits are in turn, and no table of its schema file and no table file is
-- younger than the version that they reach.
pub record IsStrict (view : View) : Type 0 where
  pub defined : IsSome (under view)
  pub in_turn : AreInTurn view.schema.version (commits view)
  pub old_tables : (name : List ℕ) (table : TableOf (Unit {0})) → view.schema.tables name ≡ Some table
      → table.definition.cookie ≤ reached_after view.schema.version (commits view)
  pub old_files : NoneAbove (reached_after view.schema.version (commits view)) view.files

-- of each table that stands in this schema P holds, by its name and definition
abbrev pub OfEach : Schema → (List ℕ → Definition → Type 0) → Type 0
OfEach schema P = (name : List ℕ) (table : TableOf (Unit {0})) → schema.tables name ≡ Some table
    → P name table.definition

-- the files are between first contents and what the ops of these commits make of them, for each table of this schema
abbrev pub AreBetween : Schema → Files Rows → List CommitRecord → Files Rows → Type 0
AreBetween schema first commits files =
    OfEach schema
    (λ name d. Between d.kind (first name d.kind d.cookie) (of_table name d.cookie commits)
    (files name d.kind d.cookie))

-- a first database: a schema, and first contents for each table and cookie
pub record First : Type 0 where
  pub schema : Schema
  pub rows : Files Rows

-- of one image: its schema file is the first schema or that after a front of its commits, and its table files are
-- between
pub record IsOn (first : First) (view : View) : Type 0 where
  pub front : List CommitRecord
  pub rest : List CommitRecord
  pub is : commits view ≡ front ++ rest
  pub schema : schema_after front first.schema ≡ Some view.schema
  pub between : (last : Schema) → schema_after (commits view) first.schema ≡ Some last
      → AreBetween last first.rows (commits view) view.files

-- the commits of an image are those of the files as they read, but for some lost at the end, and all of PREVIOUS.LOG is
-- among them
pub record IsCutOf (now view : View) : Type 0 where
  pub lost : List CommitRecord
  pub logs : commits view ++ lost ≡ commits now
  pub more : List CommitRecord
  pub all_previous : commits view ≡ now.previous ++ more

-- ---- what the acts make of a view

abbrev pub with_commit : CommitRecord → View → View
with_commit commit view = record view { latest = view.latest ++ commit ∷ [] }

abbrev pub with_files : Files Rows → View → View
with_files files view = record view { files = files }

abbrev pub with_schema : Schema → View → View
with_schema schema view = record view { schema = schema }

abbrev pub without_previous : View → View
without_previous view = record view { previous = [] }

abbrev pub with_logs : List CommitRecord → List CommitRecord → View → View
with_logs previous latest view = record view { previous = previous; latest = latest }

-- the table files give these rows for one table and cookie, whatever its kind
abbrev pub set_rows : List ℕ → ℕ → (Kind → Rows) → Files Rows → Files Rows
set_rows name cookie rows files other kind other_cookie =
    if same_name name other && nat_eq cookie other_cookie then rows kind else files other kind other_cookie

-- the first database after PREVIOUS.LOG is dropped: with its ops done
abbrev pub first_after : List CommitRecord → Schema → First → First
first_after previous schema first = record {
  schema = schema;
  rows = λ name kind cookie. after put kind (of_table name cookie previous) (first.rows name kind cookie);
}

-- a commit as the live database makes it: its version is that of the database, or with schema ops one above it
pub record IsNext (version : ℕ) (commit : CommitRecord) : Type 0 where
  pub which : ((commit.version ≡ version) × (commit.schema_operations ≡ [])) ⊎ (commit.version ≡ version + 1)
  pub cookies : AllByRecursion (HasCookie commit.version) commit.schema_operations

-- entries done on the live database, one after another
abbrev pub entries_done : List CommitRecord → DatabaseOf Rows → Option (DatabaseOf Rows)
entries_done [] database = Some database
entries_done (commit ∷ commits) database =
    option_and_then (λ now. entries_done commits now) (commit_done put nothing commit database)

-- the image means the base with a front of the entries done, with at least those that are synced
pub record StandsAt (base : DatabaseOf Rows) (entries : List CommitRecord) (synced : ℕ) (view : View) : Type 0 where
  pub front : List CommitRecord
  pub lost : List CommitRecord
  pub is : front ++ lost ≡ entries
  pub enough : synced ≤ length front
  pub means : under view ≡ entries_done front base
