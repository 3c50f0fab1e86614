-- A dump on its way: which ops of PREVIOUS.LOG are left to carry.
use Rattle.std.specs.Prelude.{◌≡◌, ℕ, List, [], ◌∷◌, ◌++◌, Some}
use Rattle.term_core.specs.Tree.{Tree}
use Rattle.db_model.specs.Commits.{CommitRecord}
use Rattle.db_model.specs.Ops.{Operation}
use Rattle.dump_laws.specs.Directory.{Schema, schema_after, View, commits, of_table}
use Rattle.dump_laws.specs.Effects.{put, after}
use Rattle.dump_laws.specs.Order.{OfEach}

-- of this table the ops in these commits are the last ones of those in PREVIOUS.LOG
pub record IsRest (left previous : List CommitRecord) (name : List ℕ) (cookie : ℕ) : Type 0 where
  pub gone : List Operation
  pub is : gone ++ of_table name cookie left ≡ of_table name cookie previous

-- with these commits in place of PREVIOUS.LOG each table has the contents that it has with PREVIOUS.LOG
pub record IsLeft (left : List CommitRecord) (view : View) : Type 0 where
  pub rest : (name : List ℕ) (cookie : ℕ) → IsRest left view.previous name cookie
  pub same : (last : Schema) → schema_after (commits view) view.schema ≡ Some last → OfEach last (λ name d. (row : Tree)
      → after put d.kind (of_table name d.cookie left ++ of_table name d.cookie view.latest)
      (view.files name d.kind d.cookie) row
      ≡ after put d.kind (of_table name d.cookie view.previous ++ of_table name d.cookie view.latest)
      (view.files name d.kind d.cookie) row)

-- a commit with these ops left
abbrev pub with_ops_left : List Operation → CommitRecord → CommitRecord
with_ops_left ops commit = record commit { operations = ops }

-- the same versions and schema ops, one for one, whatever the ops
abbrev pub SameShape : List CommitRecord → List CommitRecord → Type 0
SameShape [] [] = Unit {0}
SameShape [] (y ∷ ys) = ⊥
SameShape (x ∷ xs) [] = ⊥
SameShape (x ∷ xs) (y ∷ ys) =
    (x.version ≡ y.version) × (x.schema_operations ≡ y.schema_operations) × SameShape xs ys
