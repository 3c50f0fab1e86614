-- Records in the order of their keys, and what a step makes of them.
use Rattle.std.specs.Prelude.{◌≡◌, ℕ, List, [], ◌∷◌, ◌++◌, Option, Some, None, IsSome, not}
use Rattle.std.specs.List.{filter, AllByRecursion}
use Rattle.std.specs.Option.{unwrap_or}
use Rattle.std.specs.Ordering.{is_lt, is_eq, is_gt, ordering_then}
use Rattle.std.specs.declared.cmp.Ordering.{Ordering}
use Rattle.std.specs.declared.cmp.Ordering.TheVariants.{Less}
use Rattle.term_core.specs.Tree.{Tree, key_of, tree_cmp}
use Rattle.term_core.specs.Order.{same_tree}
use Rattle.term_core.specs.View.{tree_of}
use Rattle.term_core.specs.declared.term.Term.{Term}
use Rattle.db_model.specs.declared.definition.Kind.{Kind}
use Rattle.db_model.specs.declared.definition.Kind.TheVariants.{Bag}

-- the key of a record; what has no key is its own key
abbrev pub row_key : Term → Tree
row_key row = unwrap_or (key_of (tree_of row)) (tree_of row)

-- each record has a key
abbrev pub AreKeyed : List Term → Type 0
AreKeyed rows = AllByRecursion (λ row. IsSome (key_of (tree_of row))) rows

-- the record's key against another key
abbrev pub key_cmp : Tree → Term → Ordering
key_cmp k row = tree_cmp (row_key row) k

-- the records whose key is below a key, at it and above it
abbrev pub below : Tree → List Term → List Term
below k rows = filter (λ row. is_lt (key_cmp k row)) rows

abbrev pub at : Tree → List Term → List Term
at k rows = filter (λ row. is_eq (key_cmp k row)) rows

abbrev pub above : Tree → List Term → List Term
above k rows = filter (λ row. is_gt (key_cmp k row)) rows

-- the first one's key is less
abbrev pub IsKeyLess : Term → Term → Type 0
IsKeyLess row other = tree_cmp (row_key row) (row_key other) ≡ Less

-- two records by their keys, and in a bag then by themselves
abbrev pub row_cmp : Kind → Term → Term → Ordering
row_cmp Bag x y = ordering_then (tree_cmp (row_key x) (row_key y)) (tree_cmp (tree_of x) (tree_of y))
row_cmp other x y = tree_cmp (row_key x) (row_key y)

-- the records are in order, and no two tie: in a bag no two are the same, and else no two have one key
abbrev pub IsIncreasing : Kind → List Term → Type 0
IsIncreasing kind [] = Unit {0}
IsIncreasing kind (row ∷ rows) = AllByRecursion (λ later. row_cmp kind row later ≡ Less) rows × IsIncreasing kind rows

-- the record in the place of those that tie with it
abbrev pub put : Kind → List Term → Term → List Term
put kind rows row =
    filter (λ x. is_lt (row_cmp kind x row)) rows ++ row ∷ filter (λ x. is_gt (row_cmp kind x row)) rows

-- the records of other keys
abbrev pub without : List Term → Tree → List Term
without rows k = filter (λ row. not (is_eq (key_cmp k row))) rows

-- the records other than one
abbrev pub without_row : List Term → Term → List Term
without_row rows row = filter (λ x. not (same_tree (tree_of x) (tree_of row))) rows

-- the key of the first record
abbrev pub first_row_key : List Term → Option Tree
first_row_key [] = None
first_row_key (row ∷ rows) = Some (row_key row)

-- the records are in the order of a table of some kind
abbrev pub IsOrdered : List Term → Type 0
IsOrdered rows = (kind : Kind) × IsIncreasing kind rows

-- a record that is written, and how many records the list can have that is brought for its page
pub record Written : Type 0 where
  pub row : Term
  pub room : ℕ
