-- Which trees come before which, by cases of their two kinds. Source: "Term Comparisons" in Erlang's reference manual, for
-- the kinds that are kept here.
use Rattle.std.specs.Prelude.{◌≡◌, ◌⊎◌, ℕ, ◌<◌, ◌<ℤ◌, List, [], ◌∷◌, ⊤}
use Rattle.term_core.specs.Tree.{Tree, int, atom, tuple, list, bin, Trees, no_trees, tree, count}

-- number by number, where a proper prefix comes first
abbrev pub Before : List ℕ → List ℕ → Type 0
Before [] [] = ⊥
Before [] (y ∷ ys) = ⊤
Before (x ∷ xs) [] = ⊥
Before (x ∷ xs) (y ∷ ys) = (x < y) ⊎ ((x ≡ y) × Before xs ys)

abbrev mutual
  -- integers, atoms, tuples, lists, binaries
  pub IsLess : Tree → Tree → Type 0
  IsLess (int m) (int n) = m <ℤ n
  IsLess (int m) y = ⊤
  IsLess (atom a) (int n) = ⊥
  IsLess (atom a) (atom b) = Before a b
  IsLess (atom a) y = ⊤
  IsLess (tuple xs) (int n) = ⊥
  IsLess (tuple xs) (atom b) = ⊥
  IsLess (tuple xs) (tuple ys) = (count xs < count ys) ⊎ ((count xs ≡ count ys) × AreLess xs ys)
  IsLess (tuple xs) y = ⊤
  IsLess (list xs) (list ys) = AreLess xs ys
  IsLess (list xs) (bin b) = ⊤
  IsLess (list xs) y = ⊥
  IsLess (bin a) (bin b) = Before a b
  IsLess (bin a) y = ⊥

  -- element by element, where a proper prefix comes first
  pub AreLess : Trees → Trees → Type 0
  AreLess no_trees no_trees = ⊥
  AreLess no_trees (tree y ys) = ⊤
  AreLess (tree x xs) no_trees = ⊥
  AreLess (tree x xs) (tree y ys) = IsLess x y ⊎ ((x ≡ y) × AreLess xs ys)
