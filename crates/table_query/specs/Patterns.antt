-- Which trees match a pattern.
use Rattle.std.specs.Prelude.{◌≡◌, ℕ, Bool, false, not, ◌&&◌, ◌==◌, List, [], ◌∷◌, length, MatchBool, codes, ⊤}
use Rattle.std.specs.Char.{is_ascii_digit}
use Rattle.std.specs.List.{list_all}
use Rattle.std.specs.Str.{bytes_eq}
use Rattle.term_core.specs.Tree.{Tree, int, atom, tuple, list, bin, Trees, no_trees, tree}

-- the atom `_`
abbrev pub is_wildcard : List ℕ → Bool
is_wildcard name = bytes_eq name (codes "_")

-- one or more decimal digits
abbrev pub are_digits : List ℕ → Bool
are_digits digits = not (length digits == 0) && list_all is_ascii_digit digits

-- an atom of `$` and one or more decimal digits
abbrev pub is_variable : List ℕ → Bool
is_variable [] = false
is_variable (sign ∷ digits) = sign == 36 && are_digits digits

-- what the variable of each name stands for
abbrev pub Assignment : Type 0
Assignment = List ℕ → Tree

-- A wildcard matches any tree, a variable what it stands for, and any other atom itself.
abbrev pub IsAtomMatch : Assignment → List ℕ → Tree → Type 0
IsAtomMatch assignment name t =
    MatchBool (is_wildcard name) ⊤ (MatchBool (is_variable name) (t ≡ assignment name) (t ≡ atom name))

abbrev mutual
  -- the tree matches the pattern where its variables stand for what is assigned
  pub IsMatch : Assignment → Tree → Tree → Type 0
  IsMatch assignment (int n) t = t ≡ int n
  IsMatch assignment (atom name) t = IsAtomMatch assignment name t
  IsMatch assignment (tuple ps) (tuple ts) = AreMatches assignment ps ts
  IsMatch assignment (tuple ps) t = ⊥
  IsMatch assignment (list ps) (list ts) = AreMatches assignment ps ts
  IsMatch assignment (list ps) t = ⊥
  IsMatch assignment (bin b) t = t ≡ bin b

  -- as many, element by element
  pub AreMatches : Assignment → Trees → Trees → Type 0
  AreMatches assignment no_trees no_trees = ⊤
  AreMatches assignment no_trees (tree t ts) = ⊥
  AreMatches assignment (tree p ps) no_trees = ⊥
  AreMatches assignment (tree p ps) (tree t ts) = IsMatch assignment p t × AreMatches assignment ps ts

-- the tree matches the pattern where its variables stand for something
abbrev pub Matches : Tree → Tree → Type 0
Matches pattern t = (assignment : Assignment) × IsMatch assignment pattern t

abbrev mutual
  -- P holds of each atom in the tree
  pub AllAtoms : (List ℕ → Type 0) → Tree → Type 0
  AllAtoms P (int n) = ⊤
  AllAtoms P (atom name) = P name
  AllAtoms P (tuple ts) = AllAtomsOf P ts
  AllAtoms P (list ts) = AllAtomsOf P ts
  AllAtoms P (bin b) = ⊤

  pub AllAtomsOf : (List ℕ → Type 0) → Trees → Type 0
  AllAtomsOf P no_trees = ⊤
  AllAtomsOf P (tree t ts) = AllAtoms P t × AllAtomsOf P ts

abbrev pub HasNoVariable : Tree → Type 0
HasNoVariable pattern = AllAtoms (λ name. is_variable name ≡ false) pattern

-- without wildcards and variables
abbrev pub IsPlain : Tree → Type 0
IsPlain pattern = AllAtoms (λ name. (is_wildcard name ≡ false) × (is_variable name ≡ false)) pattern
