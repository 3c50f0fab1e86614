-- The values of variables, as a match finds them from left to right, and the test that comes of it.
use Rattle.std.specs.Prelude.{ℕ, Bool, true, false, if◌then◌else◌, List, [], ◌∷◌, ◌++◌, map, Option, None, Some, is_some}
use Rattle.std.specs.Cmp.Lexicographic.{slice_cmp}
use Rattle.std.specs.Option.{option_and_then}
use Rattle.std.specs.Ordering.{nat_cmp, eq_by_cmp}
use Rattle.term_core.specs.Order.{same_tree}
use Rattle.term_core.specs.Tree.{Tree, int, atom, tuple, list, bin, Trees, no_trees, tree}
use Rattle.term_core.specs.View.{tree_of}
use Rattle.table_query.specs.Patterns.{is_wildcard, is_variable}
use Rattle.table_query.specs.declared.matching.Value.{Value}

-- names of variables, each with its value
abbrev pub Values : Type 0
Values = List (List ℕ × Tree)

abbrev pub pair_of : Value → List ℕ × Tree
pair_of value = (value.name.now, tree_of value.term.now)

abbrev pub values_of : List Value → Values
values_of values = map pair_of values

abbrev pub same_name : List ℕ → List ℕ → Bool
same_name name other = eq_by_cmp (slice_cmp nat_cmp) name other

-- the value of a name that has one
abbrev pub value_of : List ℕ → Values → Option Tree
value_of name [] = None
value_of name (value ∷ values) = if same_name value.0 name then Some value.1 else value_of name values

-- the values as they are, where the test holds
abbrev pub values_if : Bool → Values → Option Values
values_if true values = Some values
values_if false values = None

-- the values once the name has this one: a name keeps the value that it has
abbrev pub with_value : List ℕ → Tree → Option Tree → Values → Option Values
with_value name t None values = Some (values ++ (name, t) ∷ [])
with_value name t (Some other) values = values_if (same_tree other t) values

abbrev pub atom_values : List ℕ → Tree → Values → Option Values
atom_values name t values =
    if is_wildcard name then Some values
    else (if is_variable name then with_value name t (value_of name values) values
    else values_if (same_tree (atom name) t) values)

abbrev mutual
  -- the values once the tree has matched the pattern, or none where it does not match
  pub values_after : Tree → Tree → Values → Option Values
  values_after (int n) t values = values_if (same_tree (int n) t) values
  values_after (atom name) t values = atom_values name t values
  values_after (tuple ps) (tuple ts) values = all_values_after ps ts values
  values_after (tuple ps) t values = None
  values_after (list ps) (list ts) values = all_values_after ps ts values
  values_after (list ps) t values = None
  values_after (bin b) t values = values_if (same_tree (bin b) t) values

  pub all_values_after : Trees → Trees → Values → Option Values
  all_values_after no_trees no_trees values = Some values
  all_values_after no_trees (tree t ts) values = None
  all_values_after (tree p ps) no_trees values = None
  all_values_after (tree p ps) (tree t ts) values = option_and_then (all_values_after ps ts) (values_after p t values)

-- the tree matches the pattern
abbrev pub is_match : Tree → Tree → Bool
is_match pattern t = is_some (values_after pattern t [])
