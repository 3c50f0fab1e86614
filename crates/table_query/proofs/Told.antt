-- What the values that a match finds say: with which assignments the tree matches.
use Rattle.std.proofs.Common.{◌≡◌, ◌⊎◌, ◌↔◌, inl, inr, refl, sym, ap, subst, ◌∙◌}
use Rattle.std.proofs.Common.{ℕ, Bool, true, false, List, [], ◌∷◌, ◌++◌, Option, Some, None, is_some}
use Rattle.std.specs.Prelude.{IsTrue, MatchBool, ⊤, if◌then◌else◌}
use Rattle.std.specs.Cmp.{Equal-is, eq_by_cmp_equiv}
use Rattle.std.specs.Cmp.Lexicographic.{slice_cmp, nat_list_cmp_total}
use Rattle.std.specs.FinMap.{nat_cmp-IsAntisymmetric, slice_cmp-IsAntisymmetric}
use Rattle.std.specs.List.{AllByRecursion}
use Rattle.std.specs.Option.{option_and_then}
use Rattle.std.specs.Ordering.{nat_cmp}
use Rattle.term_core.specs.Order.{same_tree, same_tree_is}
use Rattle.term_core.specs.Tree.{Tree, int, atom, tuple, list, bin, Trees, no_trees, tree}
use Rattle.table_query.specs.Patterns.{Assignment, is_wildcard, is_variable, IsMatch, AreMatches, Matches}
use Rattle.table_query.specs.Values.{Values, value_of, same_name, values_if, with_value, atom_values, values_after, all_values_after}
use Rattle.table_query.specs.Values.{is_match}

-- each variable stands for its value
abbrev pub Keeps : Assignment → Values → Type 0
Keeps assignment values = AllByRecursion (λ value. assignment value.0 ≡ value.1) values

-- the assignments that keep the new values are those that keep the old ones and have the property
pub record Narrows (Has : Assignment → Type 0) (old new : Values) : Type 0 where
  pub kept : (a : Assignment) → Keeps a new → Keeps a old
  pub has : (a : Assignment) → Keeps a new → Has a
  pub keeps : (a : Assignment) → Keeps a old → Has a → Keeps a new
  pub some : (a : Assignment) × Keeps a old → (a : Assignment) × Keeps a new

-- what was found of the assignments with a property: values, or that none that keeps the old ones has it
abbrev pub Tells : (Assignment → Type 0) → Values → Option Values → Type 0
Tells Has old None = (a : Assignment) → Keeps a old → Has a → ⊥
Tells Has old (Some new) = Narrows Has old new

by_test : (Has : Assignment → Type 0) (old : Values) (b : Bool)
    → (b ≡ true → (a : Assignment) → Keeps a old → Has a)
    → (b ≡ false → (a : Assignment) → Keeps a old → Has a → ⊥)
    → Tells Has old (values_if b old)
by_test Has old true has none = record { kept = λ a k. k; has = has refl; keeps = λ a k h. k; some = λ s. s }
by_test Has old false has none = none refl

-- ---- names

same_is : (name other : List ℕ) → same_name name other ≡ true → name ≡ other
same_is name other h =
    slice_cmp-IsAntisymmetric nat_cmp-IsAntisymmetric name other ((Equal-is (slice_cmp nat_cmp name other)).0 h)

same_itself : (name : List ℕ) → same_name name name ≡ true
same_itself name = (eq_by_cmp_equiv nat_list_cmp_total).refl name

-- a name stands for its value
kept_value : (a : Assignment) (name : List ℕ) (values : Values) (t : Tree) → Keeps a values → value_of name values ≡ Some t → a name ≡ t
kept_value a name [] t k is = absurd cc
kept_value a name (value ∷ values) t k is = by (same_name value.0 name) refl is (kept_value a name values t k.1)
  where
    by : (b : Bool) → same_name value.0 name ≡ b → (if b then Some value.1 else value_of name values) ≡ Some t
        → (value_of name values ≡ Some t → a name ≡ t) → a name ≡ t
    by true same is others = let same_value : value.1 ≡ t = cc in ap a (sym (same_is value.0 name same)) ∙ (k.0 ∙ same_value)
    by false same is others = others is

-- the same, but for one name
abbrev with_name : Assignment → List ℕ → Tree → Assignment
with_name a name t other = if same_name other name then t else a other

with_name_kept : (a : Assignment) (name : List ℕ) (t : Tree) (values : Values) → value_of name values ≡ None → Keeps a values
    → Keeps (with_name a name t) values
with_name_kept a name t [] none k = tt
with_name_kept a name t (value ∷ values) none k =
    by (same_name value.0 name) none (λ others. with_name_kept a name t values others k.1)
  where
    by : (b : Bool) → (if b then Some value.1 else value_of name values) ≡ None
        → (value_of name values ≡ None → Keeps (with_name a name t) values)
        → ((if b then t else a value.0) ≡ value.1) × Keeps (with_name a name t) values
    by true none others = absurd cc
    by false none others = (k.0, others none)

with_name_itself : (a : Assignment) (name : List ℕ) (t : Tree) → with_name a name t name ≡ t
with_name_itself a name t = ap (λ b. if b then t else a name) (same_itself name)

-- ---- values behind others

keeps_first : (a : Assignment) (values more : Values) → Keeps a (values ++ more) → Keeps a values
keeps_first a [] more k = tt
keeps_first a (value ∷ values) more k = (k.0, keeps_first a values more k.1)

keeps_others : (a : Assignment) (values more : Values) → Keeps a (values ++ more) → Keeps a more
keeps_others a [] more k = k
keeps_others a (value ∷ values) more k = keeps_others a values more k.1

keeps_both : (a : Assignment) (values more : Values) → Keeps a values → Keeps a more → Keeps a (values ++ more)
keeps_both a [] more k m = m
keeps_both a (value ∷ values) more k m = (k.0, keeps_both a values more k.1 m)

-- ---- patterns

variable_tells : (name : List ℕ) (t : Tree) (old : Values) (value : Option Tree) → value_of name old ≡ value
    → Tells (λ a. t ≡ a name) old (with_value name t value old)
variable_tells name t old None none = record {
  kept = λ a k. keeps_first a old ((name, t) ∷ []) k;
  has = λ a k. sym (keeps_others a old ((name, t) ∷ []) k).0;
  keeps = λ a k is. keeps_both a old ((name, t) ∷ []) k (sym is, tt);
  some = λ (a, k).
      let stands : Keeps (with_name a name t) ((name, t) ∷ []) = (with_name_itself a name t, tt) in
      (with_name a name t, keeps_both (with_name a name t) old ((name, t) ∷ []) (with_name_kept a name t old none k) stands);
}
variable_tells name t old (Some other) is = by_test (λ a. t ≡ a name) old (same_tree other t)
    (λ same a k. sym ((same_tree_is other t).0 same) ∙ sym (kept_value a name old other k is))
    (λ differs a k stands.
    let same : same_tree other t ≡ true = (same_tree_is other t).1 (sym (kept_value a name old other k is) ∙ sym stands) in
    let wrong : false ≡ true = sym differs ∙ same in cc)

itself_tells : (p t : Tree) (old : Values) → Tells (λ a. t ≡ p) old (values_if (same_tree p t) old)
itself_tells p t old = by_test (λ a. t ≡ p) old (same_tree p t)
    (λ same a k. sym ((same_tree_is p t).0 same))
    (λ differs a k is. let wrong : false ≡ true = sym differs ∙ (same_tree_is p t).1 (sym is) in cc)

atom_tells : (name : List ℕ) (t : Tree) (old : Values) → Tells (λ a. IsMatch a (atom name) t) old (atom_values name t old)
atom_tells name t old = by (is_wildcard name) (is_variable name)
  where
    by : (wildcard variable : Bool) → Tells (λ a. MatchBool wildcard ⊤ (MatchBool variable (t ≡ a name) (t ≡ atom name))) old
        (if wildcard then Some old
        else (if variable then with_value name t (value_of name old) old else values_if (same_tree (atom name) t) old))
    by true variable = record { kept = λ a k. k; has = λ a k. tt; keeps = λ a k h. k; some = λ s. s }
    by false true = variable_tells name t old (value_of name old) refl
    by false false = itself_tells (atom name) t old

-- one after the other
both_tell : (Has More : Assignment → Type 0) (old : Values) (f : Values → Option Values) (found : Option Values)
    → Tells Has old found → ((new : Values) → Tells More new (f new))
    → Tells (λ a. Has a × More a) old (option_and_then f found)
both_tell Has More old f None first second = λ a k both. first a k both.0
both_tell Has More old f (Some new) first second = by (f new) (second new)
  where
    by : (found : Option Values) → Tells More new found → Tells (λ a. Has a × More a) old found
    by None none = λ a k both. none a (first.keeps a k both.0) both.1
    by (Some newer) second = record {
      kept = λ a k. first.kept a (second.kept a k);
      has = λ a k. (first.has a (second.kept a k), second.has a k);
      keeps = λ a k both. second.keeps a (first.keeps a k both.0) both.1;
      some = λ s. second.some (first.some s);
    }

mutual
  tree_tells : (p t : Tree) (old : Values) → Tells (λ a. IsMatch a p t) old (values_after p t old)
  tree_tells (int n) t old = itself_tells (int n) t old
  tree_tells (atom name) t old = atom_tells name t old
  tree_tells (tuple ps) (int n) old = λ a k none. none
  tree_tells (tuple ps) (atom name) old = λ a k none. none
  tree_tells (tuple ps) (tuple ts) old = trees_tell ps ts old
  tree_tells (tuple ps) (list ts) old = λ a k none. none
  tree_tells (tuple ps) (bin b) old = λ a k none. none
  tree_tells (list ps) (int n) old = λ a k none. none
  tree_tells (list ps) (atom name) old = λ a k none. none
  tree_tells (list ps) (tuple ts) old = λ a k none. none
  tree_tells (list ps) (list ts) old = trees_tell ps ts old
  tree_tells (list ps) (bin b) old = λ a k none. none
  tree_tells (bin b) t old = itself_tells (bin b) t old

  trees_tell : (ps ts : Trees) (old : Values) → Tells (λ a. AreMatches a ps ts) old (all_values_after ps ts old)
  trees_tell no_trees no_trees old = record { kept = λ a k. k; has = λ a k. tt; keeps = λ a k h. k; some = λ s. s }
  trees_tell no_trees (tree t ts) old = λ a k none. none
  trees_tell (tree p ps) no_trees old = λ a k none. none
  trees_tell (tree p ps) (tree t ts) old =
      both_tell (λ a. IsMatch a p t) (λ a. AreMatches a ps ts) old (all_values_after ps ts) (values_after p t old)
      (tree_tells p t old) (trees_tell ps ts)

-- ---- what was found from nothing

found_some : (p t : Tree) (values : Values) → values_after p t [] ≡ Some values → Matches p t
found_some p t values is =
    let told : Narrows (λ a. IsMatch a p t) [] values = subst (Tells (λ a. IsMatch a p t) []) is (tree_tells p t []) in
    let some = told.some (atom, tt) in
    (some.0, told.has some.0 some.1)

found_none : (p t : Tree) → values_after p t [] ≡ None → Matches p t → ⊥
found_none p t is (a, matched) =
    let none : Tells (λ b. IsMatch b p t) [] None = subst (Tells (λ b. IsMatch b p t) []) is (tree_tells p t []) in
    none a tt matched

pub found_is : (p t : Tree) (found : Bool) (values old : Values) → old ≡ [] → values_if found values ≡ values_after p t old
    → IsTrue found ↔ Matches p t
found_is p t true values old empty is = (λ _. found_some p t values (ap (values_after p t) (sym empty) ∙ sym is), λ _. refl)
found_is p t false values old empty is =
    (λ wrong. absurd cc, λ matched. absurd (found_none p t (ap (values_after p t) (sym empty) ∙ sym is) matched))

-- whether a pattern matches can be told
pub told : (p t : Tree) → Matches p t ⊎ (Matches p t → ⊥)
told p t = by (values_after p t []) refl
  where
    by : (found : Option Values) → values_after p t [] ≡ found → Matches p t ⊎ (Matches p t → ⊥)
    by None is = inr (found_none p t is)
    by (Some values) is = inl (found_some p t values is)

-- the test of a match tells it
pub test_tells : (p t : Tree) → IsTrue (is_match p t) ↔ Matches p t
test_tells p t = by (values_after p t []) refl
  where
    by : (found : Option Values) → values_after p t [] ≡ found → IsTrue (is_some found) ↔ Matches p t
    by None is = (λ wrong. absurd cc, λ matched. absurd (found_none p t is matched))
    by (Some values) is = (λ _. found_some p t values is, λ _. refl)

pub found_test : (p t : Tree) (found : Bool) (values old : Values) → old ≡ [] → values_if found values ≡ values_after p t old
    → found ≡ is_match p t
found_test p t true values old empty is = ap is_some (is ∙ ap (values_after p t) empty)
found_test p t false values old empty is = ap is_some (is ∙ ap (values_after p t) empty)
