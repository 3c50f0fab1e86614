-- Tests of names and of trees.
use Rattle.std.proofs.Common.{◌≡◌, ℕ, true, false, List, refl, sym, ap, ◌∙◌}
use Rattle.std.specs.Bool.{Decides}
use Rattle.std.specs.Ordering.{is_lt, is_eq, ordering_reverse}
use Rattle.std.specs.declared.cmp.Ordering.{Ordering}
use Rattle.std.specs.declared.cmp.Ordering.TheVariants.{Less, Equal, Greater}
use Rattle.std.specs.Cmp.{tied_itself}
use Rattle.std.specs.Cmp.Lexicographic.{nat_list_cmp_total, slice_cmp}
use Rattle.std.specs.Ordering.{nat_cmp}
use Rattle.std.proofs.lemmas.Bool.{both_ways, false_from_ne_true}
use Rattle.std.proofs.lemmas.Map.Text.{is_eq-slice_cmp}
use Rattle.std.proofs.lemmas.Slice.Eq.{bytes_eq-Decides}
use Rattle.term_core.specs.Tree.{Tree, tree_cmp}
use Rattle.term_core.specs.Order.{tree_total, same_tree}
use Rattle.db_model.specs.Database.{same_name}

-- ---- names

pub same_name_is : (name other : List ℕ) → Decides (same_name name other) (name ≡ other)
same_name_is name other = (
  λ is. (bytes_eq-Decides name other).0 (sym (is_eq-slice_cmp name other) ∙ is),
  λ is. is_eq-slice_cmp name other ∙ (bytes_eq-Decides name other).1 is,
)

pub one_name : (name other : List ℕ) → same_name name other ≡ true → name ≡ other
one_name name other h = (same_name_is name other).0 h

pub own_name : (name : List ℕ) → same_name name name ≡ true
own_name name = (same_name_is name name).1 refl

eq_turned : (o : Ordering) → is_eq (ordering_reverse o) ≡ is_eq o
eq_turned Less = refl
eq_turned Equal = refl
eq_turned Greater = refl

pub same_name_sym : (name other : List ℕ) → same_name name other ≡ same_name other name
same_name_sym name other =
    ap is_eq (nat_list_cmp_total.antisymm name other) ∙ eq_turned (slice_cmp nat_cmp other name)

-- ---- trees

pub same_tree_sym : (a b : Tree) → same_tree a b ≡ same_tree b a
same_tree_sym a b = ap is_eq (tree_total.antisymm a b) ∙ eq_turned (tree_cmp b a)

less_is : (o : Ordering) → is_lt o ≡ true → o ≡ Less
less_is Less h = refl
less_is Equal h = absurd cc
less_is Greater h = absurd cc

pub less_trans : (a b c : Tree) → is_lt (tree_cmp a b) ≡ true → is_lt (tree_cmp b c) ≡ true
    → is_lt (tree_cmp a c) ≡ true
less_trans a b c h k = ap is_lt (tree_total.trans a b c (less_is (tree_cmp a b) h) (less_is (tree_cmp b c) k))

pub less_never : (a : Tree) → is_lt (tree_cmp a a) ≡ false
less_never a = ap is_lt (tied_itself tree_total a)

-- what is not below one is not below what that one follows
pub not_less_down : (a b c : Tree) → is_lt (tree_cmp b c) ≡ true → is_lt (tree_cmp a c) ≡ false
    → is_lt (tree_cmp a b) ≡ false
not_less_down a b c h k = false_from_ne_true (is_lt (tree_cmp a b)) (λ less. both_ways (is_lt (tree_cmp a c)) k (less_trans a b c less h))
