-- The order of trees, as `tree_cmp` answers it and as the relation says it.
use Rattle.std.proofs.Common.{◌≡◌, ◌⊎◌, ◌↔◌, inl, inr, sym, ap, subst, ◌∙◌, ℕ, ◌<◌, List, [], ◌∷◌, refl}
use Rattle.std.specs.Prelude.{◌<ℤ◌, ℤ}
use Rattle.std.specs.declared.cmp.Ordering.{Ordering}
use Rattle.std.specs.declared.cmp.Ordering.TheVariants.{Less, Equal, Greater}
use Rattle.std.specs.Ordering.{nat_cmp, int_cmp, ordering_then, ordering_reverse, MatchOrdering}
use Rattle.std.specs.Cmp.{nat_cmp_is, int_cmp_is, ranks, int_ranks, tied_itself}
use Rattle.std.specs.Cmp.Lexicographic.{slice_cmp}
use Rattle.term_core.specs.Tree.{Tree, int, atom, tuple, list, bin, Trees, no_trees, tree, count, tree_cmp, trees_cmp}
use Rattle.term_core.specs.Order.{tree_total, tree_cmp-IsAntisymmetric}
use Rattle.term_core.specs.Less.{Before, IsLess, AreLess}

-- two orders, one after the other
then_less : {A B C : Type 0} (o p : Ordering) → (o ≡ Less → A) → (o ≡ Equal → B) → (p ≡ Less → C) → ordering_then o p ≡ Less → A ⊎ (B × C)
then_less Less p f g k h = inl (f refl)
then_less Equal p f g k h = inr (g refl, k h)
then_less Greater p f g k h = absurd cc

first_less : (o p : Ordering) → o ≡ Less → ordering_then o p ≡ Less
first_less o p h = ap (λ (a : Ordering). ordering_then a p) h

second_less : (o p : Ordering) → o ≡ Equal → p ≡ Less → ordering_then o p ≡ Less
second_less o p e h = ap (λ (a : Ordering). ordering_then a p) e ∙ h

nat_less : (m n : ℕ) → nat_cmp m n ≡ Less → m < n
nat_less m n h = subst (λ o. MatchOrdering o (m < n) (m ≡ n) (n < m)) h (ranks m n)

nat_equal : (m n : ℕ) → nat_cmp m n ≡ Equal → m ≡ n
nat_equal m n h = subst (λ o. MatchOrdering o (m < n) (m ≡ n) (n < m)) h (ranks m n)

int_less : (m n : ℤ) → int_cmp m n ≡ Less → m <ℤ n
int_less m n h = subst (λ o. MatchOrdering o (m <ℤ n) (m ≡ n) (n <ℤ m)) h (int_ranks m n)

pub to_before : (xs ys : List ℕ) → slice_cmp nat_cmp xs ys ≡ Less → Before xs ys
to_before [] [] h = absurd cc
to_before [] (y ∷ ys) h = tt
to_before (x ∷ xs) [] h = absurd cc
to_before (x ∷ xs) (y ∷ ys) h =
    then_less (nat_cmp x y) (slice_cmp nat_cmp xs ys) (nat_less x y) (nat_equal x y) (to_before xs ys) h

pub from_before : (xs ys : List ℕ) → Before xs ys → slice_cmp nat_cmp xs ys ≡ Less
from_before [] [] h = absurd h
from_before [] (y ∷ ys) h = refl
from_before (x ∷ xs) [] h = absurd h
from_before (x ∷ xs) (y ∷ ys) (inl p) = first_less (nat_cmp x y) _ (sym (nat_cmp_is x y Less p))
from_before (x ∷ xs) (y ∷ ys) (inr (e, p)) = second_less (nat_cmp x y) _ (sym (nat_cmp_is x y Equal e)) (from_before xs ys p)

-- what is equal under an order that goes on with Equal
less_alone : (o : Ordering) → ordering_then o Equal ≡ Less → o ≡ Less
less_alone Less h = refl
less_alone Equal h = h
less_alone Greater h = h

mutual
  to_less : (x y : Tree) → tree_cmp x y ≡ Less → IsLess x y
  to_less (int m) (int n) h = int_less m n (less_alone (int_cmp m n) h)
  to_less (int m) (atom b) h = tt
  to_less (int m) (tuple ys) h = tt
  to_less (int m) (list ys) h = tt
  to_less (int m) (bin b) h = tt
  to_less (atom a) (int n) h = absurd cc
  to_less (atom a) (atom b) h = to_before a b (less_alone (slice_cmp nat_cmp a b) h)
  to_less (atom a) (tuple ys) h = tt
  to_less (atom a) (list ys) h = tt
  to_less (atom a) (bin b) h = tt
  to_less (tuple xs) (int n) h = absurd cc
  to_less (tuple xs) (atom b) h = absurd cc
  to_less (tuple xs) (tuple ys) h =
      then_less (nat_cmp (count xs) (count ys)) (trees_cmp xs ys) (nat_less (count xs) (count ys)) (nat_equal (count xs) (count ys)) (to_all_less xs ys) h
  to_less (tuple xs) (list ys) h = tt
  to_less (tuple xs) (bin b) h = tt
  to_less (list xs) (int n) h = absurd cc
  to_less (list xs) (atom b) h = absurd cc
  to_less (list xs) (tuple ys) h = absurd cc
  to_less (list xs) (list ys) h = to_all_less xs ys h
  to_less (list xs) (bin b) h = tt
  to_less (bin a) (int n) h = absurd cc
  to_less (bin a) (atom b) h = absurd cc
  to_less (bin a) (tuple ys) h = absurd cc
  to_less (bin a) (list ys) h = absurd cc
  to_less (bin a) (bin b) h = to_before a b (less_alone (slice_cmp nat_cmp a b) h)

  to_all_less : (xs ys : Trees) → trees_cmp xs ys ≡ Less → AreLess xs ys
  to_all_less no_trees no_trees h = absurd cc
  to_all_less no_trees (tree y ys) h = tt
  to_all_less (tree x xs) no_trees h = absurd cc
  to_all_less (tree x xs) (tree y ys) h =
      then_less (tree_cmp x y) (trees_cmp xs ys) (to_less x y) (tree_cmp-IsAntisymmetric x y) (to_all_less xs ys) h

equal_itself : (x y : Tree) → x ≡ y → tree_cmp x y ≡ Equal
equal_itself x y p = ap (tree_cmp x) (sym p) ∙ tied_itself tree_total x

mutual
  from_less : (x y : Tree) → IsLess x y → tree_cmp x y ≡ Less
  from_less (int m) (int n) h = first_less (int_cmp m n) _ (sym (int_cmp_is m n Less h))
  from_less (int m) (atom b) h = refl
  from_less (int m) (tuple ys) h = refl
  from_less (int m) (list ys) h = refl
  from_less (int m) (bin b) h = refl
  from_less (atom a) (int n) h = absurd h
  from_less (atom a) (atom b) h = first_less (slice_cmp nat_cmp a b) _ (from_before a b h)
  from_less (atom a) (tuple ys) h = refl
  from_less (atom a) (list ys) h = refl
  from_less (atom a) (bin b) h = refl
  from_less (tuple xs) (int n) h = absurd h
  from_less (tuple xs) (atom b) h = absurd h
  from_less (tuple xs) (tuple ys) (inl p) = first_less (nat_cmp (count xs) (count ys)) _ (sym (nat_cmp_is (count xs) (count ys) Less p))
  from_less (tuple xs) (tuple ys) (inr (e, p)) = second_less (nat_cmp (count xs) (count ys)) _ (sym (nat_cmp_is (count xs) (count ys) Equal e)) (from_all_less xs ys p)
  from_less (tuple xs) (list ys) h = refl
  from_less (tuple xs) (bin b) h = refl
  from_less (list xs) (int n) h = absurd h
  from_less (list xs) (atom b) h = absurd h
  from_less (list xs) (tuple ys) h = absurd h
  from_less (list xs) (list ys) h = from_all_less xs ys h
  from_less (list xs) (bin b) h = refl
  from_less (bin a) (int n) h = absurd h
  from_less (bin a) (atom b) h = absurd h
  from_less (bin a) (tuple ys) h = absurd h
  from_less (bin a) (list ys) h = absurd h
  from_less (bin a) (bin b) h = first_less (slice_cmp nat_cmp a b) _ (from_before a b h)

  from_all_less : (xs ys : Trees) → AreLess xs ys → trees_cmp xs ys ≡ Less
  from_all_less no_trees no_trees h = absurd h
  from_all_less no_trees (tree y ys) h = refl
  from_all_less (tree x xs) no_trees h = absurd h
  from_all_less (tree x xs) (tree y ys) (inl p) = first_less (tree_cmp x y) _ (from_less x y p)
  from_all_less (tree x xs) (tree y ys) (inr (e, p)) = second_less (tree_cmp x y) _ (equal_itself x y e) (from_all_less xs ys p)

pub less_is : (x y : Tree) → (tree_cmp x y ≡ Less) ↔ IsLess x y
less_is x y = (to_less x y, from_less x y)

pub same_is : (x y : Tree) → (tree_cmp x y ≡ Equal) ↔ (x ≡ y)
same_is x y = (tree_cmp-IsAntisymmetric x y, equal_itself x y)

pub one_way : (x y : Tree) → IsLess x y ⊎ (x ≡ y) ⊎ IsLess y x
one_way x y = by (tree_cmp x y) refl
  where
    by : (o : Ordering) → tree_cmp x y ≡ o → IsLess x y ⊎ (x ≡ y) ⊎ IsLess y x
    by Less p = inl (to_less x y p)
    by Equal p = inr (inl (tree_cmp-IsAntisymmetric x y p))
    by Greater p = inr (inr (to_less y x (tree_total.antisymm y x ∙ ap ordering_reverse p)))

pub not_itself : (x : Tree) → IsLess x x → ⊥
not_itself x h = let wrong : Equal ≡ Less = sym (tied_itself tree_total x) ∙ from_less x x h in cc

pub goes_on : (x y z : Tree) → IsLess x y → IsLess y z → IsLess x z
goes_on x y z p q = to_less x z (tree_total.trans x y z (from_less x y p) (from_less y z q))
