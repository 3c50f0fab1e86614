-- The order of trees is total, and equal trees are the same.
use Rattle.std.specs.Prelude.{◌≡◌, ◌↔◌, refl, Bool, true, IsTrue}
use Rattle.std.proofs.Common.{sym, ap, subst, ◌∙◌}
use Rattle.std.specs.declared.cmp.Ordering.{Ordering}
use Rattle.std.specs.declared.cmp.Ordering.TheVariants.{Less, Equal, Greater}
use Rattle.std.specs.Ordering.{nat_cmp, int_cmp, ordering_then, ordering_reverse, is_eq}
use Rattle.std.specs.Cmp.{IsTotalOrder, nat_cmp_total, int_cmp_total, alike_right, tied_itself, Equal-is}
use Rattle.std.specs.FinMap.{IsAntisymmetric, nat_cmp-IsAntisymmetric, int_cmp-IsAntisymmetric, slice_cmp-IsAntisymmetric}
use Rattle.std.specs.Cmp.Lexicographic.{slice_cmp, nat_list_cmp_total}
use Rattle.term_core.specs.Tree.{Tree, int, atom, tuple, list, bin, Trees, no_trees, tree, count, rank, number, text, size, inner, parts_cmp, none_cmp, tree_cmp, trees_cmp}

-- the third order follows from the first two, where it does
abbrev Follows : Ordering → Ordering → Ordering → Type 0
Follows Less Less xz = xz ≡ Less
Follows Less Equal xz = xz ≡ Less
Follows Less Greater xz = Unit {0}
Follows Equal yz xz = xz ≡ yz
Follows Greater Less xz = Unit {0}
Follows Greater Equal xz = xz ≡ Greater
Follows Greater Greater xz = xz ≡ Greater

then_follows : (a b c d e f : Ordering) → Follows a b c → Follows d e f → Follows (ordering_then a d) (ordering_then b e) (ordering_then c f)
then_follows Less Less c d e f p q = ap (λ o. ordering_then o f) p
then_follows Less Equal c d e f p q = less_then e (ap (λ o. ordering_then o f) p)
  where
    less_then : (e : Ordering) → ordering_then c f ≡ Less → Follows Less e (ordering_then c f)
    less_then Less h = h
    less_then Equal h = h
    less_then Greater h = tt
then_follows Less Greater c d e f p q = tt
then_follows Equal Less c d e f p q = first_follows d (ap (λ o. ordering_then o f) p)
  where
    first_follows : (d : Ordering) → ordering_then c f ≡ Less → Follows d Less (ordering_then c f)
    first_follows Less h = h
    first_follows Equal h = h
    first_follows Greater h = tt
then_follows Equal Equal c d e f p q = subst (λ o. Follows d e o) (sym (ap (λ o. ordering_then o f) p)) q
then_follows Equal Greater c d e f p q = first_follows d (ap (λ o. ordering_then o f) p)
  where
    first_follows : (d : Ordering) → ordering_then c f ≡ Greater → Follows d Greater (ordering_then c f)
    first_follows Less h = tt
    first_follows Equal h = h
    first_follows Greater h = h
then_follows Greater Less c d e f p q = tt
then_follows Greater Equal c d e f p q = greater_then e (ap (λ o. ordering_then o f) p)
  where
    greater_then : (e : Ordering) → ordering_then c f ≡ Greater → Follows Greater e (ordering_then c f)
    greater_then Less h = tt
    greater_then Equal h = h
    greater_then Greater h = h
then_follows Greater Greater c d e f p q = ap (λ o. ordering_then o f) p

-- a total order follows
from_total : {K : Type 0} {R : K → K → Ordering} → IsTotalOrder R → (x y z : K) → Follows (R x y) (R y z) (R x z)
from_total {K} {R} o x y z = by (R x y) (R y z) refl refl
  where
    by : (a b : Ordering) → R x y ≡ a → R y z ≡ b → Follows a b (R x z)
    by Less Less p q = o.trans x y z p q
    by Less Equal p q = sym (alike_right o y z x q) ∙ p
    by Less Greater p q = tt
    by Equal b p q = o.congr x y z p ∙ q
    by Greater Less p q = tt
    by Greater Equal p q = sym (alike_right o y z x q) ∙ p
    by Greater Greater p q = o.antisymm x z ∙ ap ordering_reverse (o.trans z y x (o.antisymm z y ∙ ap ordering_reverse q) (o.antisymm y x ∙ ap ordering_reverse p))

then_reverse : (a b : Ordering) → ordering_then (ordering_reverse a) (ordering_reverse b) ≡ ordering_reverse (ordering_then a b)
then_reverse Less b = refl
then_reverse Equal b = refl
then_reverse Greater b = refl

both_turn : (a b c d : Ordering) → a ≡ ordering_reverse b → c ≡ ordering_reverse d → ordering_then a c ≡ ordering_reverse (ordering_then b d)
both_turn a b c d p q = (λ i. ordering_then (p i) (q i)) ∙ then_reverse b d

parts_turn : (x y : Tree) (o p : Ordering) → o ≡ ordering_reverse p → parts_cmp x y o ≡ ordering_reverse (parts_cmp y x p)
parts_turn x y o p h =
    both_turn _ _ _ _ (nat_cmp_total.antisymm (rank x) (rank y))
    (both_turn _ _ _ _ (int_cmp_total.antisymm (number x) (number y))
    (both_turn _ _ _ _ (nat_list_cmp_total.antisymm (text x) (text y))
    (both_turn _ _ _ _ (nat_cmp_total.antisymm (size x) (size y)) h)))

parts_follow : (x y z : Tree) (a b c : Ordering) → Follows a b c → Follows (parts_cmp x y a) (parts_cmp y z b) (parts_cmp x z c)
parts_follow x y z a b c h =
    then_follows _ _ _ _ _ _ (from_total nat_cmp_total (rank x) (rank y) (rank z))
    (then_follows _ _ _ _ _ _ (from_total int_cmp_total (number x) (number y) (number z))
    (then_follows _ _ _ _ _ _ (from_total nat_list_cmp_total (text x) (text y) (text z))
    (then_follows _ _ _ _ _ _ (from_total nat_cmp_total (size x) (size y) (size z)) h)))

-- in whichever way a tree is made
pub tree_cmp_parts : (x y : Tree) → tree_cmp x y ≡ parts_cmp x y (trees_cmp (inner x) (inner y))
tree_cmp_parts (int n) y = refl
tree_cmp_parts (atom a) y = refl
tree_cmp_parts (tuple ts) y = refl
tree_cmp_parts (list ts) y = refl
tree_cmp_parts (bin b) y = refl

at : (x y z : Tree) → Follows (trees_cmp (inner x) (inner y)) (trees_cmp (inner y) (inner z)) (trees_cmp (inner x) (inner z)) → Follows (tree_cmp x y) (tree_cmp y z) (tree_cmp x z)
at x y z h = rw (tree_cmp_parts x y, tree_cmp_parts y z, tree_cmp_parts x z) (parts_follow x y z _ _ _ h)

before : (o : Ordering) → Follows Less o Less
before Less = refl
before Equal = refl
before Greater = tt

after : (o : Ordering) → Follows o Greater Greater
after Less = tt
after Equal = refl
after Greater = refl

record IsTriple (xy yz xz : Ordering) : Type 0 where
  pub trans : xy ≡ Less → yz ≡ Less → xz ≡ Less
  pub congr : xy ≡ Equal → xz ≡ yz

told : (xy yz xz : Ordering) → Follows xy yz xz → IsTriple xy yz xz
told Less Less xz h = record { trans = λ p q. h; congr = λ p. cc }
told Less Equal xz h = record { trans = λ p q. h; congr = λ p. cc }
told Less Greater xz h = record { trans = λ p q. cc; congr = λ p. cc }
told Equal yz xz h = record { trans = λ p q. cc; congr = λ p. h }
told Greater Less xz h = record { trans = λ p q. cc; congr = λ p. cc }
told Greater Equal xz h = record { trans = λ p q. cc; congr = λ p. cc }
told Greater Greater xz h = record { trans = λ p q. cc; congr = λ p. cc }

none_turn : (ys : Trees) → none_cmp ys ≡ ordering_reverse (trees_cmp ys no_trees)
none_turn no_trees = refl
none_turn (tree y ys) = refl

none_follow : (ys zs : Trees) → Follows (none_cmp ys) (trees_cmp ys zs) (none_cmp zs)
none_follow no_trees zs = refl
none_follow (tree y ys) no_trees = tt
none_follow (tree y ys) (tree z zs) = before (ordering_then (tree_cmp y z) (trees_cmp ys zs))

mutual
  tree_turn : (x y : Tree) → tree_cmp x y ≡ ordering_reverse (tree_cmp y x)
  tree_turn (int n) y = parts_turn (int n) y _ _ (none_turn (inner y)) ∙ sym (ap ordering_reverse (tree_cmp_parts y (int n)))
  tree_turn (atom a) y = parts_turn (atom a) y _ _ (none_turn (inner y)) ∙ sym (ap ordering_reverse (tree_cmp_parts y (atom a)))
  tree_turn (tuple ts) y = parts_turn (tuple ts) y _ _ (trees_turn ts (inner y)) ∙ sym (ap ordering_reverse (tree_cmp_parts y (tuple ts)))
  tree_turn (list ts) y = parts_turn (list ts) y _ _ (trees_turn ts (inner y)) ∙ sym (ap ordering_reverse (tree_cmp_parts y (list ts)))
  tree_turn (bin b) y = parts_turn (bin b) y _ _ (none_turn (inner y)) ∙ sym (ap ordering_reverse (tree_cmp_parts y (bin b)))

  trees_turn : (xs ys : Trees) → trees_cmp xs ys ≡ ordering_reverse (trees_cmp ys xs)
  trees_turn no_trees ys = none_turn ys
  trees_turn (tree x xs) no_trees = refl
  trees_turn (tree x xs) (tree y ys) = both_turn _ _ _ _ (tree_turn x y) (trees_turn xs ys)

mutual
  tree_follows : (x y z : Tree) → Follows (tree_cmp x y) (tree_cmp y z) (tree_cmp x z)
  tree_follows (int n) y z = at (int n) y z (none_follow (inner y) (inner z))
  tree_follows (atom a) y z = at (atom a) y z (none_follow (inner y) (inner z))
  tree_follows (tuple ts) y z = at (tuple ts) y z (trees_follow ts (inner y) (inner z))
  tree_follows (list ts) y z = at (list ts) y z (trees_follow ts (inner y) (inner z))
  tree_follows (bin b) y z = at (bin b) y z (none_follow (inner y) (inner z))

  trees_follow : (xs ys zs : Trees) → Follows (trees_cmp xs ys) (trees_cmp ys zs) (trees_cmp xs zs)
  trees_follow no_trees ys zs = none_follow ys zs
  trees_follow (tree x xs) no_trees no_trees = refl
  trees_follow (tree x xs) no_trees (tree z zs) = tt
  trees_follow (tree x xs) (tree y ys) no_trees = after (ordering_then (tree_cmp x y) (trees_cmp xs ys))
  trees_follow (tree x xs) (tree y ys) (tree z zs) = then_follows _ _ _ _ _ _ (tree_follows x y z) (trees_follow xs ys zs)

triple : (x y z : Tree) → IsTriple (tree_cmp x y) (tree_cmp y z) (tree_cmp x z)
triple x y z = told _ _ _ (tree_follows x y z)

pub tree_total : IsTotalOrder tree_cmp
tree_total = record {
  antisymm = tree_turn;
  trans = λ x y z. (triple x y z).trans;
  congr = λ x y z. (triple x y z).congr;
}

-- both orders say equal
then_equal : (o p : Ordering) → ordering_then o p ≡ Equal → (o ≡ Equal) × (p ≡ Equal)
then_equal Less p h = absurd cc
then_equal Equal p h = (refl, h)
then_equal Greater p h = absurd cc

mutual
  tree_same : (x y : Tree) → tree_cmp x y ≡ Equal → x ≡ y
  tree_same (int m) (int n) h = ap int (int_cmp-IsAntisymmetric m n (then_equal (int_cmp m n) Equal h).0)
  tree_same (int m) (atom b) h = absurd cc
  tree_same (int m) (tuple ys) h = absurd cc
  tree_same (int m) (list ys) h = absurd cc
  tree_same (int m) (bin b) h = absurd cc
  tree_same (atom a) (int n) h = absurd cc
  tree_same (atom a) (atom b) h = ap atom (slice_cmp-IsAntisymmetric nat_cmp-IsAntisymmetric a b (then_equal (slice_cmp nat_cmp a b) Equal h).0)
  tree_same (atom a) (tuple ys) h = absurd cc
  tree_same (atom a) (list ys) h = absurd cc
  tree_same (atom a) (bin b) h = absurd cc
  tree_same (tuple xs) (int n) h = absurd cc
  tree_same (tuple xs) (atom b) h = absurd cc
  tree_same (tuple xs) (tuple ys) h = ap tuple (trees_same xs ys (then_equal (nat_cmp (count xs) (count ys)) (trees_cmp xs ys) h).1)
  tree_same (tuple xs) (list ys) h = absurd cc
  tree_same (tuple xs) (bin b) h = absurd cc
  tree_same (list xs) (int n) h = absurd cc
  tree_same (list xs) (atom b) h = absurd cc
  tree_same (list xs) (tuple ys) h = absurd cc
  tree_same (list xs) (list ys) h = ap list (trees_same xs ys h)
  tree_same (list xs) (bin b) h = absurd cc
  tree_same (bin a) (int n) h = absurd cc
  tree_same (bin a) (atom b) h = absurd cc
  tree_same (bin a) (tuple ys) h = absurd cc
  tree_same (bin a) (list ys) h = absurd cc
  tree_same (bin a) (bin b) h = ap bin (slice_cmp-IsAntisymmetric nat_cmp-IsAntisymmetric a b (then_equal (slice_cmp nat_cmp a b) Equal h).0)

  trees_same : (xs ys : Trees) → trees_cmp xs ys ≡ Equal → xs ≡ ys
  trees_same no_trees no_trees h = refl
  trees_same no_trees (tree y ys) h = absurd cc
  trees_same (tree x xs) no_trees h = absurd cc
  trees_same (tree x xs) (tree y ys) h =
      let both = then_equal (tree_cmp x y) (trees_cmp xs ys) h in
      λ i. tree (tree_same x y both.0 i) (trees_same xs ys both.1 i)

pub tree_cmp-IsAntisymmetric : IsAntisymmetric tree_cmp
tree_cmp-IsAntisymmetric = tree_same

-- whether two trees are the same
abbrev pub same_tree : Tree → Tree → Bool
same_tree x y = is_eq (tree_cmp x y)

pub same_tree_true : (x y : Tree) → same_tree x y ≡ true → x ≡ y
same_tree_true x y h = tree_same x y ((Equal-is (tree_cmp x y)).0 h)

pub same_tree_refl : (t : Tree) → same_tree t t ≡ true
same_tree_refl t = ap is_eq (tied_itself tree_total t)

pub same_tree_is : (x y : Tree) → IsTrue (same_tree x y) ↔ (x ≡ y)
same_tree_is x y = (same_tree_true x y, λ p. ap (same_tree x) (sym p) ∙ same_tree_refl x)
