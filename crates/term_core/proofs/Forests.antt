-- Forests of lists of terms.
use Rattle.std.proofs.Common.{◌≡◌, sym, ap, ◌∙◌, ℕ, zero, suc, ◌+◌, ◌<◌, max, List, [], ◌∷◌, length, drop, get_or, refl, arith, add-one}
use Rattle.std.specs.declared.cmp.Ordering.TheVariants.{Less}
use Rattle.std.specs.declared.cmp.Ordering.{Ordering}
use Rattle.term_core.specs.declared.term.Term.{Term, Tuple}
use Rattle.term_core.specs.declared.term.Term.TheFolds.{fold-roll-Term}
use Rattle.term_core.specs.declared.term.Term.TheOpen.{Term-F}
use Rattle.term_core.specs.declared.term.Term.TheViews.{rolls-Tuple}
use Rattle.std.specs.Ordering.{nat_cmp, ordering_then}
use Rattle.std.specs.Option.{option_map}
use Rattle.std.specs.Prelude.{slice_get}
use Rattle.term_core.specs.Tree.{Tree, tuple, count, none_cmp, tree_cmp, trees_cmp, key_of, depth, greatest_depth}
use Rattle.term_core.specs.View.{tree_step, tree_of, forest_of}

pub count_forest_of : (ts : List Term) → count (forest_of ts) ≡ length ts
count_forest_of [] = refl
count_forest_of (t ∷ ts) = omega (arith, count_forest_of ts)

pub none_below : (i : ℕ) (ts : List Term) → i < length ts → none_cmp (forest_of (drop i ts)) ≡ Less
none_below i [] h = absurd (omega arith)
none_below zero (t ∷ ts) h = refl
none_below (suc i) (t ∷ ts) h = none_below i ts (omega arith)

pub tuple_order : (xs ys : List Term) → tree_cmp (tuple (forest_of xs)) (tuple (forest_of ys)) ≡ ordering_then (nat_cmp (length xs) (length ys)) (trees_cmp (forest_of xs) (forest_of ys))
tuple_order xs ys = rw (← count_forest_of xs, ← count_forest_of ys) refl

pub tree_of-Tuple : (xs : List Term) → tree_of (Tuple xs) ≡ tuple (forest_of xs)
tree_of-Tuple xs = ap tree_of (sym (rolls-Tuple xs)) ∙ fold-roll-Term Tree tree_step (Term-F.Tuple xs)

-- by their sizes, and then element by element
pub tuples_cmp : (x y : Term) (xs ys : List Term) (m n : ℕ) (o : Ordering) → x ≡ Tuple xs → y ≡ Tuple ys → m ≡ length xs → n ≡ length ys → o ≡ nat_cmp m n → tree_cmp (tree_of x) (tree_of y) ≡ ordering_then o (trees_cmp (forest_of xs) (forest_of ys))
tuples_cmp x y xs ys m n o p q h k e = rw (p, q, e, h, k, tree_of-Tuple xs, tree_of-Tuple ys) (tuple_order xs ys)

pub key_of-Tuple : (x : Term) (xs : List Term) → x ≡ Tuple xs → key_of (tree_of x) ≡ option_map tree_of (slice_get xs 1)
key_of-Tuple x xs p = ap (λ (t : Term). key_of (tree_of t)) p ∙ ap key_of (tree_of-Tuple xs) ∙ by xs
  where
    by : (xs : List Term) → key_of (tuple (forest_of xs)) ≡ option_map tree_of (slice_get xs 1)
    by [] = refl
    by (x ∷ []) = refl
    by (x ∷ y ∷ xs) = refl

deepest_first : (xs : List Term) (i : ℕ) (x : Term) → i < length xs → x ≡ get_or xs i x → greatest_depth (forest_of (drop i xs)) ≡ max (depth (tree_of x)) (greatest_depth (forest_of (drop (suc i) xs)))
deepest_first [] i x lt p = absurd (omega arith)
deepest_first (y ∷ ys) zero x lt p = ap (λ (t : Term). max (depth (tree_of t)) (greatest_depth (forest_of ys))) (sym p)
deepest_first (y ∷ ys) (suc i) x lt p = deepest_first ys i x (omega arith) p

-- the deepest of what is left: the next, or one behind it
pub greatest_depth-drop : (xs : List Term) (i : ℕ) (x : Term) → i < length xs → x ≡ get_or xs i x → greatest_depth (forest_of (drop i xs)) ≡ max (depth (tree_of x)) (greatest_depth (forest_of (drop (i + 1) xs)))
greatest_depth-drop xs i x lt p = rw add-one (deepest_first xs i x lt p)
