-- Lists of terms, and their trees.
use Rattle.std.proofs.Common.{◌≡◌, ℕ, zero, suc, ◌+◌, ◌<◌, ◌≤◌, List, [], ◌∷◌, ◌++◌, get_or, take, map, length, sym, ap, subst, ◌∙◌, arith, refl}
use Rattle.std.specs.Prelude.{IsTrue, Bool, true, false, ◌↔◌, All}
use Rattle.std.specs.List.{AllPairs}
use Rattle.std.proofs.lemmas.List.{get_or-map, get_or-take, get_or_default, length-map, length-take, take_more, take_all}
use Rattle.std.proofs.lemmas.List.Elements.{All-nil, All-cons, All-append, All-map}
use Rattle.std.proofs.lemmas.List.Quantifiers.{all_pairs_push}
use Rattle.term_core.specs.Tree.{Tree, tuple, list, Trees, no_trees, tree}
use Rattle.term_core.specs.View.{tree_step, tree_of, trees_of, forest_of}
use Rattle.term_core.specs.declared.term.Term.{Term, Tuple, List as ListTerm}
use Rattle.term_core.specs.declared.term.Term.TheFolds.{fold-roll-Term}
use Rattle.term_core.specs.declared.term.Term.TheOpen.{Term-F}
use Rattle.term_core.specs.declared.term.Term.TheViews.{rolls-Tuple, rolls-List}
use Rattle.db_model.specs.Definitions.{Differ, AreAttributes}

pub list_tree : (x : Term) (ts : List Term) → x ≡ ListTerm ts → tree_of x ≡ list (forest_of ts)
list_tree x ts is = ap tree_of (is ∙ sym (rolls-List ts)) ∙ fold-roll-Term Tree tree_step (Term-F.List ts)

pub tuple_tree : (x : Term) (ts : List Term) → x ≡ Tuple ts → tree_of x ≡ tuple (forest_of ts)
tuple_tree x ts is = ap tree_of (is ∙ sym (rolls-Tuple ts)) ∙ fold-roll-Term Tree tree_step (Term-F.Tuple ts)

no_forest : (ts : List Term) → list (forest_of ts) ≡ list no_trees → ts ≡ []
no_forest [] is = refl
no_forest (t ∷ ts) is = absurd cc

pub empty_list : (x : Term) (ts : List Term) (b : Bool) → x ≡ ListTerm ts → IsTrue b ↔ (ts ≡ []) → IsTrue b ↔ (tree_of x ≡ list no_trees)
empty_list x ts b is empty = (
  λ yes. list_tree x ts is ∙ ap (λ (us : List Term). list (forest_of us)) (empty.0 yes),
  λ same. empty.1
      (no_forest ts (sym (list_tree x ts is) ∙ same)),
)

-- as many trees as terms
pub count_trees : (ts : List Term) → length (map tree_of ts) ≡ length ts
count_trees ts = length-map ts tree_of

first_tree : (t u : Tree) (ts us : Trees) → tree t ts ≡ tree u us → t ≡ u
first_tree t u ts us is = cc

other_trees : (t u : Tree) (ts us : Trees) → tree t ts ≡ tree u us → ts ≡ us
other_trees t u ts us is = cc

pub same_trees : (ts us : List Tree) → trees_of ts ≡ trees_of us → ts ≡ us
same_trees [] [] is = refl
same_trees [] (u ∷ us) is = absurd cc
same_trees (t ∷ ts) [] is = absurd cc
same_trees (t ∷ ts) (u ∷ us) is = λ i. first_tree t u (trees_of ts) (trees_of us) is i ∷ same_trees ts us
    (other_trees t u (trees_of ts) (trees_of us) is) i

same_list : (ts us : Trees) → list ts ≡ list us → ts ≡ us
same_list ts us is = cc

pub same_lists : (ts us : List Tree) → list (trees_of ts) ≡ list (trees_of us) → ts ≡ us
same_lists ts us is = same_trees ts us (same_list (trees_of ts) (trees_of us) is)

-- a list of what are no attributes is no list of attributes
pub no_attributes : (x : Term) (ts us : List Term) (b : Bool) → x ≡ ListTerm ts → us ≡ ts → IsTrue b ↔ AreAttributes (map tree_of us)
    → b ≡ false
    → (attributes : List Tree) → AreAttributes attributes → tree_of x ≡ list (trees_of attributes) → ⊥
no_attributes x ts us b is seen tests missing attributes are same =
    let here : map tree_of ts ≡ attributes = same_lists (map tree_of ts) attributes (sym (list_tree x ts is) ∙ same) in
    let yes : b ≡ true = tests.1 (subst AreAttributes (sym (ap (map tree_of) seen ∙ here)) are) in
    absurd cc

-- one more element of which it holds
pub more_all : {X : Type 0} (P : X → Type 0) (xs : List X) (n : ℕ) (x : X) → n < length xs → x ≡ get_or xs n x → All P (take n xs) → P x
    → All P (take (n + 1) xs)
more_all {X} P xs n x lt at front last =
    subst (All P) (sym (take_more xs n x lt ∙ ap (λ (y : X). take n xs ++ y ∷ []) (sym at)))
    (All-append P (take n xs) (x ∷ []) front (All-cons P x [] last (All-nil P)))

pub all_done : {X : Type 0} (P : X → Type 0) (xs : List X) (n : ℕ) → length xs ≤ n → All P (take n xs) → All P xs
all_done P xs n past front = subst (All P) (take_all n xs past) front

-- it holds of the element at a place
pub all_at : {X : Type 0} (P : X → Type 0) (xs : List X) (n : ℕ) (x : X) → n < length xs → x ≡ get_or xs n x → All P xs → P x
all_at P xs n x lt at all = subst P (sym at) (all n x lt)

pub all_from_map : {X Y : Type 0} (P : Y → Type 0) (f : X → Y) (xs : List X) → All P (map f xs) → All (λ x. P (f x)) xs
all_from_map P f xs all k d within =
    subst P (get_or-map f xs k d (f d) within) (all k (f d) (subst (λ n. k < n) (sym (length-map xs f)) within))

-- pairs of values, and pairs of what they are seen as
pub pairs_to_map : {X Y : Type 0} (R : Y → Y → Type 0) (f : X → Y) (xs : List X) → AllPairs (λ x y. R (f x) (f y)) xs
    → AllPairs R (map f xs)
pairs_to_map R f [] pairs i j d lt within = absurd (omega arith)
pairs_to_map R f (x ∷ xs) pairs i j d lt within =
    let w : j < length (x ∷ xs) = subst (λ n. j < n) (length-map (x ∷ xs) f) within in
    let v : i < length (x ∷ xs) = omega arith in
    subst (λ y. R y (get_or (map f (x ∷ xs)) j d)) (sym (get_or-map f (x ∷ xs) i x d v))
    (subst (λ y. R (f (get_or (x ∷ xs) i x)) y) (sym (get_or-map f (x ∷ xs) j x d w)) (pairs i j x lt w))

pub pairs_from_map : {X Y : Type 0} (R : Y → Y → Type 0) (f : X → Y) (xs : List X) → AllPairs R (map f xs)
    → AllPairs (λ x y. R (f x) (f y)) xs
pairs_from_map R f xs pairs i j d lt within =
    let v : i < length xs = omega arith in
    subst (λ y. R y (f (get_or xs j d))) (get_or-map f xs i d (f d) v)
    (subst (λ y. R (get_or (map f xs) i (f d)) y) (get_or-map f xs j d (f d) within)
    (pairs i j (f d) lt (subst (λ n. j < n) (sym (length-map xs f)) within)))

abbrev pub TermsDiffer : Term → Term → Type 0
TermsDiffer x y = Differ (tree_of x) (tree_of y)

-- one more term that is none of those before it
pub more_different : (ts : List Term) (n : ℕ) (t : Term) → n < length ts → t ≡ get_or ts n t
    → AllPairs TermsDiffer (take n ts) → All (λ other. TermsDiffer other t) (take n ts) → AllPairs TermsDiffer (take (n + 1) ts)
more_different ts n t lt at pairs others =
    subst (AllPairs TermsDiffer) (sym (take_more ts n t lt ∙ ap (λ (u : Term). take n ts ++ u ∷ []) (sym at)))
    (all_pairs_push TermsDiffer (take n ts) t pairs others)

-- a term is none of those before it
pub other_than_before : (ts : List Term) (n : ℕ) (t : Term) → n < length ts → t ≡ get_or ts n t
    → AllPairs Differ (map tree_of ts) → All (λ other. TermsDiffer other t) (take n ts)
other_than_before ts n t lt at pairs k d within =
    let least : k < n = omega (arith, length-take n ts) in
    let last : get_or ts n d ≡ t = get_or_default ts n d t lt ∙ sym at in
    subst (λ u. TermsDiffer u t) (sym (get_or-take n ts k d least))
    (subst (λ u. TermsDiffer (get_or ts k d) u) last (pairs_from_map Differ tree_of ts pairs k n d least lt))

pub all_different : (ts : List Term) (n : ℕ) → length ts ≤ n → AllPairs TermsDiffer (take n ts) → AllPairs Differ (map tree_of ts)
all_different ts n past pairs = pairs_to_map Differ tree_of ts (subst (AllPairs TermsDiffer) (take_all n ts past) pairs)
