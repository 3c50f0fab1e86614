-- Texts with commas between, and the texts of terms with items.
use Rattle.std.proofs.Common.{◌≡◌, ℕ, zero, suc, ◌+◌, ◌<◌, List, [], ◌∷◌, ◌++◌, length, drop, get_or, decimal, refl, sym, ap, subst, ◌∙◌, codes, add-one, arith, append_assoc}
use Rattle.std.specs.List.{flat_map}
use Rattle.std.proofs.lemmas.List.{at_drop_more}
use Rattle.term_core.specs.Tree.{Tree, Trees}
use Rattle.term_core.specs.View.{tree_of, forest_of, tree_step}
use Rattle.term_core.specs.declared.Term.{Term, Tuple}
use Rattle.term_core.specs.declared.Term as declared
use Rattle.term_core.specs.declared.Term.TheFolds.{fold-roll-Term}
use Rattle.term_core.specs.declared.Term.TheOpen.{Term-F}
use Rattle.term_core.specs.declared.Term.TheViews.{rolls-Tuple, rolls-List}
use Rattle.term_core.specs.Kept.{IsKept, AreKept}
use Rattle.term_text.specs.Printing.{comma_before, character_text, printed, trees_text, more_trees_text, bytes_text, more_bytes_text}

-- what is still to come, at this place
abbrev pub trees_text_from : ℕ → Trees → List ℕ
trees_text_from zero ts = trees_text ts
trees_text_from (suc i) ts = more_trees_text ts

abbrev pub bytes_text_from : ℕ → List ℕ → List ℕ
bytes_text_from zero ns = bytes_text ns
bytes_text_from (suc i) ns = more_bytes_text ns

pub tuple_text : (items : List Term) → printed (tree_of (Tuple items)) ≡ codes "{" ++ (trees_text (forest_of items) ++ codes "}")
tuple_text items = ap printed (ap tree_of (sym (rolls-Tuple items)) ∙ fold-roll-Term Tree tree_step (Term-F.Tuple items))

pub list_text : (items : List Term) → printed (tree_of (declared.List items)) ≡ codes "[" ++ (trees_text (forest_of items) ++ codes "]")
list_text items = ap printed (ap tree_of (sym (rolls-List items)) ∙ fold-roll-Term Tree tree_step (Term-F.List items))

pub tuple_kept : (items : List Term) → AreKept (forest_of items) → IsKept (tree_of (Tuple items))
tuple_kept items kept = let P : Tree → Type 0 = IsKept in subst P (sym (ap tree_of (sym (rolls-Tuple items)) ∙ fold-roll-Term Tree tree_step (Term-F.Tuple items))) kept

pub list_kept : (items : List Term) → AreKept (forest_of items) → IsKept (tree_of (declared.List items))
list_kept items kept = let P : Tree → Type 0 = IsKept in subst P (sym (ap tree_of (sym (rolls-List items)) ∙ fold-roll-Term Tree tree_step (Term-F.List items))) kept

first_is : {A : Type 0} (xs : List A) (i : ℕ) (x : A) → i < length xs → x ≡ get_or xs i x → drop i xs ≡ x ∷ drop (suc i) xs
first_is {A} [] i x lt p = absurd (omega arith)
first_is {A} (y ∷ ys) zero x lt p = ap (λ (z : A). z ∷ ys) (sym p)
first_is {A} (y ∷ ys) (suc i) x lt p = first_is ys i x (omega arith) p

-- one more is kept where those behind it are
pub kept_next : (items : List Term) (i : ℕ) (x : Term) → i < length items → x ≡ get_or items i x → IsKept (tree_of x) → AreKept (forest_of (drop (i + 1) items)) → AreKept (forest_of (drop i items))
kept_next items i x lt p is rest = let P : List Term → Type 0 = λ ts. AreKept (forest_of ts) in subst P (sym (first_is items i x lt p)) (is, subst (λ (n : ℕ). P (drop n items)) (add-one i) rest)

-- the element at this place, and those behind it
trees_head : (i : ℕ) (x : Term) (xs : List Term) → trees_text_from i (forest_of (x ∷ xs)) ≡ comma_before i ++ (printed (tree_of x) ++ more_trees_text (forest_of xs))
trees_head zero x xs = refl
trees_head (suc i) x xs = refl

pub trees_next : (items : List Term) (i : ℕ) (x : Term) → i < length items → x ≡ get_or items i x
    → trees_text_from i (forest_of (drop i items)) ≡ comma_before i ++ (printed (tree_of x) ++ trees_text_from (i + 1) (forest_of (drop (i + 1) items)))
trees_next items i x lt p = rw (add-one, first_is items i x lt p) (trees_head i x (drop (suc i) items))

bytes_head : (i n : ℕ) (ns : List ℕ) → bytes_text_from i (n ∷ ns) ≡ comma_before i ++ (decimal n ++ more_bytes_text ns)
bytes_head zero n ns = refl
bytes_head (suc i) n ns = refl

pub bytes_next : (bytes : List ℕ) (i n : ℕ) → i < length bytes → n ≡ get_or bytes i 0
    → bytes_text_from i (drop i bytes) ≡ comma_before i ++ (decimal n ++ bytes_text_from (i + 1) (drop (i + 1) bytes))
bytes_next bytes i n lt p = rw (add-one, first_byte bytes i n lt p) (bytes_head i n (drop (suc i) bytes))
  where
    first_byte : (bytes : List ℕ) (i n : ℕ) → i < length bytes → n ≡ get_or bytes i 0 → drop i bytes ≡ n ∷ drop (suc i) bytes
    first_byte [] i n lt p = absurd (omega arith)
    first_byte (b ∷ bs) zero n lt p = ap (λ (m : ℕ). m ∷ bs) (sym p)
    first_byte (b ∷ bs) (suc i) n lt p = first_byte bs i n (omega arith) p

pub characters_next : (cs : List ℕ) (i c : ℕ) → (i < length cs) × (c ≡ get_or cs i c) → flat_map character_text (drop i cs) ≡ character_text c ++ flat_map character_text (drop (i + 1) cs)
characters_next cs i c h = at_drop_more (flat_map character_text) cs i c h.0 ∙ ap (λ (x : ℕ). character_text x ++ flat_map character_text (drop (i + 1) cs)) (sym h.1)

-- ---- what is written so far, and what is still to come

pub two_added : (old front out mid new comma text : List ℕ) → out ≡ old ++ front → mid ≡ out ++ comma → new ≡ mid ++ text → new ≡ old ++ (front ++ (comma ++ text))
two_added old front out mid new comma text p q r = r ∙ ap (λ (s : List ℕ). s ++ text) (q ∙ ap (λ (s : List ℕ). s ++ comma) p) ∙ simp append_assoc

pub two_left : (front comma text before rest total : List ℕ) → front ++ before ≡ total → before ≡ comma ++ (text ++ rest) → (front ++ (comma ++ text)) ++ rest ≡ total
two_left front comma text before rest total p q =
    let regrouped : (front ++ (comma ++ text)) ++ rest ≡ front ++ (comma ++ (text ++ rest)) = simp append_assoc in
    regrouped ∙ ap (λ (s : List ℕ). front ++ s) (sym q) ∙ p

pub one_added : (old front out new text : List ℕ) → out ≡ old ++ front → new ≡ out ++ text → new ≡ old ++ (front ++ text)
one_added old front out new text p q = q ∙ ap (λ (s : List ℕ). s ++ text) p ∙ append_assoc old front text

pub one_left : (front text before rest total : List ℕ) → front ++ before ≡ total → before ≡ text ++ rest → (front ++ text) ++ rest ≡ total
one_left front text before rest total p q = append_assoc front text rest ∙ ap (λ (s : List ℕ). front ++ s) (sym q) ∙ p
