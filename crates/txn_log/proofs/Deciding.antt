-- What can be told of terms and names.
use Rattle.std.proofs.Common.{◌≡◌, ◌⊎◌, ℕ, suc, ◌≤◌, pos, List, [], ◌∷◌, length, codes, refl, ap, inl, inr, arith}
use Rattle.std.specs.Prelude.{◌≢◌, All, AllPairs}
use Rattle.std.specs.Char.{IsAsciiAlphanumeric}
use Rattle.std.proofs.lemmas.Bool.{cases_Bool, cases_lt}
use Rattle.std.proofs.lemmas.List.Elements.{All-cons, All-nil, All-head, All-tail}
use Rattle.std.proofs.lemmas.List.Kept.{AllPairs-cons}
use Rattle.term_core.specs.Tree.{Tree, int, atom, list, Trees, no_trees, tree, text, inner}
use Rattle.term_core.specs.View.{trees_of}
use Rattle.term_core.specs.Order.{same_tree, same_tree_is}
use Rattle.db_model.specs.Names.{IsNameByte, IsName, IsTableName}
use Rattle.db_model.proofs.Forests.{same_lists}

-- ---- trees

pub tree_or_not : (s t : Tree) → (s ≡ t) ⊎ (s ≡ t → ⊥)
tree_or_not s t = elim (cases_Bool (same_tree s t)) [
  | inl same ↦ inl ((same_tree_is s t).0 same)
  | inr fails ↦ inr (λ same. cc ((same_tree_is s t).1 same, fails))
]

pub trees_or_not : (ts us : List Tree) → (ts ≡ us) ⊎ (ts ≡ us → ⊥)
trees_or_not ts us = elim (tree_or_not (list (trees_of ts)) (list (trees_of us))) [
  | inl same ↦ inl (same_lists ts us same)
  | inr other ↦ inr (λ same. other (ap (λ (xs : List Tree). list (trees_of xs)) same))
]

pub tree_differs : (s t : Tree) → (s ≢ t) ⊎ (s ≢ t → ⊥)
tree_differs s t = elim (tree_or_not s t) [ inl same ↦ inr (λ other. other same) | inr other ↦ inl other ]

pub word_differs : (word other : List ℕ) → (word ≢ other) ⊎ (word ≢ other → ⊥)
word_differs word other = elim (tree_or_not (atom word) (atom other)) [
  | inl same ↦ inr (λ differ. differ (ap text same))
  | inr differ ↦ inl (λ same. differ (ap atom same))
]

-- ---- elements

pub all_or_not : {X : Type 0} (P : X → Type 0) → ((x : X) → P x ⊎ (P x → ⊥)) → (xs : List X)
    → All P xs ⊎ (All P xs → ⊥)
all_or_not P told [] = inl (All-nil P)
all_or_not P told (x ∷ xs) = elim (told x) [
  | inr fails ↦ inr (λ h. fails (All-head P x xs h))
  | inl is ↦ elim (all_or_not P told xs) [
    | inr fails ↦ inr (λ h. fails (All-tail P x xs h))
    | inl rest ↦ inl (All-cons P x xs is rest)
  ]
]

module _ {X : Type 0} (R : X → X → Type 0) where
  pairs_head : (x : X) (xs : List X) → AllPairs R (x ∷ xs) → All (R x) xs
  pairs_head x xs h k d lt = h 0 (suc k) d (omega arith) (omega (arith, lt))

  pairs_tail : (x : X) (xs : List X) → AllPairs R (x ∷ xs) → AllPairs R xs
  pairs_tail x xs h i j d lt within = h (suc i) (suc j) d (omega (arith, lt)) (omega (arith, within))

  no_pairs : AllPairs R []
  no_pairs i j d lt within = absurd (omega (arith, within))

  pub pairs_or_not : ((x y : X) → R x y ⊎ (R x y → ⊥)) → (xs : List X) → AllPairs R xs ⊎ (AllPairs R xs → ⊥)
  pairs_or_not told [] = inl no_pairs
  pairs_or_not told (x ∷ xs) = elim (all_or_not (R x) (told x) xs) [
    | inr fails ↦ inr (λ h. fails (pairs_head x xs h))
    | inl first ↦ elim (pairs_or_not told xs) [
      | inr fails ↦ inr (λ h. fails (pairs_tail x xs h))
      | inl rest ↦ inl (AllPairs-cons R x xs first rest)
    ]
  ]

-- ---- numbers

pub within_or_not : (low high n : ℕ) → ((low ≤ n) × (n ≤ high)) ⊎ ((low ≤ n) × (n ≤ high) → ⊥)
within_or_not low high n = elim (cases_lt n low) [
  | inl under ↦ inr (λ h. omega (arith, h.0, under))
  | inr least ↦ elim (cases_lt high n) [ inl over ↦ inr (λ h. omega (arith, h.1, over)) | inr most ↦ inl (least, most) ]
]

either_or_not : {P Q : Type 0} → P ⊎ (P → ⊥) → Q ⊎ (Q → ⊥) → (P ⊎ Q) ⊎ (P ⊎ Q → ⊥)
either_or_not p q = elim p [
  | inl is ↦ inl (inl is)
  | inr fails ↦ elim q [ inl is ↦ inl (inr is) | inr none ↦ inr (λ h. elim h [ inl is ↦ fails is | inr is ↦ none is ]) ]
]

both_or_not : {P Q : Type 0} → P ⊎ (P → ⊥) → Q ⊎ (Q → ⊥) → (P × Q) ⊎ (P × Q → ⊥)
both_or_not p q = elim p [
  | inr fails ↦ inr (λ h. fails h.0)
  | inl is ↦ elim q [ inl also ↦ inl (is, also) | inr fails ↦ inr (λ h. fails h.1) ]
]

number_or_not : (n m : ℕ) → (n ≡ m) ⊎ (n ≡ m → ⊥)
number_or_not n m = elim (within_or_not m m n) [
  | inl same ↦ inl (omega (arith, same.0, same.1))
  | inr other ↦ inr (λ is. other (omega (arith, is), omega (arith, is)))
]

-- ---- names

letter_or_not : (byte : ℕ) → IsAsciiAlphanumeric byte ⊎ (IsAsciiAlphanumeric byte → ⊥)
letter_or_not byte = either_or_not (either_or_not (within_or_not 48 57 byte) (within_or_not 65 90 byte)) (within_or_not 97 122 byte)

name_byte_or_not : (byte : ℕ) → IsNameByte byte ⊎ (IsNameByte byte → ⊥)
name_byte_or_not byte = either_or_not (letter_or_not byte) (either_or_not (number_or_not byte 95) (number_or_not byte 64))

name_or_not : (name : List ℕ) → IsName name ⊎ (IsName name → ⊥)
name_or_not name = elim (both_or_not (within_or_not 1 64 (length name)) (all_or_not IsNameByte name_byte_or_not name)) [
  | inl is ↦ inl (record { some = omega (arith, is.0.0); few = is.0.1; bytes = is.1 })
  | inr fails ↦ inr (λ h. fails ((omega (arith, h.some), h.few), h.bytes))
]

pub table_or_not : (name : List ℕ) → IsTableName name ⊎ (IsTableName name → ⊥)
table_or_not name = both_or_not (name_or_not name) (elim (tree_or_not (atom name) (atom (codes "schema"))) [
  | inl same ↦ inr (λ other. other (ap text same))
  | inr other ↦ inl (λ same. other (ap atom same))
])

-- ---- the parts of a term

-- the elements of a tuple
abbrev pub first_of : Trees → Tree
first_of no_trees = atom []
first_of (tree t ts) = t

abbrev pub behind : Trees → Trees
behind no_trees = no_trees
behind (tree t ts) = ts

abbrev pub second : Tree → Tree
second t = first_of (behind (inner t))

abbrev pub third : Tree → Tree
third t = first_of (behind (behind (inner t)))

abbrev pub fourth : Tree → Tree
fourth t = first_of (behind (behind (behind (inner t))))

-- the number, where it has no sign
abbrev pub number_in : Tree → ℕ
number_in (int (pos n)) = n
number_in t = 0

abbrev pub list_of : Trees → List Tree
list_of no_trees = []
list_of (tree t ts) = t ∷ list_of ts

pub list_back : (ts : List Tree) → list_of (trees_of ts) ≡ ts
list_back [] = refl
list_back (t ∷ ts) = ap (λ us. t ∷ us) (list_back ts)

pub trees_back : (ts : Trees) → trees_of (list_of ts) ≡ ts
trees_back no_trees = refl
trees_back (tree t ts) = ap (tree t) (trees_back ts)
