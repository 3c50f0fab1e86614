-- An entry put into a map or a set in order, seen through what its keys stand for.
use Rattle.std.proofs.Common.{◌≡◌, Bool, true, false, ◌||◌, cond, List, [], ◌∷◌, Option, Some, Ordering, Less, Equal, Greater, refl, sym}
use Rattle.std.proofs.Common.{ap, ◌∙◌, inl, inr}
use Rattle.std.specs.Ordering.{eq_by_cmp, match_ordering}
use Rattle.std.specs.Cmp.{IsTotalOrder, tied_itself, Equal-is}
use Rattle.std.specs.Map.{lookup}
use Rattle.std.specs.BTreeMap.{insert_entry}
use Rattle.std.specs.BTreeSet.{insert_key}
use Rattle.std.specs.List.{list_any}
use Rattle.std.proofs.lemmas.Bool.{cases_Bool, false_from_ne_true}

same_answer : {X : Type 0} (b : Bool) (v was : X) (rest : Option X)
    → cond b (Some v) rest ≡ cond b (Some v) (cond b (Some was) rest)
same_answer true v was rest = refl
same_answer false v was rest = refl

module _ {K Q : Type 0} (of : K → Q) (R : Q → Q → Ordering) (total : IsTotalOrder R)
    (exact : (x y : Q) → R x y ≡ Equal → x ≡ y) where
  pub same_is : (x y : Q) → eq_by_cmp R x y ≡ true → x ≡ y
  same_is x y h = exact x y ((Equal-is (R x y)).0 h)

  apart_asked : (asked x y : Q) → R x y ≡ Greater → eq_by_cmp R asked y ≡ true → eq_by_cmp R asked x ≡ false
  apart_asked asked x y h k = false_from_ne_true (eq_by_cmp R asked x) (λ s.
      let e : x ≡ y = sym (same_is asked x s) ∙ same_is asked y k in
      let f : Equal ≡ Greater = sym (tied_itself total x) ∙ ap (R x) e ∙ h in
      absurd (cc))

-- what is asked, of entries and of those once one was put in
abbrev asks : {K Q X : Type 0} → (K → Q) → (Q → Q → Ordering) → Q → List (K × X) → Option X
asks of R asked es = lookup (λ own. eq_by_cmp R asked (of own)) es

module _ {K Q X : Type 0} (of : K → Q) (R : Q → Q → Ordering) (total : IsTotalOrder R)
    (exact : (x y : Q) → R x y ≡ Equal → x ≡ y) where
  -- by how the new key compares with that of the first entry
  inserted_at : (e : K × X) (es after : List (K × X)) (k : K) (v : X) (asked : Q)
      → asks of R asked after ≡ cond (eq_by_cmp R asked (of k)) (Some v) (asks of R asked es)
      → (o : Ordering) → R (of k) (of e.0) ≡ o
      → asks of R asked (match_ordering o ((k, v) ∷ e ∷ es) ((e.0, v) ∷ es) (e ∷ after))
      ≡ cond (eq_by_cmp R asked (of k)) (Some v) (asks of R asked (e ∷ es))
  inserted_at e es after k v asked ih Less h = refl
  inserted_at e es after k v asked ih Equal h =
      let same : of k ≡ of e.0 = exact (of k) (of e.0) h in
      same_answer (eq_by_cmp R asked (of e.0)) v e.1 (asks of R asked es)
      ∙ ap (λ q. cond (eq_by_cmp R asked q) (Some v) (asks of R asked (e ∷ es))) (sym same)
  inserted_at e es after k v asked ih Greater h =
      elim (cases_Bool (eq_by_cmp R asked (of e.0))) [
        | inl y ↦ (
            let n : eq_by_cmp R asked (of k) ≡ false = apart_asked of R total exact asked (of k) (of e.0) h y in
            simp (y, n))
        | inr y ↦ simp (y, ih)
      ]

  pub lookup-inserted : (es : List (K × X)) (k : K) (v : X) (asked : Q)
      → asks of R asked (insert_entry (λ a b. R (of a) (of b)) es k v)
      ≡ cond (eq_by_cmp R asked (of k)) (Some v) (asks of R asked es)
  lookup-inserted [] k v asked = refl
  lookup-inserted (e ∷ es) k v asked =
      let later = insert_entry (λ a b. R (of a) (of b)) es k v in
      inserted_at e es later k v asked (lookup-inserted es k v asked) (R (of k) (of e.0)) refl

-- ---- a key put into a set in order

or_twice : (a b : Bool) → (a || b) ≡ (a || (a || b))
or_twice true b = refl
or_twice false b = refl

or_past : (a b c : Bool) → (a || (b || c)) ≡ (b || (a || c))
or_past true true c = refl
or_past true false c = refl
or_past false b c = refl

module _ {K Q : Type 0} (of : K → Q) (R : Q → Q → Ordering) (exact : (x y : Q) → R x y ≡ Equal → x ≡ y) where
  abbrev is_there : Q → List K → Bool
  is_there asked ks = list_any (λ own. eq_by_cmp R asked (of own)) ks

  put_at : (x k : K) (xs after : List K) (asked : Q)
      → is_there asked after ≡ (eq_by_cmp R asked (of k) || is_there asked xs) → (o : Ordering) → R (of k) (of x) ≡ o
      → is_there asked (match_ordering o (k ∷ x ∷ xs) (x ∷ xs) (x ∷ after))
      ≡ (eq_by_cmp R asked (of k) || is_there asked (x ∷ xs))
  put_at x k xs after asked ih Less h = refl
  put_at x k xs after asked ih Equal h =
      or_twice (eq_by_cmp R asked (of x)) (is_there asked xs)
      ∙ ap (λ q. eq_by_cmp R asked q || is_there asked (x ∷ xs)) (sym (exact (of k) (of x) h))
  put_at x k xs after asked ih Greater h =
      ap (λ b. eq_by_cmp R asked (of x) || b) ih
      ∙ or_past (eq_by_cmp R asked (of x)) (eq_by_cmp R asked (of k)) (is_there asked xs)

  pub any-inserted : (ks : List K) (k : K) (asked : Q)
      → is_there asked (insert_key (λ a b. R (of a) (of b)) ks k) ≡ (eq_by_cmp R asked (of k) || is_there asked ks)
  any-inserted [] k asked = refl
  any-inserted (x ∷ xs) k asked =
      put_at x k xs (insert_key (λ a b. R (of a) (of b)) xs k) asked (any-inserted xs k asked) (R (of k) (of x)) refl
