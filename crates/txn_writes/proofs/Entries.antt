-- An entry put into a map in order, seen through what its keys stand for.
use Rattle.std.proofs.Common.{◌≡◌, Bool, true, false, cond, List, [], ◌∷◌, Option, Some, IsSome, Ordering, Less, Equal, Greater, refl}
use Rattle.std.proofs.Common.{sym, ap, ◌∙◌, inl, inr}
use Rattle.std.specs.Ordering.{eq_by_cmp, is_eq, match_ordering}
use Rattle.std.specs.Cmp.{IsTotalOrder, tied_itself, Equal-is}
use Rattle.std.specs.Map.{lookup, set_value}
use Rattle.std.specs.BTreeMap.{insert_entry}
use Rattle.std.proofs.lemmas.Bool.{cases_Bool, false_from_ne_true, both_ways}

same_answer : {X : Type 0} (b : Bool) (v was : X) (rest : Option X) → cond b (Some v) rest ≡ cond b (Some v) (cond b (Some was) rest)
same_answer true v was rest = refl
same_answer false v was rest = refl

module _ {Q : Type 0} (R : Q → Q → Ordering) (total : IsTotalOrder R) (exact : (x y : Q) → R x y ≡ Equal → x ≡ y) where
  same_sym : (x y : Q) → eq_by_cmp R x y ≡ true → eq_by_cmp R y x ≡ true
  same_sym x y h = ap (λ q. eq_by_cmp R q x) (sym (exact x y ((Equal-is (R x y)).0 h))) ∙ ap is_eq (tied_itself total x)

  pub same_turned : (x y : Q) → eq_by_cmp R x y ≡ eq_by_cmp R y x
  same_turned x y = by (eq_by_cmp R x y) (eq_by_cmp R y x) refl refl
    where
      by : (b c : Bool) → eq_by_cmp R x y ≡ b → eq_by_cmp R y x ≡ c → b ≡ c
      by true true h k = refl
      by true false h k = absurd (both_ways (eq_by_cmp R y x) k (same_sym x y h))
      by false true h k = absurd (both_ways (eq_by_cmp R x y) h (same_sym y x k))
      by false false h k = refl

module _ {K Q : Type 0} (of : K → Q) (R : Q → Q → Ordering) (total : IsTotalOrder R) (exact : (x y : Q) → R x y ≡ Equal → x ≡ y) where
  -- the test for what is asked
  abbrev pub asks : Q → K → Bool
  asks asked own = eq_by_cmp R asked (of own)

  pub same_is : (x y : Q) → eq_by_cmp R x y ≡ true → x ≡ y
  same_is x y h = exact x y ((Equal-is (R x y)).0 h)

  apart_asked : (asked x y : Q) → R x y ≡ Greater → eq_by_cmp R asked y ≡ true → eq_by_cmp R asked x ≡ false
  apart_asked asked x y h k = false_from_ne_true (eq_by_cmp R asked x) (λ s.
      let e : x ≡ y = sym (same_is asked x s) ∙ same_is asked y k in
      let f : Equal ≡ Greater = sym (tied_itself total x) ∙ ap (R x) e ∙ h in
      absurd (cc))

module _ {K Q X : Type 0} (of : K → Q) (R : Q → Q → Ordering) (total : IsTotalOrder R) (exact : (x y : Q) → R x y ≡ Equal → x ≡ y) where
  inserted_at : (e : K × X) (es after : List (K × X)) (k : K) (v : X) (asked : Q)
      → lookup (asks of R total exact asked) after ≡ cond (asks of R total exact asked k) (Some v) (lookup (asks of R total exact asked) es)
      → (o : Ordering) → R (of k) (of e.0) ≡ o
      → lookup (asks of R total exact asked) (match_ordering o ((k, v) ∷ e ∷ es) ((e.0, v) ∷ es) (e ∷ after))
      ≡ cond (asks of R total exact asked k) (Some v) (lookup (asks of R total exact asked) (e ∷ es))
  inserted_at e es after k v asked ih Less h = refl
  inserted_at e es after k v asked ih Equal h =
      let same : of k ≡ of e.0 = exact (of k) (of e.0) h in
      same_answer (asks of R total exact asked e.0) v e.1 (lookup (asks of R total exact asked) es)
      ∙ ap (λ q. cond (eq_by_cmp R asked q) (Some v) (lookup (asks of R total exact asked) (e ∷ es))) (sym same)
  inserted_at e es after k v asked ih Greater h =
      elim (cases_Bool (asks of R total exact asked e.0)) [
        | inl y ↦ (let n : asks of R total exact asked k ≡ false = apart_asked of R total exact asked (of k) (of e.0) h y in simp (y, n))
        | inr y ↦ simp (y, ih)
      ]

  pub lookup-inserted : (es : List (K × X)) (k : K) (v : X) (asked : Q)
      → lookup (asks of R total exact asked) (insert_entry (λ a b. R (of a) (of b)) es k v)
      ≡ cond (asks of R total exact asked k) (Some v) (lookup (asks of R total exact asked) es)
  lookup-inserted [] k v asked = refl
  lookup-inserted (e ∷ es) k v asked =
      inserted_at e es (insert_entry (λ a b. R (of a) (of b)) es k v) k v asked (lookup-inserted es k v asked) (R (of k) (of e.0)) refl

  -- an entry that is there takes another value
  pub lookup-set : (es : List (K × X)) (key : Q) (v : X) (asked : Q) → IsSome (lookup (asks of R total exact key) es)
      → lookup (asks of R total exact asked) (set_value (asks of R total exact key) es v)
      ≡ cond (eq_by_cmp R key asked) (Some v) (lookup (asks of R total exact asked) es)
  lookup-set [] key v asked h = absurd cc
  lookup-set (e ∷ es) key v asked h = by (eq_by_cmp R key (of e.0)) refl h (lookup-set es key v asked)
    where
      here : of e.0 ≡ key → cond (eq_by_cmp R asked (of e.0)) (Some v) (lookup (asks of R total exact asked) es)
          ≡ cond (eq_by_cmp R key asked) (Some v) (lookup (asks of R total exact asked) (e ∷ es))
      here same = same_answer (eq_by_cmp R asked (of e.0)) v e.1 (lookup (asks of R total exact asked) es)
          ∙ ap (λ b. cond b (Some v) (lookup (asks of R total exact asked) (e ∷ es)))
          (ap (eq_by_cmp R asked) same ∙ same_turned R total exact asked key)

      there : eq_by_cmp R key (of e.0) ≡ false → (b : Bool) → eq_by_cmp R asked (of e.0) ≡ b
          → lookup (asks of R total exact asked) (set_value (asks of R total exact key) es v)
          ≡ cond (eq_by_cmp R key asked) (Some v) (lookup (asks of R total exact asked) es)
          → cond b (Some e.1) (lookup (asks of R total exact asked) (set_value (asks of R total exact key) es v))
          ≡ cond (eq_by_cmp R key asked) (Some v) (cond b (Some e.1) (lookup (asks of R total exact asked) es))
      there apart true own ih =
          let same : asked ≡ of e.0 = exact asked (of e.0) ((Equal-is (R asked (of e.0))).0 own) in
          sym (ap (λ b. cond b (Some v) (Some e.1)) (ap (eq_by_cmp R key) same ∙ apart))
      there apart false own ih = ih

      by : (b : Bool) → eq_by_cmp R key (of e.0) ≡ b → IsSome (cond b (Some e.1) (lookup (asks of R total exact key) es))
          → (IsSome (lookup (asks of R total exact key) es)
          → lookup (asks of R total exact asked) (set_value (asks of R total exact key) es v)
          ≡ cond (eq_by_cmp R key asked) (Some v) (lookup (asks of R total exact asked) es))
          → lookup (asks of R total exact asked) (cond b ((e.0, v) ∷ es) (e ∷ set_value (asks of R total exact key) es v))
          ≡ cond (eq_by_cmp R key asked) (Some v) (lookup (asks of R total exact asked) (e ∷ es))
      by true same h ih = here (sym (exact key (of e.0) ((Equal-is (R key (of e.0))).0 same)))
      by false apart h ih = there apart (eq_by_cmp R asked (of e.0)) refl (ih h)
