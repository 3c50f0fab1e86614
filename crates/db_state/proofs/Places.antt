-- The first element that passes a test.
use Rattle.std.proofs.Common.{◌≡◌, ℕ, zero, suc, ◌+◌, ◌-◌, ◌<◌, ◌≤◌, Bool, true, false, cond, List, [], ◌∷◌, ◌++◌, length, get_or, drop, reverse}
use Rattle.std.proofs.Common.{refl, sym, ap, ◌∙◌, subst, arith, Option, None, Some}
use Rattle.std.specs.List.{position_from, AllByRecursion as Each}
use Rattle.std.proofs.lemmas.List.{drop_more, drop_all, reverse-append}

-- the last one is the first of those turned round
pub turned : {X : Type 0} (xs rest : List X) (x : X) → xs ≡ rest ++ x ∷ [] → reverse xs ≡ x ∷ reverse rest
turned xs rest x e = ap reverse e ∙ reverse-append rest (x ∷ [])

-- the element there passes the test, and none before it
abbrev pub IsFirst : {X : Type 0} → (X → Bool) → List X → ℕ → Type 0
IsFirst test [] i = ⊥
IsFirst test (x ∷ xs) zero = test x ≡ true
IsFirst test (x ∷ xs) (suc i) = (test x ≡ false) × IsFirst test xs i

module _ {X : Type 0} (test : X → Bool) where
  found_after : (k i : ℕ) (xs : List X) → position_from test k xs ≡ Some i → (k ≤ i) × IsFirst test xs (i - k)
  found_after k i [] e = absurd cc
  found_after k i (x ∷ xs) e = by (test x) refl e (found_after (k + 1) i xs)
    where
      by : (b : Bool) → test x ≡ b → cond b (Some k) (position_from test (k + 1) xs) ≡ Some i
          → (position_from test (k + 1) xs ≡ Some i → (k + 1 ≤ i) × IsFirst test xs (i - (k + 1)))
          → (k ≤ i) × IsFirst test (x ∷ xs) (i - k)
      by true t s later =
          let same : k ≡ i = cc in
          let at : zero ≡ i - k = omega arith in
          (omega arith, subst (IsFirst test (x ∷ xs)) at t)
      by false t s later =
          let rest = later s in
          let within = rest.0 in
          let at : suc (i - (k + 1)) ≡ i - k = omega arith in
          (omega arith, subst (IsFirst test (x ∷ xs)) at (t, rest.1))

  pub found : (i : ℕ) (xs : List X) → position_from test 0 xs ≡ Some i → IsFirst test xs i
  found i xs e =
      let at : i - 0 ≡ i = omega arith in
      subst (IsFirst test xs) at (found_after 0 i xs e).1

  none_after : (k : ℕ) (xs : List X) → position_from test k xs ≡ None → Each (λ x. test x ≡ false) xs
  none_after k [] e = tt
  none_after k (x ∷ xs) e = by (test x) refl e (none_after (k + 1) xs)
    where
      by : (b : Bool) → test x ≡ b → cond b (Some k) (position_from test (k + 1) xs) ≡ None
          → (position_from test (k + 1) xs ≡ None → Each (λ y. test y ≡ false) xs) → Each (λ y. test y ≡ false) (x ∷ xs)
      by true t s later = absurd cc
      by false t s later = (t, later s)

  pub none : (xs : List X) → position_from test 0 xs ≡ None → Each (λ x. test x ≡ false) xs
  none xs e = none_after 0 xs e

  pub first_within : (xs : List X) (i : ℕ) → IsFirst test xs i → i < length xs
  first_within [] i f = absurd f
  first_within (x ∷ xs) zero f = omega arith
  first_within (x ∷ xs) (suc i) f = let rest = first_within xs i f.1 in omega (arith, rest)

  -- ---- a search from a place on

  at_place : (xs : List X) (i : ℕ) (x : X) → i < length xs → x ≡ get_or xs i x
      → position_from test i (drop i xs) ≡ cond (test x) (Some i) (position_from test (i + 1) (drop (i + 1) xs))
  at_place xs i x lt is =
      ap (position_from test i) (drop_more xs i x lt)
      ∙ ap (λ (y : X). position_from test i (y ∷ drop (i + 1) xs)) (sym is)

  pub passed : (xs : List X) (i : ℕ) (x : X) (r : Option ℕ) → i < length xs → x ≡ get_or xs i x → test x ≡ false
      → position_from test i (drop i xs) ≡ r → position_from test (i + 1) (drop (i + 1) xs) ≡ r
  passed xs i x r lt is fails e =
      sym (at_place xs i x lt is ∙ ap (λ (b : Bool). cond b (Some i) (position_from test (i + 1) (drop (i + 1) xs))) fails) ∙ e

  pub hit : (xs : List X) (i : ℕ) (x : X) (r : Option ℕ) → i < length xs → x ≡ get_or xs i x → test x ≡ true
      → position_from test i (drop i xs) ≡ r → Some i ≡ r
  hit xs i x r lt is passes e =
      sym (at_place xs i x lt is ∙ ap (λ (b : Bool). cond b (Some i) (position_from test (i + 1) (drop (i + 1) xs))) passes) ∙ e

  pub missed : (xs : List X) (i : ℕ) (r : Option ℕ) → length xs ≤ i → position_from test i (drop i xs) ≡ r → None ≡ r
  missed xs i r le e = sym (ap (position_from test i) (drop_all i xs le)) ∙ e
