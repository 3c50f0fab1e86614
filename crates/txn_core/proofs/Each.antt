-- What holds of each element of a list.
use Rattle.std.proofs.Common.{◌≡◌, Bool, true, false, cond, List, [], ◌∷◌, ◌++◌, filter, map, None, Some, sym, ap, ◌∙◌, subst, inl, inr}
use Rattle.std.specs.List.{list_any, find, AllByRecursion}
use Rattle.std.proofs.lemmas.Bool.{cases_Bool, or_parts}
use Rattle.txn_core.specs.Sound.{Pairs}

pub some_is : {X : Type 0} (x y : X) → Some x ≡ Some y → x ≡ y
some_is x y h = cc

pub each : {X : Type 0} (P : X → Type 0) → ((x : X) → P x) → (xs : List X) → AllByRecursion P xs
each P h [] = tt
each P h (x ∷ xs) = (h x, each P h xs)

pub each_both : {X : Type 0} (P Q R : X → Type 0) → ((x : X) → P x → Q x → R x) → (xs : List X) → AllByRecursion P xs
    → AllByRecursion Q xs → AllByRecursion R xs
each_both P Q R h [] p q = tt
each_both P Q R h (x ∷ xs) p q = (h x p.0 q.0, each_both P Q R h xs p.1 q.1)

pub each_then : {X : Type 0} (P Q : X → Type 0) → ((x : X) → P x → Q x) → (xs : List X) → AllByRecursion P xs
    → AllByRecursion Q xs
each_then P Q h [] p = tt
each_then P Q h (x ∷ xs) p = (h x p.0, each_then P Q h xs p.1)

pub each_map : {X Y : Type 0} (P : Y → Type 0) (f : X → Y) (xs : List X) → AllByRecursion (λ x. P (f x)) xs
    → AllByRecursion P (map f xs)
each_map P f [] h = tt
each_map P f (x ∷ xs) h = (h.0, each_map P f xs h.1)

pub each_push : {X : Type 0} (P : X → Type 0) (xs : List X) (x : X) → AllByRecursion P xs → P x
    → AllByRecursion P (xs ++ x ∷ [])
each_push P [] x h p = (p, tt)
each_push P (y ∷ xs) x h p = (h.0, each_push P xs x h.1 p)

pub each_filter : {X : Type 0} (P : X → Type 0) (test : X → Bool) (xs : List X) → AllByRecursion P xs
    → AllByRecursion P (filter test xs)
each_filter P test [] h = tt
each_filter P test (x ∷ xs) h =
    elim (test x) as (λ b. AllByRecursion P (cond b (x ∷ filter test xs) (filter test xs))) [
      | true ↦ (h.0, each_filter P test xs h.1)
      | false ↦ each_filter P test xs h.1
    ]

-- what none passes
pub each_fails : {X : Type 0} (test : X → Bool) (xs : List X) → list_any test xs ≡ false
    → AllByRecursion (λ x. test x ≡ false) xs
each_fails test [] h = tt
each_fails test (x ∷ xs) h = let two = or_parts (test x) (list_any test xs) h in (two.0, each_fails test xs two.1)

-- what is found is one of them, and passes
pub each_found : {X : Type 0} (P : X → Type 0) (test : X → Bool) (xs : List X) (x : X) → find test xs ≡ Some x
    → AllByRecursion P xs → P x
each_found P test [] x h p = absurd (cc)
each_found P test (y ∷ xs) x h p =
    elim (cases_Bool (test y)) [
      | inl k ↦ subst P (some_is y x (ap (λ b. cond b (Some y) (find test xs)) (sym k) ∙ h)) p.0
      | inr k ↦ each_found P test xs x (ap (λ b. cond b (Some y) (find test xs)) (sym k) ∙ h) p.1
    ]

pub found_passes : {X : Type 0} (test : X → Bool) (xs : List X) (x : X) → find test xs ≡ Some x → test x ≡ true
found_passes test [] x h = absurd (cc)
found_passes test (y ∷ xs) x h =
    elim (cases_Bool (test y)) [
      | inl k ↦ subst (λ z. test z ≡ true) (some_is y x (ap (λ b. cond b (Some y) (find test xs)) (sym k) ∙ h)) k
      | inr k ↦ found_passes test xs x (ap (λ b. cond b (Some y) (find test xs)) (sym k) ∙ h)
    ]

pub each_unfound : {X : Type 0} (test : X → Bool) (xs : List X) → find test xs ≡ None
    → AllByRecursion (λ x. test x ≡ false) xs
each_unfound test [] h = tt
each_unfound test (y ∷ xs) h =
    elim (cases_Bool (test y)) [
      | inl k ↦ (let e : Some y ≡ None = ap (λ b. cond b (Some y) (find test xs)) (sym k) ∙ h in absurd (cc))
      | inr k ↦ (k, each_unfound test xs (ap (λ b. cond b (Some y) (find test xs)) (sym k) ∙ h))
    ]

pub pairs_filter : {X : Type 0} (R : X → X → Type 0) (test : X → Bool) (xs : List X) → Pairs R xs
    → Pairs R (filter test xs)
pairs_filter R test [] h = tt
pairs_filter R test (x ∷ xs) h =
    elim (test x) as (λ b. Pairs R (cond b (x ∷ filter test xs) (filter test xs))) [
      | true ↦ (each_filter (R x) test xs h.0, pairs_filter R test xs h.1)
      | false ↦ pairs_filter R test xs h.1
    ]

pub pairs_push : {X : Type 0} (R : X → X → Type 0) (xs : List X) (x : X) → Pairs R xs → AllByRecursion (λ y. R y x) xs
    → Pairs R (xs ++ x ∷ [])
pairs_push R [] x h p = (tt, tt)
pairs_push R (y ∷ xs) x h p = (each_push (R y) xs x h.0 p.0, pairs_push R xs x h.1 p.1)

pub pairs_map : {X : Type 0} (R : X → X → Type 0) (U : X → Type 0) (f : X → X)
    → ((x y : X) → U x → U y → R x y → R (f x) (f y)) → (xs : List X) → AllByRecursion U xs → Pairs R xs
    → Pairs R (map f xs)
pairs_map R U f h [] u p = tt
pairs_map R U f h (x ∷ xs) u p = (
  each_map (R (f x)) f xs (each_both U (R x) (λ y. R (f x) (f y)) (λ y v r. h x y u.0 v r) xs u.1 p.0),
  pairs_map R U f h xs u.1 p.1,
)
