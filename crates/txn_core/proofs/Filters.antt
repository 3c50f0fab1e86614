-- Filters of one list.
use Rattle.std.proofs.Common.{◌≡◌, Bool, true, false, List, [], ◌∷◌, filter, refl, inl, inr}
use Rattle.std.specs.List.{AllByRecursion}
use Rattle.std.proofs.lemmas.Bool.{cases_Bool}

pub swapped : {X : Type 0} (p q : X → Bool) (xs : List X) → filter p (filter q xs) ≡ filter q (filter p xs)
swapped p q [] = refl
swapped p q (x ∷ xs) =
    let ih : filter p (filter q xs) ≡ filter q (filter p xs) = swapped p q xs in
    elim (cases_Bool (p x)) [
      | inl hp ↦ elim (cases_Bool (q x)) [ inl hq ↦ simp (hp, hq, ih) | inr hq ↦ simp (hp, hq, ih) ]
      | inr hp ↦ elim (cases_Bool (q x)) [ inl hq ↦ simp (hp, hq, ih) | inr hq ↦ simp (hp, hq, ih) ]
    ]

-- a filter that passes all that another one does changes nothing behind it
pub within : {X : Type 0} (p q : X → Bool) → ((x : X) → q x ≡ true → p x ≡ true) → (xs : List X)
    → filter p (filter q xs) ≡ filter q xs
within p q h [] = refl
within p q h (x ∷ xs) =
    let ih : filter p (filter q xs) ≡ filter q xs = within p q h xs in
    elim (cases_Bool (q x)) [
      | inl hq ↦ (let hp : p x ≡ true = h x hq in simp (hp, hq, ih))
      | inr hq ↦ simp (hq, ih)
    ]

-- what passes none of a list
pub passes_none : {X : Type 0} (p : X → Bool) (xs : List X) → AllByRecursion (λ x. p x ≡ false) xs → filter p xs ≡ []
passes_none p [] h = refl
passes_none p (x ∷ xs) h =
    let first : p x ≡ false = h.0 in
    let ih : filter p xs ≡ [] = passes_none p xs h.1 in
    simp (first, ih)
