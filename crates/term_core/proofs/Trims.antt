-- Lists without the noughts at their end.
use Rattle.std.proofs.Common.{◌≡◌, ℕ, zero, suc, ◌-◌, ◌<◌, ◌≤◌, List, [], ◌∷◌, ◌++◌, length, take, get_or, refl, sym, ap, ◌∙◌, arith}
use Rattle.term_core.specs.Written.{trim_front, trimmed}

trimmed-nought : (xs : List ℕ) → trimmed (xs ++ 0 ∷ []) ≡ trimmed xs
trimmed-nought [] = refl
trimmed-nought (x ∷ xs) = ap (trim_front x) (trimmed-nought xs)

trim_front-some : (x y : ℕ) (ys : List ℕ) → trim_front x (y ∷ ys) ≡ x ∷ y ∷ ys
trim_front-some zero y ys = refl
trim_front-some (suc x) y ys = refl

trimmed-some : (xs : List ℕ) (n : ℕ) → trimmed (xs ++ suc n ∷ []) ≡ xs ++ suc n ∷ []
trimmed-some [] n = refl
trimmed-some (x ∷ []) n = trim_front-some x (suc n) []
trimmed-some (x ∷ y ∷ xs) n = ap (trim_front x) (trimmed-some (y ∷ xs) n) ∙ trim_front-some x y (xs ++ suc n ∷ [])

take-last : (xs : List ℕ) (n : ℕ) → n < length xs → take (suc n) xs ≡ take n xs ++ get_or xs n 0 ∷ []
take-last [] n lt = absurd (omega arith)
take-last (x ∷ xs) zero lt = refl
take-last (x ∷ xs) (suc n) lt = ap (λ (ys : List ℕ). x ∷ ys) (take-last xs n (omega arith))

-- a nought at the end of the first n
pub trimmed-shorter : (xs : List ℕ) (n : ℕ) → 0 < n → n ≤ length xs → get_or xs (n - 1) 0 ≡ 0 → trimmed (take (n - 1) xs) ≡ trimmed (take n xs)
trimmed-shorter xs zero lt le e = absurd (omega arith)
trimmed-shorter xs (suc n) lt le e =
    let same : suc n - 1 ≡ n = omega arith in
    let last : get_or xs n 0 ≡ 0 = ap (λ (k : ℕ). get_or xs k 0) (sym same) ∙ e in
    ap (λ (k : ℕ). trimmed (take k xs)) same ∙ sym (ap trimmed (take-last xs n (omega arith)) ∙ ap (λ (b : ℕ). trimmed (take n xs ++ b ∷ [])) last ∙ trimmed-nought (take n xs))

-- another byte at their end, or nothing
pub trimmed-whole : (xs : List ℕ) (n : ℕ) → n ≤ length xs → (0 < n → ¬ (get_or xs (n - 1) 0 ≡ 0)) → trimmed (take n xs) ≡ take n xs
trimmed-whole xs zero le other = refl
trimmed-whole xs (suc n) le other = by (get_or xs n 0) refl
  where
    by : (b : ℕ) → get_or xs n 0 ≡ b → trimmed (take (suc n) xs) ≡ take (suc n) xs
    by zero e = absurd (other (omega arith) (let same : suc n - 1 ≡ n = omega arith in ap (λ (k : ℕ). get_or xs k 0) same ∙ e))
    by (suc b) e =
        let last : take (suc n) xs ≡ take n xs ++ suc b ∷ [] = take-last xs n (omega arith) ∙ ap (λ (k : ℕ). take n xs ++ k ∷ []) e in
        ap trimmed last ∙ trimmed-some (take n xs) b ∙ sym last
