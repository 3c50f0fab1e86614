-- Texts come in the order of their characters, which UTF-8 keeps.
use Rattle.std.proofs.Common.{◌≡◌, ◌⊎◌, inl, inr, sym, ap, ◌∙◌, ℕ, ◌+◌, ◌/◌, ◌%◌, ◌<◌, ◌≤◌, Bool, true, false, List, [], ◌∷◌, ◌++◌, refl, arith, subst}
use Rattle.std.specs.Prelude.{nat_lt}
use Rattle.std.proofs.lemmas.Bool.Decides.{nat_tests}
use Rattle.std.specs.declared.cmp.Ordering.{Ordering}
use Rattle.std.specs.declared.cmp.Ordering.TheVariants.{Less, Equal, Greater}
use Rattle.std.specs.Ordering.{nat_cmp, ordering_reverse}
use Rattle.std.specs.Cmp.{tied_itself}
use Rattle.std.specs.Cmp.Lexicographic.{slice_cmp, nat_list_cmp_total}
use Rattle.std.specs.FinMap.{nat_cmp-IsAntisymmetric, slice_cmp-IsAntisymmetric}
use Rattle.std.specs.Char.{encode_utf8}
use Rattle.std.specs.Str.{encode_utf8_all}
use Rattle.term_core.specs.Less.{Before}
use Rattle.term_core.proofs.Before.{to_before, from_before}

-- a character is spelled in one to four bytes
abbrev One : ℕ → Type 0
One c = (c < 128) × (encode_utf8 c ≡ c ∷ [])

abbrev Two : ℕ → Type 0
Two c = (128 ≤ c) × (c < 2048) × (encode_utf8 c ≡ (192 + c / 64) ∷ (128 + c % 64) ∷ [])

abbrev Three : ℕ → Type 0
Three c = (2048 ≤ c) × (c < 65536) × (encode_utf8 c ≡ (224 + c / 4096) ∷ (128 + c / 64 % 64) ∷ (128 + c % 64) ∷ [])

abbrev Four : ℕ → Type 0
Four c = (65536 ≤ c) × (encode_utf8 c ≡ (240 + c / 262144) ∷ (128 + c / 4096 % 64) ∷ (128 + c / 64 % 64) ∷ (128 + c % 64) ∷ [])

one : (c : ℕ) → c < 128 → One c
unfolding encode_utf8
one c h = (h, let p : nat_lt c 128 ≡ true = grind (arith, nat_tests) in rw p refl)

two : (c : ℕ) → 128 ≤ c → c < 2048 → Two c
unfolding encode_utf8
two c g h = (g, h, let p : nat_lt c 128 ≡ false = grind (arith, nat_tests) in let q : nat_lt c 2048 ≡ true = grind (arith, nat_tests) in rw (p, q) refl)

three : (c : ℕ) → 2048 ≤ c → c < 65536 → Three c
unfolding encode_utf8
three c g h = (g, h, let p : nat_lt c 128 ≡ false = grind (arith, nat_tests) in let q : nat_lt c 2048 ≡ false = grind (arith, nat_tests) in let r : nat_lt c 65536 ≡ true = grind (arith, nat_tests) in rw (p, q, r) refl)

four : (c : ℕ) → 65536 ≤ c → Four c
unfolding encode_utf8
four c g = (g, let p : nat_lt c 128 ≡ false = grind (arith, nat_tests) in let q : nat_lt c 2048 ≡ false = grind (arith, nat_tests) in let r : nat_lt c 65536 ≡ false = grind (arith, nat_tests) in rw (p, q, r) refl)

below : (m n : ℕ) → (m < n) ⊎ (n ≤ m)
below m n = by (nat_lt m n) refl
  where
    by : (b : Bool) → nat_lt m n ≡ b → (m < n) ⊎ (n ≤ m)
    by true p = inl (grind (arith, nat_tests))
    by false p = inr (grind (arith, nat_tests))

class : (c : ℕ) → One c ⊎ Two c ⊎ Three c ⊎ Four c
class c = by (below c 128) (below c 2048) (below c 65536)
  where
    by : (c < 128) ⊎ (128 ≤ c) → (c < 2048) ⊎ (2048 ≤ c) → (c < 65536) ⊎ (65536 ≤ c) → One c ⊎ Two c ⊎ Three c ⊎ Four c
    by (inl p) q r = inl (one c p)
    by (inr p) (inl q) r = inr (inl (two c p q))
    by (inr p) (inr q) (inl r) = inr (inr (inl (three c q r)))
    by (inr p) (inr q) (inr r) = inr (inr (inr (four c r)))

goes_on : (x y : ℕ) (xs ys : List ℕ) → x ≤ y → (x ≡ y → Before xs ys) → Before (x ∷ xs) (y ∷ ys)
goes_on x y xs ys h k = by (below x y)
  where
    by : (x < y) ⊎ (y ≤ x) → (x < y) ⊎ ((x ≡ y) × Before xs ys)
    by (inl p) = inl p
    by (inr p) = let e : x ≡ y = omega (arith, h, p) in inr (e, k e)

last : (x y : ℕ) (xs ys : List ℕ) → x < y → Before (x ∷ xs) (y ∷ ys)
last x y xs ys h = inl h

two_less : (c d : ℕ) (xs ys : List ℕ) → c < d → Before ((192 + c / 64) ∷ (128 + c % 64) ∷ xs) ((192 + d / 64) ∷ (128 + d % 64) ∷ ys)
two_less c d xs ys lt =
    goes_on (192 + c / 64) (192 + d / 64) ((128 + c % 64) ∷ xs) ((128 + d % 64) ∷ ys) (omega (arith, lt)) (λ e.
    last (128 + c % 64) (128 + d % 64) xs ys (omega (arith, lt, e)))

three_less : (c d : ℕ) (xs ys : List ℕ) → c < d → Before ((224 + c / 4096) ∷ (128 + c / 64 % 64) ∷ (128 + c % 64) ∷ xs) ((224 + d / 4096) ∷ (128 + d / 64 % 64) ∷ (128 + d % 64) ∷ ys)
three_less c d xs ys lt =
    goes_on (224 + c / 4096) (224 + d / 4096) ((128 + c / 64 % 64) ∷ (128 + c % 64) ∷ xs) ((128 + d / 64 % 64) ∷ (128 + d % 64) ∷ ys) (omega (arith, lt)) (λ e.
    goes_on (128 + c / 64 % 64) (128 + d / 64 % 64) ((128 + c % 64) ∷ xs) ((128 + d % 64) ∷ ys) (omega (arith, lt, e)) (λ f.
    last (128 + c % 64) (128 + d % 64) xs ys (omega (arith, lt, e, f))))

four_less : (c d : ℕ) (xs ys : List ℕ) → c < d → Before ((240 + c / 262144) ∷ (128 + c / 4096 % 64) ∷ (128 + c / 64 % 64) ∷ (128 + c % 64) ∷ xs) ((240 + d / 262144) ∷ (128 + d / 4096 % 64) ∷ (128 + d / 64 % 64) ∷ (128 + d % 64) ∷ ys)
four_less c d xs ys lt =
    goes_on (240 + c / 262144) (240 + d / 262144) ((128 + c / 4096 % 64) ∷ (128 + c / 64 % 64) ∷ (128 + c % 64) ∷ xs) ((128 + d / 4096 % 64) ∷ (128 + d / 64 % 64) ∷ (128 + d % 64) ∷ ys) (omega (arith, lt)) (λ e.
    goes_on (128 + c / 4096 % 64) (128 + d / 4096 % 64) ((128 + c / 64 % 64) ∷ (128 + c % 64) ∷ xs) ((128 + d / 64 % 64) ∷ (128 + d % 64) ∷ ys) (omega (arith, lt, e)) (λ f.
    goes_on (128 + c / 64 % 64) (128 + d / 64 % 64) ((128 + c % 64) ∷ xs) ((128 + d % 64) ∷ ys) (omega (arith, lt, e, f)) (λ g.
    last (128 + c % 64) (128 + d % 64) xs ys (omega (arith, lt, e, f, g)))))

-- of two characters the bytes of the lower come first, whatever follows
lower : (c d : ℕ) (xs ys : List ℕ) → c < d → Before (encode_utf8 c ++ xs) (encode_utf8 d ++ ys)
lower c d xs ys lt = by (class c) (class d)
  where
    by : One c ⊎ Two c ⊎ Three c ⊎ Four c → One d ⊎ Two d ⊎ Three d ⊎ Four d → Before (encode_utf8 c ++ xs) (encode_utf8 d ++ ys)
    by (inl p) (inl q) = rw (p.1, q.1) (inl lt)
    by (inl p) (inr (inl q)) = rw (p.1, q.2) (inl (omega (arith, p.0)))
    by (inl p) (inr (inr (inl q))) = rw (p.1, q.2) (inl (omega (arith, p.0)))
    by (inl p) (inr (inr (inr q))) = rw (p.1, q.1) (inl (omega (arith, p.0)))
    by (inr (inl p)) (inl q) = absurd (omega (arith, lt, p.0, q.0))
    by (inr (inl p)) (inr (inl q)) = rw (p.2, q.2) (two_less c d xs ys lt)
    by (inr (inl p)) (inr (inr (inl q))) = rw (p.2, q.2) (inl (omega (arith, p.1)))
    by (inr (inl p)) (inr (inr (inr q))) = rw (p.2, q.1) (inl (omega (arith, p.1)))
    by (inr (inr (inl p))) (inl q) = absurd (omega (arith, lt, p.0, q.0))
    by (inr (inr (inl p))) (inr (inl q)) = absurd (omega (arith, lt, p.0, q.1))
    by (inr (inr (inl p))) (inr (inr (inl q))) = rw (p.2, q.2) (three_less c d xs ys lt)
    by (inr (inr (inl p))) (inr (inr (inr q))) = rw (p.2, q.1) (inl (omega (arith, p.1)))
    by (inr (inr (inr p))) (inl q) = absurd (omega (arith, lt, p.0, q.0))
    by (inr (inr (inr p))) (inr (inl q)) = absurd (omega (arith, lt, p.0, q.1))
    by (inr (inr (inr p))) (inr (inr (inl q))) = absurd (omega (arith, lt, p.0, q.1))
    by (inr (inr (inr p))) (inr (inr (inr q))) = rw (p.1, q.1) (four_less c d xs ys lt)

-- some bytes stand in front of every text that has a character
some : (c : ℕ) (xs : List ℕ) → Before [] (encode_utf8 c ++ xs)
some c xs = by (class c)
  where
    by : One c ⊎ Two c ⊎ Three c ⊎ Four c → Before [] (encode_utf8 c ++ xs)
    by (inl p) = rw p.1 tt
    by (inr (inl p)) = rw p.2 tt
    by (inr (inr (inl p))) = rw p.2 tt
    by (inr (inr (inr p))) = rw p.1 tt

behind : (front xs ys : List ℕ) → Before xs ys → Before (front ++ xs) (front ++ ys)
behind [] xs ys h = h
behind (x ∷ front) xs ys h = inr (refl, behind front xs ys h)

pub bytes_before : (cs ds : List ℕ) → Before cs ds → Before (encode_utf8_all cs) (encode_utf8_all ds)
bytes_before [] [] h = absurd h
bytes_before [] (d ∷ ds) h = some d (encode_utf8_all ds)
bytes_before (c ∷ cs) [] h = absurd h
bytes_before (c ∷ cs) (d ∷ ds) (inl p) = lower c d (encode_utf8_all cs) (encode_utf8_all ds) p
bytes_before (c ∷ cs) (d ∷ ds) (inr (e, h)) =
    subst (λ b. Before (encode_utf8 c ++ encode_utf8_all cs) (encode_utf8 b ++ encode_utf8_all ds)) e (behind (encode_utf8 c) _ _ (bytes_before cs ds h))

not_before_itself : (xs : List ℕ) → Before xs xs → ⊥
not_before_itself xs h = let wrong : Equal ≡ Less = sym (tied_itself nat_list_cmp_total xs) ∙ from_before xs xs h in cc

not_both : (xs ys : List ℕ) → Before xs ys → Before ys xs → ⊥
not_both xs ys h k = not_before_itself xs (to_before xs xs (nat_list_cmp_total.trans xs ys xs (from_before xs ys h) (from_before ys xs k)))

pub characters_before : (cs ds : List ℕ) → Before (encode_utf8_all cs) (encode_utf8_all ds) → Before cs ds
characters_before cs ds h = by (slice_cmp nat_cmp cs ds) refl
  where
    by : (o : Ordering) → slice_cmp nat_cmp cs ds ≡ o → Before cs ds
    by Less p = to_before cs ds p
    by Equal p = absurd (not_before_itself (encode_utf8_all cs) (subst (λ es. Before (encode_utf8_all cs) (encode_utf8_all es)) (sym (slice_cmp-IsAntisymmetric nat_cmp-IsAntisymmetric cs ds p)) h))
    by Greater p = absurd (not_both (encode_utf8_all cs) (encode_utf8_all ds) h (bytes_before ds cs (to_before ds cs (nat_list_cmp_total.antisymm ds cs ∙ ap ordering_reverse p))))
