-- The lengths of written texts.
use Rattle.std.proofs.Common.{◌≡◌, sym, ap, ◌∙◌, ℕ, zero, suc, ◌+◌, ◌<◌, List, [], ◌∷◌, ◌++◌, length, drop, get_or, refl, arith, add-one, Option, Some, None, MatchOption}
use Rattle.std.proofs.lemmas.List.{length-append}
use Rattle.std.specs.Prelude.{Bool, ◌&&◌, true, false, ℤ, nat_le, if◌then◌else◌}
use Rattle.std.specs.Int.{w16, w32, to_be_bytes}
use Rattle.term_core.specs.declared.term.Term.{Term}
use Rattle.term_core.specs.Tree.{tuple, list, count}
use Rattle.term_core.specs.View.{tree_of, forest_of}
use Rattle.term_core.specs.Written.{written, all_written, is_byte_list, all_bytes, bytes_of, tuple_front, fits_byte, fits_word, digits_of, number_written}
use Rattle.term_core.proofs.Forests.{count_forest_of}

first_is : (ts : List Term) (i : ℕ) (t : Term) → i < length ts → t ≡ get_or ts i t → drop i ts ≡ t ∷ drop (suc i) ts
first_is [] i t lt p = absurd (omega arith)
first_is (u ∷ us) zero t lt p = ap (λ (v : Term). v ∷ us) (sym p)
first_is (u ∷ us) (suc i) t lt p = first_is us i t (omega arith) p

-- the first of what is left, and the rest
pub all_written-drop : (ts : List Term) (i : ℕ) (t : Term) → i < length ts → t ≡ get_or ts i t → all_written (forest_of (drop i ts)) ≡ written (tree_of t) ++ all_written (forest_of (drop (i + 1) ts))
all_written-drop ts i t lt p = ap (λ (us : List Term). all_written (forest_of us)) (first_is ts i t lt p) ∙ rw add-one refl

pub is_byte_list-forest_of : (ts : List Term) → is_byte_list (forest_of ts) ≡ nat_le (length ts) 65535 && all_bytes (forest_of ts)
is_byte_list-forest_of ts = ap (λ (n : ℕ). nat_le n 65535 && all_bytes (forest_of ts)) (count_forest_of ts)

length-bytes_of : (ts : List Term) → length (bytes_of (forest_of ts)) ≡ length ts
length-bytes_of [] = refl
length-bytes_of (t ∷ ts) = omega (arith, length-bytes_of ts)

pub length-tuple : (ts : List Term) → length (written (tuple (forest_of ts))) ≡ (if nat_le (length ts) 255 then 2 else 5) + length (all_written (forest_of ts))
length-tuple ts = length-append (tuple_front (count (forest_of ts))) (all_written (forest_of ts)) ∙ ap (λ (n : ℕ). n + length (all_written (forest_of ts))) (front (nat_le (count (forest_of ts)) 255) ∙ ap (λ (n : ℕ). if nat_le n 255 then 2 else 5) (count_forest_of ts))
  where
    front : (b : Bool) → length (if b then 104 ∷ count (forest_of ts) ∷ [] else 105 ∷ to_be_bytes w32 (count (forest_of ts))) ≡ (if b then 2 else 5)
    front true = refl
    front false = refl

-- a byte each
pub length-numbers : (ts : List Term) → 0 < length ts → is_byte_list (forest_of ts) ≡ true → length (written (list (forest_of ts))) ≡ 3 + length ts
length-numbers [] lt p = absurd (omega arith)
length-numbers (t ∷ ts) lt p =
    rw p (omega (arith, length-append (to_be_bytes w16 (count (forest_of ts) + 1)) (bytes_of (forest_of (t ∷ ts))), length-bytes_of (t ∷ ts)))

pub length-list : (ts : List Term) → 0 < length ts → is_byte_list (forest_of ts) ≡ false → length (written (list (forest_of ts))) ≡ 6 + length (all_written (forest_of ts))
length-list [] lt p = absurd (omega arith)
length-list (t ∷ ts) lt p =
    rw p (omega (arith, length-append (to_be_bytes w32 (count (forest_of ts) + 1) ++ all_written (forest_of (t ∷ ts))) (106 ∷ []), length-append (to_be_bytes w32 (count (forest_of ts) + 1)) (all_written (forest_of (t ∷ ts)))))

pub length-number : (n : ℤ) → fits_byte n ≡ false → fits_word n ≡ false → length (number_written n) ≡ 3 + length (digits_of n)
length-number n p q = rw (p, q) (omega arith)

-- the room behind what stands in front, and behind the rest
pub after_front : (room left k n : ℕ) (r : Option ℕ) → left + k ≡ room → MatchOption r (left < n) (λ m. m + n ≡ left) → MatchOption r (room < k + n) (λ m. m + (k + n) ≡ room)
after_front room left k n None p h = omega (arith, h)
after_front room left k n (Some m) p h = omega (arith, h)
