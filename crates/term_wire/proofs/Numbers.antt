-- Numbers as bytes, the lowest first.
use Rattle.std.proofs.Common.{◌≡◌, ℕ, zero, suc, ◌+◌, ◌*◌, ◌^◌, ◌<◌, ◌≤◌, true, false, ℤ, pos, negsuc, List, [], ◌∷◌, ◌++◌, length, take, drop, refl, sym, ap, ◌∙◌, arith}
use Rattle.std.specs.Prelude.{FitsSigned, unsigned_abs}
use Rattle.std.specs.Int.{w32, w128, to_le_bytes, to_be_bytes, cast_unsigned}
use Rattle.std.proofs.lemmas.List.{take-append-drop}
use Rattle.std.proofs.lemmas.Bool.{ltb-true}
use Rattle.std.proofs.Math.Nat.{pow-suc, mul_assoc, mul_comm}
use Rattle.byteorder.specs.Endian.{little_number}
use Rattle.byteorder.specs.Numbers.{little_from-cons}
use Rattle.term_core.specs.Written.{fits_byte, fits_word, trimmed, trim_front, digits_of, sign_of, number_written}
use Rattle.term_wire.specs.Spelling.{low_first}

-- all of the bytes, as the library reads them
pub little_all : (xs : List ℕ) → little_number (length xs) xs ≡ low_first xs
little_all [] = refl
little_all (x ∷ xs) = omega (arith, little_from-cons 0 (length xs) x xs, little_all xs)

low_first-append : (xs ys : List ℕ) → low_first (xs ++ ys) ≡ low_first xs + 256 ^ length xs * low_first ys
low_first-append [] ys = omega arith
low_first-append (x ∷ xs) ys =
    let rest = low_first-append xs ys in
    let moved : 256 ^ suc (length xs) * low_first ys ≡ 256 * (256 ^ length xs * low_first ys) = ap (λ (n : ℕ). n * low_first ys) (pow-suc 256 (length xs) ∙ mul_comm (256 ^ length xs) 256) ∙ mul_assoc 256 (256 ^ length xs) (low_first ys) in
    omega (arith, rest, moved)

parts : (n : ℕ) (xs : List ℕ) → low_first xs ≡ low_first (take n xs) + 256 ^ length (take n xs) * low_first (drop n xs)
parts n xs = ap low_first (sym (take-append-drop n xs)) ∙ low_first-append (take n xs) (drop n xs)

-- noughts behind a number change nothing
pub low_part : (n : ℕ) (xs : List ℕ) → low_first (drop n xs) ≡ 0 → low_first (take n xs) ≡ low_first xs
low_part n xs e = sym (parts n xs ∙ rw e (omega arith))

times : (a b : ℕ) → 0 < b → a ≤ a * b
times a zero lt = absurd (omega arith)
times a (suc b) lt = omega arith

-- and no others fit
pub high_part : (n : ℕ) (xs : List ℕ) → ¬ (low_first (drop n xs) ≡ 0) → 256 ^ length (take n xs) ≤ low_first xs
high_part n xs other =
    let some : 0 < low_first (drop n xs) = omega (arith, other) in
    omega (arith, parts n xs, times (256 ^ length (take n xs)) (low_first (drop n xs)) some)

-- ---- without the noughts at the end

length-trim_front : (x : ℕ) (xs : List ℕ) → length (trim_front x xs) ≤ suc (length xs)
length-trim_front zero [] = omega arith
length-trim_front (suc x) [] = omega arith
length-trim_front zero (y ∷ ys) = omega arith
length-trim_front (suc x) (y ∷ ys) = omega arith

pub length-trimmed : (xs : List ℕ) → length (trimmed xs) ≤ length xs
length-trimmed [] = omega arith
length-trimmed (x ∷ xs) = omega (arith, length-trim_front x (trimmed xs), length-trimmed xs)

pub length-digits_of : (n : ℤ) → length (digits_of n) ≤ 16
length-digits_of n = length-trimmed (to_le_bytes w128 (unsigned_abs n))

-- sixteen bytes at most
pub digits_short : (m : ℕ) (bytes digits : List ℕ) → bytes ≡ to_le_bytes w128 m → digits ≡ trimmed bytes → length digits ≤ 16
digits_short m bytes digits p q =
    let short = length-trimmed (to_le_bytes w128 m) in
    let same : digits ≡ trimmed (to_le_bytes w128 m) = q ∙ ap trimmed p in
    omega (arith, ap length same, short)

-- ---- the three forms of a number

pub number_in_byte : (n : ℤ) → fits_byte n ≡ true → unsigned_abs n < 256
number_in_byte (pos n) h = ltb-true n 256 h
number_in_byte (negsuc n) h = absurd cc

pub number_in_word : (n : ℤ) → fits_word n ≡ true → FitsSigned w32 n
number_in_word (pos n) h = record { sfits = omega (arith, ltb-true n 2147483648 h) }
number_in_word (negsuc n) h = record { sfits = omega (arith, ltb-true n 2147483648 h) }

pub wide_written : (n : ℤ) (digits : List ℕ) → fits_byte n ≡ false → fits_word n ≡ false → digits ≡ digits_of n → number_written n ≡ 110 ∷ length digits ∷ sign_of n ∷ digits
wide_written n digits byte word e = rw (byte, word, e) refl

pub word_written : (n : ℤ) → fits_byte n ≡ false → fits_word n ≡ true → number_written n ≡ 98 ∷ to_be_bytes w32 (cast_unsigned w32 n)
word_written n byte word = rw (byte, word) refl
