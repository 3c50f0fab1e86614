-- What stands at the front of bytes.
use Rattle.std.proofs.Common.{◌≡◌, ◌≢◌, ℕ, zero, suc, ◌+◌, ◌-◌, ◌<◌, ◌≤◌, Bool, true, false, cond, not, eqb, leb, List, [], ◌∷◌, length, take, drop, get_or, Result, Ok, Err, refl, ap, subst, arith, add-one, length-drop, length-take-le, ⊎_elim, lit<}
use Rattle.std.proofs.lemmas.Bool.{cases_lt, eqb-true, eqb-false, and_parts, lt-leb}
use Rattle.std.proofs.lemmas.Bool.Decides.{nat_tests}
use Rattle.std.proofs.lemmas.List.{get_or-take, get_or_past, length-take}
use Rattle.std.proofs.lemmas.List.Sums.{prefix_len-le-length, prefix_len_passes}
use Rattle.std.proofs.lemmas.Str.{IsUtf8-from_ascii, chars-IsAscii}
use Rattle.std.specs.Char.{is_ascii_digit, is_ascii_hexdigit, digit_value}
use Rattle.std.specs.List.{prefix_len, list_all}
use Rattle.std.specs.Str.{IsAscii, IsUtf8, chars}
use Rattle.std.specs.Str.Parse.{AllDigits, IsNumeral, without_leading_sign}
use Rattle.term_text.specs.declared.fault.Fault.{Fault}
use Rattle.term_text.specs.declared.fault.Fault.TheVariants.{Bad}
use Rattle.term_text.specs.Grammar.{is_name_byte}
use Rattle.term_text.specs.Reading.{◌>>=◌, refused, is_positive_digit, positive_len, natural_len, number_len, hex_digits_at, name_at}

pub prefix_within : (p : ℕ → Bool) (bytes : List ℕ) → prefix_len p bytes ≤ length bytes
prefix_within p bytes = prefix_len-le-length p bytes

pub ascii_is_utf8 : (text : List ℕ) → IsAscii text → IsUtf8 text
ascii_is_utf8 text ascii = IsUtf8-from_ascii text ascii

pub length_chars_ascii : (text : List ℕ) → IsAscii text → length (chars text) ≡ length text
length_chars_ascii text ascii = ap length (chars-IsAscii text ascii)

abbrev pub done : {A : Type 0} → A → Result A Fault
done x = Ok x

pub ok_is : {A : Type 0} (x y : A) → done x ≡ done y → x ≡ y
ok_is x y e = cc

-- all of the front passes the test
pub front_passes : (p : ℕ → Bool) (bytes : List ℕ) → list_all p (take (prefix_len p bytes) bytes) ≡ true
front_passes p [] = refl
front_passes p (b ∷ bytes) = by (p b) refl (front_passes p bytes)
  where
    by : (t : Bool) → p b ≡ t → list_all p (take (prefix_len p bytes) bytes) ≡ true → list_all p (take (cond (p b) (1 + prefix_len p bytes) 0) (b ∷ bytes)) ≡ true
    by true h again = let one : 1 + prefix_len p bytes ≡ suc (prefix_len p bytes) = omega arith in rw (h, one, h) again
    by false h again = rw h refl

ascii_front : (p : ℕ → Bool) → ((b : ℕ) → p b ≡ true → b < 128) → (bytes : List ℕ) → IsAscii (take (prefix_len p bytes) bytes)
ascii_front p low bytes i = ⊎_elim inside past (cases_lt i (prefix_len p bytes))
  where
    inside : i < prefix_len p bytes → get_or (take (prefix_len p bytes) bytes) i 0 < 128
    inside h = rw (get_or-take (prefix_len p bytes) bytes i 0 h) (low _ (prefix_len_passes p bytes i 0 h))

    past : prefix_len p bytes ≤ i → get_or (take (prefix_len p bytes) bytes) i 0 < 128
    past h = rw (get_or_past (take (prefix_len p bytes) bytes) i 0 (omega (arith, length-take-le (prefix_len p bytes) bytes (prefix_within p bytes)))) (lit< tt)

pub name_byte_low : (b : ℕ) → is_name_byte b ≡ true → b < 128
name_byte_low b h = grind (arith, nat_tests)

pub names_are_ascii : (bytes : List ℕ) → IsAscii (take (prefix_len is_name_byte bytes) bytes)
names_are_ascii bytes = ascii_front is_name_byte name_byte_low bytes

digit_low : (b : ℕ) → is_ascii_digit b ≡ true → b < 128
digit_low b h = grind (arith, nat_tests)

hex_low : (b : ℕ) → is_ascii_hexdigit b ≡ true → b < 128
hex_low b h = grind (arith, nat_tests)

digit_value_low : (b : ℕ) → is_ascii_digit b ≡ true → digit_value b < 10
digit_value_low b h = grind (arith, nat_tests)

hex_value_low : (b : ℕ) → is_ascii_hexdigit b ≡ true → digit_value b < 16
hex_value_low b h = grind (arith, nat_tests)

-- digits of a base, by a test that passes them
all_digits : (base : ℕ) (p : ℕ → Bool) → ((b : ℕ) → p b ≡ true → digit_value b < base) → (text : List ℕ) → list_all p text ≡ true → AllDigits base text
all_digits base p low [] all = tt
all_digits base p low (b ∷ text) all = let parts = and_parts (p b) (list_all p text) all in (low b parts.0, all_digits base p low text parts.1)

pub digits_front : (bytes : List ℕ) → AllDigits 10 (take (prefix_len is_ascii_digit bytes) bytes)
digits_front bytes = all_digits 10 is_ascii_digit digit_value_low _ (front_passes is_ascii_digit bytes)

-- ---- a number from 1 on

-- a text of digits
pub record Numeral (text : List ℕ) : Type 0 where
  pub ascii : IsAscii text
  pub numeral : IsNumeral 10 text

positive_front : (b : ℕ) (rest : List ℕ) → is_positive_digit b ≡ true → Numeral (take (prefix_len is_ascii_digit (b ∷ rest)) (b ∷ rest))
positive_front b rest pos =
    let digit = and_parts (is_ascii_digit b) (not (eqb b 48)) pos in
    record {
      ascii = ascii_front is_ascii_digit digit_low (b ∷ rest);
      numeral = (some digit.0, digits_front (b ∷ rest));
    }
  where
    some : is_ascii_digit b ≡ true → 0 < length (take (prefix_len is_ascii_digit (b ∷ rest)) (b ∷ rest))
    some h = let one : 1 + prefix_len is_ascii_digit rest ≡ suc (prefix_len is_ascii_digit rest) = omega arith in rw (h, one) (omega arith)

pub positive_found : (bytes : List ℕ) (n : ℕ) → positive_len bytes ≡ Ok n → Numeral (take n bytes)
unfolding positive_len
positive_found [] n e = absurd cc
positive_found (b ∷ rest) n e = by (is_positive_digit b) refl e
  where
    by : (t : Bool) → is_positive_digit b ≡ t → cond t (Ok (prefix_len is_ascii_digit (b ∷ rest))) (refused (b ∷ rest)) ≡ Ok n → Numeral (take n (b ∷ rest))
    by true pos e = let same : prefix_len is_ascii_digit (b ∷ rest) ≡ n = cc in subst (λ (k : ℕ). Numeral (take k (b ∷ rest))) same (positive_front b rest pos)
    by false pos e = absurd cc

nought : Numeral (48 ∷ [])
nought = record { ascii = low; numeral = (lit< tt, (lit< tt, tt)) }
  where
    low : IsAscii (48 ∷ [])
    low zero = lit< tt
    low (suc i) = lit< tt

natural_found : (bytes : List ℕ) (n : ℕ) → natural_len bytes ≡ Ok n → Numeral (take n bytes)
unfolding natural_len
natural_found [] n e = positive_found [] n e
natural_found (b ∷ rest) n e = by (eqb b 48) refl e
  where
    by : (t : Bool) → eqb b 48 ≡ t → cond t (Ok 1) (positive_len (b ∷ rest)) ≡ Ok n → Numeral (take n (b ∷ rest))
    by true is e = let same : 1 ≡ n = cc in subst (λ (k : ℕ). Numeral (take k (b ∷ rest))) same (rw (eqb-true b 48 is) nought)
    by false is e = positive_found (b ∷ rest) n e

pub natural_ascii : (bytes : List ℕ) (n : ℕ) → natural_len bytes ≡ Ok n → IsAscii (take n bytes)
natural_ascii bytes n e = (natural_found bytes n e).ascii

pub natural_numeral : (bytes : List ℕ) (n : ℕ) → natural_len bytes ≡ Ok n → IsNumeral 10 (take n bytes)
natural_numeral bytes n e = (natural_found bytes n e).numeral

-- ---- any number

pub record Signed (text : List ℕ) : Type 0 where
  pub ascii : IsAscii text
  pub numeral : IsNumeral 10 (without_leading_sign text)

digit_is_no_sign : (b : ℕ) → digit_value b < 10 → (eqb b 45 ≡ false) × (eqb b 43 ≡ false)
digit_is_no_sign b h = (minus, plus)
  where
    minus : eqb b 45 ≡ false
    minus = grind (arith, nat_tests)

    plus : eqb b 43 ≡ false
    plus = grind (arith, nat_tests)

-- digits have no sign in front
pub unsigned : (text : List ℕ) → IsNumeral 10 text → without_leading_sign text ≡ text
unsigned [] is = refl
unsigned (b ∷ text) is = let no_sign = digit_is_no_sign b is.1.0 in rw (no_sign.0, no_sign.1) refl

minus_ascii : (text : List ℕ) → IsAscii text → IsAscii (45 ∷ text)
minus_ascii text ascii zero = lit< tt
minus_ascii text ascii (suc i) = ascii i

with_minus : (rest : List ℕ) (n : ℕ) → Numeral (take n rest) → Signed (take (n + 1) (45 ∷ rest))
with_minus rest n digits = rw add-one (record { ascii = minus_ascii (take n rest) digits.ascii; numeral = digits.numeral })

without_minus : (text : List ℕ) → Numeral text → Signed text
without_minus text digits = record { ascii = digits.ascii; numeral = rw (unsigned text digits.numeral) digits.numeral }

signed_found : (bytes : List ℕ) (n : ℕ) → number_len bytes ≡ Ok n → Signed (take n bytes)
unfolding number_len
signed_found [] n e = without_minus (take n []) (natural_found [] n e)
signed_found (b ∷ rest) n e = by (eqb b 45) refl e
  where
    minus : (r : Result ℕ Fault) → positive_len rest ≡ r → (r >>= λ m. Ok (m + 1)) ≡ Ok n → Signed (take n (45 ∷ rest))
    minus (Ok m) found e = let same : m + 1 ≡ n = cc in subst (λ (k : ℕ). Signed (take k (45 ∷ rest))) same (with_minus rest m (positive_found rest m found))
    minus (Err f) found e = absurd cc

    by : (t : Bool) → eqb b 45 ≡ t → cond t (positive_len rest >>= λ m. Ok (m + 1)) (natural_len (b ∷ rest)) ≡ Ok n → Signed (take n (b ∷ rest))
    by true is e = rw (eqb-true b 45 is) (minus (positive_len rest) refl e)
    by false is e = without_minus (take n (b ∷ rest)) (natural_found (b ∷ rest) n e)

pub number_ascii : (bytes : List ℕ) (n : ℕ) → number_len bytes ≡ Ok n → IsAscii (take n bytes)
number_ascii bytes n e = (signed_found bytes n e).ascii

pub number_numeral : (bytes : List ℕ) (n : ℕ) → number_len bytes ≡ Ok n → IsNumeral 10 (without_leading_sign (take n bytes))
number_numeral bytes n e = (signed_found bytes n e).numeral

-- ---- hexadecimal digits

-- a front of a front
take_front : (p : ℕ → Bool) (m : ℕ) (bytes : List ℕ) → take (prefix_len p (take m bytes)) (take m bytes) ≡ take (prefix_len p (take m bytes)) bytes
take_front p zero bytes = refl
take_front p (suc m) [] = refl
take_front p (suc m) (b ∷ bytes) = by (p b) refl (take_front p m bytes)
  where
    by : (t : Bool) → p b ≡ t → take (prefix_len p (take m bytes)) (take m bytes) ≡ take (prefix_len p (take m bytes)) bytes
        → take (cond (p b) (1 + prefix_len p (take m bytes)) 0) (b ∷ take m bytes) ≡ take (cond (p b) (1 + prefix_len p (take m bytes)) 0) (b ∷ bytes)
    by true h again = let one : 1 + prefix_len p (take m bytes) ≡ suc (prefix_len p (take m bytes)) = omega arith in rw (h, one) (ap (λ (t : List ℕ). b ∷ t) again)
    by false h again = rw h refl

pub record HexDigits (bytes : List ℕ) (x : List ℕ × List ℕ) : Type 0 where
  pub ascii : IsAscii x.0
  pub numeral : IsNumeral 16 x.0

hex_found : (bytes : List ℕ) (x : List ℕ × List ℕ) → hex_digits_at bytes ≡ Ok x → HexDigits bytes x
unfolding hex_digits_at
hex_found bytes x e = by (eqb n 0) refl e
  where
    n : ℕ
    n = prefix_len is_ascii_hexdigit (take 6 bytes)

    front : take n (take 6 bytes) ≡ take n bytes
    front = take_front is_ascii_hexdigit 6 bytes

    made : 0 < n → HexDigits bytes (take n bytes, drop n bytes)
    made some = record {
      ascii = subst IsAscii front (ascii_front is_ascii_hexdigit hex_low (take 6 bytes));
      numeral = (
        omega (arith, ap length front, length-take n (take 6 bytes), prefix_within is_ascii_hexdigit (take 6 bytes)),
        subst (AllDigits 16) front (all_digits 16 is_ascii_hexdigit hex_value_low _ (front_passes is_ascii_hexdigit (take 6 bytes))),
      );
    }

    by : (t : Bool) → eqb n 0 ≡ t → cond {A = Result (List ℕ × List ℕ) Fault} t (refused bytes) (Ok (take n bytes, drop n bytes)) ≡ Ok x → HexDigits bytes x
    by true none e = absurd cc
    by false some e = let same : (take n bytes, drop n bytes) ≡ x = ok_is (take n bytes, drop n bytes) x e in subst (HexDigits bytes) same (made (let h : n ≢ 0 = eqb-false _ _ some in omega arith))

pub hex_ascii : (bytes : List ℕ) (x : List ℕ × List ℕ) → hex_digits_at bytes ≡ Ok x → IsAscii x.0
hex_ascii bytes x e = (hex_found bytes x e).ascii

pub hex_numeral : (bytes : List ℕ) (x : List ℕ × List ℕ) → hex_digits_at bytes ≡ Ok x → IsNumeral 16 x.0
hex_numeral bytes x e = (hex_found bytes x e).numeral

-- ---- names

pub name_long : (bytes : List ℕ) → 255 < prefix_len is_name_byte bytes → name_at bytes ≡ Err (Bad (length bytes - 255))
unfolding name_at
name_long bytes h =
    let over : leb (prefix_len is_name_byte bytes) 255 ≡ false = lt-leb _ _ h in
    let left : length (drop 255 bytes) ≡ length bytes - 255 = length-drop 255 bytes in
    rw over (ap (λ (n : ℕ). Err (Bad n)) left)
