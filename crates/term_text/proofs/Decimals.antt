-- Decimals, and the numbers that they are read as.
use Rattle.std.proofs.Common.{◌≡◌, ◌≢◌, ℕ, zero, suc, ◌+◌, ◌*◌, ◌/◌, ◌%◌, ◌^◌, ◌<◌, ◌≤◌, Bool, true, false, cond, not, eqb, ltb, List, [], ◌∷◌, ◌++◌, length, take, drop, get_or, decimal, Result, Ok, Err, refl, sym, ap, subst, ◌∙◌, arith, append_assoc, append-nil, add-one}
use Rattle.std.specs.Prelude.{ℤ, pos, negsuc, neg_ℤ, FitsSigned}
use Rattle.std.specs.Int.{w128}
use Rattle.std.specs.Char.{is_ascii_digit, digit_value}
use Rattle.std.specs.Fmt.{signed_decimal}
use Rattle.std.specs.List.{prefix_len, list_all}
use Rattle.std.specs.Str.Parse.{AllDigits, IsNumeral, digits_value, digits_value_after, signed_digits_value}
use Rattle.std.proofs.lemmas.Bool.{and_parts, eqb-true, ltb-true, ltb-false, lt-ltb, le-ltb, and_from, ne_eqb}
use Rattle.std.proofs.lemmas.Bool.Decides.{nat_tests}
use Rattle.std.proofs.lemmas.Fmt.{decimal_digit, decimal_step_wide, decimal_by_steps_wide, decimal_is_IsNumeral_wide}
use Rattle.std.proofs.lemmas.List.{take-append-drop, take_at, drop_at}
use Rattle.std.proofs.lemmas.Str.{digit_value_digit}
use Rattle.std.proofs.lemmas.Str.Parse.{digit_from_value}
use Rattle.term_core.specs.Tree.{Tree, int}
use Rattle.term_text.specs.declared.fault.Fault.{Fault}
use Rattle.term_text.specs.declared.fault.Fault.TheVariants.{Bad, WideInt}
use Rattle.term_text.specs.Grammar.{begins}
use Rattle.term_text.specs.Reading.{◌>>=◌, refused, is_positive_digit, positive_len, natural_len, number_len, fits, number_at, small_at}
use Rattle.term_text.proofs.Fronts.{natural_numeral, digits_front}
use Rattle.term_text.proofs.Steps.{bind_ok, guard_held, front_stops, prefix_whole}

-- ---- digits without a zero in front are the decimal of their value

pub value_grows : (n : ℕ) (digits : List ℕ) → n ≤ digits_value_after 10 n digits
value_grows n [] = omega arith
value_grows n (c ∷ digits) = omega (arith, value_grows (n * 10 + digit_value c) digits)

pub value_append : (n : ℕ) (digits others : List ℕ) → digits_value_after 10 n (digits ++ others) ≡ digits_value_after 10 (digits_value_after 10 n digits) others
value_append n [] others = refl
value_append n (c ∷ digits) others = value_append (n * 10 + digit_value c) digits others

-- a number that goes on does not become less
value_longer : (digits others : List ℕ) → digits_value 10 digits ≤ digits_value 10 (digits ++ others)
value_longer digits others = omega (arith, value_append 0 digits others, value_grows (digits_value 10 digits) others)

shifted : (m d : ℕ) → d < 10 → ((m * 10 + d) / 10 ≡ m) × ((m * 10 + d) % 10 ≡ d)
shifted m d h = (omega arith, omega arith)

extended : (m : ℕ) (digits : List ℕ) → 0 < m → AllDigits 10 digits → digits_value_after 10 m digits < 10 ^ 64 → decimal (digits_value_after 10 m digits) ≡ decimal m ++ digits
extended m [] above all small = sym (append-nil (decimal m))
extended m (c ∷ digits) above all small =
    let next : ℕ = m * 10 + digit_value c in
    let grows : next ≤ digits_value_after 10 next digits = value_grows next digits in
    let digit : digit_value c + 48 ≡ c = digit_value_digit c (digit_from_value c all.0) in
    let parts = shifted m (digit_value c) all.0 in
    let step : decimal next ≡ decimal (next / 10) ++ (48 + next % 10) ∷ [] = decimal_step_wide next (omega arith) (omega arith) in
    let last : 48 + next % 10 ≡ c = omega (arith, parts.1, digit) in
    let text : decimal next ≡ decimal m ++ c ∷ [] = step ∙ ap (λ (n : ℕ). decimal n ++ (48 + next % 10) ∷ []) parts.0 ∙ ap (λ (n : ℕ). decimal m ++ n ∷ []) last in
    extended next digits (omega arith) all.1 small ∙ ap (λ (s : List ℕ). s ++ digits) text ∙ append_assoc (decimal m) (c ∷ []) digits

positive_counts : (c : ℕ) → is_positive_digit c ≡ true → (digit_value c + 48 ≡ c) × (0 < digit_value c) × (digit_value c < 10)
positive_counts c h = (grind (arith, nat_tests), grind (arith, nat_tests), grind (arith, nat_tests))

decimal_of : (c : ℕ) (digits : List ℕ) → is_positive_digit c ≡ true → AllDigits 10 digits → digits_value 10 (c ∷ digits) < 10 ^ 64 → decimal (digits_value 10 (c ∷ digits)) ≡ c ∷ digits
decimal_of c digits first all small =
    let counts = positive_counts c first in
    let m : ℕ = 0 * 10 + digit_value c in
    let one : decimal m ≡ c ∷ [] = decimal_digit m (omega (arith, counts.2)) ∙ ap (λ (n : ℕ). n ∷ []) (omega (arith, counts.0)) in
    extended m digits (omega (arith, counts.1)) all small ∙ ap (λ (s : List ℕ). s ++ digits) one

-- ---- what is read as a number is its decimal

-- the number of the first n bytes
pub record IsNatural (bytes : List ℕ) (n : ℕ) : Type 0 where
  pub text : digits_value 10 (take n bytes) < 10 ^ 64 → decimal (digits_value 10 (take n bytes)) ≡ take n bytes
  pub stops : digits_value 10 (take n bytes) ≢ 0 → begins is_ascii_digit (drop n bytes) ≡ false

-- and it is above 0
pub record IsPositive (bytes : List ℕ) (n : ℕ) : Type 0 where
  pub natural : IsNatural bytes n
  pub above : 0 < digits_value 10 (take n bytes)

positive_is : (b : ℕ) (rest : List ℕ) → is_positive_digit b ≡ true → IsPositive (b ∷ rest) (prefix_len is_ascii_digit (b ∷ rest))
positive_is b rest first = record {
  natural = record { text = let P : List ℕ → Type 0 = λ t. digits_value 10 t < 10 ^ 64 → decimal (digits_value 10 t) ≡ t in subst P (sym same) (decimal_of b (take k rest) first (digits_front rest)); stops = λ other. front_stops is_ascii_digit (b ∷ rest) };
  above = let P : List ℕ → Type 0 = λ t. 0 < digits_value 10 t in subst P (sym same) (let counts = positive_counts b first in omega (arith, counts.1, value_grows (0 * 10 + digit_value b) (take k rest)));
}
  where
    k : ℕ
    k = prefix_len is_ascii_digit rest

    same : take (prefix_len is_ascii_digit (b ∷ rest)) (b ∷ rest) ≡ b ∷ take k rest
    same = let digit = and_parts (is_ascii_digit b) (not (eqb b 48)) first in let one : 1 + k ≡ suc k = omega arith in rw (digit.0, one) refl

pub positive_read : (bytes : List ℕ) (n : ℕ) → positive_len bytes ≡ Ok n → IsPositive bytes n
unfolding positive_len
positive_read [] n e = absurd cc
positive_read (b ∷ rest) n e = by (is_positive_digit b) refl e
  where
    by : (t : Bool) → is_positive_digit b ≡ t → cond t (Ok (prefix_len is_ascii_digit (b ∷ rest))) (refused (b ∷ rest)) ≡ Ok n → IsPositive (b ∷ rest) n
    by true first e = let same : prefix_len is_ascii_digit (b ∷ rest) ≡ n = cc in subst (IsPositive (b ∷ rest)) same (positive_is b rest first)
    by false first e = absurd cc

nought_is : (rest : List ℕ) → IsNatural (48 ∷ rest) 1
nought_is rest = record { text = λ small. decimal_digit 0 (omega arith); stops = λ other. absurd (other refl) }

pub natural_read : (bytes : List ℕ) (n : ℕ) → natural_len bytes ≡ Ok n → IsNatural bytes n
unfolding natural_len
natural_read [] n e = (positive_read [] n e).natural
natural_read (b ∷ rest) n e = by (eqb b 48) refl e
  where
    by : (t : Bool) → eqb b 48 ≡ t → cond t (Ok 1) (positive_len (b ∷ rest)) ≡ Ok n → IsNatural (b ∷ rest) n
    by true is e = let same : 1 ≡ n = cc in subst (IsNatural (b ∷ rest)) same (rw (eqb-true b 48 is) (nought_is rest))
    by false is e = (positive_read (b ∷ rest) n e).natural

-- ---- numbers of 128 bits

fits_is : (z : ℤ) → fits z ≡ true → FitsSigned w128 z
fits_is (pos n) h = let low : n < 2 ^ 127 = ltb-true _ _ h in record { sfits = omega arith }
fits_is (negsuc n) h = let low : n < 2 ^ 127 = ltb-true _ _ h in record { sfits = omega arith }

is_fits : (z : ℤ) → FitsSigned w128 z → fits z ≡ true
is_fits (pos n) h = lt-ltb _ _ (omega (arith, h.sfits))
is_fits (negsuc n) h = lt-ltb _ _ (omega (arith, h.sfits))

above_wide : (n m : ℕ) → n ≤ m → fits (pos n) ≡ false → fits (pos m) ≡ false
above_wide n m h wide = le-ltb m (2 ^ 127) (omega (arith, h, ltb-false n (2 ^ 127) wide))

below_wide : (n m : ℕ) → n ≤ m → fits (neg_ℤ (pos n)) ≡ false → fits (neg_ℤ (pos m)) ≡ false
below_wide zero m h wide = absurd cc
below_wide (suc n) zero h wide = absurd (omega (arith, h))
below_wide (suc n) (suc m) h wide = le-ltb m (2 ^ 127) (omega (arith, h, ltb-false n (2 ^ 127) wide))

-- a number that does not fit does not where it goes on
pub stays_wide : (text others : List ℕ) → fits (signed_digits_value 10 text) ≡ false → fits (signed_digits_value 10 (text ++ others)) ≡ false
stays_wide [] others wide = absurd cc
stays_wide (b ∷ text) others wide = by (eqb b 45) (eqb b 43) wide
  where
    signed : Bool → Bool → List ℕ → Bool
    signed t u rest = fits (cond t (neg_ℤ (pos (digits_value 10 (cond t rest (drop (cond u 1 0) (b ∷ rest)))))) (pos (digits_value 10 (cond t rest (drop (cond u 1 0) (b ∷ rest))))))

    by : (t u : Bool) → signed t u text ≡ false → signed t u (text ++ others) ≡ false
    by true u wide = below_wide (digits_value 10 text) (digits_value 10 (text ++ others)) (value_longer text others) wide
    by false true wide = above_wide (digits_value 10 text) (digits_value 10 (text ++ others)) (value_longer text others) wide
    by false false wide = above_wide (digits_value 10 (b ∷ text)) (digits_value 10 (b ∷ (text ++ others))) (value_longer (b ∷ text) others) wide

-- a text of digits has no sign
digit_no_minus : (c : ℕ) → digit_value c < 10 → eqb c 45 ≡ false
digit_no_minus c h = grind (arith, nat_tests)

pub unsigned_value : (text : List ℕ) → IsNumeral 10 text → signed_digits_value 10 text ≡ pos (digits_value 10 text)
unsigned_value [] is = absurd (omega (arith, is.0))
unsigned_value (c ∷ text) is = rw (digit_no_minus c is.1.0) (ap (λ (t : List ℕ). pos (digits_value 10 t)) (by c text is))
  where
    by : (c : ℕ) (text : List ℕ) → IsNumeral 10 (c ∷ text) → drop (cond (eqb c 43) 1 0) (c ∷ text) ≡ c ∷ text
    by c text is = let none : eqb c 43 ≡ false = plus c is.1.0 in rw none refl
      where
        plus : (c : ℕ) → digit_value c < 10 → eqb c 43 ≡ false
        plus c h = grind (arith, nat_tests)

minus_text : (n : ℕ) (text : List ℕ) → 0 < n → (n < 10 ^ 64 → decimal n ≡ text) → fits (neg_ℤ (pos n)) ≡ true → signed_decimal (neg_ℤ (pos n)) ≡ 45 ∷ text
minus_text zero text above is h = absurd (omega arith)
minus_text (suc n) text above is h = let low : n < 2 ^ 127 = ltb-true _ _ h in ap (λ (t : List ℕ). 45 ∷ t) (is (omega arith))

-- what is read as a number
pub record NumberRead (bytes : List ℕ) (x : Tree × List ℕ) : Type 0 where
  pub n : ℤ
  pub is : int n ≡ x.0
  pub range : FitsSigned w128 n
  pub parts : bytes ≡ signed_decimal n ++ x.1
  pub stops : n ≢ pos 0 → begins is_ascii_digit x.1 ≡ false

-- a text of so many bytes, and its number
record NumberIs (bytes : List ℕ) (n : ℕ) : Type 0 where
  text : fits (signed_digits_value 10 (take n bytes)) ≡ true → signed_decimal (signed_digits_value 10 (take n bytes)) ≡ take n bytes
  stops : signed_digits_value 10 (take n bytes) ≢ pos 0 → begins is_ascii_digit (drop n bytes) ≡ false

natural_number : (bytes : List ℕ) (n : ℕ) → natural_len bytes ≡ Ok n → NumberIs bytes n
natural_number bytes n e =
    let value = unsigned_value (take n bytes) (natural_numeral bytes n e) in
    let is = natural_read bytes n e in
    record {
      text = λ h. let low : digits_value 10 (take n bytes) < 2 ^ 127 = ltb-true _ _ (sym (ap fits value) ∙ h) in ap signed_decimal value ∙ is.text (omega arith);
      stops = λ other. is.stops (λ zero. other (value ∙ ap pos zero));
    }

minus_number : (rest : List ℕ) (m : ℕ) → positive_len rest ≡ Ok m → NumberIs (45 ∷ rest) (m + 1)
minus_number rest m e =
    let is = positive_read rest m e in
    rw add-one (record {
      text = minus_text (digits_value 10 (take m rest)) (take m rest) is.above is.natural.text;
      stops = λ other. is.natural.stops (λ zero. absurd (omega (arith, is.above, zero)));
    })

number_is : (bytes : List ℕ) (n : ℕ) → number_len bytes ≡ Ok n → NumberIs bytes n
unfolding number_len
number_is [] n e = natural_number [] n e
number_is (b ∷ rest) n e = by (eqb b 45) refl e
  where
    minus : (r : Result ℕ Fault) → positive_len rest ≡ r → (r >>= λ m. Ok (m + 1)) ≡ Ok n → NumberIs (45 ∷ rest) n
    minus (Ok m) found e = let same : m + 1 ≡ n = cc in subst (NumberIs (45 ∷ rest)) same (minus_number rest m found)
    minus (Err f) found e = absurd cc

    by : (t : Bool) → eqb b 45 ≡ t → cond t (positive_len rest >>= λ m. Ok (m + 1)) (natural_len (b ∷ rest)) ≡ Ok n → NumberIs (b ∷ rest) n
    by true is e = rw (eqb-true b 45 is) (minus (positive_len rest) refl e)
    by false is e = natural_number (b ∷ rest) n e

pub number_read : (bytes : List ℕ) (x : Tree × List ℕ) → number_at bytes ≡ Ok x → NumberRead bytes x
unfolding number_at
number_read bytes x e =
    let a = bind_ok (number_len bytes) (λ n. cond (fits (signed_digits_value 10 (take n bytes))) (Ok (int (signed_digits_value 10 (take n bytes)), drop n bytes)) (Err (WideInt (length bytes)))) x e in
    let n : ℕ = a.0 in
    let z : ℤ = signed_digits_value 10 (take n bytes) in
    let g = guard_held (fits z) (WideInt (length bytes)) (int z, drop n bytes) x a.2 in
    let is = number_is bytes n a.1 in
    subst (NumberRead bytes) g.1 (record {
      n = z;
      is = refl;
      range = fits_is z g.0;
      parts = sym (take-append-drop n bytes) ∙ ap (λ (t : List ℕ). t ++ drop n bytes) (sym (is.text g.0));
      stops = is.stops;
    })

-- what is read as a byte
pub record SmallRead (bytes : List ℕ) (x : ℕ × List ℕ) : Type 0 where
  pub range : x.0 < 256
  pub parts : bytes ≡ decimal x.0 ++ x.1

pub small_read : (bytes : List ℕ) (x : ℕ × List ℕ) → small_at bytes ≡ Ok x → SmallRead bytes x
unfolding small_at
small_read bytes x e =
    let a = bind_ok (natural_len bytes) (λ n. cond (ltb (digits_value 10 (take n bytes)) 256) (Ok (digits_value 10 (take n bytes), drop n bytes)) (refused bytes)) x e in
    let n : ℕ = a.0 in
    let v : ℕ = digits_value 10 (take n bytes) in
    let g = guard_held (ltb v 256) (Bad (length bytes)) (v, drop n bytes) x a.2 in
    let low : v < 256 = ltb-true _ _ g.0 in
    let text : decimal v ≡ take n bytes = (natural_read bytes n a.1).text (omega arith) in
    subst (SmallRead bytes) g.1 (record { range = low; parts = sym (take-append-drop n bytes) ∙ ap (λ (t : List ℕ). t ++ drop n bytes) (sym text) })

-- ---- a decimal is read as its number

digit_passes : (b : ℕ) → digit_value b < 10 → is_ascii_digit b ≡ true
digit_passes b h = let range = digit_from_value b h in grind (arith, nat_tests)

pub digits_pass : (text : List ℕ) → AllDigits 10 text → list_all is_ascii_digit text ≡ true
digits_pass [] all = refl
digits_pass (c ∷ text) all = and_from _ _ (digit_passes c all.0) (digits_pass text all.1)

-- no zero in front
first_above : (n : ℕ) → 0 < n → n < 10 ^ 64 → 48 < get_or (decimal n) 0 0
first_above n above small = decimal_by_steps_wide (λ m digits. 0 < m → 48 < get_or digits 0 0) one more n small above
  where
    one : (m : ℕ) → m < 10 → 0 < m → 48 < get_or ((48 + m) ∷ []) 0 0
    one m h k = omega arith

    front : (digits : List ℕ) (d : ℕ) → 48 < get_or digits 0 0 → 48 < get_or (digits ++ d ∷ []) 0 0
    front [] d h = absurd (omega arith)
    front (c ∷ digits) d h = h

    more : (m : ℕ) (digits : List ℕ) → 10 ≤ m → (0 < m / 10 → 48 < get_or digits 0 0) → 0 < m → 48 < get_or (digits ++ (48 + m % 10) ∷ []) 0 0
    more m digits h again k = front digits (48 + m % 10) (again (omega arith))

positive_first : (c : ℕ) → digit_value c < 10 → 48 < c → is_positive_digit c ≡ true
positive_first c h k = let range = digit_from_value c h in grind (arith, nat_tests)

-- digits without a zero in front
positive_text : (text rest : List ℕ) → IsNumeral 10 text → 48 < get_or text 0 0 → begins is_ascii_digit rest ≡ false → positive_len (text ++ rest) ≡ Ok (length text)
unfolding positive_len
positive_text [] rest is first stops = absurd (omega (arith, is.0))
positive_text (c ∷ text) rest is first stops =
    let start : is_positive_digit c ≡ true = positive_first c is.1.0 first in
    let len : prefix_len is_ascii_digit (c ∷ (text ++ rest)) ≡ length (c ∷ text) = prefix_whole is_ascii_digit (c ∷ text) rest (digits_pass (c ∷ text) is.1) stops in
    rw start (ap (λ (n : ℕ). Ok n) len)

natural_text : (text rest : List ℕ) → IsNumeral 10 text → 48 < get_or text 0 0 → begins is_ascii_digit rest ≡ false → natural_len (text ++ rest) ≡ Ok (length text)
unfolding natural_len
natural_text [] rest is first stops = absurd (omega (arith, is.0))
natural_text (c ∷ text) rest is first stops =
    let other : eqb c 48 ≡ false = ne_eqb c 48 (λ zero. absurd (let same : c ≡ 48 = zero in omega arith)) in
    rw other (positive_text (c ∷ text) rest is first stops)

natural_again : (n : ℕ) (rest : List ℕ) → n < 10 ^ 64 → (n ≢ 0 → begins is_ascii_digit rest ≡ false) → natural_len (decimal n ++ rest) ≡ Ok (length (decimal n))
unfolding natural_len
natural_again zero rest small stops =
    let text : decimal 0 ≡ 48 ∷ [] = decimal_digit 0 (omega arith) in
    ap (λ (t : List ℕ). natural_len (t ++ rest)) text ∙ ap (λ (t : List ℕ). Ok (length t)) (sym text)
natural_again (suc n) rest small stops =
    natural_text (decimal (suc n)) rest (decimal_is_IsNumeral_wide (suc n) small).0 (first_above (suc n) (omega arith) small) (stops (λ zero. absurd cc))

pub small_again : (n : ℕ) (rest : List ℕ) → n < 256 → begins is_ascii_digit rest ≡ false → small_at (decimal n ++ rest) ≡ Ok (n, rest)
unfolding small_at
small_again n rest h stops =
    let len : natural_len (decimal n ++ rest) ≡ Ok (length (decimal n)) = natural_again n rest (omega arith) (λ other. stops) in
    let value : digits_value 10 (decimal n) ≡ n = (decimal_is_IsNumeral_wide n (omega arith)).1 in
    rw (len, take_at (decimal n) rest (length (decimal n)) refl, drop_at (decimal n) rest (length (decimal n)) refl, value, lt-ltb n 256 h) refl

number_text : (z : ℤ) (text rest : List ℕ) → number_len (text ++ rest) ≡ Ok (length text) → signed_digits_value 10 text ≡ z → fits z ≡ true → number_at (text ++ rest) ≡ Ok (int z, rest)
unfolding number_at
number_text z text rest len value low =
    rw (len, take_at text rest (length text) refl, drop_at text rest (length text) refl, value, low) refl

pub no_minus : (text rest : List ℕ) → IsNumeral 10 text → number_len (text ++ rest) ≡ natural_len (text ++ rest)
unfolding number_len
no_minus [] rest is = absurd (omega (arith, is.0))
no_minus (c ∷ text) rest is = rw (digit_no_minus c is.1.0) refl

minus_len : (text rest : List ℕ) → positive_len (text ++ rest) ≡ Ok (length text) → number_len (45 ∷ (text ++ rest)) ≡ Ok (length (45 ∷ text))
unfolding number_len
minus_len text rest len = rw len (ap (λ (n : ℕ). Ok n) (omega arith))

pub number_again : (z : ℤ) (rest : List ℕ) → FitsSigned w128 z → (z ≢ pos 0 → begins is_ascii_digit rest ≡ false) → number_at (signed_decimal z ++ rest) ≡ Ok (int z, rest)
number_again (pos n) rest range stops =
    let low : n < 10 ^ 64 = omega (arith, range.sfits) in
    let is = decimal_is_IsNumeral_wide n low in
    number_text (pos n) (decimal n) rest (no_minus (decimal n) rest is.0 ∙ natural_again n rest low (λ other. stops (λ zero. other cc))) (unsigned_value (decimal n) is.0 ∙ ap pos is.1) (is_fits (pos n) range)
number_again (negsuc n) rest range stops =
    let low : suc n < 10 ^ 64 = omega (arith, range.sfits) in
    let is = decimal_is_IsNumeral_wide (suc n) low in
    let len = positive_text (decimal (suc n)) rest is.0 (first_above (suc n) (omega arith) low) (stops (λ zero. absurd cc)) in
    number_text (negsuc n) (45 ∷ decimal (suc n)) rest (minus_len (decimal (suc n)) rest len) (ap (λ (m : ℕ). neg_ℤ (pos m)) is.1) (is_fits (negsuc n) range)
