-- A number of more than 128 bits is refused at its first byte, whatever follows it.
use Rattle.std.proofs.Common.{◌≡◌, ◌≢◌, ℕ, zero, suc, ◌+◌, ◌-◌, ◌^◌, ◌<◌, ◌≤◌, Bool, true, false, List, [], ◌∷◌, ◌++◌, length, take, drop, get_or, Result, Ok, Err, refl, sym, ap, subst, ◌∙◌, arith, add-one, inl, inr}
use Rattle.std.specs.Prelude.{pos, neg_ℤ}
use Rattle.std.specs.Char.{is_ascii_digit, digit_value}
use Rattle.std.specs.List.{prefix_len, list_all}
use Rattle.std.specs.Str.Parse.{IsNumeral, digits_value, signed_digits_value}
use Rattle.std.proofs.lemmas.Bool.{and_parts, le-ltb, ne_eqb}
use Rattle.std.proofs.lemmas.Bool.Decides.{nat_tests}
use Rattle.std.proofs.lemmas.List.{length-append, drop_at}
use Rattle.std.proofs.lemmas.Str.Parse.{digit_from_value}
use Rattle.term_core.specs.Tree.{Tree}
use Rattle.term_text.specs.declared.fault.Fault.{Fault}
use Rattle.term_text.specs.declared.fault.Fault.TheVariants.{WideInt}
use Rattle.term_text.specs.declared.error.TextErr.TheVariants as refusals
use Rattle.term_text.specs.Places.{read, with_places}
use Rattle.term_text.specs.Reading.{is_positive_digit, positive_len, natural_len, number_len, fits, number_at, begun_at, term_at}
use Rattle.term_text.specs.Viable.{IsWide}
use Rattle.term_text.proofs.Again.{number_only, numeral_only}
use Rattle.term_text.proofs.Decimals.{stays_wide, unsigned_value, no_minus, digits_pass}

-- ---- how many bytes such a number takes

positive_head : (c : ℕ) → digit_value c < 10 → c ≢ 48 → is_positive_digit c ≡ true
positive_head c h other = let range = digit_from_value c h in grind (arith, nat_tests)

positive_over : (digits more : List ℕ) → IsNumeral 10 digits → get_or digits 0 0 ≢ 48 → positive_len (digits ++ more) ≡ Ok (prefix_len is_ascii_digit (digits ++ more))
unfolding positive_len
positive_over [] more is first = absurd (omega (arith, is.0))
positive_over (c ∷ digits) more is first = rw (positive_head c is.1.0 first) refl

natural_over : (digits more : List ℕ) → IsNumeral 10 digits → get_or digits 0 0 ≢ 48 → natural_len (digits ++ more) ≡ Ok (prefix_len is_ascii_digit (digits ++ more))
unfolding natural_len
natural_over [] more is first = absurd (omega (arith, is.0))
natural_over (c ∷ digits) more is first = rw (ne_eqb c 48 first) (positive_over (c ∷ digits) more is first)

minus_over : (digits more : List ℕ) → IsNumeral 10 digits → get_or digits 0 0 ≢ 48 → number_len (45 ∷ (digits ++ more)) ≡ Ok (prefix_len is_ascii_digit (digits ++ more) + 1)
unfolding number_len
minus_over digits more is first = rw (positive_over digits more is first) refl

-- the front that passes a test goes on behind a text that passes it
front_over : (p : ℕ → Bool) (text more : List ℕ) → list_all p text ≡ true → take (prefix_len p (text ++ more)) (text ++ more) ≡ text ++ take (prefix_len p more) more
front_over p [] more all = refl
front_over p (b ∷ text) more all =
    let parts = and_parts (p b) (list_all p text) all in
    let one : 1 + prefix_len p (text ++ more) ≡ suc (prefix_len p (text ++ more)) = omega arith in
    rw (parts.0, one) (ap (λ (s : List ℕ). b ∷ s) (front_over p text more parts.1))

digits_over : (digits more : List ℕ) → IsNumeral 10 digits → take (prefix_len is_ascii_digit (digits ++ more)) (digits ++ more) ≡ digits ++ take (prefix_len is_ascii_digit more) more
digits_over digits more is = front_over is_ascii_digit digits more (digits_pass digits is.1)

-- ---- its value

wide_above : (digits : List ℕ) → IsNumeral 10 digits → 2 ^ 127 ≤ digits_value 10 digits → fits (signed_digits_value 10 digits) ≡ false
wide_above digits is wide = ap fits (unsigned_value digits is) ∙ le-ltb (digits_value 10 digits) (2 ^ 127) wide

wide_below : (n : ℕ) → 2 ^ 127 < n → fits (neg_ℤ (pos n)) ≡ false
wide_below zero wide = absurd (omega (arith, wide))
wide_below (suc n) wide = le-ltb n (2 ^ 127) (omega (arith, wide))

-- digits that begin with those of a number that does not fit
number_refused : (bytes : List ℕ) (n : ℕ) (text others : List ℕ) → number_len bytes ≡ Ok n → take n bytes ≡ text ++ others → fits (signed_digits_value 10 text) ≡ false → number_at bytes ≡ Err (WideInt (length bytes))
unfolding number_at
number_refused bytes n text others len front wide = rw (len, front, stays_wide text others wide) refl

number_wide : (text more : List ℕ) → IsWide text → number_at (text ++ more) ≡ Err (WideInt (length (text ++ more)))
number_wide text more (digits, is, first, inl h) =
    let P : List ℕ → Type 0 = λ t. number_at (t ++ more) ≡ Err (WideInt (length (t ++ more))) in
    subst P (sym h.0) (number_refused (digits ++ more) (prefix_len is_ascii_digit (digits ++ more)) digits (take (prefix_len is_ascii_digit more) more)
    (no_minus digits more is ∙ natural_over digits more is first) (digits_over digits more is) (wide_above digits is h.1))
number_wide text more (digits, is, first, inr h) =
    let P : List ℕ → Type 0 = λ t. number_at (t ++ more) ≡ Err (WideInt (length (t ++ more))) in
    let n : ℕ = prefix_len is_ascii_digit (digits ++ more) in
    let others : List ℕ = take (prefix_len is_ascii_digit more) more in
    let front : take (n + 1) (45 ∷ (digits ++ more)) ≡ 45 ∷ (digits ++ others) = rw add-one (ap (λ (s : List ℕ). 45 ∷ s) (digits_over digits more is)) in
    subst P (sym h.0) (number_refused (45 ∷ (digits ++ more)) (n + 1) (45 ∷ digits) others (minus_over digits more is first) front (wide_below (digits_value 10 digits) h.1))

-- ---- and nothing else begins so

begun_wide : (one : List ℕ → Result (Tree × List ℕ) Fault) (levels : ℕ) (text more : List ℕ) → IsWide text → begun_at one levels (text ++ more) ≡ number_at (text ++ more)
begun_wide one levels text more (digits, is, first, inl h) =
    let P : List ℕ → Type 0 = λ t. begun_at one levels (t ++ more) ≡ number_at (t ++ more) in
    subst P (sym h.0) (numeral_only one levels digits more is)
begun_wide one levels text more (digits, is, first, inr h) =
    let P : List ℕ → Type 0 = λ t. begun_at one levels (t ++ more) ≡ number_at (t ++ more) in
    subst P (sym h.0) (number_only one levels 45 (digits ++ more) refl)

term_wide : (levels : ℕ) (text more : List ℕ) → IsWide text → term_at (suc levels) (text ++ more) ≡ Err (WideInt (length (text ++ more)))
unfolding term_at
term_wide levels text more wide = begun_wide (term_at levels) levels text more wide ∙ number_wide text more wide

pub wide_refused : (levels : ℕ) (front text more : List ℕ) → IsWide text → read (suc levels) (front ++ (text ++ more)) (length front) ≡ Err (refusals.WideInt (length front))
wide_refused levels front text more wide =
    let bytes : List ℕ = text ++ more in
    let from : drop (length front) (front ++ bytes) ≡ bytes = drop_at front bytes (length front) refl in
    let refusal : term_at (suc levels) (drop (length front) (front ++ bytes)) ≡ Err (WideInt (length bytes)) = ap (term_at (suc levels)) from ∙ term_wide levels text more wide in
    let place : length (front ++ bytes) - length bytes ≡ length front = omega (arith, length-append front bytes) in
    ap (with_places (length (front ++ bytes))) refusal ∙ ap (λ (n : ℕ). Err (refusals.WideInt n)) place
