-- Bytes that are text, and their characters.
use Rattle.std.proofs.Common.{◌≡◌, ℕ, Bool, true, false, List, [], ◌∷◌, ◌++◌, get_or, refl, sym, ap, ◌∙◌, append-nil}
use Rattle.std.specs.Char.{encode_utf8}
use Rattle.std.specs.Str.{chars, is_utf8, IsUtf8, encode_utf8_all}
use Rattle.std.proofs.lemmas.Str.{is_utf8-from_IsUtf8, IsUtf8-from_is_utf8, encodes-chars, encodes-append, encodes_same, chars_past_char}

pub no_utf8 : (bs : List ℕ) → ¬ IsUtf8 bs → is_utf8 bs ≡ false
no_utf8 bs n = by (is_utf8 bs) refl
  where
    by : (b : Bool) → is_utf8 bs ≡ b → is_utf8 bs ≡ false
    by true e = absurd (n (IsUtf8-from_is_utf8 bs e))
    by false e = e

pub text_is_utf8 : (bs : List ℕ) → IsUtf8 bs → is_utf8 bs ≡ true
text_is_utf8 bs u = is_utf8-from_IsUtf8 bs u

pub first_is : (bs rest : List ℕ) (c : ℕ) → IsUtf8 bs → bs ≡ encode_utf8 c ++ rest → c ≡ get_or (chars bs) 0 0
first_is bs rest c u e = sym (ap (λ (cs : List ℕ). get_or cs 0 0) (chars_past_char bs rest c u e))

-- a character at the end of a text
pub pushed : (old new : List ℕ) (c : ℕ) → IsUtf8 old → IsUtf8 new → new ≡ old ++ encode_utf8 c → chars new ≡ chars old ++ c ∷ []
pushed old new c was is e =
    let one : encode_utf8 c ≡ encode_utf8_all (c ∷ []) = sym (append-nil (encode_utf8 c)) in
    let front : old ++ encode_utf8 c ≡ encode_utf8_all (chars old) ++ encode_utf8_all (c ∷ []) = ap (λ (s : List ℕ). s ++ encode_utf8 c) (sym (encodes-chars old was)) ∙ ap (λ (s : List ℕ). encode_utf8_all (chars old) ++ s) one in
    encodes_same (chars new) (chars old ++ c ∷ []) (encodes-chars new is ∙ e ∙ front ∙ sym (encodes-append (chars old) (c ∷ [])))
