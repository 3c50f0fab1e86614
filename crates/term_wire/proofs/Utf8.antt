-- Bytes that are text, or are none.
use Rattle.std.proofs.Common.{◌≡◌, ℕ, ◌*◌, ◌<◌, ◌≤◌, Bool, true, false, List, [], ◌∷◌, length, Option, Result, Ok, Err, refl, subst, arith}
use Rattle.std.specs.Prelude.{MatchOption, MatchResult}
use Rattle.std.specs.Result.{result_ok}
use Rattle.std.specs.Str.{chars, is_utf8, IsUtf8, encode_utf8_all}
use Rattle.std.proofs.Math.Utf8.{scalars, scalar, encode}
use Rattle.std.proofs.lemmas.Bool.{lt-ltb}
use Rattle.std.proofs.lemmas.List.{length-append}
use Rattle.std.proofs.lemmas.Str.{is_utf8-from_IsUtf8, IsUtf8-from_is_utf8, encodes-chars, chars-encodes, length-encode, len_utf8_bounds}
use Rattle.std.proofs.lemmas.List.Elements.{All-head, All-tail}
use Rattle.term_wire.specs.Spelling.{AreBytes}

no_utf8 : (bs : List ℕ) → ¬ IsUtf8 bs → is_utf8 bs ≡ false
no_utf8 bs n = by (is_utf8 bs) refl
  where
    by : (b : Bool) → is_utf8 bs ≡ b → is_utf8 bs ≡ false
    by true e = absurd (n (IsUtf8-from_is_utf8 bs e))
    by false e = e

-- the text that was found, or none
pub text_found : {T E : Type 0} (view : T → List ℕ) (Q : E → Type 0) (bs : List ℕ) (r : Result T E) (o : Option T) → o ≡ result_ok r
    → MatchResult r (λ s. (view s ≡ bs) × IsUtf8 bs) (λ e. ¬ (IsUtf8 bs) × Q e)
    → MatchOption o (is_utf8 bs ≡ false) (λ s. (view s ≡ bs) × (is_utf8 bs ≡ true))
text_found view Q bs (Ok s) o p h = rw p (h.0, is_utf8-from_IsUtf8 bs h.1)
text_found view Q bs (Err e) o p h = rw p (no_utf8 bs h.0)

four_each : (cs : List ℕ) → length (encode_utf8_all cs) ≤ 4 * length cs
four_each [] = omega arith
four_each (c ∷ cs) = omega (arith, four_each cs, length-append (encode c) (encode_utf8_all cs), length-encode c, len_utf8_bounds c)

-- a character has at most four bytes
pub length-le-chars : (bs : List ℕ) → IsUtf8 bs → length bs ≤ 4 * length (chars bs)
length-le-chars bs u = subst (λ (x : List ℕ). length x ≤ 4 * length (chars bs)) (encodes-chars bs u) (four_each (chars bs))

byte_is_scalar : (c : ℕ) → c < 256 → scalar c ≡ true
byte_is_scalar c lt = rw (lt-ltb c 0xD800 (omega (arith, lt))) refl

-- each byte is a character of Latin-1
pub scalars-bytes : (cs : List ℕ) → AreBytes cs → scalars cs ≡ true
scalars-bytes [] h = refl
scalars-bytes (c ∷ cs) h =
    let first : c < 256 = All-head (λ (byte : ℕ). byte < 256) c cs h in
    let others : scalars cs ≡ true = scalars-bytes cs (All-tail (λ (byte : ℕ). byte < 256) c cs h) in
    rw (byte_is_scalar c first, others) refl

pub IsUtf8-latin : (cs : List ℕ) → AreBytes cs → IsUtf8 (encode_utf8_all cs)
IsUtf8-latin cs h = (cs, (scalars-bytes cs h, refl))

pub chars-latin : (cs : List ℕ) → AreBytes cs → chars (encode_utf8_all cs) ≡ cs
chars-latin cs h = chars-encodes cs (scalars-bytes cs h)
