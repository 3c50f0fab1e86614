-- Characters between quotes, read and again.
use Rattle.std.proofs.Common.{◌≡◌, ◌≢◌, ℕ, zero, suc, ◌+◌, ◌-◌, ◌/◌, ◌%◌, ◌<◌, ◌≤◌, Bool, true, false, cond, eqb, ltb, List, [], ◌∷◌, ◌++◌, length, take, drop, get_or, Option, Some, None, Result, Ok, Err, refl, sym, ap, subst, ◌∙◌, arith, append_assoc, append-nil, inl, inr, ◌⊎◌}
use Rattle.std.specs.Prelude.{◌==◌, min}
use Rattle.std.specs.Char.{IsScalar, encode_utf8, is_ascii_hexdigit, digit_value}
use Rattle.std.specs.List.{prefix_len, list_all}
use Rattle.std.specs.Str.{is_utf8, chars, continuation_len, encode_utf8_all, all_scalars}
use Rattle.std.specs.Str.Parse.{AllDigits, IsNumeral, digits_value}
use Rattle.std.proofs.lemmas.Bool.{and_parts, and_from, eqb-true, eqb-false, ne_eqb, ltb-true, ltb-false, lt-ltb, le-ltb, eq-eqb}
use Rattle.std.proofs.lemmas.Bool.Decides.{nat_tests}
use Rattle.std.proofs.lemmas.List.{take-append-drop, take_at, drop_at, length-take, length-append, nil_from_length}
use Rattle.std.proofs.lemmas.Str.{IsUtf8-from_is_utf8, is_utf8-from_IsUtf8, IsUtf8-encode, chars-encodes}
use Rattle.std.proofs.Math.Utf8.{scalar_cases}
use Rattle.term_text.specs.declared.fault.Fault.{Fault}
use Rattle.term_text.specs.declared.fault.Fault.TheVariants.{Bad}
use Rattle.term_text.specs.Grammar.{begins, escaped, IsCharacter, Then, Each}
use Rattle.term_text.specs.Grammar as grammar
use Rattle.term_text.specs.Reading.{◌>>=◌, refused, byte_at, utf8_at, hex_digits_at, is_scalar, hex_at, letter_at, escape_at, character_at, narrow_at, quoted_at, may_begin_character}
use Rattle.term_text.proofs.Fronts.{ok_is, hex_numeral, prefix_within}
use Rattle.term_text.proofs.Steps.{bind_ok, guard_held, guard_ok, begun, byte_found, byte_again}

-- ---- UTF-8

-- how many bytes follow a first byte
none_follow : (b : ℕ) → b < 128 → continuation_len b ≡ 0
none_follow b h = rw (lt-ltb b 128 h) refl

one_follows : (b : ℕ) → 128 ≤ b → b < 224 → continuation_len b ≡ 1
one_follows b h k = rw (le-ltb b 128 h, lt-ltb b 224 k) refl

two_follow : (b : ℕ) → 224 ≤ b → b < 240 → continuation_len b ≡ 2
two_follow b h k = let low : 128 ≤ b = omega arith in rw (le-ltb b 128 low, le-ltb b 224 h, lt-ltb b 240 k) refl

three_follow : (b : ℕ) → 240 ≤ b → continuation_len b ≡ 3
three_follow b h = let low : 128 ≤ b = omega arith in let mid : 224 ≤ b = omega arith in rw (le-ltb b 128 low, le-ltb b 224 mid, le-ltb b 240 h) refl

-- the first byte tells how many bytes there are, and is the character where it is ASCII
pub record Lead (c : ℕ) (text : List ℕ) : Type 0 where
  pub count : continuation_len (get_or text 0 0) + 1 ≡ length text
  pub first : ((c < 128) × (get_or text 0 0 ≡ c)) ⊎ ((128 ≤ c) × (194 ≤ get_or text 0 0))
  pub last : c < 1114112 → get_or text 0 0 ≤ 244

pub lead : (c : ℕ) → Lead c (encode_utf8 c)
unfolding encode_utf8
lead c = by (ltb c 128) (ltb c 2048) (ltb c 65536) refl refl refl
  where
    two : List ℕ
    two = (192 + c / 64) ∷ (128 + c % 64) ∷ []

    three : List ℕ
    three = (224 + c / 4096) ∷ (128 + c / 64 % 64) ∷ (128 + c % 64) ∷ []

    four : List ℕ
    four = (240 + c / 262144) ∷ (128 + c / 4096 % 64) ∷ (128 + c / 64 % 64) ∷ (128 + c % 64) ∷ []

    by : (x y z : Bool) → ltb c 128 ≡ x → ltb c 2048 ≡ y → ltb c 65536 ≡ z → Lead c (cond x (c ∷ []) (cond y two (cond z three four)))
    by true y z p q r =
        let low = ltb-true _ _ p in
        record { count = rw (none_follow c low) refl; first = inl (low, refl); last = λ h. omega arith }
    by false true z p q r =
        let high = ltb-false _ _ p in
        let low = ltb-true _ _ q in
        record { count = rw (one_follows (192 + c / 64) (omega arith) (omega arith)) refl; first = inr (high, omega arith); last = λ h. omega arith }
    by false false true p q r =
        let high = ltb-false _ _ p in
        let low = ltb-true _ _ r in
        record { count = rw (two_follow (224 + c / 4096) (omega arith) (omega arith)) refl; first = inr (high, omega arith); last = λ h. omega arith }
    by false false false p q r =
        let high = ltb-false _ _ p in
        record { count = rw (three_follow (240 + c / 262144) (omega arith)) refl; first = inr (high, omega arith); last = λ h. omega arith }

one_character : (c : ℕ) → IsScalar c → chars (encode_utf8 c) ≡ c ∷ []
one_character c is = ap chars (sym (append-nil (encode_utf8 c))) ∙ chars-encodes (c ∷ []) (and_from _ _ is refl)

-- what is read as a character in UTF-8
pub record Utf8Read (bytes : List ℕ) (x : ℕ × List ℕ) : Type 0 where
  pub is : IsScalar x.0
  pub parts : bytes ≡ encode_utf8 x.0 ++ x.1

first_of : (xs ys : List ℕ) (b : ℕ) (rest : List ℕ) → continuation_len (get_or xs 0 0) + 1 ≡ length xs → xs ++ ys ≡ b ∷ rest → get_or xs 0 0 ≡ b
first_of [] ys b rest size e = absurd (let wrong : continuation_len 0 + 1 ≡ 0 = size in omega arith)
first_of (x ∷ xs) ys b rest size e = cc

-- a text of as many bytes as its first says is one character
alone : (b : ℕ) (rest text cs : List ℕ) → text ≡ b ∷ rest → length text ≤ continuation_len b + 1 → all_scalars cs ≡ true → encode_utf8_all cs ≡ text → (c : ℕ) × IsScalar c × (text ≡ encode_utf8 c)
alone b rest text [] start short all is = absurd cc
alone b rest text (c ∷ cs) start short all is =
    let front = lead c in
    let first : get_or (encode_utf8 c) 0 0 ≡ b = first_of (encode_utf8 c) (encode_utf8_all cs) b rest front.count (is ∙ start) in
    let size : length (encode_utf8 c) ≡ continuation_len b + 1 = sym front.count ∙ ap (λ (n : ℕ). continuation_len n + 1) first in
    let whole : length (encode_utf8 c) + length (encode_utf8_all cs) ≡ length text = sym (length-append (encode_utf8 c) (encode_utf8_all cs)) ∙ ap length is in
    let none : encode_utf8_all cs ≡ [] = nil_from_length (encode_utf8_all cs) (omega arith) in
    (c, (and_parts _ _ all).0, sym is ∙ ap (λ (s : List ℕ). encode_utf8 c ++ s) none ∙ append-nil (encode_utf8 c))

pub utf8_read : (bytes : List ℕ) (x : ℕ × List ℕ) → utf8_at bytes ≡ Ok x → Utf8Read bytes x
unfolding utf8_at
utf8_read [] x e = absurd cc
utf8_read (b ∷ rest) x e =
    let g = guard_held (is_utf8 front) (Bad (length (b ∷ rest))) (get_or (chars front) 0 0, drop n (b ∷ rest)) x e in
    let text = IsUtf8-from_is_utf8 front g.0 in
    let one = alone b (take (n - 1) rest) front text.0 start short text.1.0 text.1.1 in
    let value : get_or (chars front) 0 0 ≡ one.0 = ap (λ (t : List ℕ). get_or (chars t) 0 0) one.2 ∙ ap (λ (cs : List ℕ). get_or cs 0 0) (one_character one.0 one.1) in
    subst (Utf8Read (b ∷ rest)) (ap (λ (c : ℕ). (c, drop n (b ∷ rest))) (sym value) ∙ g.1) (record {
      is = one.1;
      parts = sym (take-append-drop n (b ∷ rest)) ∙ ap (λ (t : List ℕ). t ++ drop n (b ∷ rest)) one.2;
    })
  where
    n : ℕ
    n = min (continuation_len b + 1) (length (b ∷ rest))

    front : List ℕ
    front = take n (b ∷ rest)

    start : front ≡ b ∷ take (n - 1) rest
    start = let some : n ≡ suc (n - 1) = omega arith in ap (λ (k : ℕ). take k (b ∷ rest)) some

    short : length front ≤ continuation_len b + 1
    short = omega (arith, length-take n (b ∷ rest))

pub utf8_again : (c : ℕ) (rest : List ℕ) → IsScalar c → utf8_at (encode_utf8 c ++ rest) ≡ Ok (c, rest)
unfolding utf8_at
utf8_again c rest is = by (encode_utf8 c) refl
  where
    by : (text : List ℕ) → encode_utf8 c ≡ text → utf8_at (text ++ rest) ≡ Ok (c, rest)
    by [] e = absurd (let size : continuation_len 0 + 1 ≡ 0 = subst (λ (t : List ℕ). continuation_len (get_or t 0 0) + 1 ≡ length t) e (lead c).count in omega arith)
    by (b ∷ text) e =
        let size : continuation_len b + 1 ≡ length (b ∷ text) = subst (λ (t : List ℕ). continuation_len (get_or t 0 0) + 1 ≡ length t) e (lead c).count in
        let n : min (continuation_len b + 1) (length (b ∷ (text ++ rest))) ≡ length (b ∷ text) = omega (arith, size, length-append (b ∷ text) rest) in
        let utf8 : is_utf8 (b ∷ text) ≡ true = subst (λ (t : List ℕ). is_utf8 t ≡ true) e (is_utf8-from_IsUtf8 (encode_utf8 c) (IsUtf8-encode c is)) in
        let value : get_or (chars (b ∷ text)) 0 0 ≡ c = subst (λ (t : List ℕ). get_or (chars t) 0 0 ≡ c) e (ap (λ (cs : List ℕ). get_or cs 0 0) (one_character c is)) in
        rw (n, take_at (b ∷ text) rest (length (b ∷ text)) refl, drop_at (b ∷ text) rest (length (b ∷ text)) refl, utf8, value) refl

-- ---- escapes

-- digits, by the test that passes them
hex_passes : (b : ℕ) → digit_value b < 16 → is_ascii_hexdigit b ≡ true
hex_passes b h = grind (arith, nat_tests)

hex_pass : (text : List ℕ) → AllDigits 16 text → list_all is_ascii_hexdigit text ≡ true
hex_pass [] all = refl
hex_pass (c ∷ text) all = and_from _ _ (hex_passes c all.0) (hex_pass text all.1)

-- a front that passes, within so many bytes
prefix_within_take : (p : ℕ → Bool) (most : ℕ) (text rest : List ℕ) → list_all p text ≡ true → begins p rest ≡ false → length text ≤ most → prefix_len p (take most (text ++ rest)) ≡ length text
prefix_within_take p zero [] rest all stops le = refl
prefix_within_take p (suc most) [] [] all stops le = refl
prefix_within_take p (suc most) [] (b ∷ rest) all stops le = rw stops refl
prefix_within_take p zero (b ∷ text) rest all stops le = absurd (omega arith)
prefix_within_take p (suc most) (b ∷ text) rest all stops le =
    let parts = and_parts (p b) (list_all p text) all in
    rw parts.0 (omega (arith, prefix_within_take p most text rest parts.1 stops (omega arith)))

hex_digits_again : (digits rest : List ℕ) → IsNumeral 16 digits → length digits ≤ 6 → hex_digits_at (digits ++ 125 ∷ rest) ≡ Ok (digits, 125 ∷ rest)
unfolding hex_digits_at
hex_digits_again digits rest is short =
    let n : prefix_len is_ascii_hexdigit (take 6 (digits ++ 125 ∷ rest)) ≡ length digits = prefix_within_take is_ascii_hexdigit 6 digits (125 ∷ rest) (hex_pass digits is.1) refl short in
    let some : (length digits == 0) ≡ false = ne_eqb (length digits) 0 (λ zero. absurd (omega (arith, is.0, zero))) in
    rw (n, some, take_at digits (125 ∷ rest) (length digits) refl, drop_at digits (125 ∷ rest) (length digits) refl) refl

hex_again : (c : ℕ) (digits rest : List ℕ) → IsScalar c → IsNumeral 16 digits → length digits ≤ 6 → digits_value 16 digits ≡ c → hex_at (123 ∷ (digits ++ 125 ∷ rest)) ≡ Ok (c, rest)
unfolding hex_at
hex_again c digits rest is numeral short value =
    let scalar : is_scalar (digits_value 16 digits) ≡ true = subst (λ (n : ℕ). is_scalar n ≡ true) (sym value) (and_from _ _ is refl) in
    rw (byte_again 123 (digits ++ 125 ∷ rest), hex_digits_again digits rest numeral short, byte_again 125 rest, scalar, value) refl

-- a character, its text and the bytes behind
pub record CharacterRead (quote : ℕ) (bytes : List ℕ) (x : ℕ × List ℕ) : Type 0 where
  pub text : List ℕ
  pub is : IsCharacter quote x.0 text
  pub parts : bytes ≡ text ++ x.1

-- the digits in front
pub record HexTaken (bytes : List ℕ) (x : List ℕ × List ℕ) : Type 0 where
  pub parts : bytes ≡ x.0 ++ x.1
  pub short : length x.0 ≤ 6
  pub numeral : IsNumeral 16 x.0

pub hex_taken : (bytes : List ℕ) (x : List ℕ × List ℕ) → hex_digits_at bytes ≡ Ok x → HexTaken bytes x
unfolding hex_digits_at
hex_taken bytes x e =
    let n : ℕ = prefix_len is_ascii_hexdigit (take 6 bytes) in
    let g = guard_ok (n == 0) (Bad (length bytes)) (take n bytes, drop n bytes) x e in
    let taken = subst (λ (z : List ℕ × List ℕ). (bytes ≡ z.0 ++ z.1) × (length z.0 ≤ 6)) g.1 (sym (take-append-drop n bytes), omega (arith, length-take n bytes, prefix_within is_ascii_hexdigit (take 6 bytes), length-take 6 bytes)) in
    record { parts = taken.0; short = taken.1; numeral = hex_numeral bytes x e }

hex_read : (quote : ℕ) (bytes : List ℕ) (x : ℕ × List ℕ) → hex_at bytes ≡ Ok x → CharacterRead quote (92 ∷ 120 ∷ bytes) x
unfolding hex_at
hex_read quote bytes x e =
    let end = λ (digits : List ℕ × List ℕ). byte_at 125 digits.1 >>= λ rest. cond (is_scalar (digits_value 16 digits.0)) (Ok (digits_value 16 digits.0, rest)) (Err (Bad (length bytes + 2))) in
    let a = bind_ok (byte_at 123 bytes) (λ inner. hex_digits_at inner >>= end) x e in
    let b = bind_ok (hex_digits_at a.0) end x a.2 in
    let d = bind_ok (byte_at 125 b.0.1) (λ rest. cond (is_scalar (digits_value 16 b.0.0)) (Ok (digits_value 16 b.0.0, rest)) (Err (Bad (length bytes + 2)))) x b.2 in
    let g = guard_held (is_scalar (digits_value 16 b.0.0)) (Bad (length bytes + 2)) (digits_value 16 b.0.0, d.0) x d.2 in
    let digits = hex_taken a.0 b.0 b.1 in
    subst (CharacterRead quote (92 ∷ 120 ∷ bytes)) g.1 (record {
      text = 92 ∷ 120 ∷ 123 ∷ (b.0.0 ++ 125 ∷ []);
      is = grammar.numbered b.0.0 (and_parts _ _ g.0).0 digits.numeral digits.short refl refl;
      parts = ap (λ (s : List ℕ). 92 ∷ 120 ∷ s) (byte_found 123 bytes a.0 a.1 ∙ ap (λ (s : List ℕ). 123 ∷ s) (digits.parts ∙ ap (λ (s : List ℕ). b.0.0 ++ s) (byte_found 125 b.0.1 d.0 d.1) ∙ sym (append_assoc b.0.0 (125 ∷ []) d.0)));
    })

letter_read : (o : Option ℕ) (b : ℕ) (rest : List ℕ) (x : ℕ × List ℕ) → letter_at o (b ∷ rest) ≡ Ok x → (o ≡ Some x.0) × (rest ≡ x.1)
letter_read None b rest x e = absurd cc
letter_read (Some c) b rest x e = let same = ok_is (c, rest) x e in (ap (λ (y : ℕ × List ℕ). Some y.0) same, ap (λ (y : ℕ × List ℕ). y.1) same)

escape_read : (quote : ℕ) (bytes : List ℕ) (x : ℕ × List ℕ) → escape_at bytes ≡ Ok x → CharacterRead quote (92 ∷ bytes) x
unfolding escape_at
escape_read quote [] x e = absurd cc
escape_read quote (b ∷ rest) x e = by (eqb b 120) refl e
  where
    by : (t : Bool) → eqb b 120 ≡ t → cond t (hex_at rest) (letter_at (escaped b) (b ∷ rest)) ≡ Ok x → CharacterRead quote (92 ∷ b ∷ rest) x
    by true is e = let P : ℕ → Type 0 = λ n. CharacterRead quote (92 ∷ n ∷ rest) x in subst P (sym (eqb-true b 120 is)) (hex_read quote rest x e)
    by false is e = let found = letter_read (escaped b) b rest x e in record { text = 92 ∷ b ∷ []; is = grammar.letter b found.0 refl; parts = ap (λ (r : List ℕ). 92 ∷ b ∷ r) found.1 }

escape_again : (b c : ℕ) (rest : List ℕ) → escaped b ≡ Some c → escape_at (b ∷ rest) ≡ Ok (c, rest)
unfolding escape_at
escape_again b c rest e =
    let other : eqb b 120 ≡ false = ne_eqb b 120 (λ x. absurd (let wrong : escaped 120 ≡ Some c = ap escaped (sym x) ∙ e in cc)) in
    rw (other, e) refl

pub character_read : (quote : ℕ) (bytes : List ℕ) (x : ℕ × List ℕ) → begins (λ b. b == quote) bytes ≡ false → (128 ≤ quote → ⊥) → character_at bytes ≡ Ok x → CharacterRead quote bytes x
unfolding character_at
character_read quote [] x other low e = absurd cc
character_read quote (b ∷ rest) x other low e = by (eqb b 92) (ltb b 32) refl refl e
  where
    plain : eqb b 92 ≡ false → 32 ≤ b → Utf8Read (b ∷ rest) x → CharacterRead quote (b ∷ rest) x
    plain no_escape high read =
        let front = lead x.0 in
        let first : get_or (encode_utf8 x.0) 0 0 ≡ b = first_of (encode_utf8 x.0) x.1 b rest front.count (sym read.parts) in
        record {
          text = encode_utf8 x.0;
          is = elim front.first [
            | inl h ↦ let same : x.0 ≡ b = sym h.1 ∙ first in grammar.itself read.is (rw same high) (λ q. eqb-false b quote other (sym same ∙ q)) (λ q. eqb-false b 92 no_escape (sym same ∙ q)) refl
            | inr h ↦ grammar.itself read.is (omega arith) (λ q. absurd (low (omega (arith, h.0, q)))) (λ q. absurd (omega (arith, h.0, q))) refl
          ];
          parts = read.parts;
        }

    by : (t u : Bool) → eqb b 92 ≡ t → ltb b 32 ≡ u → cond t (escape_at rest) (cond u (refused (b ∷ rest)) (utf8_at (b ∷ rest))) ≡ Ok x → CharacterRead quote (b ∷ rest) x
    by true u is range e = let P : ℕ → Type 0 = λ n. CharacterRead quote (n ∷ rest) x in subst P (sym (eqb-true b 92 is)) (escape_read quote rest x e)
    by false true is range e = absurd cc
    by false false is range e = plain is (ltb-false _ _ range) (utf8_read (b ∷ rest) x e)

-- what a character's text begins with
pub record CharacterAgain (quote c : ℕ) (text rest : List ℕ) : Type 0 where
  pub read : character_at (text ++ rest) ≡ Ok (c, rest)
  pub other : begins (λ b. b == quote) (text ++ rest) ≡ false

plain_again : (b c : ℕ) (text rest : List ℕ) → b ≢ 92 → 32 ≤ b → utf8_at (b ∷ (text ++ rest)) ≡ Ok (c, rest) → character_at (b ∷ (text ++ rest)) ≡ Ok (c, rest)
unfolding character_at
plain_again b c text rest other high read = rw (ne_eqb b 92 other, le-ltb b 32 high) read

escaped_again : (c : ℕ) (inner rest : List ℕ) → escape_at (inner ++ rest) ≡ Ok (c, rest) → character_at (92 ∷ (inner ++ rest)) ≡ Ok (c, rest)
unfolding character_at
escaped_again c inner rest read = read

-- the escape by a number
hexed_again : (bytes : List ℕ) (x : ℕ × List ℕ) → hex_at bytes ≡ Ok x → escape_at (120 ∷ bytes) ≡ Ok x
unfolding escape_at
hexed_again bytes x e = e

pub character_again : (quote c : ℕ) (text rest : List ℕ) → quote ≢ 92 → (128 ≤ quote → ⊥) → IsCharacter quote c text → CharacterAgain quote c text rest
character_again quote c text rest escape low (grammar.itself is high other no_escape e) = by (encode_utf8 c) e refl
  where
    by : (bytes : List ℕ) → text ≡ bytes → encode_utf8 c ≡ bytes → CharacterAgain quote c text rest
    by [] e same = absurd (let size : continuation_len 0 + 1 ≡ 0 = subst (λ (t : List ℕ). continuation_len (get_or t 0 0) + 1 ≡ length t) same (lead c).count in omega arith)
    by (b ∷ bytes) e same =
        let read : utf8_at (b ∷ (bytes ++ rest)) ≡ Ok (c, rest) = subst (λ (t : List ℕ). utf8_at (t ++ rest) ≡ Ok (c, rest)) same (utf8_again c rest is) in
        let first : get_or (encode_utf8 c) 0 0 ≡ b = ap (λ (t : List ℕ). get_or t 0 0) same in
        let facts : (b ≢ 92) × (32 ≤ b) × (b ≢ quote) = elim (lead c).first [
          | inl h ↦ let is_c : b ≡ c = sym first ∙ h.1 in (λ q. no_escape (sym is_c ∙ q), rw is_c high, λ q. other (sym is_c ∙ q))
          | inr h ↦ (λ q. absurd (omega (arith, h.1, first, q)), omega (arith, h.1, first), λ q. absurd (low (omega (arith, h.1, first, q))))
        ] in
        rw e (record { read = plain_again b c bytes rest facts.0 facts.1 read; other = ne_eqb b quote facts.2 })
character_again quote c text rest escape low (grammar.letter b is e) =
    rw e (record { read = escaped_again c (b ∷ []) rest (escape_again b c rest is); other = ne_eqb 92 quote (λ q. escape (sym q)) })
character_again quote c text rest escape low (grammar.numbered digits is numeral short value e) =
    let regrouped : (123 ∷ (digits ++ 125 ∷ [])) ++ rest ≡ 123 ∷ (digits ++ 125 ∷ rest) = ap (λ (s : List ℕ). 123 ∷ s) (append_assoc digits (125 ∷ []) rest) in
    let read : escape_at (120 ∷ ((123 ∷ (digits ++ 125 ∷ [])) ++ rest)) ≡ Ok (c, rest) = hexed_again _ (c, rest) (ap hex_at regrouped ∙ hex_again c digits rest is numeral short value) in
    rw e (record { read = escaped_again c (120 ∷ 123 ∷ (digits ++ 125 ∷ [])) rest read; other = ne_eqb 92 quote (λ q. escape (sym q)) })

-- ---- characters up to the quote

-- each of a kind is read so where no quote is in front
abbrev pub OneReads : (ℕ → List ℕ → Type 0) → (List ℕ → Result (ℕ × List ℕ) Fault) → ℕ → Type 0
OneReads IsOne one quote = (bytes : List ℕ) (x : ℕ × List ℕ) → begins (λ b. b == quote) bytes ≡ false → one bytes ≡ Ok x → (text : List ℕ) × IsOne x.0 text × (bytes ≡ text ++ x.1)

pub record QuotedRead (IsOne : ℕ → List ℕ → Type 0) (quote most : ℕ) (bytes : List ℕ) (x : List ℕ × List ℕ) : Type 0 where
  pub inner : List ℕ
  pub each : Each IsOne x.0 inner
  pub parts : bytes ≡ inner ++ quote ∷ x.1
  pub short : length x.0 ≤ most

-- one more in front
one_in_front : (IsOne : ℕ → List ℕ → Type 0) (quote most : ℕ) (bytes text : List ℕ) (c : ℕ) (mid : List ℕ) (x : List ℕ × List ℕ)
    → IsOne c text → bytes ≡ text ++ mid → QuotedRead IsOne quote most mid x → QuotedRead IsOne quote (suc most) bytes (c ∷ x.0, x.1)
one_in_front IsOne quote most bytes text c mid x is p others = record {
  inner = text ++ others.inner;
  each = (text, others.inner, is, others.each, refl);
  parts = p ∙ ap (λ (s : List ℕ). text ++ s) others.parts ∙ sym (append_assoc text others.inner (quote ∷ x.1));
  short = omega (arith, others.short);
}

pub quoted_read : (IsOne : ℕ → List ℕ → Type 0) (one : List ℕ → Result (ℕ × List ℕ) Fault) (quote : ℕ) → OneReads IsOne one quote
    → (most : ℕ) (bytes : List ℕ) (x : List ℕ × List ℕ) → quoted_at one quote most bytes ≡ Ok x → QuotedRead IsOne quote most bytes x
unfolding quoted_at
quoted_read IsOne one quote reads zero bytes x e =
    let a = bind_ok (byte_at quote bytes) (λ rest. Ok ([], rest)) x e in
    subst (QuotedRead IsOne quote 0 bytes) (ok_is ([], a.0) x a.2) (record { inner = []; each = refl; parts = byte_found quote bytes a.0 a.1; short = omega arith })
quoted_read IsOne one quote reads (suc most) bytes x e = by (begins (λ b. b == quote) bytes) refl (quoted_read IsOne one quote reads most) e
  where
    more : ℕ × List ℕ → Result (List ℕ × List ℕ) Fault
    more first = quoted_at one quote most first.1 >>= λ others. Ok (first.0 ∷ others.0, others.1)

    by : (t : Bool) → begins (λ b. b == quote) bytes ≡ t → ((mid : List ℕ) (y : List ℕ × List ℕ) → quoted_at one quote most mid ≡ Ok y → QuotedRead IsOne quote most mid y) → cond t (Ok ([], drop 1 bytes)) (one bytes >>= more) ≡ Ok x → QuotedRead IsOne quote (suc most) bytes x
    by true here again e = subst (QuotedRead IsOne quote (suc most) bytes) (ok_is ([], drop 1 bytes) x e) (record { inner = []; each = refl; parts = begun quote bytes here; short = omega arith })
    by false other again e =
        let a = bind_ok (one bytes) more x e in
        let b = bind_ok (quoted_at one quote most a.0.1) (λ others. Ok (a.0.0 ∷ others.0, others.1)) x a.2 in
        let first = reads bytes a.0 other a.1 in
        subst (QuotedRead IsOne quote (suc most) bytes) (ok_is (a.0.0 ∷ b.0.0, b.0.1) x b.2)
        (one_in_front IsOne quote most bytes first.0 a.0.0 a.0.1 b.0 first.1 first.2 (again a.0.1 b.0 b.1))

-- each text of a kind is read again, whatever follows it
abbrev pub OneAgain : (ℕ → List ℕ → Type 0) → (List ℕ → Result (ℕ × List ℕ) Fault) → ℕ → Type 0
OneAgain IsOne one quote = (c : ℕ) (text rest : List ℕ) → IsOne c text → (one (text ++ rest) ≡ Ok (c, rest)) × (begins (λ b. b == quote) (text ++ rest) ≡ false)

quoted_step : (one : List ℕ → Result (ℕ × List ℕ) Fault) (quote most : ℕ) (bytes mid : List ℕ) (c : ℕ) (cs rest : List ℕ)
    → begins (λ b. b == quote) bytes ≡ false → one bytes ≡ Ok (c, mid) → quoted_at one quote most mid ≡ Ok (cs, rest) → quoted_at one quote (suc most) bytes ≡ Ok (c ∷ cs, rest)
unfolding quoted_at
quoted_step one quote most bytes mid c cs rest other first others = rw (other, first, others) refl

quoted_end : (one : List ℕ → Result (ℕ × List ℕ) Fault) (quote most : ℕ) (rest : List ℕ) → quoted_at one quote most (quote ∷ rest) ≡ Ok ([], rest)
unfolding quoted_at
quoted_end one quote zero rest = rw (byte_again quote rest) refl
quoted_end one quote (suc most) rest = rw (eq-eqb quote quote refl) refl

pub quoted_again : (IsOne : ℕ → List ℕ → Type 0) (one : List ℕ → Result (ℕ × List ℕ) Fault) (quote : ℕ) → OneAgain IsOne one quote
    → (most : ℕ) (cs inner rest : List ℕ) → Each IsOne cs inner → length cs ≤ most → quoted_at one quote most (inner ++ quote ∷ rest) ≡ Ok (cs, rest)
quoted_again IsOne one quote again most [] inner rest each short = rw each (quoted_end one quote most rest)
quoted_again IsOne one quote again zero (c ∷ cs) inner rest each short = absurd (omega arith)
quoted_again IsOne one quote again (suc most) (c ∷ cs) inner rest each short =
    let text = each.0 in
    let mid : List ℕ = each.1 ++ quote ∷ rest in
    let regrouped : inner ++ quote ∷ rest ≡ text ++ mid = ap (λ (s : List ℕ). s ++ quote ∷ rest) each.4 ∙ append_assoc text each.1 (quote ∷ rest) in
    let first = again c text mid each.2 in
    let others = quoted_again IsOne one quote again most cs each.1 rest each.3 (omega arith) in
    ap (quoted_at one quote (suc most)) regrouped ∙ quoted_step one quote most (text ++ mid) mid c cs rest first.1 first.0 others

-- each takes at least one byte
pub each_count : {A : Type 0} (IsOne : A → List ℕ → Type 0) → ((x : A) (text : List ℕ) → IsOne x text → 0 < length text) → (xs : List A) (inner : List ℕ) → Each IsOne xs inner → length xs ≤ length inner
each_count IsOne some [] inner each = omega arith
each_count IsOne some (x ∷ xs) inner each =
    omega (arith, each_count IsOne some xs each.1 each.3, some x each.0 each.2, ap length each.4, length-append each.0 each.1)

pub character_some : (quote c : ℕ) (text : List ℕ) → IsCharacter quote c text → 0 < length text
character_some quote c text (grammar.itself is high other no_escape e) = omega (arith, (lead c).count, ap length e)
character_some quote c text (grammar.letter b is e) = rw e (omega arith)
character_some quote c text (grammar.numbered digits is numeral short value e) = rw e (omega arith)

scalar_bound : (c : ℕ) → IsScalar c → c < 1114112
scalar_bound c is = elim (scalar_cases c is) [ inl h ↦ omega arith | inr h ↦ h.1 ]

pub character_begins : (quote c : ℕ) (text rest : List ℕ) → IsCharacter quote c text → begins may_begin_character (text ++ rest) ≡ true
character_begins quote c text rest (grammar.itself is high other no_escape e) = by (encode_utf8 c) e refl
  where
    in_range : (b : ℕ) → ((32 ≤ b) × (b < 128)) ⊎ ((194 ≤ b) × (b ≤ 244)) → may_begin_character b ≡ true
    in_range b (inl h) = let low = h.0 in let most = h.1 in grind (arith, nat_tests)
    in_range b (inr h) = let low = h.0 in let most = h.1 in grind (arith, nat_tests)

    by : (bytes : List ℕ) → text ≡ bytes → encode_utf8 c ≡ bytes → begins may_begin_character (text ++ rest) ≡ true
    by [] e same = absurd (let size : continuation_len 0 + 1 ≡ 0 = subst (λ (t : List ℕ). continuation_len (get_or t 0 0) + 1 ≡ length t) same (lead c).count in omega arith)
    by (b ∷ bytes) e same =
        let first : get_or (encode_utf8 c) 0 0 ≡ b = ap (λ (t : List ℕ). get_or t 0 0) same in
        let most : b ≤ 244 = omega (arith, (lead c).last (scalar_bound c is), first) in
        rw e (in_range b (elim (lead c).first [
          | inl h ↦ inl (omega (arith, h.1, first), omega (arith, h.0, h.1, first))
          | inr h ↦ inr (omega (arith, h.1, first), most)
        ]))
character_begins quote c text rest (grammar.letter b is e) = rw e refl
character_begins quote c text rest (grammar.numbered digits is numeral short value e) = rw e refl

-- ---- the kinds of characters

pub narrow_reads : OneReads grammar.IsNarrow narrow_at 34
unfolding narrow_at
narrow_reads bytes x other e =
    let a = bind_ok (character_at bytes) (λ c. cond (ltb c.0 256) (Ok c) (refused bytes)) x e in
    let g = guard_held (ltb a.0.0 256) (Bad (length bytes)) a.0 x a.2 in
    let read = character_read 34 bytes a.0 other (λ h. absurd (omega arith)) a.1 in
    let P : ℕ × List ℕ → Type 0 = λ y. (text : List ℕ) × grammar.IsNarrow y.0 text × (bytes ≡ text ++ y.1) in
    subst P g.1 (read.text, (ltb-true _ _ g.0, read.is), read.parts)

pub narrow_again : OneAgain grammar.IsNarrow narrow_at 34
unfolding narrow_at
narrow_again c text rest is =
    let again = character_again 34 c text rest (λ h. absurd (omega arith)) (λ h. absurd (omega arith)) is.1 in
    (rw (again.read, lt-ltb c 256 is.0) refl, again.other)

pub character_reads : (quote : ℕ) → quote < 92 → OneReads (IsCharacter quote) character_at quote
character_reads quote low bytes x other e = let read = character_read quote bytes x other (λ h. absurd (omega arith)) e in (read.text, read.is, read.parts)

pub characters_again : (quote : ℕ) → quote < 92 → OneAgain (IsCharacter quote) character_at quote
characters_again quote low c text rest is =
    let again = character_again quote c text rest (λ h. absurd (omega (arith, h))) (λ h. absurd (omega arith)) is in (again.read, again.other)
