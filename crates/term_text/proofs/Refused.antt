-- What stands before a refusal may go on as a text of a term.
use Rattle.std.proofs.Common.{◌≡◌, ◌≢◌, ℕ, zero, suc, ◌+◌, ◌≤◌, Bool, true, false, cond, eqb, ltb, List, [], ◌∷◌, ◌++◌, length, take, drop, decimal, Option, Some, None, Result, Ok, Err, refl, sym, ap, subst, ◌∙◌, arith, append_assoc, append-nil, inl, inr, ◌⊎◌, lit<}
use Rattle.std.specs.Prelude.{◌==◌, min, pos, negsuc, slice_index}
use Rattle.std.specs.Char.{is_ascii_digit, is_ascii_hexdigit}
use Rattle.std.specs.List.{prefix_len}
use Rattle.std.specs.Str.{is_utf8, chars, continuation_len}
use Rattle.std.specs.Str.Parse.{IsNumeral, digits_value, signed_digits_value}
use Rattle.std.proofs.lemmas.Bool.{eqb-true}
use Rattle.std.proofs.lemmas.Fmt.{decimal_digit}
use Rattle.std.proofs.lemmas.Str.{encode_ascii}
use Rattle.term_core.specs.Tree.{int}
use Rattle.term_text.specs.declared.fault.Fault.{Fault}
use Rattle.term_text.specs.declared.fault.Fault.TheVariants.{Bad, WideInt}
use Rattle.term_text.specs.Grammar.{begins, is_name_byte, escaped, Each, Blanked, Comma, Elements, IsQuoted, IsNarrow, IsByte, IsCharacter, IsText}
use Rattle.term_text.specs.Grammar as grammar
use Rattle.term_text.specs.Places.{left_of}
use Rattle.term_text.specs.Reading.{◌>>=◌, refused, byte_at, is_positive_digit, positive_len, natural_len, number_len, fits, number_at, small_at, utf8_at, hex_digits_at, is_scalar, hex_at, letter_at, escape_at, character_at, narrow_at, quoted_at}
use Rattle.term_text.specs.Viable.{IsOpenEscape}
use Rattle.term_text.proofs.Steps.{byte_found, begun}
use Rattle.term_text.proofs.Quoting.{hex_taken, OneReads}

-- ---- what may go on

pub record Viable {A : Type 0} (IsOne : A → List ℕ → Type 0) (front : List ℕ) : Type 0 where
  pub kept : List ℕ
  pub escape : List ℕ
  pub more : List ℕ
  pub value : A
  pub parts : front ≡ kept ++ escape
  pub open_end : (escape ≡ []) ⊎ IsOpenEscape escape
  pub is : IsOne value (kept ++ more)

-- so many bytes are left behind what may go on
pub record Stuck {A : Type 0} (IsOne : A → List ℕ → Type 0) (bytes : List ℕ) (left : ℕ) : Type 0 where
  pub front : List ℕ
  pub back : List ℕ
  pub parts : bytes ≡ front ++ back
  pub size : length back ≡ left
  pub viable : Viable IsOne front

-- behind what goes on so
pub stuck_behind : {A : Type 0} (IsOne : A → List ℕ → Type 0) (before rest more : List ℕ) (x : A) (left : ℕ) → IsOne x (before ++ more) → length rest ≡ left → Stuck IsOne (before ++ rest) left
stuck_behind IsOne before rest more x left is size = record {
  front = before;
  back = rest;
  parts = refl;
  size = size;
  viable = record { kept = before; escape = []; more = more; value = x; parts = sym (append-nil before); open_end = inl refl; is = is };
}

-- within something larger
pub stuck_within : {A B : Type 0} (IsInner : A → List ℕ → Type 0) (IsOuter : B → List ℕ → Type 0) (before behind : List ℕ) (f : A → B)
    → ((x : A) (text : List ℕ) → IsInner x text → IsOuter (f x) (before ++ (text ++ behind))) → (bytes : List ℕ) (left : ℕ) → Stuck IsInner bytes left → Stuck IsOuter (before ++ bytes) left
stuck_within {A} {B} IsInner IsOuter before behind f around bytes left stuck =
    let v = stuck.viable in
    let regrouped : before ++ ((v.kept ++ v.more) ++ behind) ≡ (before ++ v.kept) ++ (v.more ++ behind) = simp append_assoc in
    record {
      front = before ++ stuck.front;
      back = stuck.back;
      parts = ap (λ (s : List ℕ). before ++ s) stuck.parts ∙ sym (append_assoc before stuck.front stuck.back);
      size = stuck.size;
      viable = record {
        kept = before ++ v.kept;
        escape = v.escape;
        more = v.more ++ behind;
        value = f v.value;
        parts = ap (λ (s : List ℕ). before ++ s) v.parts ∙ sym (append_assoc before v.kept v.escape);
        open_end = v.open_end;
        is = let P : List ℕ → Type 0 = IsOuter (f v.value) in subst P regrouped (around v.value (v.kept ++ v.more) v.is);
      };
    }

pub stuck_cast : {A : Type 0} (IsOne : A → List ℕ → Type 0) (bytes same : List ℕ) (left : ℕ) → bytes ≡ same → Stuck IsOne same left → Stuck IsOne bytes left
stuck_cast IsOne bytes same left e stuck = record { front = stuck.front; back = stuck.back; parts = e ∙ stuck.parts; size = stuck.size; viable = stuck.viable }

-- ---- steps that failed

pub bind_err : {A B : Type 0} (r : Result A Fault) (f : A → Result B Fault) (d : Fault) → (r >>= f) ≡ Err d → (r ≡ Err d) ⊎ ((x : A) × (r ≡ Ok x) × (f x ≡ Err d))
bind_err (Ok x) f d e = inr (x, refl, e)
bind_err (Err g) f d e = inl cc

pub refused_left : {A : Type 0} (bytes : List ℕ) (d : Fault) → refused {A = A} bytes ≡ Err d → length bytes ≡ left_of d
refused_left bytes d e = let same : Bad (length bytes) ≡ d = cc in ap left_of same

pub guard_refused : {A : Type 0} (b : Bool) (x : A) (f d : Fault) → cond b (Ok x) (Err f) ≡ Err d → left_of f ≡ left_of d
guard_refused true x f d e = absurd cc
guard_refused false x f d e = let same : f ≡ d = cc in ap left_of same

pub byte_refused : (k : ℕ) (bytes : List ℕ) (d : Fault) → byte_at k bytes ≡ Err d → length bytes ≡ left_of d
unfolding byte_at
byte_refused k bytes d e = guard_refused (begins (λ b. b == k) bytes) (drop 1 bytes) (Bad (length bytes)) d e

-- ---- numbers

positive_refused : (bytes : List ℕ) (d : Fault) → positive_len bytes ≡ Err d → length bytes ≡ left_of d
unfolding positive_len
positive_refused bytes d e = guard_refused (begins is_positive_digit bytes) (prefix_len is_ascii_digit bytes) (Bad (length bytes)) d e

natural_refused : (bytes : List ℕ) (d : Fault) → natural_len bytes ≡ Err d → length bytes ≡ left_of d
unfolding natural_len
natural_refused bytes d e = by (begins (λ b. b == 48) bytes) e
  where
    by : (t : Bool) → cond t (Ok 1) (positive_len bytes) ≡ Err d → length bytes ≡ left_of d
    by true e = absurd cc
    by false e = positive_refused bytes d e

nought_text : decimal 0 ≡ 48 ∷ []
nought_text = decimal_digit 0 (omega arith)

one_text : decimal 1 ≡ 49 ∷ []
one_text = decimal_digit 1 (omega arith)

pub zero_is : IsText (int (pos 0)) (48 ∷ [])
zero_is = (record { sfits = omega arith }, sym nought_text)

minus_one_is : IsText (int (negsuc 0)) (45 ∷ 49 ∷ [])
minus_one_is = (record { sfits = omega arith }, ap (λ (s : List ℕ). 45 ∷ s) (sym one_text))

number_len_refused : (bytes : List ℕ) (d : Fault) → number_len bytes ≡ Err d → Stuck IsText bytes (left_of d)
unfolding number_len
number_len_refused bytes d e = by (begins (λ b. b == 45) bytes) refl e
  where
    by : (t : Bool) → begins (λ b. b == 45) bytes ≡ t → cond t (positive_len (drop 1 bytes) >>= λ n. Ok (n + 1)) (natural_len bytes) ≡ Err d → Stuck IsText bytes (left_of d)
    by true here e =
        let size : length (drop 1 bytes) ≡ left_of d = elim (bind_err (positive_len (drop 1 bytes)) (λ n. Ok (n + 1)) d e) [ inl h ↦ positive_refused (drop 1 bytes) d h | inr h ↦ absurd (let wrong = h.2 in cc) ] in
        stuck_cast IsText bytes (45 ∷ drop 1 bytes) (left_of d) (begun 45 bytes here) (stuck_behind IsText (45 ∷ []) (drop 1 bytes) (49 ∷ []) (int (negsuc 0)) (left_of d) minus_one_is size)
    by false other e = stuck_behind IsText [] bytes (48 ∷ []) (int (pos 0)) (left_of d) zero_is (natural_refused bytes d e)

pub number_refused : (bytes : List ℕ) (d : Fault) → number_at bytes ≡ Err d → Stuck IsText bytes (left_of d)
unfolding number_at
number_refused bytes d e =
    elim (bind_err (number_len bytes) (λ n. cond (fits (signed_digits_value 10 (take n bytes))) (Ok (int (signed_digits_value 10 (take n bytes)), drop n bytes)) (Err (WideInt (length bytes)))) d e) [
      | inl h ↦ number_len_refused bytes d h
      | inr h ↦
          let size = guard_refused (fits (signed_digits_value 10 (take h.0 bytes))) (int (signed_digits_value 10 (take h.0 bytes)), drop h.0 bytes) (WideInt (length bytes)) d h.2 in
          stuck_behind IsText [] bytes (48 ∷ []) (int (pos 0)) (left_of d) zero_is size
    ]

small_left : (bytes : List ℕ) (d : Fault) → small_at bytes ≡ Err d → length bytes ≡ left_of d
unfolding small_at
small_left bytes d e =
    elim (bind_err (natural_len bytes) (λ n. cond (ltb (digits_value 10 (take n bytes)) 256) (Ok (digits_value 10 (take n bytes), drop n bytes)) (refused bytes)) d e) [
      | inl h ↦ natural_refused bytes d h
      | inr h ↦ guard_refused (ltb (digits_value 10 (take h.0 bytes)) 256) (digits_value 10 (take h.0 bytes), drop h.0 bytes) (Bad (length bytes)) d h.2
    ]

pub byte_is : IsByte 0 (48 ∷ [])
byte_is = (omega arith, sym nought_text)

pub small_refused : (bytes : List ℕ) (d : Fault) → small_at bytes ≡ Err d → Stuck IsByte bytes (left_of d)
small_refused bytes d e = stuck_behind IsByte [] bytes (48 ∷ []) 0 (left_of d) byte_is (small_left bytes d e)

-- ---- characters

-- a kind of character that has the letter `a`, the escape `\n` and the escape by number 0
pub record HasSome (IsOne : ℕ → List ℕ → Type 0) : Type 0 where
  pub plain : IsOne 97 (97 ∷ [])
  pub letter : IsOne 10 (92 ∷ 110 ∷ [])
  pub numbered : IsOne 0 (92 ∷ 120 ∷ 123 ∷ 48 ∷ 125 ∷ [])

zero_numeral : IsNumeral 16 (48 ∷ [])
zero_numeral = (lit< tt, (lit< tt, tt))

pub characters_have : (quote : ℕ) → quote ≢ 97 → HasSome (IsCharacter quote)
characters_have quote other = record {
  plain = grammar.itself refl (omega arith) (λ e. other (sym e)) (λ e. absurd (omega arith)) (sym (encode_ascii 97 (omega arith)));
  letter = grammar.letter 110 refl refl;
  numbered = grammar.numbered (48 ∷ []) refl zero_numeral (omega arith) refl refl;
}

pub narrow_have : HasSome IsNarrow
narrow_have =
    let some = characters_have 34 (λ e. absurd (omega arith)) in
    record { plain = (omega arith, some.plain); letter = (omega arith, some.letter); numbered = (omega arith, some.numbered) }

utf8_refused : (bytes : List ℕ) (d : Fault) → utf8_at bytes ≡ Err d → length bytes ≡ left_of d
unfolding utf8_at
utf8_refused [] d e = refused_left {A = ℕ × List ℕ} [] d e
utf8_refused (b ∷ rest) d e =
    let n = min (continuation_len b + 1) (length (b ∷ rest)) in
    guard_refused (is_utf8 (take n (b ∷ rest))) (slice_index (chars (take n (b ∷ rest))) 0, drop n (b ∷ rest)) (Bad (length (b ∷ rest))) d e

hex_digits_refused : (bytes : List ℕ) (d : Fault) → hex_digits_at bytes ≡ Err d → length bytes ≡ left_of d
unfolding hex_digits_at
hex_digits_refused bytes d e = by (prefix_len is_ascii_hexdigit (take 6 bytes) == 0) e
  where
    by : (t : Bool) → cond {A = Result (List ℕ × List ℕ) Fault} t (refused bytes) (Ok (take (prefix_len is_ascii_hexdigit (take 6 bytes)) bytes, drop (prefix_len is_ascii_hexdigit (take 6 bytes)) bytes)) ≡ Err d → length bytes ≡ left_of d
    by true e = refused_left {A = List ℕ × List ℕ} bytes d e
    by false e = absurd cc

-- within the number of an escape
in_number : (IsOne : ℕ → List ℕ → Type 0) → HasSome IsOne → (digits rest : List ℕ) (left : ℕ) → IsNumeral 16 digits → length rest ≡ left → Stuck IsOne (92 ∷ 120 ∷ 123 ∷ (digits ++ rest)) left
in_number IsOne some digits rest left is size = record {
  front = 92 ∷ 120 ∷ 123 ∷ digits;
  back = rest;
  parts = refl;
  size = size;
  viable = record { kept = []; escape = 92 ∷ 120 ∷ 123 ∷ digits; more = 97 ∷ []; value = 97; parts = refl; open_end = inr (digits, is, refl); is = some.plain };
}

hex_refused : (IsOne : ℕ → List ℕ → Type 0) → HasSome IsOne → (bytes : List ℕ) (d : Fault) → hex_at bytes ≡ Err d → Stuck IsOne (92 ∷ 120 ∷ bytes) (left_of d)
unfolding hex_at
hex_refused IsOne some bytes d e =
    elim (bind_err (byte_at 123 bytes) (λ inner. hex_digits_at inner >>= end) d e) [
      | inl h ↦ stuck_behind IsOne (92 ∷ 120 ∷ []) bytes (123 ∷ 48 ∷ 125 ∷ []) 0 (left_of d) some.numbered (byte_refused 123 bytes d h)
      | inr h ↦ stuck_cast IsOne (92 ∷ 120 ∷ bytes) (92 ∷ 120 ∷ 123 ∷ h.0) (left_of d) (ap (λ (s : List ℕ). 92 ∷ 120 ∷ s) (byte_found 123 bytes h.0 h.1)) (inside h.0 (byte_found 123 bytes h.0 h.1) h.2)
    ]
  where
    end : List ℕ × List ℕ → Result (ℕ × List ℕ) Fault
    end digits = byte_at 125 digits.1 >>= λ rest. cond (is_scalar (digits_value 16 digits.0)) (Ok (digits_value 16 digits.0, rest)) (Err (Bad (length bytes + 2)))

    last : (inner : List ℕ) (digits : List ℕ × List ℕ) → bytes ≡ 123 ∷ inner → inner ≡ digits.0 ++ digits.1 → IsNumeral 16 digits.0 → end digits ≡ Err d → Stuck IsOne (92 ∷ 120 ∷ 123 ∷ inner) (left_of d)
    last inner digits start parts is e =
        elim (bind_err (byte_at 125 digits.1) (λ rest. cond (is_scalar (digits_value 16 digits.0)) (Ok (digits_value 16 digits.0, rest)) (Err (Bad (length bytes + 2)))) d e) [
          | inl h ↦ stuck_cast IsOne (92 ∷ 120 ∷ 123 ∷ inner) (92 ∷ 120 ∷ 123 ∷ (digits.0 ++ digits.1)) (left_of d) (ap (λ (s : List ℕ). 92 ∷ 120 ∷ 123 ∷ s) parts) (in_number IsOne some digits.0 digits.1 (left_of d) is (byte_refused 125 digits.1 d h))
          | inr h ↦
              let size : length bytes + 2 ≡ left_of d = guard_refused (is_scalar (digits_value 16 digits.0)) (digits_value 16 digits.0, h.0) (Bad (length bytes + 2)) d h.2 in
              stuck_behind IsOne [] (92 ∷ 120 ∷ 123 ∷ inner) (97 ∷ []) 97 (left_of d) some.plain (omega (arith, size, ap length start))
        ]

    inside : (inner : List ℕ) → bytes ≡ 123 ∷ inner → (hex_digits_at inner >>= end) ≡ Err d → Stuck IsOne (92 ∷ 120 ∷ 123 ∷ inner) (left_of d)
    inside inner start e =
        elim (bind_err (hex_digits_at inner) end d e) [
          | inl h ↦ stuck_behind IsOne (92 ∷ 120 ∷ 123 ∷ []) inner (48 ∷ 125 ∷ []) 0 (left_of d) some.numbered (hex_digits_refused inner d h)
          | inr h ↦ let digits = hex_taken inner h.0 h.1 in last inner h.0 start digits.parts digits.numeral h.2
        ]

letter_refused : (o : Option ℕ) (bytes : List ℕ) (d : Fault) → letter_at o bytes ≡ Err d → length bytes ≡ left_of d
letter_refused None bytes d e = refused_left {A = ℕ × List ℕ} bytes d e
letter_refused (Some c) bytes d e = absurd cc

escape_refused : (IsOne : ℕ → List ℕ → Type 0) → HasSome IsOne → (bytes : List ℕ) (d : Fault) → escape_at bytes ≡ Err d → Stuck IsOne (92 ∷ bytes) (left_of d)
unfolding escape_at
escape_refused IsOne some [] d e = stuck_behind IsOne (92 ∷ []) [] (110 ∷ []) 10 (left_of d) some.letter (refused_left {A = ℕ × List ℕ} [] d e)
escape_refused IsOne some (b ∷ rest) d e = by (eqb b 120) refl e
  where
    by : (t : Bool) → eqb b 120 ≡ t → cond t (hex_at rest) (letter_at (escaped b) (b ∷ rest)) ≡ Err d → Stuck IsOne (92 ∷ b ∷ rest) (left_of d)
    by true is e = stuck_cast IsOne (92 ∷ b ∷ rest) (92 ∷ 120 ∷ rest) (left_of d) (ap (λ (n : ℕ). 92 ∷ n ∷ rest) (eqb-true b 120 is)) (hex_refused IsOne some rest d e)
    by false is e = stuck_behind IsOne (92 ∷ []) (b ∷ rest) (110 ∷ []) 10 (left_of d) some.letter (letter_refused (escaped b) (b ∷ rest) d e)

pub character_refused : (IsOne : ℕ → List ℕ → Type 0) → HasSome IsOne → (bytes : List ℕ) (d : Fault) → character_at bytes ≡ Err d → Stuck IsOne bytes (left_of d)
unfolding character_at
character_refused IsOne some [] d e = stuck_behind IsOne [] [] (97 ∷ []) 97 (left_of d) some.plain (refused_left {A = ℕ × List ℕ} [] d e)
character_refused IsOne some (b ∷ rest) d e = by (eqb b 92) (ltb b 32) refl e
  where
    by : (t u : Bool) → eqb b 92 ≡ t → cond t (escape_at rest) (cond u (refused (b ∷ rest)) (utf8_at (b ∷ rest))) ≡ Err d → Stuck IsOne (b ∷ rest) (left_of d)
    by true u is e = stuck_cast IsOne (b ∷ rest) (92 ∷ rest) (left_of d) (ap (λ (n : ℕ). n ∷ rest) (eqb-true b 92 is)) (escape_refused IsOne some rest d e)
    by false true is e = stuck_behind IsOne [] (b ∷ rest) (97 ∷ []) 97 (left_of d) some.plain (refused_left {A = ℕ × List ℕ} (b ∷ rest) d e)
    by false false is e = stuck_behind IsOne [] (b ∷ rest) (97 ∷ []) 97 (left_of d) some.plain (utf8_refused (b ∷ rest) d e)

pub narrow_refused : (bytes : List ℕ) (d : Fault) → narrow_at bytes ≡ Err d → Stuck IsNarrow bytes (left_of d)
unfolding narrow_at
narrow_refused bytes d e =
    elim (bind_err (character_at bytes) (λ c. cond (ltb c.0 256) (Ok c) (refused bytes)) d e) [
      | inl h ↦ character_refused IsNarrow narrow_have bytes d h
      | inr h ↦ stuck_behind IsNarrow [] bytes (97 ∷ []) 97 (left_of d) narrow_have.plain (guard_refused (ltb h.0.0 256) h.0 (Bad (length bytes)) d h.2)
    ]

-- ---- characters up to the quote

-- so many characters, and the quote behind them
abbrev pub Closed : ℕ → ℕ → (ℕ → List ℕ → Type 0) → List ℕ → List ℕ → Type 0
Closed quote most IsOne cs text = (inner : List ℕ) × Each IsOne cs inner × (text ≡ inner ++ quote ∷ []) × (length cs ≤ most)

abbrev pub OneRefused : {A : Type 0} → (A → List ℕ → Type 0) → (List ℕ → Result (A × List ℕ) Fault) → Type 0
OneRefused IsOne one = (bytes : List ℕ) (d : Fault) → one bytes ≡ Err d → Stuck IsOne bytes (left_of d)

pub quoted_refused : (IsOne : ℕ → List ℕ → Type 0) (one : List ℕ → Result (ℕ × List ℕ) Fault) (quote : ℕ) → OneReads IsOne one quote → OneRefused IsOne one
    → (most : ℕ) (bytes : List ℕ) (d : Fault) → quoted_at one quote most bytes ≡ Err d → Stuck (Closed quote most IsOne) bytes (left_of d)
unfolding quoted_at
quoted_refused IsOne one quote reads refuses zero bytes d e =
    let size : length bytes ≡ left_of d = elim (bind_err (byte_at quote bytes) (λ rest. Ok ([], rest)) d e) [ inl h ↦ byte_refused quote bytes d h | inr h ↦ absurd (let wrong = h.2 in cc) ] in
    stuck_behind (Closed quote 0 IsOne) [] bytes (quote ∷ []) [] (left_of d) ([], refl, refl, omega arith) size
quoted_refused IsOne one quote reads refuses (suc most) bytes d e = by (begins (λ b. b == quote) bytes) refl (quoted_refused IsOne one quote reads refuses most) e
  where
    more : ℕ × List ℕ → Result (List ℕ × List ℕ) Fault
    more first = quoted_at one quote most first.1 >>= λ others. Ok (first.0 ∷ others.0, others.1)

    alone : (c : ℕ) (text : List ℕ) → IsOne c text → Closed quote (suc most) IsOne (c ∷ []) ([] ++ (text ++ quote ∷ []))
    alone c text is = (text, (text, [], is, refl, sym (append-nil text)), refl, omega arith)

    in_front : (c : ℕ) (first : List ℕ) → IsOne c first → (cs text : List ℕ) → Closed quote most IsOne cs text → Closed quote (suc most) IsOne (c ∷ cs) (first ++ (text ++ []))
    in_front c first is cs text (inner, each, whole, short) =
        (first ++ inner, (first, inner, is, each, refl), ap (λ (s : List ℕ). first ++ s) (append-nil text ∙ whole) ∙ sym (append_assoc first inner (quote ∷ [])), omega arith)

    by : (t : Bool) → begins (λ b. b == quote) bytes ≡ t → ((mid : List ℕ) (f : Fault) → quoted_at one quote most mid ≡ Err f → Stuck (Closed quote most IsOne) mid (left_of f))
        → cond t (Ok ([], drop 1 bytes)) (one bytes >>= more) ≡ Err d → Stuck (Closed quote (suc most) IsOne) bytes (left_of d)
    by true here again e = absurd cc
    by false other again e = elim (bind_err (one bytes) more d e) [
      | inl h ↦ stuck_within IsOne (Closed quote (suc most) IsOne) [] (quote ∷ []) (λ c. c ∷ []) alone bytes (left_of d) (refuses bytes d h)
      | inr h ↦
          let first = reads bytes h.0 other h.1 in
          let others : quoted_at one quote most h.0.1 ≡ Err d = elim (bind_err (quoted_at one quote most h.0.1) (λ others. Ok (h.0.0 ∷ others.0, others.1)) d h.2) [ inl k ↦ k | inr k ↦ absurd (let wrong = k.2 in cc) ] in
          stuck_cast (Closed quote (suc most) IsOne) bytes (first.0 ++ h.0.1) (left_of d) first.2
          (stuck_within (Closed quote most IsOne) (Closed quote (suc most) IsOne) first.0 [] (λ cs. h.0.0 ∷ cs) (in_front h.0.0 first.0 first.1) h.0.1 (left_of d) (again h.0.1 d others))
    ]
