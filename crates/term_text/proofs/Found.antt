-- What is read is a text of its tree.
use Rattle.std.proofs.Common.{◌≡◌, ℕ, zero, suc, ◌+◌, ◌-◌, ◌≤◌, Bool, true, false, cond, not, leb, List, [], ◌∷◌, ◌++◌, length, take, drop, map, decimal, Result, Ok, Err, refl, sym, ap, subst, ◌∙◌, arith, append_assoc, inl, inr, ◌⊎◌, length-append}
use Rattle.std.specs.Prelude.{◌==◌, ◌&&◌, IfOk, pos, slice_range}
use Rattle.std.specs.Char.{is_ascii_lowercase}
use Rattle.std.specs.Fmt.{signed_decimal}
use Rattle.std.specs.List.{prefix_len}
use Rattle.std.specs.Str.{encode_utf8_all}
use Rattle.std.proofs.lemmas.Bool.{and_from, leb-true}
use Rattle.std.proofs.lemmas.Bool.Decides.{nat_tests}
use Rattle.std.proofs.lemmas.List.{take-append-drop, take_at, drop_at, length-take, length-drop, drop-drop}
use Rattle.term_core.specs.Tree.{Tree, int, atom, tuple, list, bin, depth}
use Rattle.term_core.specs.View.{trees_of, tree_of}
use Rattle.term_core.specs.declared.term.Term.{Term}
use Rattle.term_text.specs.declared.error.TextErr.{TextErr}
use Rattle.term_text.specs.declared.fault.Fault.{Fault}
use Rattle.term_text.specs.declared.fault.Fault.TheVariants.{Bad, TooDeep}
use Rattle.term_text.specs.Grammar.{begins, is_name_byte, is_name, Blanked, Elements, IsQuoted, IsNarrow, IsByte, IsAtom, IsCharacter, IsText, Stops, numbers}
use Rattle.term_text.specs.Grammar as grammar
use Rattle.term_text.specs.Places.{Stands, Answers, read, with_places}
use Rattle.term_text.specs.Reading.{◌>>=◌, refused, byte_at, unblanked, number_at, small_at, character_at, narrow_at, quoted_at, as_numbers, inner_at, name_at, quoted_atom_at, may_begin_character, string_at, byte_string_at, bytes_at, binary_at, tuple_at, list_at, begun_at, may_begin_term, term_at}
use Rattle.term_text.proofs.Fronts.{ok_is, front_passes}
use Rattle.term_text.proofs.Steps.{bind_ok, guard_held, chosen, begun, byte_found, front_stops}
use Rattle.term_text.proofs.Decimals.{number_read, small_read}
use Rattle.term_text.proofs.Quoting.{QuotedRead, quoted_read, character_reads, narrow_reads, characters_again, character_begins}
use Rattle.term_text.proofs.Listing.{OneReads, inner_read, blanked_read}
use Rattle.term_text.proofs.Texts.{IsTextWithin, texts_of, numbers_depth}

-- a text of a tree of so many levels, and the bytes behind it
pub record IsRead (levels : ℕ) (bytes : List ℕ) (x : Tree × List ℕ) : Type 0 where
  pub text : List ℕ
  pub is : IsText x.0 text
  pub parts : bytes ≡ text ++ x.1
  pub deep : depth x.0 ≤ levels
  pub whole : Stops x.0 text x.1

number_is : (levels : ℕ) (bytes : List ℕ) (x : Tree × List ℕ) → number_at bytes ≡ Ok x → IsRead (suc levels) bytes x
number_is levels bytes x e =
    let found = number_read bytes x e in
    subst (λ (t : Tree). IsRead (suc levels) bytes (t, x.1)) found.is (record { text = signed_decimal found.n; is = (found.range, refl); parts = found.parts; deep = omega arith; whole = found.stops })

-- ---- atoms

lower_is_name : (b : ℕ) → is_ascii_lowercase b ≡ true → is_name_byte b ≡ true
lower_is_name b h = grind (arith, nat_tests)

name_front : (bytes : List ℕ) → begins is_ascii_lowercase bytes ≡ true → is_name (take (prefix_len is_name_byte bytes) bytes) ≡ true
name_front [] h = absurd cc
name_front (b ∷ rest) h =
    let one : 1 + prefix_len is_name_byte rest ≡ suc (prefix_len is_name_byte rest) = omega arith in
    rw (lower_is_name b h, one) (and_from _ _ h (front_passes is_name_byte rest))

name_is : (levels : ℕ) (bytes : List ℕ) (x : Tree × List ℕ) → begins is_ascii_lowercase bytes ≡ true → name_at bytes ≡ Ok x → IsRead (suc levels) bytes x
unfolding name_at
name_is levels bytes x lower e =
    let n : ℕ = prefix_len is_name_byte bytes in
    let g = guard_held (leb n 255) (Bad (length (drop 255 bytes))) (atom (take n bytes), drop n bytes) x e in
    let short : length (take n bytes) ≤ 255 = omega (arith, length-take n bytes, leb-true _ _ g.0) in
    subst (IsRead (suc levels) bytes) g.1 (record {
      text = take n bytes;
      is = grammar.bare (name_front bytes lower) short refl;
      parts = sym (take-append-drop n bytes);
      deep = omega arith;
      whole = λ name. front_stops is_name_byte bytes;
    })

-- in quotes, behind the first
quoted_whole : (quote : ℕ) (bytes inner rest : List ℕ) → bytes ≡ inner ++ quote ∷ rest → quote ∷ bytes ≡ (quote ∷ (inner ++ quote ∷ [])) ++ rest
quoted_whole quote bytes inner rest e = ap (λ (s : List ℕ). quote ∷ s) (e ∙ sym (append_assoc inner (quote ∷ []) rest))

quoted_atom_is : (levels : ℕ) (bytes : List ℕ) (x : Tree × List ℕ) → quoted_atom_at bytes ≡ Ok x → IsRead (suc levels) (39 ∷ bytes) x
unfolding quoted_atom_at
quoted_atom_is levels bytes x e =
    let a = bind_ok (quoted_at character_at 39 255 bytes) (λ cs. Ok (atom (encode_utf8_all cs.0), cs.1)) x e in
    let found = quoted_read (IsCharacter 39) character_at 39 (character_reads 39 (omega arith)) 255 bytes a.0 a.1 in
    subst (IsRead (suc levels) (39 ∷ bytes)) (ok_is (atom (encode_utf8_all a.0.0), a.0.1) x a.2) (record {
      text = 39 ∷ (found.inner ++ 39 ∷ []);
      is = grammar.quoted a.0.0 (found.inner, found.each, refl) found.short refl;
      parts = quoted_whole 39 bytes found.inner a.0.1 found.parts;
      deep = omega arith;
      whole = λ name. absurd cc;
    })

-- ---- strings

-- a character more would be too deep
shallow : (levels : ℕ) (bytes : List ℕ) (x : List ℕ × List ℕ) → ((levels == 0) && not (begins (λ b. b == 34) bytes) && begins may_begin_character bytes) ≡ false
    → QuotedRead (IsCharacter 34) 34 (length bytes) bytes x → depth (list (numbers x.0)) ≤ suc levels
shallow zero bytes ([], rest) fits found = omega arith
shallow zero bytes (c ∷ cs, rest) fits found =
    let first = found.each in
    let whole : bytes ≡ first.0 ++ (first.1 ++ 34 ∷ rest) = found.parts ∙ ap (λ (s : List ℕ). s ++ 34 ∷ rest) first.4 ∙ append_assoc first.0 first.1 (34 ∷ rest) in
    let other : begins (λ b. b == 34) bytes ≡ false = ap (begins (λ b. b == 34)) whole ∙ (characters_again 34 (omega arith) c first.0 (first.1 ++ 34 ∷ rest) first.2).1 in
    let one : begins may_begin_character bytes ≡ true = ap (begins may_begin_character) whole ∙ character_begins 34 c first.0 (first.1 ++ 34 ∷ rest) first.2 in
    absurd (let deep : true ≡ false = sym (ap (λ (b : Bool). not b && begins may_begin_character bytes) other ∙ one) ∙ fits in cc)
shallow (suc levels) bytes x fits found = omega (arith, numbers_depth x.0)

string_is : (levels : ℕ) (bytes : List ℕ) (x : Tree × List ℕ) → string_at levels bytes ≡ Ok x → IsRead (suc levels) (34 ∷ bytes) x
unfolding string_at
string_is levels bytes x e = by ((levels == 0) && not (begins (λ b. b == 34) bytes) && begins may_begin_character bytes) refl e
  where
    end : List Tree × List ℕ → Result (Tree × List ℕ) Fault
    end ts = Ok (list (trees_of ts.0), ts.1)

    by : (t : Bool) → ((levels == 0) && not (begins (λ b. b == 34) bytes) && begins may_begin_character bytes) ≡ t → cond t (Err (TooDeep (length bytes))) (as_numbers (quoted_at character_at 34 (length bytes) bytes) >>= end) ≡ Ok x → IsRead (suc levels) (34 ∷ bytes) x
    by true deep e = absurd cc
    by false fits e =
        let a = bind_ok (as_numbers (quoted_at character_at 34 (length bytes) bytes)) end x e in
        let b = bind_ok (quoted_at character_at 34 (length bytes) bytes) (λ cs. Ok (map (λ n. int (pos n)) cs.0, cs.1)) a.0 a.1 in
        let found = quoted_read (IsCharacter 34) character_at 34 (character_reads 34 (omega arith)) (length bytes) bytes b.0 b.1 in
        let same : (list (numbers b.0.0), b.0.1) ≡ x = ap (λ (ts : List Tree × List ℕ). (list (trees_of ts.0), ts.1)) (ok_is (map (λ n. int (pos n)) b.0.0, b.0.1) a.0 b.2) ∙ ok_is (list (trees_of a.0.0), a.0.1) x a.2 in
        subst (IsRead (suc levels) (34 ∷ bytes)) same (record {
          text = 34 ∷ (found.inner ++ 34 ∷ []);
          is = inr (b.0.0, (found.inner, found.each, refl), refl);
          parts = quoted_whole 34 bytes found.inner b.0.1 found.parts;
          deep = shallow levels bytes b.0 fits found;
          whole = tt;
        })

-- ---- binaries

pub small_reads : OneReads IsByte small_at
small_reads bytes x e = let found = small_read bytes x e in (decimal x.0, (found.range, refl), found.parts)

-- the inside of a binary, up to the first of the closing bytes
pub record BytesRead (bytes : List ℕ) (x : List ℕ × List ℕ) : Type 0 where
  pub inner : List ℕ
  pub is : Elements IsByte x.0 inner ⊎ Blanked (IsQuoted 34 IsNarrow x.0) inner
  pub parts : bytes ≡ inner ++ 62 ∷ x.1

byte_string_is : (bytes behind : List ℕ) (x : List ℕ × List ℕ) → unblanked bytes ≡ 34 ∷ behind → byte_string_at behind ≡ Ok x → BytesRead bytes x
unfolding byte_string_at
byte_string_is bytes behind x start e =
    let a = bind_ok (quoted_at narrow_at 34 (length behind) behind) (λ cs. byte_at 62 (unblanked cs.1) >>= λ rest. Ok (cs.0, rest)) x e in
    let b = bind_ok (byte_at 62 (unblanked a.0.1)) (λ rest. Ok (a.0.0, rest)) x a.2 in
    let found = quoted_read IsNarrow narrow_at 34 narrow_reads (length behind) behind a.0 a.1 in
    let blanked = blanked_read (IsQuoted 34 IsNarrow a.0.0) bytes (34 ∷ (found.inner ++ 34 ∷ [])) a.0.1 (found.inner, found.each, refl) (start ∙ quoted_whole 34 behind found.inner a.0.1 found.parts) in
    subst (BytesRead bytes) (ok_is (a.0.0, b.0) x b.2) (record {
      inner = blanked.text;
      is = inr blanked.is;
      parts = blanked.parts ∙ ap (λ (s : List ℕ). blanked.text ++ s) (byte_found 62 (unblanked a.0.1) b.0 b.1);
    })

pub bytes_is : (bytes : List ℕ) (x : List ℕ × List ℕ) → bytes_at bytes ≡ Ok x → BytesRead bytes x
unfolding bytes_at
bytes_is bytes x e = by (begins (λ b. b == 34) (unblanked bytes)) refl e
  where
    by : (t : Bool) → begins (λ b. b == 34) (unblanked bytes) ≡ t → cond t (byte_string_at (drop 1 (unblanked bytes))) (inner_at small_at 62 bytes) ≡ Ok x → BytesRead bytes x
    by true here e = byte_string_is bytes (drop 1 (unblanked bytes)) x (begun 34 (unblanked bytes) here) e
    by false other e = let found = inner_read IsByte small_at small_reads 62 bytes x e in record { inner = found.inner; is = inl found.are; parts = found.parts }

binary_is : (levels : ℕ) (bytes : List ℕ) (x : Tree × List ℕ) → binary_at bytes ≡ Ok x → IsRead (suc levels) (60 ∷ bytes) x
unfolding binary_at
binary_is levels bytes x e =
    let a = bind_ok (byte_at 60 bytes) (λ inner. bytes_at inner >>= λ found. byte_at 62 found.1 >>= λ rest. Ok (bin found.0, rest)) x e in
    let b = bind_ok (bytes_at a.0) (λ found. byte_at 62 found.1 >>= λ rest. Ok (bin found.0, rest)) x a.2 in
    let d = bind_ok (byte_at 62 b.0.1) (λ rest. Ok (bin b.0.0, rest)) x b.2 in
    let found = bytes_is a.0 b.0 b.1 in
    let inside : a.0 ≡ (found.inner ++ 62 ∷ 62 ∷ []) ++ d.0 = found.parts ∙ ap (λ (s : List ℕ). found.inner ++ 62 ∷ s) (byte_found 62 b.0.1 d.0 d.1) ∙ sym (append_assoc found.inner (62 ∷ 62 ∷ []) d.0) in
    subst (IsRead (suc levels) (60 ∷ bytes)) (ok_is (bin b.0.0, d.0) x d.2) (record {
      text = 60 ∷ 60 ∷ (found.inner ++ 62 ∷ 62 ∷ []);
      is = kind b.0.0 found.inner found.is;
      parts = ap (λ (s : List ℕ). 60 ∷ s) (byte_found 60 bytes a.0 a.1) ∙ ap (λ (s : List ℕ). 60 ∷ 60 ∷ s) inside;
      deep = omega arith;
      whole = tt;
    })
  where
    kind : (b inner : List ℕ) → Elements IsByte b inner ⊎ Blanked (IsQuoted 34 IsNarrow b) inner → IsText (bin b) (60 ∷ 60 ∷ (inner ++ 62 ∷ 62 ∷ []))
    kind b inner (inl are) = inl (inner, are, refl)
    kind b inner (inr is) = inr (inner, is, refl)

-- ---- tuples and lists

abbrev Reads : ℕ → (List ℕ → Result (Tree × List ℕ) Fault) → Type 0
Reads levels one = (bytes : List ℕ) (x : Tree × List ℕ) → one bytes ≡ Ok x → IsRead levels bytes x

one_reads : (levels : ℕ) (one : List ℕ → Result (Tree × List ℕ) Fault) → Reads levels one → OneReads (IsTextWithin levels) one
one_reads levels one reads bytes x e = let found = reads bytes x e in (found.text, (found.is, found.deep), found.parts)

bracketed : (opening close : ℕ) (bytes inner rest : List ℕ) → bytes ≡ inner ++ close ∷ rest → opening ∷ bytes ≡ (opening ∷ (inner ++ close ∷ [])) ++ rest
bracketed opening close bytes inner rest e = ap (λ (s : List ℕ). opening ∷ s) (e ∙ sym (append_assoc inner (close ∷ []) rest))

tuple_is : (levels : ℕ) (one : List ℕ → Result (Tree × List ℕ) Fault) → Reads levels one → (bytes : List ℕ) (x : Tree × List ℕ) → tuple_at one bytes ≡ Ok x → IsRead (suc levels) (123 ∷ bytes) x
unfolding tuple_at
tuple_is levels one reads bytes x e =
    let a = bind_ok (inner_at one 125 bytes) (λ items. Ok (tuple (trees_of items.0), items.1)) x e in
    let found = inner_read (IsTextWithin levels) one (one_reads levels one reads) 125 bytes a.0 a.1 in
    let texts = texts_of levels a.0.0 found.inner found.are in
    subst (IsRead (suc levels) (123 ∷ bytes)) (ok_is (tuple (trees_of a.0.0), a.0.1) x a.2) (record {
      text = 123 ∷ (found.inner ++ 125 ∷ []);
      is = (found.inner, texts.0, refl);
      parts = bracketed 123 125 bytes found.inner a.0.1 found.parts;
      deep = omega (arith, texts.1);
      whole = tt;
    })

list_is : (levels : ℕ) (one : List ℕ → Result (Tree × List ℕ) Fault) → Reads levels one → (bytes : List ℕ) (x : Tree × List ℕ) → list_at one bytes ≡ Ok x → IsRead (suc levels) (91 ∷ bytes) x
unfolding list_at
list_is levels one reads bytes x e =
    let a = bind_ok (inner_at one 93 bytes) (λ items. Ok (list (trees_of items.0), items.1)) x e in
    let found = inner_read (IsTextWithin levels) one (one_reads levels one reads) 93 bytes a.0 a.1 in
    let texts = texts_of levels a.0.0 found.inner found.are in
    subst (IsRead (suc levels) (91 ∷ bytes)) (ok_is (list (trees_of a.0.0), a.0.1) x a.2) (record {
      text = 91 ∷ (found.inner ++ 93 ∷ []);
      is = inl (found.inner, texts.0, refl);
      parts = bracketed 91 93 bytes found.inner a.0.1 found.parts;
      deep = omega (arith, texts.1);
      whole = tt;
    })

-- ---- terms

-- one first byte, or one of the others
by_first : (k levels : ℕ) (bytes : List ℕ) (x : Tree × List ℕ) (here other : Result (Tree × List ℕ) Fault) → cond (begins (λ b. b == k) bytes) here other ≡ Ok x
    → (here ≡ Ok x → IsRead levels (k ∷ drop 1 bytes) x) → (other ≡ Ok x → IsRead levels bytes x) → IsRead levels bytes x
by_first k levels bytes x here other e p q =
    elim (chosen (begins (λ b. b == k) bytes) here other (Ok x) e) [
      | inl h ↦ subst (λ (s : List ℕ). IsRead levels s x) (sym (begun k bytes h.0)) (p h.1)
      | inr h ↦ q h.1
    ]

begun_is : (levels : ℕ) (one : List ℕ → Result (Tree × List ℕ) Fault) → Reads levels one → Reads (suc levels) (begun_at one levels)
unfolding begun_at
begun_is levels one reads bytes x e =
    let rest : List ℕ = drop 1 bytes in
    let from_60 : Result (Tree × List ℕ) Fault = cond (begins (λ b. b == 60) bytes) (binary_at rest) (number_at bytes) in
    let from_91 : Result (Tree × List ℕ) Fault = cond (begins (λ b. b == 91) bytes) (list_at one rest) from_60 in
    let from_123 : Result (Tree × List ℕ) Fault = cond (begins (λ b. b == 123) bytes) (tuple_at one rest) from_91 in
    let from_34 : Result (Tree × List ℕ) Fault = cond (begins (λ b. b == 34) bytes) (string_at levels rest) from_123 in
    let from_39 : Result (Tree × List ℕ) Fault = cond (begins (λ b. b == 39) bytes) (quoted_atom_at rest) from_34 in
    elim (chosen (begins is_ascii_lowercase bytes) (name_at bytes) from_39 (Ok x) e) [
      | inl h ↦ name_is levels bytes x h.0 h.1
      | inr h ↦
          by_first 39 (suc levels) bytes x (quoted_atom_at rest) from_34 h.1 (quoted_atom_is levels rest x) (λ e34.
          by_first 34 (suc levels) bytes x (string_at levels rest) from_123 e34 (string_is levels rest x) (λ e123.
          by_first 123 (suc levels) bytes x (tuple_at one rest) from_91 e123 (tuple_is levels one reads rest x) (λ e91.
          by_first 91 (suc levels) bytes x (list_at one rest) from_60 e91 (list_is levels one reads rest x) (λ e60.
          by_first 60 (suc levels) bytes x (binary_at rest) (number_at bytes) e60 (binary_is levels rest x) (number_is levels bytes x)))))
    ]

pub term_is : (levels : ℕ) → Reads levels (term_at levels)
unfolding term_at
term_is zero bytes x e = by (begins may_begin_term bytes) e
  where
    by : (t : Bool) → cond t (Err (TooDeep (length bytes))) (refused bytes) ≡ Ok x → IsRead 0 bytes x
    by true e = absurd cc
    by false e = absurd cc
term_is (suc levels) bytes x e = begun_is levels (term_at levels) (term_is levels) bytes x e

-- ---- the places

with_places-Ok : (end : ℕ) (r : Result (Tree × List ℕ) Fault) (y : Tree × ℕ) → with_places end r ≡ Ok y → (x : Tree × List ℕ) × (r ≡ Ok x) × (x.0 ≡ y.0) × (end - length x.1 ≡ y.1)
with_places-Ok end (Ok x) y e = (x, refl, cc, cc)
with_places-Ok end (Err f) y e = absurd cc

stands_at : (levels : ℕ) (text : List ℕ) (at : ℕ) (x : Tree × List ℕ) → at ≤ length text → IsRead levels (drop at text) x → Stands levels text at (length text - length x.1) x.0
stands_at levels text at x le found =
    let size : length text - at ≡ length found.text + length x.1 = sym (length-drop at text) ∙ ap length found.parts ∙ length-append found.text x.1 in
    let count : (length text - length x.1) - at ≡ length found.text = omega arith in
    let front : slice_range text at (length text - length x.1) ≡ found.text = ap (λ (n : ℕ). take n (drop at text)) count ∙ ap (take (length found.text)) found.parts ∙ take_at found.text x.1 (length found.text) refl in
    let place : length text - length x.1 ≡ at + length found.text = omega arith in
    let behind : drop (length text - length x.1) text ≡ x.1 = ap (λ (n : ℕ). drop n text) place ∙ sym (drop-drop (length found.text) at text) ∙ ap (drop (length found.text)) found.parts ∙ drop_at found.text x.1 (length found.text) refl in
    record {
      order = omega arith;
      within = omega arith;
      is = let P : List ℕ → Type 0 = IsText x.0 in subst P (sym front) found.is;
      deep = found.deep;
      whole = rw (front, behind) found.whole;
    }

pub is_found : (levels : ℕ) (text : List ℕ) (at : ℕ) (y : Tree × ℕ) → at ≤ length text → read levels text at ≡ Ok y → Stands levels text at y.1 y.0
is_found levels text at y le e =
    let x = with_places-Ok (length text) (term_at levels (drop at text)) y e in
    subst (λ (b : ℕ). Stands levels text at b y.0) x.3 (subst (Stands levels text at (length text - length x.0.1)) x.2 (stands_at levels text at x.0 le (term_is levels (drop at text) x.0 x.1)))

pub answer_found : (levels : ℕ) (text : List ℕ) (at : ℕ) (r : Result (Term × ℕ) TextErr) → at ≤ length text → Answers r (read levels text at) → IfOk r (λ x. Stands levels text at x.1 (tree_of x.0))
answer_found levels text at (Ok x) le given = is_found levels text at (tree_of x.0, x.1) le given
answer_found levels text at (Err e) le given = tt
