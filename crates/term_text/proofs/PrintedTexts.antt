-- What is printed of a tree is a text of it.
use Rattle.std.proofs.Common.{◌≡◌, ℕ, zero, suc, ◌+◌, ◌-◌, ◌<◌, ◌≤◌, Bool, true, false, cond, not, ltb, List, [], ◌∷◌, ◌++◌, length, take, drop, decimal, Some, Ok, refl, sym, ap, subst, ◌∙◌, arith, append-nil, inl, inr, length-append, lit<, lit≤}
use Rattle.std.specs.Prelude.{◌==◌, ◌&&◌, ◌||◌, slice_range}
use Rattle.std.specs.Char.{IsScalar, encode_utf8}
use Rattle.std.specs.Fmt.{digits}
use Rattle.std.specs.List.{flat_map, list_all, All}
use Rattle.std.proofs.lemmas.List.Elements.{All-head, All-tail}
use Rattle.std.specs.Str.{IsAscii, IsUtf8, chars, all_scalars}
use Rattle.std.proofs.lemmas.Bool.{and_parts, or_cases, or_parts, eqb-true, eqb-false, ltb-true, ltb-false}
use Rattle.std.proofs.lemmas.Fmt.{digits_is_IsNumeral, hex_one_digit, hex_two_digits}
use Rattle.std.proofs.lemmas.List.{take_at, drop_at, drop-drop}
use Rattle.std.proofs.lemmas.Str.{encodes-chars, scalars-chars}
use Rattle.term_core.specs.Tree.{Tree, int, atom, tuple, list, bin, Trees, no_trees, tree, depth}
use Rattle.term_text.specs.Grammar.{is_name_byte, is_name, escaped, Each, Blanked, Comma, Elements, IsByte, IsCharacter, IsAtom, IsText, AreTexts, MoreTexts, Stops}
use Rattle.term_text.specs.Grammar as grammar
use Rattle.term_core.specs.Kept.{IsKept, AreKept}
use Rattle.term_text.specs.Places.{read}
use Rattle.term_text.specs.Printing.{character_text, numbered, is_reserved, atom_text, bytes_text, more_bytes_text, printed, trees_text, more_trees_text}
use Rattle.term_text.proofs.Fronts.{length_chars_ascii, name_byte_low, ascii_is_utf8}
use Rattle.term_text.proofs.Again.{name_all, stands_again}

-- ---- characters

hex_length : (c : ℕ) → c < 256 → length (digits 16 false c) ≤ 6
hex_length c low = by (ltb c 16) refl
  where
    by : (t : Bool) → ltb c 16 ≡ t → length (digits 16 false c) ≤ 6
    by true h = omega (arith, ap length (hex_one_digit false c (ltb-true _ _ h)))
    by false h = omega (arith, ap length (hex_two_digits false c (ltb-false _ _ h) low))

numbered_is : (c : ℕ) → IsScalar c → c < 256 → IsCharacter 39 c (numbered c)
numbered_is c is low =
    let numeral = digits_is_IsNumeral 16 false (lit≤ tt) (lit≤ tt) c (omega arith) in
    grammar.numbered (digits 16 false c) is numeral.0 (hex_length c low) numeral.1 refl

-- a letter that stands for itself
itself_escaped : (c : ℕ) → ((c == 92) || (c == 39)) ≡ true → escaped c ≡ Some c
itself_escaped c h = elim (or_cases (c == 92) (c == 39) h) [
  | inl e ↦ let same = eqb-true c 92 e in rw same refl
  | inr e ↦ let same = eqb-true c 39 e in rw same refl
]

character_is : (c : ℕ) → IsScalar c → IsCharacter 39 c (character_text c)
character_is c is = by ((c == 92) || (c == 39)) (c == 10) (c == 13) (c == 9) (ltb c 32 || (c == 127)) refl refl refl refl refl
  where
    letter : (b d : ℕ) → c ≡ d → escaped b ≡ Some d → IsCharacter 39 c (92 ∷ b ∷ [])
    letter b d e h = grammar.letter b (h ∙ ap Some (sym e)) refl

    by : (x y z u v : Bool) → ((c == 92) || (c == 39)) ≡ x → (c == 10) ≡ y → (c == 13) ≡ z → (c == 9) ≡ u → (ltb c 32 || (c == 127)) ≡ v
        → IsCharacter 39 c (cond x (92 ∷ c ∷ []) (cond y (92 ∷ 110 ∷ []) (cond z (92 ∷ 114 ∷ []) (cond u (92 ∷ 116 ∷ []) (cond v (numbered c) (encode_utf8 c))))))
    by true y z u v p q r s t = grammar.letter c (itself_escaped c p) refl
    by false true z u v p q r s t = letter 110 10 (eqb-true c 10 q) refl
    by false false true u v p q r s t = letter 114 13 (eqb-true c 13 r) refl
    by false false false true v p q r s t = letter 116 9 (eqb-true c 9 s) refl
    by false false false false true p q r s t = numbered_is c is (elim (or_cases (ltb c 32) (c == 127) t) [ inl h ↦ omega (arith, ltb-true _ _ h) | inr h ↦ omega (arith, eqb-true c 127 h) ])
    by false false false false false p q r s t =
        let other = or_parts (c == 92) (c == 39) p in
        grammar.itself is (ltb-false _ _ (or_parts (ltb c 32) (c == 127) t).0) (eqb-false c 39 other.1) (eqb-false c 92 other.0) refl

characters_are : (cs : List ℕ) → all_scalars cs ≡ true → Each (IsCharacter 39) cs (flat_map character_text cs)
characters_are [] all = refl
characters_are (c ∷ cs) all = let parts = and_parts _ _ all in (character_text c, flat_map character_text cs, character_is c parts.0, characters_are cs parts.1, refl)

-- ---- atoms

ascii_all : (p : ℕ → Bool) → ((b : ℕ) → p b ≡ true → b < 128) → (text : List ℕ) → list_all p text ≡ true → IsAscii text
ascii_all p low [] all i = lit< tt
ascii_all p low (b ∷ text) all zero = low b (and_parts _ _ all).0
ascii_all p low (b ∷ text) all (suc i) = ascii_all p low text (and_parts _ _ all).1 i

name_ascii : (a : List ℕ) → is_name a ≡ true → IsAscii a
name_ascii a name = ascii_all is_name_byte name_byte_low a (name_all a name)

-- a name is kept as an atom
pub name_kept : (a : List ℕ) → is_name a ≡ true → length (chars a) ≤ 255 → IsKept (atom a)
name_kept a name short = (ascii_is_utf8 a (name_ascii a name), short)

atom_is : (a : List ℕ) → IsUtf8 a → length (chars a) ≤ 255 → IsAtom a (atom_text a)
atom_is a utf8 short = by (is_name a && not (is_reserved a)) refl
  where
    by : (t : Bool) → (is_name a && not (is_reserved a)) ≡ t → IsAtom a (cond t a (39 ∷ (flat_map character_text (chars a) ++ 39 ∷ [])))
    by true h =
        let name = (and_parts _ _ h).0 in
        let size = length_chars_ascii a (name_ascii a name) in
        grammar.bare name (omega (arith, size, short)) refl
    by false h = grammar.quoted (chars a) (flat_map character_text (chars a), characters_are (chars a) (scalars-chars a utf8), refl) short (sym (encodes-chars a utf8))

-- ---- binaries

unblanked : (IsInner : List ℕ → Type 0) (text : List ℕ) → IsInner text → Blanked IsInner text
unblanked IsInner text is = ([], text, [], refl, is, refl, sym (append-nil text))

more_bytes_are : (ns : List ℕ) → All (λ byte. byte < 256) ns → Each (λ y. Comma (Blanked (IsByte y))) ns (more_bytes_text ns)
more_bytes_are [] all = refl
more_bytes_are (n ∷ ns) all = (44 ∷ decimal n, more_bytes_text ns, (decimal n, unblanked (IsByte n) (decimal n) (All-head (λ byte. byte < 256) n ns all, refl), refl), more_bytes_are ns (All-tail (λ byte. byte < 256) n ns all), refl)

bytes_are : (ns : List ℕ) → All (λ byte. byte < 256) ns → Elements IsByte ns (bytes_text ns)
bytes_are [] all = refl
bytes_are (n ∷ ns) all = (decimal n, more_bytes_text ns, unblanked (IsByte n) (decimal n) (All-head (λ byte. byte < 256) n ns all, refl), more_bytes_are ns (All-tail (λ byte. byte < 256) n ns all), refl)

-- ---- trees

mutual
  pub printed_is : (t : Tree) → IsKept t → IsText t (printed t)
  printed_is (int n) kept = (kept, refl)
  printed_is (atom a) kept = atom_is a kept.0 kept.1
  printed_is (tuple ts) kept = (trees_text ts, trees_are ts kept, refl)
  printed_is (list ts) kept = inl (trees_text ts, trees_are ts kept, refl)
  printed_is (bin b) kept = inl (bytes_text b, bytes_are b kept, refl)

  trees_are : (ts : Trees) → AreKept ts → AreTexts ts (trees_text ts)
  trees_are no_trees kept = refl
  trees_are (tree t ts) kept = (printed t, more_trees_text ts, unblanked (IsText t) (printed t) (printed_is t kept.0), more_trees_are ts kept.1, refl)

  more_trees_are : (ts : Trees) → AreKept ts → MoreTexts ts (more_trees_text ts)
  more_trees_are no_trees kept = refl
  more_trees_are (tree t ts) kept = (44 ∷ printed t, more_trees_text ts, (printed t, unblanked (IsText t) (printed t) (printed_is t kept.0), refl), more_trees_are ts kept.1, refl)

-- ---- and is read again

pub printed_again : (levels : ℕ) (t : Tree) (front rest : List ℕ) → IsKept t → depth t ≤ levels → Stops t (printed t) rest → read levels (front ++ (printed t ++ rest)) (length front) ≡ Ok (t, length front + length (printed t))
printed_again levels t front rest kept deep whole =
    let text : List ℕ = front ++ (printed t ++ rest) in
    let from : drop (length front) text ≡ printed t ++ rest = drop_at front (printed t ++ rest) (length front) refl in
    let count : (length front + length (printed t)) - length front ≡ length (printed t) = omega arith in
    let here : slice_range text (length front) (length front + length (printed t)) ≡ printed t =
    ap (λ (n : ℕ). take n (drop (length front) text)) count ∙ ap (take (length (printed t))) from ∙ take_at (printed t) rest (length (printed t)) refl in
    let behind : drop (length front + length (printed t)) text ≡ rest =
    sym (drop-drop (length (printed t)) (length front) text) ∙ ap (drop (length (printed t))) from ∙ drop_at (printed t) rest (length (printed t)) refl in
    stands_again levels text (length front) (length front + length (printed t)) t (record {
      order = omega arith;
      within = omega (arith, length-append front (printed t ++ rest), length-append (printed t) rest);
      is = let P : List ℕ → Type 0 = IsText t in subst P (sym here) (printed_is t kept);
      deep = deep;
      whole = rw (here, behind) whole;
    })
