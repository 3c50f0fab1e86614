-- What stands before the refusal of a term may go on as a text of a term.
use Rattle.std.proofs.Common.{◌≡◌, ℕ, zero, suc, ◌+◌, ◌-◌, ◌<◌, ◌≤◌, Bool, true, false, cond, not, leb, List, [], ◌∷◌, ◌++◌, length, take, drop, map, Result, Ok, Err, refl, sym, ap, subst, ◌∙◌, arith, append_assoc, append-nil, inl, inr, ◌⊎◌}
use Rattle.std.specs.Prelude.{◌==◌, ◌&&◌, pos, slice_range}
use Rattle.std.specs.Char.{is_ascii_lowercase}
use Rattle.std.specs.List.{prefix_len, list_all}
use Rattle.std.specs.Str.{encode_utf8_all}
use Rattle.std.proofs.lemmas.Bool.{leb-false, and_parts, and_from}
use Rattle.std.proofs.lemmas.List.{length-append, length-drop, length-take, take_at, take-append-drop}
use Rattle.term_core.specs.Tree.{Tree, int, atom, tuple, list, bin}
use Rattle.term_core.specs.View.{trees_of}
use Rattle.term_text.specs.declared.fault.Fault.{Fault}
use Rattle.term_text.specs.declared.fault.Fault.TheVariants.{Bad, WideInt, TooDeep}
use Rattle.term_text.specs.declared.error.TextErr.TheVariants as refusals
use Rattle.term_text.specs.Grammar.{begins, is_blank, is_name_byte, is_name, AreBlanks, Each, Blanked, Comma, Elements, IsQuoted, IsNarrow, IsByte, IsCharacter, IsText, AreTexts, MoreTexts}
use Rattle.term_text.specs.Grammar as grammar
use Rattle.term_text.specs.Places.{left_of, read, with_places}
use Rattle.term_text.specs.Reading.{◌>>=◌, refused, byte_at, unblanked, number_at, small_at, character_at, narrow_at, quoted_at, as_numbers, more_at, elements_at, inner_at, name_at, quoted_atom_at, may_begin_character, string_at, byte_string_at, bytes_at, binary_at, tuple_at, list_at, begun_at, may_begin_term, term_at}
use Rattle.term_text.specs.Viable.{IsLate}
use Rattle.term_text.proofs.Steps.{chosen, begun, byte_found, blanks_in}
use Rattle.term_text.proofs.Quoting.{character_reads, narrow_reads, quoted_read}
use Rattle.term_text.proofs.Listing.{OneReads, BlankedRead, blanked_read, more_read}
use Rattle.term_text.proofs.Found.{small_reads, bytes_is, term_is}
use Rattle.term_text.proofs.Refused.{Stuck, stuck_behind, stuck_within, stuck_cast, bind_err, refused_left, byte_refused, zero_is, number_refused, byte_is, small_refused, characters_have, character_refused, narrow_refused, Closed, OneRefused, quoted_refused}

-- ---- elements

-- at least one element, and the closing byte
abbrev ClosedElements : {A : Type 0} → ℕ → (A → List ℕ → Type 0) → A × List A → List ℕ → Type 0
ClosedElements close IsOne xs text = (inner : List ℕ) × Elements IsOne (xs.0 ∷ xs.1) inner × (text ≡ inner ++ close ∷ [])

-- the same of any number of them
abbrev ClosedList : {A : Type 0} → ℕ → (A → List ℕ → Type 0) → List A → List ℕ → Type 0
ClosedList close IsOne xs text = (inner : List ℕ) × Elements IsOne xs inner × (text ≡ inner ++ close ∷ [])

-- an element alone
alone : {A : Type 0} (IsOne : A → List ℕ → Type 0) (close : ℕ) (before : List ℕ) → AreBlanks before → (x : A) (text : List ℕ) → IsOne x text → ClosedElements close IsOne (x, []) (before ++ (text ++ close ∷ []))
alone IsOne close before are x text is =
    (before ++ text, (before ++ text, [], (before, text, [], are, is, refl, ap (λ (s : List ℕ). before ++ s) (sym (append-nil text))), refl, sym (append-nil (before ++ text))), sym (append_assoc before text (close ∷ [])))

-- behind a whole element
closing : {A : Type 0} (IsOne : A → List ℕ → Type 0) (close : ℕ) (x : A) (text : List ℕ) → Blanked (IsOne x) text → ClosedElements close IsOne (x, []) (text ++ close ∷ [])
closing IsOne close x text is = (text, (text, [], is, refl, sym (append-nil text)), refl)

-- behind an element and a comma
following : {A : Type 0} (IsOne : A → List ℕ → Type 0) (close : ℕ) (x : A) (first : List ℕ) → Blanked (IsOne x) first → (xs : A × List A) (text : List ℕ) → ClosedElements close IsOne xs text
    → ClosedElements close IsOne (x, xs.0 ∷ xs.1) ((first ++ 44 ∷ []) ++ (text ++ []))
following IsOne close x first is xs text (inner, are, whole) = (
  first ++ 44 ∷ inner,
  (first, 44 ∷ inner, is, (44 ∷ are.0, are.1, (are.0, are.2, refl), are.3, ap (λ (s : List ℕ). 44 ∷ s) are.4), refl),
  ap (λ (s : List ℕ). (first ++ 44 ∷ []) ++ s) (append-nil text ∙ whole) ∙ append_assoc first (44 ∷ []) (inner ++ close ∷ []) ∙ sym (append_assoc first (44 ∷ inner) (close ∷ [])),
)

more_refused : (close : ℕ) (bytes : List ℕ) (d : Fault) → more_at close bytes ≡ Err d → length bytes ≡ left_of d
unfolding more_at
more_refused close bytes d e = by (begins (λ b. b == 44) bytes) e
  where
    by : (t : Bool) → cond {A = Result (Bool × List ℕ) Fault} t (Ok (true, drop 1 bytes)) (byte_at close bytes >>= λ rest. Ok (false, rest)) ≡ Err d → length bytes ≡ left_of d
    by true e = absurd cc
    by false e = elim (bind_err (byte_at close bytes) (λ rest. Ok (false, rest)) d e) [ inl h ↦ byte_refused close bytes d h | inr h ↦ absurd (let wrong = h.2 in cc) ]

elements_refused : {A : Type 0} (IsOne : A → List ℕ → Type 0) (one : List ℕ → Result (A × List ℕ) Fault) → OneReads IsOne one → OneRefused IsOne one → (some : A) (text : List ℕ) → IsOne some text
    → (close most : ℕ) (bytes : List ℕ) (d : Fault) → elements_at one close most bytes ≡ Err d → Stuck (ClosedElements close IsOne) bytes (left_of d)
unfolding elements_at
elements_refused {A} IsOne one reads refuses some text is close zero bytes d e =
    stuck_behind (ClosedElements close IsOne) [] bytes (text ++ close ∷ []) (some, []) (left_of d) (alone IsOne close [] refl some text is) (refused_left {A = List A × List ℕ} bytes d e)
elements_refused {A} IsOne one reads refuses some text is close (suc most) bytes d e =
    elim (bind_err (one (unblanked bytes)) (λ first. more_at close (unblanked first.1) >>= next first) d e) [
      | inl h ↦
          let before = blanks_in bytes in
          stuck_cast (ClosedElements close IsOne) bytes (before.blanks ++ unblanked bytes) (left_of d) before.parts
          (stuck_within IsOne (ClosedElements close IsOne) before.blanks (close ∷ []) (λ x. (x, [])) (alone IsOne close before.blanks before.are) (unblanked bytes) (left_of d) (refuses (unblanked bytes) d h))
      | inr h ↦
          let found = reads (unblanked bytes) h.0 h.1 in
          behind h.0 (blanked_read (IsOne h.0.0) bytes found.0 h.0.1 found.1 found.2) (elements_refused IsOne one reads refuses some text is close most) h.2
    ]
  where
    next : A × List ℕ → Bool × List ℕ → Result (List A × List ℕ) Fault
    next first more = cond more.0 (elements_at one close most more.1 >>= λ others. Ok (first.0 ∷ others.0, others.1)) (Ok (first.0 ∷ [], more.1))

    others : (first : A × List ℕ) (m : Bool) (after : List ℕ) → BlankedRead (IsOne first.0) bytes (unblanked first.1) → unblanked first.1 ≡ cond m 44 close ∷ after
        → ((mid : List ℕ) (f : Fault) → elements_at one close most mid ≡ Err f → Stuck (ClosedElements close IsOne) mid (left_of f)) → next first (m, after) ≡ Err d → Stuck (ClosedElements close IsOne) bytes (left_of d)
    others first false after element mark again e = absurd cc
    others first true after element mark again e =
        let refusal : elements_at one close most after ≡ Err d = elim (bind_err (elements_at one close most after) (λ others. Ok (first.0 ∷ others.0, others.1)) d e) [ inl k ↦ k | inr k ↦ absurd (let wrong = k.2 in cc) ] in
        let whole : bytes ≡ (element.text ++ 44 ∷ []) ++ after = element.parts ∙ ap (λ (s : List ℕ). element.text ++ s) mark ∙ sym (append_assoc element.text (44 ∷ []) after) in
        stuck_cast (ClosedElements close IsOne) bytes ((element.text ++ 44 ∷ []) ++ after) (left_of d) whole
        (stuck_within (ClosedElements close IsOne) (ClosedElements close IsOne) (element.text ++ 44 ∷ []) [] (λ xs. (first.0, xs.0 ∷ xs.1)) (following IsOne close first.0 element.text element.is) after (left_of d) (again after d refusal))

    behind : (first : A × List ℕ) → BlankedRead (IsOne first.0) bytes (unblanked first.1) → ((mid : List ℕ) (f : Fault) → elements_at one close most mid ≡ Err f → Stuck (ClosedElements close IsOne) mid (left_of f))
        → (more_at close (unblanked first.1) >>= next first) ≡ Err d → Stuck (ClosedElements close IsOne) bytes (left_of d)
    behind first element again e =
        elim (bind_err (more_at close (unblanked first.1)) (next first) d e) [
          | inl k ↦
              stuck_cast (ClosedElements close IsOne) bytes (element.text ++ unblanked first.1) (left_of d) element.parts
              (stuck_behind (ClosedElements close IsOne) element.text (unblanked first.1) (close ∷ []) (first.0, []) (left_of d) (closing IsOne close first.0 element.text element.is) (more_refused close (unblanked first.1) d k))
          | inr k ↦ others first k.0.0 k.0.1 element (more_read close (unblanked first.1) k.0 k.1) again k.2
        ]

inner_refused : {A : Type 0} (IsOne : A → List ℕ → Type 0) (one : List ℕ → Result (A × List ℕ) Fault) → OneReads IsOne one → OneRefused IsOne one → (some : A) (text : List ℕ) → IsOne some text
    → (close : ℕ) (bytes : List ℕ) (d : Fault) → inner_at one close bytes ≡ Err d → Stuck (ClosedList close IsOne) bytes (left_of d)
unfolding inner_at
inner_refused {A} IsOne one reads refuses some text is close bytes d e = by (begins (λ b. b == close) (unblanked bytes)) e
  where
    widen : (xs : A × List A) (t : List ℕ) → ClosedElements close IsOne xs t → ClosedList close IsOne (xs.0 ∷ xs.1) ([] ++ (t ++ []))
    widen xs t (inner, are, whole) = (inner, are, append-nil t ∙ whole)

    by : (t : Bool) → cond t (Ok ([], drop 1 (unblanked bytes))) (elements_at one close (length bytes) bytes) ≡ Err d → Stuck (ClosedList close IsOne) bytes (left_of d)
    by true e = absurd cc
    by false e = stuck_within (ClosedElements close IsOne) (ClosedList close IsOne) [] [] (λ xs. xs.0 ∷ xs.1) widen bytes (left_of d) (elements_refused IsOne one reads refuses some text is close (length bytes) bytes d e)

-- ---- atoms and strings

quoted_atom_refused : (bytes : List ℕ) (d : Fault) → quoted_atom_at bytes ≡ Err d → Stuck IsText (39 ∷ bytes) (left_of d)
unfolding quoted_atom_at
quoted_atom_refused bytes d e =
    let refusal : quoted_at character_at 39 255 bytes ≡ Err d = elim (bind_err (quoted_at character_at 39 255 bytes) (λ cs. Ok (atom (encode_utf8_all cs.0), cs.1)) d e) [ inl h ↦ h | inr h ↦ absurd (let wrong = h.2 in cc) ] in
    stuck_within (Closed 39 255 (IsCharacter 39)) IsText (39 ∷ []) [] (λ cs. atom (encode_utf8_all cs)) around bytes (left_of d)
    (quoted_refused (IsCharacter 39) character_at 39 (character_reads 39 (omega arith)) (character_refused (IsCharacter 39) (characters_have 39 (λ e. absurd (omega arith)))) 255 bytes d refusal)
  where
    around : (cs text : List ℕ) → Closed 39 255 (IsCharacter 39) cs text → IsText (atom (encode_utf8_all cs)) (39 ∷ (text ++ []))
    around cs text (inner, each, whole, short) = grammar.quoted cs (inner, each, ap (λ (s : List ℕ). 39 ∷ s) (append-nil text ∙ whole)) short refl

string_refused : (levels : ℕ) (bytes : List ℕ) (d : Fault) → string_at levels bytes ≡ Err d → Stuck IsText (34 ∷ bytes) (left_of d)
unfolding string_at
string_refused levels bytes d e = by ((levels == 0) && not (begins (λ b. b == 34) bytes) && begins may_begin_character bytes) e
  where
    end : List Tree × List ℕ → Result (Tree × List ℕ) Fault
    end ts = Ok (list (trees_of ts.0), ts.1)

    around : (cs text : List ℕ) → Closed 34 (length bytes) (IsCharacter 34) cs text → IsText (list (grammar.numbers cs)) (34 ∷ (text ++ []))
    around cs text (inner, each, whole, short) = inr (cs, (inner, each, ap (λ (s : List ℕ). 34 ∷ s) (append-nil text ∙ whole)), refl)

    characters : quoted_at character_at 34 (length bytes) bytes ≡ Err d → Stuck IsText (34 ∷ bytes) (left_of d)
    characters refusal =
        stuck_within (Closed 34 (length bytes) (IsCharacter 34)) IsText (34 ∷ []) [] (λ cs. list (grammar.numbers cs)) around bytes (left_of d)
        (quoted_refused (IsCharacter 34) character_at 34 (character_reads 34 (omega arith)) (character_refused (IsCharacter 34) (characters_have 34 (λ e. absurd (omega arith)))) (length bytes) bytes d refusal)

    by : (t : Bool) → cond t (Err (TooDeep (length bytes))) (as_numbers (quoted_at character_at 34 (length bytes) bytes) >>= end) ≡ Err d → Stuck IsText (34 ∷ bytes) (left_of d)
    by true e = stuck_behind IsText (34 ∷ []) bytes (34 ∷ []) (list (grammar.numbers [])) (left_of d) (inr ([], ([], refl, refl), refl)) (let same : TooDeep (length bytes) ≡ d = cc in ap left_of same)
    by false e = elim (bind_err (as_numbers (quoted_at character_at 34 (length bytes) bytes)) end d e) [
      | inl h ↦ elim (bind_err (quoted_at character_at 34 (length bytes) bytes) (λ cs. Ok (map (λ n. int (pos n)) cs.0, cs.1)) d h) [ inl k ↦ characters k | inr k ↦ absurd (let wrong = k.2 in cc) ]
      | inr h ↦ absurd (let wrong = h.2 in cc)
    ]

-- a front of a front that passes a test
front_part : (p : ℕ → Bool) (k : ℕ) (bytes : List ℕ) → k ≤ prefix_len p bytes → list_all p (take k bytes) ≡ true
front_part p zero bytes h = refl
front_part p (suc k) [] h = absurd (omega arith)
front_part p (suc k) (b ∷ bytes) h = by (p b) refl (front_part p k bytes)
  where
    by : (t : Bool) → p b ≡ t → (k ≤ prefix_len p bytes → list_all p (take k bytes) ≡ true) → list_all p (b ∷ take k bytes) ≡ true
    by true is again = rw is (again (let h2 : suc k ≤ cond true (1 + prefix_len p bytes) 0 = subst (λ (t : Bool). suc k ≤ cond t (1 + prefix_len p bytes) 0) is h in omega arith))
    by false is again = absurd (let h2 : suc k ≤ cond false (1 + prefix_len p bytes) 0 = subst (λ (t : Bool). suc k ≤ cond t (1 + prefix_len p bytes) 0) is h in omega arith)

name_front : (k : ℕ) (bytes : List ℕ) → begins is_ascii_lowercase bytes ≡ true → suc k ≤ prefix_len is_name_byte bytes → is_name (take (suc k) bytes) ≡ true
name_front k [] lower h = absurd cc
name_front k (b ∷ rest) lower h = and_from _ _ lower (and_parts _ _ (front_part is_name_byte (suc k) (b ∷ rest) h)).1

-- a name of 255 bytes and one more
name_refused : (bytes : List ℕ) (d : Fault) → begins is_ascii_lowercase bytes ≡ true → name_at bytes ≡ Err d → Stuck IsText bytes (left_of d)
unfolding name_at
name_refused bytes d lower e = by (leb (prefix_len is_name_byte bytes) 255) refl e
  where
    by : (t : Bool) → leb (prefix_len is_name_byte bytes) 255 ≡ t → cond {A = Result (Tree × List ℕ) Fault} t (Ok (atom (take (prefix_len is_name_byte bytes) bytes), drop (prefix_len is_name_byte bytes) bytes)) (refused (drop 255 bytes)) ≡ Err d → Stuck IsText bytes (left_of d)
    by true h e = absurd cc
    by false h e =
        let long : 255 < prefix_len is_name_byte bytes = leb-false _ _ h in
        let name : is_name (take 255 bytes) ≡ true = name_front 254 bytes lower (omega arith) in
        let short : length (take 255 bytes) ≤ 255 = omega (arith, length-take 255 bytes) in
        let kept = take 255 bytes in
        let is : IsText (atom kept) (kept ++ []) = grammar.bare name short (append-nil kept) in
        stuck_cast IsText bytes (kept ++ drop 255 bytes) (left_of d) (sym (take-append-drop 255 bytes)) (stuck_behind IsText kept (drop 255 bytes) [] (atom kept) (left_of d) is (refused_left {A = Tree × List ℕ} (drop 255 bytes) d e))

-- ---- binaries

-- the inside of a binary, and the first of the closing bytes
abbrev ClosedBytes : List ℕ → List ℕ → Type 0
ClosedBytes b text = (inner : List ℕ) × (Elements IsByte b inner ⊎ Blanked (IsQuoted 34 IsNarrow b) inner) × (text ≡ inner ++ 62 ∷ [])

-- behind the blanks and the quote
in_string : (before bytes : List ℕ) (d : Fault) → AreBlanks before → byte_string_at bytes ≡ Err d → Stuck ClosedBytes (before ++ 34 ∷ bytes) (left_of d)
unfolding byte_string_at
in_string before bytes d are e =
    elim (bind_err (quoted_at narrow_at 34 (length bytes) bytes) end d e) [
      | inl h ↦
          stuck_cast ClosedBytes (before ++ 34 ∷ bytes) ((before ++ 34 ∷ []) ++ bytes) (left_of d) (sym (append_assoc before (34 ∷ []) bytes))
          (stuck_within (Closed 34 (length bytes) IsNarrow) ClosedBytes (before ++ 34 ∷ []) (62 ∷ []) (λ cs. cs) around bytes (left_of d) (quoted_refused IsNarrow narrow_at 34 narrow_reads narrow_refused (length bytes) bytes d h))
      | inr h ↦
          let found = quoted_read IsNarrow narrow_at 34 narrow_reads (length bytes) bytes h.0 h.1 in
          let behind = blanks_in h.0.1 in
          let quoted : List ℕ = 34 ∷ (found.inner ++ 34 ∷ []) in
          let text : List ℕ = before ++ (quoted ++ behind.blanks) in
          let whole : before ++ 34 ∷ bytes ≡ text ++ unblanked h.0.1 =
          let inside : 34 ∷ bytes ≡ quoted ++ h.0.1 = ap (λ (s : List ℕ). 34 ∷ s) (found.parts ∙ sym (append_assoc found.inner (34 ∷ []) h.0.1)) in
          let regrouped : before ++ (quoted ++ (behind.blanks ++ unblanked h.0.1)) ≡ text ++ unblanked h.0.1 = simp append_assoc in
          ap (λ (s : List ℕ). before ++ s) (inside ∙ ap (λ (s : List ℕ). quoted ++ s) behind.parts) ∙ regrouped in
          let refusal : byte_at 62 (unblanked h.0.1) ≡ Err d = elim (bind_err (byte_at 62 (unblanked h.0.1)) (λ rest. Ok (h.0.0, rest)) d h.2) [ inl k ↦ k | inr k ↦ absurd (let wrong = k.2 in cc) ] in
          stuck_cast ClosedBytes (before ++ 34 ∷ bytes) (text ++ unblanked h.0.1) (left_of d) whole
          (stuck_behind ClosedBytes text (unblanked h.0.1) (62 ∷ []) h.0.0 (left_of d) (text, inr (before, quoted, behind.blanks, are, (found.inner, found.each, refl), behind.are, refl), refl) (byte_refused 62 (unblanked h.0.1) d refusal))
    ]
  where
    end : List ℕ × List ℕ → Result (List ℕ × List ℕ) Fault
    end cs = byte_at 62 (unblanked cs.1) >>= λ rest. Ok (cs.0, rest)

    around : (cs text : List ℕ) → Closed 34 (length bytes) IsNarrow cs text → ClosedBytes cs ((before ++ 34 ∷ []) ++ (text ++ 62 ∷ []))
    around cs text (inner, each, whole, short) =
        let quoted : List ℕ = 34 ∷ (inner ++ 34 ∷ []) in
        let regrouped : (before ++ 34 ∷ []) ++ (text ++ 62 ∷ []) ≡ (before ++ (34 ∷ text ++ [])) ++ 62 ∷ [] = simp append_assoc in
        (before ++ (quoted ++ []), inr (before, quoted, [], are, (inner, each, refl), refl, refl), regrouped ∙ ap (λ (s : List ℕ). (before ++ (34 ∷ s ++ [])) ++ 62 ∷ []) whole)

bytes_refused : (bytes : List ℕ) (d : Fault) → bytes_at bytes ≡ Err d → Stuck ClosedBytes bytes (left_of d)
unfolding bytes_at
bytes_refused bytes d e = by (begins (λ b. b == 34) (unblanked bytes)) refl e
  where
    widen : (b t : List ℕ) → ClosedList 62 IsByte b t → ClosedBytes b ([] ++ (t ++ []))
    widen b t (inner, are, whole) = (inner, inl are, append-nil t ∙ whole)

    by : (t : Bool) → begins (λ b. b == 34) (unblanked bytes) ≡ t → cond t (byte_string_at (drop 1 (unblanked bytes))) (inner_at small_at 62 bytes) ≡ Err d → Stuck ClosedBytes bytes (left_of d)
    by true here e =
        let before = blanks_in bytes in
        stuck_cast ClosedBytes bytes (before.blanks ++ 34 ∷ drop 1 (unblanked bytes)) (left_of d) (before.parts ∙ ap (λ (s : List ℕ). before.blanks ++ s) (begun 34 (unblanked bytes) here)) (in_string before.blanks (drop 1 (unblanked bytes)) d before.are e)
    by false other e = stuck_within (ClosedList 62 IsByte) ClosedBytes [] [] (λ b. b) widen bytes (left_of d) (inner_refused IsByte small_at small_reads small_refused 0 (48 ∷ []) byte_is 62 bytes d e)

binary_kind : (b inner : List ℕ) → Elements IsByte b inner ⊎ Blanked (IsQuoted 34 IsNarrow b) inner → IsText (bin b) (60 ∷ 60 ∷ (inner ++ 62 ∷ 62 ∷ []))
binary_kind b inner (inl are) = inl (inner, are, refl)
binary_kind b inner (inr is) = inr (inner, is, refl)

empty_binary : IsText (bin []) (60 ∷ 60 ∷ 62 ∷ 62 ∷ [])
empty_binary = inl ([], refl, refl)

binary_refused : (bytes : List ℕ) (d : Fault) → binary_at bytes ≡ Err d → Stuck IsText (60 ∷ bytes) (left_of d)
unfolding binary_at
binary_refused bytes d e =
    elim (bind_err (byte_at 60 bytes) (λ inner. bytes_at inner >>= end) d e) [
      | inl h ↦ stuck_behind IsText (60 ∷ []) bytes (60 ∷ 62 ∷ 62 ∷ []) (bin []) (left_of d) empty_binary (byte_refused 60 bytes d h)
      | inr h ↦ stuck_cast IsText (60 ∷ bytes) (60 ∷ 60 ∷ h.0) (left_of d) (ap (λ (s : List ℕ). 60 ∷ s) (byte_found 60 bytes h.0 h.1)) (inside h.0 h.2)
    ]
  where
    end : List ℕ × List ℕ → Result (Tree × List ℕ) Fault
    end found = byte_at 62 found.1 >>= λ rest. Ok (bin found.0, rest)

    around : (b text : List ℕ) → ClosedBytes b text → IsText (bin b) ((60 ∷ 60 ∷ []) ++ (text ++ 62 ∷ []))
    around b text (inner, is, whole) =
        let P : List ℕ → Type 0 = IsText (bin b) in
        let same : 60 ∷ 60 ∷ (inner ++ 62 ∷ 62 ∷ []) ≡ 60 ∷ 60 ∷ (text ++ 62 ∷ []) = ap (λ (s : List ℕ). 60 ∷ 60 ∷ s) (sym (append_assoc inner (62 ∷ []) (62 ∷ [])) ∙ ap (λ (s : List ℕ). s ++ 62 ∷ []) (sym whole)) in
        subst P same (binary_kind b inner is)

    last : (inner : List ℕ) (found : List ℕ × List ℕ) → bytes_at inner ≡ Ok found → byte_at 62 found.1 ≡ Err d → Stuck IsText (60 ∷ 60 ∷ inner) (left_of d)
    last inner found read e =
        let is = bytes_is inner found read in
        let before : List ℕ = 60 ∷ 60 ∷ (is.inner ++ 62 ∷ []) in
        let whole : 60 ∷ 60 ∷ inner ≡ before ++ found.1 = ap (λ (s : List ℕ). 60 ∷ 60 ∷ s) (is.parts ∙ sym (append_assoc is.inner (62 ∷ []) found.1)) in
        stuck_cast IsText (60 ∷ 60 ∷ inner) (before ++ found.1) (left_of d) whole
        (stuck_behind IsText before found.1 (62 ∷ []) (bin found.0) (left_of d) (around found.0 (is.inner ++ 62 ∷ []) (is.inner, is.is, refl)) (byte_refused 62 found.1 d e))

    inside : (inner : List ℕ) → (bytes_at inner >>= end) ≡ Err d → Stuck IsText (60 ∷ 60 ∷ inner) (left_of d)
    inside inner e =
        elim (bind_err (bytes_at inner) end d e) [
          | inl k ↦ stuck_within ClosedBytes IsText (60 ∷ 60 ∷ []) (62 ∷ []) (λ b. bin b) around inner (left_of d) (bytes_refused inner d k)
          | inr k ↦ elim (bind_err (byte_at 62 k.0.1) (λ rest. Ok (bin k.0.0, rest)) d k.2) [ inl m ↦ last inner k.0 k.1 m | inr m ↦ absurd (let wrong = m.2 in cc) ]
        ]

-- ---- tuples and lists

more_plain : (xs : List Tree) (text : List ℕ) → Each (λ y. Comma (Blanked (IsText y))) xs text → MoreTexts (trees_of xs) text
more_plain [] text each = each
more_plain (x ∷ xs) text each = (each.0, each.1, each.2, more_plain xs each.1 each.3, each.4)

plain : (xs : List Tree) (text : List ℕ) → Elements IsText xs text → AreTexts (trees_of xs) text
plain [] text are = are
plain (x ∷ xs) text are = (are.0, are.1, are.2, more_plain xs are.1 are.3, are.4)

tuple_refused : (one : List ℕ → Result (Tree × List ℕ) Fault) → OneReads IsText one → OneRefused IsText one → (bytes : List ℕ) (d : Fault) → tuple_at one bytes ≡ Err d → Stuck IsText (123 ∷ bytes) (left_of d)
unfolding tuple_at
tuple_refused one reads refuses bytes d e =
    let refusal : inner_at one 125 bytes ≡ Err d = elim (bind_err (inner_at one 125 bytes) (λ items. Ok (tuple (trees_of items.0), items.1)) d e) [ inl k ↦ k | inr k ↦ absurd (let wrong = k.2 in cc) ] in
    stuck_within (ClosedList 125 IsText) IsText (123 ∷ []) [] (λ xs. tuple (trees_of xs)) around bytes (left_of d) (inner_refused IsText one reads refuses (int (pos 0)) (48 ∷ []) zero_is 125 bytes d refusal)
  where
    around : (xs : List Tree) (text : List ℕ) → ClosedList 125 IsText xs text → IsText (tuple (trees_of xs)) (123 ∷ (text ++ []))
    around xs text (inner, are, whole) = (inner, plain xs inner are, ap (λ (s : List ℕ). 123 ∷ s) (append-nil text ∙ whole))

list_refused : (one : List ℕ → Result (Tree × List ℕ) Fault) → OneReads IsText one → OneRefused IsText one → (bytes : List ℕ) (d : Fault) → list_at one bytes ≡ Err d → Stuck IsText (91 ∷ bytes) (left_of d)
unfolding list_at
list_refused one reads refuses bytes d e =
    let refusal : inner_at one 93 bytes ≡ Err d = elim (bind_err (inner_at one 93 bytes) (λ items. Ok (list (trees_of items.0), items.1)) d e) [ inl k ↦ k | inr k ↦ absurd (let wrong = k.2 in cc) ] in
    stuck_within (ClosedList 93 IsText) IsText (91 ∷ []) [] (λ xs. list (trees_of xs)) around bytes (left_of d) (inner_refused IsText one reads refuses (int (pos 0)) (48 ∷ []) zero_is 93 bytes d refusal)
  where
    around : (xs : List Tree) (text : List ℕ) → ClosedList 93 IsText xs text → IsText (list (trees_of xs)) (91 ∷ (text ++ []))
    around xs text (inner, are, whole) = inl (inner, plain xs inner are, ap (λ (s : List ℕ). 91 ∷ s) (append-nil text ∙ whole))

-- ---- terms

by_first : (k : ℕ) (d : Fault) (bytes : List ℕ) (here other : Result (Tree × List ℕ) Fault) → cond (begins (λ b. b == k) bytes) here other ≡ Err d
    → (here ≡ Err d → Stuck IsText (k ∷ drop 1 bytes) (left_of d)) → (other ≡ Err d → Stuck IsText bytes (left_of d)) → Stuck IsText bytes (left_of d)
by_first k d bytes here other e p q =
    elim (chosen (begins (λ b. b == k) bytes) here other (Err d) e) [
      | inl h ↦ stuck_cast IsText bytes (k ∷ drop 1 bytes) (left_of d) (begun k bytes h.0) (p h.1)
      | inr h ↦ q h.1
    ]

begun_refused : (levels : ℕ) (one : List ℕ → Result (Tree × List ℕ) Fault) → OneReads IsText one → OneRefused IsText one → OneRefused IsText (begun_at one levels)
unfolding begun_at
begun_refused levels one reads refuses bytes d e =
    let rest : List ℕ = drop 1 bytes in
    let from_60 : Result (Tree × List ℕ) Fault = cond (begins (λ b. b == 60) bytes) (binary_at rest) (number_at bytes) in
    let from_91 : Result (Tree × List ℕ) Fault = cond (begins (λ b. b == 91) bytes) (list_at one rest) from_60 in
    let from_123 : Result (Tree × List ℕ) Fault = cond (begins (λ b. b == 123) bytes) (tuple_at one rest) from_91 in
    let from_34 : Result (Tree × List ℕ) Fault = cond (begins (λ b. b == 34) bytes) (string_at levels rest) from_123 in
    let from_39 : Result (Tree × List ℕ) Fault = cond (begins (λ b. b == 39) bytes) (quoted_atom_at rest) from_34 in
    elim (chosen (begins is_ascii_lowercase bytes) (name_at bytes) from_39 (Err d) e) [
      | inl h ↦ name_refused bytes d h.0 h.1
      | inr h ↦
          by_first 39 d bytes (quoted_atom_at rest) from_34 h.1 (quoted_atom_refused rest d) (λ e34.
          by_first 34 d bytes (string_at levels rest) from_123 e34 (string_refused levels rest d) (λ e123.
          by_first 123 d bytes (tuple_at one rest) from_91 e123 (tuple_refused one reads refuses rest d) (λ e91.
          by_first 91 d bytes (list_at one rest) from_60 e91 (list_refused one reads refuses rest d) (λ e60.
          by_first 60 d bytes (binary_at rest) (number_at bytes) e60 (binary_refused rest d) (number_refused bytes d)))))
    ]

texts_read : (levels : ℕ) → OneReads IsText (term_at levels)
texts_read levels bytes x e = let found = term_is levels bytes x e in (found.text, found.is, found.parts)

term_refused : (levels : ℕ) → OneRefused IsText (term_at levels)
unfolding term_at
term_refused zero bytes d e = by (begins may_begin_term bytes) e
  where
    by : (t : Bool) → cond {A = Result (Tree × List ℕ) Fault} t (Err (TooDeep (length bytes))) (refused bytes) ≡ Err d → Stuck IsText bytes (left_of d)
    by true e = stuck_behind IsText [] bytes (48 ∷ []) (int (pos 0)) (left_of d) zero_is (let same : TooDeep (length bytes) ≡ d = cc in ap left_of same)
    by false e = stuck_behind IsText [] bytes (48 ∷ []) (int (pos 0)) (left_of d) zero_is (refused_left {A = Tree × List ℕ} bytes d e)
term_refused (suc levels) bytes d e = begun_refused levels (term_at levels) (texts_read levels) (term_refused levels) bytes d e

-- ---- the places

pub with_places-Bad : (end : ℕ) (r : Result (Tree × List ℕ) Fault) (place : ℕ) → with_places end r ≡ Err (refusals.Bad place) → (left : ℕ) × (r ≡ Err (Bad left)) × (end - left ≡ place)
with_places-Bad end (Ok x) place e = absurd cc
with_places-Bad end (Err (Bad left)) place e = (left, refl, cc)
with_places-Bad end (Err (WideInt left)) place e = absurd cc
with_places-Bad end (Err (TooDeep left)) place e = absurd cc

pub with_places-WideInt : (end : ℕ) (r : Result (Tree × List ℕ) Fault) (place : ℕ) → with_places end r ≡ Err (refusals.WideInt place) → (left : ℕ) × (r ≡ Err (WideInt left)) × (end - left ≡ place)
with_places-WideInt end (Ok x) place e = absurd cc
with_places-WideInt end (Err (Bad left)) place e = absurd cc
with_places-WideInt end (Err (WideInt left)) place e = (left, refl, cc)
with_places-WideInt end (Err (TooDeep left)) place e = absurd cc

pub with_places-TooDeep : (end : ℕ) (r : Result (Tree × List ℕ) Fault) (place : ℕ) → with_places end r ≡ Err (refusals.TooDeep place) → (left : ℕ) × (r ≡ Err (TooDeep left)) × (end - left ≡ place)
with_places-TooDeep end (Ok x) place e = absurd cc
with_places-TooDeep end (Err (Bad left)) place e = absurd cc
with_places-TooDeep end (Err (WideInt left)) place e = absurd cc
with_places-TooDeep end (Err (TooDeep left)) place e = (left, refl, cc)

late : (levels : ℕ) (text : List ℕ) (at place : ℕ) (d : Fault) → at ≤ length text → term_at levels (drop at text) ≡ Err d → length text - left_of d ≡ place → IsLate text at place
late levels text at place d le refusal there =
    let stuck = term_refused levels (drop at text) d refusal in
    let v = stuck.viable in
    let size : length text - at ≡ length stuck.front + left_of d = sym (length-drop at text) ∙ ap length stuck.parts ∙ length-append stuck.front stuck.back ∙ ap (λ (n : ℕ). length stuck.front + n) stuck.size in
    let count : place - at ≡ length stuck.front = omega (arith, size, there) in
    let front : slice_range text at place ≡ stuck.front = ap (λ (n : ℕ). take n (drop at text)) count ∙ ap (take (length stuck.front)) stuck.parts ∙ take_at stuck.front stuck.back (length stuck.front) refl in
    record { order = omega (arith, size, there); within = omega (arith, there); front = (v.kept, v.escape, v.more, v.value, front ∙ v.parts, v.open_end, v.is) }

pub is_late : (levels : ℕ) (text : List ℕ) (at place : ℕ) → at ≤ length text → read levels text at ≡ Err (refusals.Bad place) → IsLate text at place
is_late levels text at place le e = let refusal = with_places-Bad (length text) (term_at levels (drop at text)) place e in late levels text at place (Bad refusal.0) le refusal.1 refusal.2

pub is_late_wide : (levels : ℕ) (text : List ℕ) (at place : ℕ) → at ≤ length text → read levels text at ≡ Err (refusals.WideInt place) → IsLate text at place
is_late_wide levels text at place le e = let refusal = with_places-WideInt (length text) (term_at levels (drop at text)) place e in late levels text at place (WideInt refusal.0) le refusal.1 refusal.2

pub is_late_deep : (levels : ℕ) (text : List ℕ) (at place : ℕ) → at ≤ length text → read levels text at ≡ Err (refusals.TooDeep place) → IsLate text at place
is_late_deep levels text at place le e = let refusal = with_places-TooDeep (length text) (term_at levels (drop at text)) place e in late levels text at place (TooDeep refusal.0) le refusal.1 refusal.2
