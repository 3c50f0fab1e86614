-- A text of a tree is read as that tree, whatever follows that leaves its last token as it is.
use Rattle.std.proofs.Common.{◌≡◌, ◌≢◌, ℕ, zero, suc, ◌+◌, ◌-◌, ◌<◌, ◌≤◌, max, true, false, not, List, [], ◌∷◌, ◌++◌, length, drop, decimal, Result, Ok, refl, sym, ap, subst, ◌∙◌, arith, append_assoc, inl, inr, length-append}
use Rattle.std.specs.Prelude.{◌==◌, ◌&&◌, ◌||◌, ℤ, pos, negsuc, slice_range, FitsSigned}
use Rattle.std.specs.Int.{w128}
use Rattle.std.specs.Char.{is_ascii_digit, is_ascii_lowercase, digit_value}
use Rattle.std.specs.Fmt.{signed_decimal}
use Rattle.std.specs.List.{prefix_len, list_all}
use Rattle.std.specs.Str.{encode_utf8_all}
use Rattle.std.specs.Str.Parse.{IsNumeral}
use Rattle.std.proofs.lemmas.Bool.{and_parts, and_from, le-leb, ne_eqb}
use Rattle.std.proofs.lemmas.Bool.Decides.{nat_tests}
use Rattle.std.proofs.lemmas.Fmt.{decimal_is_IsNumeral_wide}
use Rattle.std.proofs.lemmas.List.{take-append-drop, take_at, drop_at, length-drop, drop-drop}
use Rattle.std.proofs.lemmas.Str.Parse.{digit_from_value}
use Rattle.term_core.specs.Tree.{Tree, int, atom, tuple, list, bin, Trees, depth, greatest_depth}
use Rattle.term_text.specs.declared.fault.Fault.{Fault}
use Rattle.term_text.specs.Grammar.{begins, is_blank, is_name_byte, is_name, Then, Each, Blanked, Elements, IsQuoted, IsNarrow, IsByte, IsAtom, IsCharacter, IsText, AreTexts, Stops, numbers}
use Rattle.term_text.specs.Grammar as grammar
use Rattle.term_text.specs.Places.{Stands, read, with_places}
use Rattle.term_text.specs.Reading.{unblanked, number_at, small_at, character_at, narrow_at, inner_at, name_at, quoted_atom_at, may_begin_character, string_at, byte_string_at, bytes_at, binary_at, tuple_at, list_at, begun_at, term_at}
use Rattle.term_text.proofs.Fronts.{ok_is}
use Rattle.term_text.proofs.Steps.{byte_again, prefix_whole, unblanked_again}
use Rattle.term_text.proofs.Decimals.{number_again, small_again}
use Rattle.term_text.proofs.Quoting.{quoted_again, characters_again, narrow_again, each_count, character_some}
use Rattle.term_text.proofs.Listing.{OneAgain, IsMark, inner_again, first_begins}
use Rattle.term_text.proofs.Texts.{IsTextWithin, list_of, trees_of-list_of, elements_of, depth_some, no_digit, stops, byte_begins, text_begins}

-- ---- numbers

-- a first byte of a number begins nothing else
pub number_only : (one : List ℕ → Result (Tree × List ℕ) Fault) (levels b : ℕ) (rest : List ℕ) → (is_ascii_digit b || (b == 45)) ≡ true → begun_at one levels (b ∷ rest) ≡ number_at (b ∷ rest)
unfolding begun_at
number_only one levels b rest h =
    let facts = others b h in
    rw (facts.0, facts.1, facts.2, facts.3, facts.4, facts.5) refl
  where
    others : (b : ℕ) → (is_ascii_digit b || (b == 45)) ≡ true → (is_ascii_lowercase b ≡ false) × ((b == 39) ≡ false) × ((b == 34) ≡ false) × ((b == 123) ≡ false) × ((b == 91) ≡ false) × ((b == 60) ≡ false)
    others b h = (grind (arith, nat_tests), grind (arith, nat_tests), grind (arith, nat_tests), grind (arith, nat_tests), grind (arith, nat_tests), grind (arith, nat_tests))

digit_first : (c : ℕ) → digit_value c < 10 → (is_ascii_digit c || (c == 45)) ≡ true
digit_first c h = let range = digit_from_value c h in grind (arith, nat_tests)

pub numeral_only : (one : List ℕ → Result (Tree × List ℕ) Fault) (levels : ℕ) (text rest : List ℕ) → IsNumeral 10 text → begun_at one levels (text ++ rest) ≡ number_at (text ++ rest)
numeral_only one levels [] rest is = absurd (omega (arith, is.0))
numeral_only one levels (c ∷ text) rest is = number_only one levels c (text ++ rest) (digit_first c is.1.0)

int_again : (one : List ℕ → Result (Tree × List ℕ) Fault) (levels : ℕ) (z : ℤ) (rest : List ℕ) → FitsSigned w128 z → (z ≢ pos 0 → begins is_ascii_digit rest ≡ false) → begun_at one levels (signed_decimal z ++ rest) ≡ Ok (int z, rest)
int_again one levels (pos n) rest range stops = numeral_only one levels (decimal n) rest (decimal_is_IsNumeral_wide n (omega (arith, range.sfits))).0 ∙ number_again (pos n) rest range stops
int_again one levels (negsuc n) rest range stops = number_only one levels 45 (decimal (suc n) ++ rest) refl ∙ number_again (negsuc n) rest range stops

-- ---- atoms

pub name_all : (a : List ℕ) → is_name a ≡ true → list_all is_name_byte a ≡ true
name_all [] is = refl
name_all (b ∷ a) is = let parts = and_parts (is_ascii_lowercase b) (list_all is_name_byte a) is in and_from _ _ (lower b parts.0) parts.1
  where
    lower : (b : ℕ) → is_ascii_lowercase b ≡ true → is_name_byte b ≡ true
    lower b h = grind (arith, nat_tests)

name_again : (a rest : List ℕ) → is_name a ≡ true → length a ≤ 255 → begins is_name_byte rest ≡ false → name_at (a ++ rest) ≡ Ok (atom a, rest)
unfolding name_at
name_again a rest is short stops =
    let n : prefix_len is_name_byte (a ++ rest) ≡ length a = prefix_whole is_name_byte a rest (name_all a is) stops in
    rw (n, le-leb (length a) 255 short, take_at a rest (length a) refl, drop_at a rest (length a) refl) refl

begun_name : (one : List ℕ → Result (Tree × List ℕ) Fault) (levels : ℕ) (bytes : List ℕ) → begins is_ascii_lowercase bytes ≡ true → begun_at one levels bytes ≡ name_at bytes
unfolding begun_at
begun_name one levels bytes h = rw h refl

bare_again : (one : List ℕ → Result (Tree × List ℕ) Fault) (levels : ℕ) (a rest : List ℕ) → is_name a ≡ true → length a ≤ 255 → (begins is_ascii_lowercase a ≡ true → begins is_name_byte rest ≡ false) → begun_at one levels (a ++ rest) ≡ Ok (atom a, rest)
bare_again one levels [] rest is short stops = absurd cc
bare_again one levels (b ∷ a) rest is short stops =
    let lower = (and_parts (is_ascii_lowercase b) (list_all is_name_byte a) is).0 in
    begun_name one levels (b ∷ (a ++ rest)) lower ∙ name_again (b ∷ a) rest is short (stops lower)

begun_quote : (one : List ℕ → Result (Tree × List ℕ) Fault) (levels : ℕ) (rest : List ℕ) → begun_at one levels (39 ∷ rest) ≡ quoted_atom_at rest
unfolding begun_at
begun_quote one levels rest = refl

quoted_atom_again : (cs inner rest : List ℕ) → Each (IsCharacter 39) cs inner → length cs ≤ 255 → quoted_atom_at (inner ++ 39 ∷ rest) ≡ Ok (atom (encode_utf8_all cs), rest)
unfolding quoted_atom_at
quoted_atom_again cs inner rest each short = rw (quoted_again (IsCharacter 39) character_at 39 (characters_again 39 (omega arith)) 255 cs inner rest each short) refl

-- a text between bytes, and what follows it
apart : (opening : ℕ) (inner close rest text : List ℕ) → text ≡ opening ∷ (inner ++ close) → text ++ rest ≡ opening ∷ (inner ++ (close ++ rest))
apart opening inner close rest text e = ap (λ (s : List ℕ). s ++ rest) e ∙ ap (λ (s : List ℕ). opening ∷ s) (append_assoc inner close rest)

atom_again : (one : List ℕ → Result (Tree × List ℕ) Fault) (levels : ℕ) (a text rest : List ℕ) → IsAtom a text → Stops (atom a) text rest → begun_at one levels (text ++ rest) ≡ Ok (atom a, rest)
atom_again one levels a text rest (grammar.bare is short e) stops =
    ap (λ (s : List ℕ). begun_at one levels (s ++ rest)) e ∙ bare_again one levels a rest is short (λ h. stops (ap (begins is_ascii_lowercase) e ∙ h))
atom_again one levels a text rest (grammar.quoted cs is short e) stops =
    ap (begun_at one levels) (apart 39 is.0 (39 ∷ []) rest text is.2)
    ∙ begun_quote one levels (is.0 ++ 39 ∷ rest) ∙ quoted_atom_again cs is.0 rest is.1 short ∙ ap (λ (b : List ℕ). Ok (atom b, rest)) (sym e)

-- ---- strings

begun_string : (one : List ℕ → Result (Tree × List ℕ) Fault) (levels : ℕ) (rest : List ℕ) → begun_at one levels (34 ∷ rest) ≡ string_at levels rest
unfolding begun_at
begun_string one levels rest = refl

-- the characters are on a level that may stand
level_fits : (levels : ℕ) (cs inner rest : List ℕ) → Each (IsCharacter 34) cs inner → depth (list (numbers cs)) ≤ suc levels → ((levels == 0) && not (begins (λ b. b == 34) (inner ++ 34 ∷ rest)) && begins may_begin_character (inner ++ 34 ∷ rest)) ≡ false
level_fits zero [] inner rest each deep = rw each refl
level_fits zero (c ∷ cs) inner rest each deep = absurd (omega arith)
level_fits (suc levels) cs inner rest each deep = let other : (suc levels == 0) ≡ false = ne_eqb (suc levels) 0 (λ e. absurd cc) in rw other refl

string_text : (levels : ℕ) (cs inner rest : List ℕ) → Each (IsCharacter 34) cs inner → depth (list (numbers cs)) ≤ suc levels → string_at levels (inner ++ 34 ∷ rest) ≡ Ok (list (numbers cs), rest)
unfolding string_at
string_text levels cs inner rest each deep =
    let count = each_count (IsCharacter 34) (character_some 34) cs inner each in
    let read = quoted_again (IsCharacter 34) character_at 34 (characters_again 34 (omega arith)) (length (inner ++ 34 ∷ rest)) cs inner rest each (omega (arith, count, length-append inner (34 ∷ rest))) in
    rw (level_fits levels cs inner rest each deep, read) refl

-- ---- binaries

begun_binary : (one : List ℕ → Result (Tree × List ℕ) Fault) (levels : ℕ) (rest : List ℕ) → begun_at one levels (60 ∷ rest) ≡ binary_at rest
unfolding begun_at
begun_binary one levels rest = refl

binary_text : (b inner rest : List ℕ) → bytes_at (inner ++ 62 ∷ 62 ∷ rest) ≡ Ok (b, 62 ∷ rest) → binary_at (60 ∷ (inner ++ 62 ∷ 62 ∷ rest)) ≡ Ok (bin b, rest)
unfolding binary_at
binary_text b inner rest read = rw (byte_again 60 (inner ++ 62 ∷ 62 ∷ rest), read, byte_again 62 rest) refl

small_one : OneAgain IsByte small_at
small_one n text rest is free = ap (λ (s : List ℕ). small_at (s ++ rest)) is.1 ∙ small_again n rest is.0 (no_digit rest free)

-- numbers do not begin as a string does
no_string : (bytes : List ℕ) → begins (λ b. b == 34) (unblanked bytes) ≡ false → bytes_at bytes ≡ inner_at small_at 62 bytes
unfolding bytes_at
no_string bytes h = rw h refl

no_blank : (b : ℕ) → is_ascii_digit b ≡ true → is_blank b ≡ false
no_blank b h = grind (arith, nat_tests)

digit_passes : (c : ℕ) → digit_value c < 10 → is_ascii_digit c ≡ true
digit_passes c h = let range = digit_from_value c h in grind (arith, nat_tests)

byte_digit : (n : ℕ) (text : List ℕ) → IsByte n text → begins is_ascii_digit text ≡ true
byte_digit n text is = rw is.1 (by (decimal n) (decimal_is_IsNumeral_wide n (omega (arith, is.0))).0)
  where
    by : (text : List ℕ) → IsNumeral 10 text → begins is_ascii_digit text ≡ true
    by [] is = absurd (omega (arith, is.0))
    by (c ∷ text) is = digit_passes c is.1.0

numbers_text : (b inner rest : List ℕ) → Elements IsByte b inner → bytes_at (inner ++ 62 ∷ rest) ≡ Ok (b, rest)
numbers_text b inner rest are = no_string (inner ++ 62 ∷ rest) (start b inner rest are) ∙ inner_again IsByte small_at small_one byte_begins 62 (refl, refl, refl) (λ e. absurd cc) b inner rest are
  where
    digit_no_quote : (text : List ℕ) → begins is_ascii_digit text ≡ true → begins (λ b. b == 34) text ≡ false
    digit_no_quote [] h = refl
    digit_no_quote (c ∷ text) h = no_quote c h
      where
        no_quote : (c : ℕ) → is_ascii_digit c ≡ true → (c == 34) ≡ false
        no_quote c h = grind (arith, nat_tests)

    start : (b inner rest : List ℕ) → Elements IsByte b inner → begins (λ b. b == 34) (unblanked (inner ++ 62 ∷ rest)) ≡ false
    start [] inner rest are = ap (begins (λ b. b == 34)) (unblanked_again inner (62 ∷ rest) are refl)
    start (n ∷ ns) inner rest are =
        let regrouped : inner ++ 62 ∷ rest ≡ are.0 ++ (are.1 ++ 62 ∷ rest) = ap (λ (s : List ℕ). s ++ 62 ∷ rest) are.4 ∙ append_assoc are.0 are.1 (62 ∷ rest) in
        let digit = first_begins is_ascii_digit no_blank (IsByte n) (byte_digit n) are.0 (are.1 ++ 62 ∷ rest) are.2 in
        digit_no_quote (unblanked (inner ++ 62 ∷ rest)) (ap (λ (s : List ℕ). begins is_ascii_digit (unblanked s)) regrouped ∙ digit)

byte_string_text : (b quoted behind rest : List ℕ) → Each IsNarrow b quoted → unblanked (behind ++ 62 ∷ rest) ≡ 62 ∷ rest → byte_string_at (quoted ++ 34 ∷ (behind ++ 62 ∷ rest)) ≡ Ok (b, rest)
unfolding byte_string_at
byte_string_text b quoted behind rest each free =
    let count = each_count IsNarrow (λ c text is. character_some 34 c text is.1) b quoted each in
    let read = quoted_again IsNarrow narrow_at 34 narrow_again (length (quoted ++ 34 ∷ (behind ++ 62 ∷ rest))) b quoted (behind ++ 62 ∷ rest) each (omega (arith, count, length-append quoted (34 ∷ (behind ++ 62 ∷ rest)))) in
    rw (read, free, byte_again 62 rest) refl

is_string : (bytes behind : List ℕ) → unblanked bytes ≡ 34 ∷ behind → bytes_at bytes ≡ byte_string_at behind
unfolding bytes_at
is_string bytes behind e = rw e refl

quoted_text : (b inner rest : List ℕ) → Blanked (IsQuoted 34 IsNarrow b) inner → bytes_at (inner ++ 62 ∷ rest) ≡ Ok (b, rest)
quoted_text b inner rest (before, text, behind, are, (quoted, each, whole), are_behind, e) =
    let front : text ++ (behind ++ 62 ∷ rest) ≡ 34 ∷ (quoted ++ 34 ∷ (behind ++ 62 ∷ rest)) = apart 34 quoted (34 ∷ []) (behind ++ 62 ∷ rest) text whole in
    let regrouped : (before ++ (text ++ behind)) ++ 62 ∷ rest ≡ before ++ (text ++ (behind ++ 62 ∷ rest)) = simp append_assoc in
    let start : unblanked (inner ++ 62 ∷ rest) ≡ 34 ∷ (quoted ++ 34 ∷ (behind ++ 62 ∷ rest)) =
    ap unblanked (ap (λ (s : List ℕ). s ++ 62 ∷ rest) e ∙ regrouped ∙ ap (λ (s : List ℕ). before ++ s) front) ∙ unblanked_again before (34 ∷ (quoted ++ 34 ∷ (behind ++ 62 ∷ rest))) are refl in
    is_string (inner ++ 62 ∷ rest) (quoted ++ 34 ∷ (behind ++ 62 ∷ rest)) start ∙ byte_string_text b quoted behind rest each (unblanked_again behind (62 ∷ rest) are_behind refl)

-- ---- tuples and lists

begun_tuple : (one : List ℕ → Result (Tree × List ℕ) Fault) (levels : ℕ) (rest : List ℕ) → begun_at one levels (123 ∷ rest) ≡ tuple_at one rest
unfolding begun_at
begun_tuple one levels rest = refl

begun_list : (one : List ℕ → Result (Tree × List ℕ) Fault) (levels : ℕ) (rest : List ℕ) → begun_at one levels (91 ∷ rest) ≡ list_at one rest
unfolding begun_at
begun_list one levels rest = refl

-- so many levels are read again
abbrev Again : ℕ → (List ℕ → Result (Tree × List ℕ) Fault) → Type 0
Again levels one = (t : Tree) (text rest : List ℕ) → IsText t text → depth t ≤ levels → Stops t text rest → one (text ++ rest) ≡ Ok (t, rest)

one_again : (levels : ℕ) (one : List ℕ → Result (Tree × List ℕ) Fault) → Again levels one → OneAgain (IsTextWithin levels) one
one_again levels one again t text rest is free = again t text rest is.0 is.1 (stops t text rest free)

items_again : (levels : ℕ) (one : List ℕ → Result (Tree × List ℕ) Fault) → Again levels one → (close : ℕ) → IsMark close → close ≢ 44
    → (ts : Trees) (inner rest : List ℕ) → AreTexts ts inner → greatest_depth ts ≤ levels → inner_at one close (inner ++ close ∷ rest) ≡ Ok (list_of ts, rest)
items_again levels one again close mark other ts inner rest are deep =
    inner_again (IsTextWithin levels) one (one_again levels one again) (λ t text is. text_begins t text is.0) close mark other (list_of ts) inner rest (elements_of levels ts inner are deep)

tuple_text : (one : List ℕ → Result (Tree × List ℕ) Fault) (ts : Trees) (bytes rest : List ℕ) → inner_at one 125 bytes ≡ Ok (list_of ts, rest) → tuple_at one bytes ≡ Ok (tuple ts, rest)
unfolding tuple_at
tuple_text one ts bytes rest read = rw (read, trees_of-list_of ts) refl

list_text : (one : List ℕ → Result (Tree × List ℕ) Fault) (ts : Trees) (bytes rest : List ℕ) → inner_at one 93 bytes ≡ Ok (list_of ts, rest) → list_at one bytes ≡ Ok (list ts, rest)
unfolding list_at
list_text one ts bytes rest read = rw (read, trees_of-list_of ts) refl

-- ---- terms

tuple_again : (levels : ℕ) (one : List ℕ → Result (Tree × List ℕ) Fault) → Again levels one → (ts : Trees) (inner rest text : List ℕ) → AreTexts ts inner → text ≡ 123 ∷ (inner ++ 125 ∷ []) → greatest_depth ts ≤ levels
    → begun_at one levels (text ++ rest) ≡ Ok (tuple ts, rest)
tuple_again levels one again ts inner rest text are whole deep =
    ap (begun_at one levels) (apart 123 inner (125 ∷ []) rest text whole) ∙ begun_tuple one levels (inner ++ 125 ∷ rest)
    ∙ tuple_text one ts (inner ++ 125 ∷ rest) rest (items_again levels one again 125 (refl, refl, refl) (λ e. absurd cc) ts inner rest are deep)

list_again : (levels : ℕ) (one : List ℕ → Result (Tree × List ℕ) Fault) → Again levels one → (ts : Trees) (inner rest text : List ℕ) → AreTexts ts inner → text ≡ 91 ∷ (inner ++ 93 ∷ []) → greatest_depth ts ≤ levels
    → begun_at one levels (text ++ rest) ≡ Ok (list ts, rest)
list_again levels one again ts inner rest text are whole deep =
    ap (begun_at one levels) (apart 91 inner (93 ∷ []) rest text whole) ∙ begun_list one levels (inner ++ 93 ∷ rest)
    ∙ list_text one ts (inner ++ 93 ∷ rest) rest (items_again levels one again 93 (refl, refl, refl) (λ e. absurd cc) ts inner rest are deep)

string_again : (levels : ℕ) (one : List ℕ → Result (Tree × List ℕ) Fault) (ts : Trees) (cs inner rest text : List ℕ) → Each (IsCharacter 34) cs inner → text ≡ 34 ∷ (inner ++ 34 ∷ []) → ts ≡ numbers cs → depth (list ts) ≤ suc levels
    → begun_at one levels (text ++ rest) ≡ Ok (list ts, rest)
string_again levels one ts cs inner rest text each whole same deep =
    let fits : depth (list (numbers cs)) ≤ suc levels = subst (λ (us : Trees). depth (list us) ≤ suc levels) same deep in
    ap (begun_at one levels) (apart 34 inner (34 ∷ []) rest text whole) ∙ begun_string one levels (inner ++ 34 ∷ rest)
    ∙ string_text levels cs inner rest each fits ∙ ap (λ (us : Trees). Ok (list us, rest)) (sym same)

binary_again : (levels : ℕ) (one : List ℕ → Result (Tree × List ℕ) Fault) (b inner rest text : List ℕ) → bytes_at (inner ++ 62 ∷ 62 ∷ rest) ≡ Ok (b, 62 ∷ rest) → text ≡ 60 ∷ 60 ∷ (inner ++ 62 ∷ 62 ∷ [])
    → begun_at one levels (text ++ rest) ≡ Ok (bin b, rest)
binary_again levels one b inner rest text read whole =
    let twice : text ++ rest ≡ 60 ∷ 60 ∷ (inner ++ 62 ∷ 62 ∷ rest) = ap (λ (s : List ℕ). s ++ rest) whole ∙ ap (λ (s : List ℕ). 60 ∷ 60 ∷ s) (append_assoc inner (62 ∷ 62 ∷ []) rest) in
    ap (begun_at one levels) twice ∙ begun_binary one levels (60 ∷ (inner ++ 62 ∷ 62 ∷ rest)) ∙ binary_text b inner rest read

begun_again : (levels : ℕ) (one : List ℕ → Result (Tree × List ℕ) Fault) → Again levels one → Again (suc levels) (begun_at one levels)
begun_again levels one again (int z) text rest is deep stops = ap (λ (s : List ℕ). begun_at one levels (s ++ rest)) is.1 ∙ int_again one levels z rest is.0 stops
begun_again levels one again (atom a) text rest is deep stops = atom_again one levels a text rest is stops
begun_again levels one again (tuple ts) text rest is deep stops = tuple_again levels one again ts is.0 rest text is.1 is.2 (omega arith)
begun_again levels one again (list ts) text rest (inl is) deep stops = list_again levels one again ts is.0 rest text is.1 is.2 (omega arith)
begun_again levels one again (list ts) text rest (inr is) deep stops = string_again levels one ts is.0 is.1.0 rest text is.1.1 is.1.2 is.2 deep
begun_again levels one again (bin b) text rest (inl is) deep stops = binary_again levels one b is.0 rest text (numbers_text b is.0 (62 ∷ rest) is.1) is.2
begun_again levels one again (bin b) text rest (inr is) deep stops = binary_again levels one b is.0 rest text (quoted_text b is.0 (62 ∷ rest) is.1) is.2

pub term_again : (levels : ℕ) → Again levels (term_at levels)
unfolding term_at
term_again zero t text rest is deep stops = absurd (omega (arith, deep, depth_some t))
term_again (suc levels) t text rest is deep stops = begun_again levels (term_at levels) (term_again levels) t text rest is deep stops

-- ---- the places

pub stands_again : (levels : ℕ) (text : List ℕ) (at behind : ℕ) (t : Tree) → Stands levels text at behind t → read levels text at ≡ Ok (t, behind)
stands_again levels text at behind t stands =
    let order : at ≤ behind = stands.order in
    let within : behind ≤ length text = stands.within in
    let split : drop at text ≡ slice_range text at behind ++ drop behind text =
    sym (take-append-drop (behind - at) (drop at text)) ∙ ap (λ (s : List ℕ). slice_range text at behind ++ s) (drop-drop (behind - at) at text ∙ ap (λ (n : ℕ). drop n text) (let place : at + (behind - at) ≡ behind = omega arith in place)) in
    let read_so : term_at levels (drop at text) ≡ Ok (t, drop behind text) = ap (term_at levels) split ∙ term_again levels t (slice_range text at behind) (drop behind text) stands.is stands.deep stands.whole in
    let place : length text - length (drop behind text) ≡ behind = omega (arith, length-drop behind text) in
    ap (with_places (length text)) read_so ∙ ap (λ (n : ℕ). Ok (t, n)) place

-- no text is that of two trees
pub one_tree : (s t : Tree) (text : List ℕ) → IsText s text → IsText t text → s ≡ t
one_tree s t text is_s is_t =
    let levels : ℕ = max (depth s) (depth t) in
    let read_s = term_again levels s text [] is_s (omega arith) (stops s text [] refl) in
    let read_t = term_again levels t text [] is_t (omega arith) (stops t text [] refl) in
    ap (λ (x : Tree × List ℕ). x.0) (ok_is (s, []) (t, []) (sym read_s ∙ read_t))
