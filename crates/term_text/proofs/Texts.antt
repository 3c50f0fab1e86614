-- Texts of trees, one by one and in lists.
use Rattle.std.proofs.Common.{◌≡◌, ℕ, ◌<◌, ◌≤◌, true, false, List, [], ◌∷◌, decimal, refl, ap, arith, inl, inr}
use Rattle.std.specs.Prelude.{pos, negsuc}
use Rattle.std.specs.Char.{is_ascii_digit, is_ascii_lowercase, digit_value}
use Rattle.std.specs.Str.Parse.{IsNumeral}
use Rattle.std.proofs.lemmas.Bool.{and_parts, or_right}
use Rattle.std.proofs.lemmas.Str.Parse.{digit_from_value}
use Rattle.std.proofs.lemmas.Bool.Decides.{nat_tests}
use Rattle.std.proofs.lemmas.Fmt.{decimal_is_IsNumeral_wide}
use Rattle.term_core.specs.Tree.{Tree, int, atom, tuple, list, bin, Trees, no_trees, tree, depth, greatest_depth}
use Rattle.term_core.specs.View.{trees_of}
use Rattle.term_text.specs.Grammar.{begins, is_name_byte, is_name, AreBlanks, Each, Blanked, Comma, Elements, IsByte, IsAtom, IsText, AreTexts, MoreTexts, Stops, numbers}
use Rattle.term_text.specs.Grammar as grammar
use Rattle.term_text.specs.Reading.{may_begin_term}
use Rattle.term_text.proofs.Listing.{Delimited}

-- a text of a tree of so many levels
abbrev pub IsTextWithin : ℕ → Tree → List ℕ → Type 0
IsTextWithin levels t text = IsText t text × (depth t ≤ levels)

-- ---- trees in lists

pub list_of : Trees → List Tree
list_of no_trees = []
list_of (tree t ts) = t ∷ list_of ts

pub trees_of-list_of : (ts : Trees) → trees_of (list_of ts) ≡ ts
unfolding list_of
trees_of-list_of no_trees = refl
trees_of-list_of (tree t ts) = ap (tree t) (trees_of-list_of ts)

more_texts : (levels : ℕ) (xs : List Tree) (text : List ℕ) → Each (λ y. Comma (Blanked (IsTextWithin levels y))) xs text → MoreTexts (trees_of xs) text × (greatest_depth (trees_of xs) ≤ levels)
more_texts levels [] text each = (each, omega arith)
more_texts levels (x ∷ xs) text (first, others, (inner, (before, one, behind, are, is, are_behind, e), comma), each, whole) =
    let more = more_texts levels xs others each in
    ((first, others, (inner, (before, one, behind, are, is.0, are_behind, e), comma), more.0, whole), omega (arith, is.1, more.1))

pub texts_of : (levels : ℕ) (xs : List Tree) (text : List ℕ) → Elements (IsTextWithin levels) xs text → AreTexts (trees_of xs) text × (greatest_depth (trees_of xs) ≤ levels)
texts_of levels [] text are = (are, omega arith)
texts_of levels (x ∷ xs) text (first, others, (before, one, behind, are, is, are_behind, e), each, whole) =
    let more = more_texts levels xs others each in
    ((first, others, (before, one, behind, are, is.0, are_behind, e), more.0, whole), omega (arith, is.1, more.1))

more_elements : (levels : ℕ) (ts : Trees) (text : List ℕ) → MoreTexts ts text → greatest_depth ts ≤ levels → Each (λ y. Comma (Blanked (IsTextWithin levels y))) (list_of ts) text
unfolding list_of
more_elements levels no_trees text more deep = more
more_elements levels (tree t ts) text (first, others, (inner, (before, one, behind, are, is, are_behind, e), comma), more, whole) deep =
    (first, others, (inner, (before, one, behind, are, (is, omega arith), are_behind, e), comma), more_elements levels ts others more (omega arith), whole)

pub elements_of : (levels : ℕ) (ts : Trees) (text : List ℕ) → AreTexts ts text → greatest_depth ts ≤ levels → Elements (IsTextWithin levels) (list_of ts) text
unfolding list_of
elements_of levels no_trees text are deep = are
elements_of levels (tree t ts) text (first, others, (before, one, behind, are, is, are_behind, e), more, whole) deep =
    (first, others, (before, one, behind, are, (is, omega arith), are_behind, e), more_elements levels ts others more (omega arith), whole)

pub numbers_depth : (cs : List ℕ) → greatest_depth (numbers cs) ≤ 1
numbers_depth [] = omega arith
numbers_depth (c ∷ cs) = omega (arith, numbers_depth cs)

pub depth_some : (t : Tree) → 0 < depth t
depth_some (int n) = omega arith
depth_some (atom a) = omega arith
depth_some (tuple ts) = omega arith
depth_some (list ts) = omega arith
depth_some (bin b) = omega arith

-- ---- how texts begin, and what follows them

digit_is_name : (b : ℕ) → is_name_byte b ≡ false → is_ascii_digit b ≡ false
digit_is_name b h = grind (arith, nat_tests)

pub no_digit : (rest : List ℕ) → Delimited rest → begins is_ascii_digit rest ≡ false
no_digit [] h = refl
no_digit (b ∷ rest) h = digit_is_name b h

pub stops : (t : Tree) (text rest : List ℕ) → Delimited rest → Stops t text rest
stops (int n) text rest h = λ other. no_digit rest h
stops (atom a) text rest h = λ name. h
stops (tuple ts) text rest h = tt
stops (list ts) text rest h = tt
stops (bin b) text rest h = tt

digit_starts : (c : ℕ) → digit_value c < 10 → may_begin_term c ≡ true
digit_starts c h = let range = digit_from_value c h in starts c (digit_range c range.0 range.1)
  where
    digit_range : (c : ℕ) → 48 ≤ c → c ≤ 57 → is_ascii_digit c ≡ true
    digit_range c low high = grind (arith, nat_tests)

    starts : (c : ℕ) → is_ascii_digit c ≡ true → may_begin_term c ≡ true
    starts c h = or_right _ _ h

numeral_begins : (text : List ℕ) → IsNumeral 10 text → begins may_begin_term text ≡ true
numeral_begins [] is = absurd (omega (arith, is.0))
numeral_begins (c ∷ text) is = digit_starts c is.1.0

letter_starts : (c : ℕ) → is_ascii_lowercase c ≡ true → may_begin_term c ≡ true
letter_starts c h = rw h refl

pub byte_begins : (n : ℕ) (text : List ℕ) → IsByte n text → begins may_begin_term text ≡ true
byte_begins n text is = rw is.1 (numeral_begins (decimal n) (decimal_is_IsNumeral_wide n (omega (arith, is.0))).0)

name_begins : (a : List ℕ) → is_name a ≡ true → begins may_begin_term a ≡ true
name_begins [] is = absurd cc
name_begins (c ∷ a) is = letter_starts c (and_parts _ _ is).0

atom_begins : (a text : List ℕ) → IsAtom a text → begins may_begin_term text ≡ true
atom_begins a text (grammar.bare is short e) = rw e (name_begins a is)
atom_begins a text (grammar.quoted cs is short e) = rw is.2 refl

pub text_begins : (t : Tree) (text : List ℕ) → IsText t text → begins may_begin_term text ≡ true
text_begins (int (pos n)) text is = rw is.1 (numeral_begins (decimal n) (decimal_is_IsNumeral_wide n (omega (arith, is.0.sfits))).0)
text_begins (int (negsuc n)) text is = rw is.1 refl
text_begins (atom a) text is = atom_begins a text is
text_begins (tuple ts) text is = rw is.2 refl
text_begins (list ts) text (inl is) = rw is.2 refl
text_begins (list ts) text (inr is) = rw is.1.2 refl
text_begins (bin b) text (inl is) = rw is.2 refl
text_begins (bin b) text (inr is) = rw is.2 refl
