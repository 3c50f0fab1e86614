-- A tree is read from each of its spellings, whatever follows.
use Rattle.std.proofs.Common.{◌≡◌, ℕ, zero, suc, ◌+◌, ◌^◌, ◌<◌, ◌≤◌, true, false, eqb, ltb, ℤ, pos, negsuc, List, [], ◌∷◌, ◌++◌, length, Ok, refl, sym, ap, ◌∙◌, append_assoc, append-nil, subst, arith, to_z, inl, inr, ◌⊎◌}
use Rattle.std.specs.Prelude.{FitsSigned, ◌&&◌}
use Rattle.std.specs.Int.{Width, w8, w16, w32, w128, byte_len, to_be_bytes}
use Rattle.std.specs.Str.{chars, encode_utf8_all}
use Rattle.std.proofs.lemmas.Bool.{lt-ltb, le-leb}
use Rattle.std.proofs.Math.Dec.{eqb-suc-zero}
use Rattle.std.proofs.lemmas.Str.{is_utf8-from_IsUtf8}
use Rattle.term_core.specs.Tree.{Tree, int, atom, tuple, list, bin, Trees, no_trees, tree, count, depth, greatest_depth}
use Rattle.term_core.specs.Written.{is_byte, byte_of, all_bytes, bytes_of}
use Rattle.term_core.specs.Kept.{IsKept, AreKept}
use Rattle.term_wire.specs.Spelling.{Tagged, AreBytes, low_first, signed, SpellsNumber, SpellsAtom, Spells, AllSpell, IsText}
use Rattle.term_wire.specs.Reading.{small_at, integer_at, fits_term, wide_at, is_name, atom_at, latin_at, binary_at, numbers, numbers_at, items_at, tuple_at, list_at, leaf_at, tagged_at, term_at, text_at}
use Rattle.term_wire.specs.Decoding.{read, with_place}
use Rattle.term_wire.proofs.Fields.{ok_is, IsCount, count_1, count_2, count_4, number_again, sign_again, bytes_again, opened}
use Rattle.term_wire.proofs.Lists.{and_both}
use Rattle.term_wire.proofs.Utf8.{chars-latin}

-- what is read in front of a rest
abbrev IsAgain : ℕ → List ℕ → List ℕ → Tree → Type 0
IsAgain levels text rest t = term_at levels (text ++ rest) ≡ Ok (t, rest)

-- ---- the reader behind each tag

behind_97 : (levels : ℕ) (bytes : List ℕ) → term_at (suc levels) (97 ∷ bytes) ≡ small_at bytes
unfolding term_at tagged_at leaf_at
behind_97 levels bytes = refl

behind_98 : (levels : ℕ) (bytes : List ℕ) → term_at (suc levels) (98 ∷ bytes) ≡ integer_at bytes
unfolding term_at tagged_at leaf_at
behind_98 levels bytes = refl

behind_110 : (levels : ℕ) (bytes : List ℕ) → term_at (suc levels) (110 ∷ bytes) ≡ wide_at w8 bytes
unfolding term_at tagged_at leaf_at
behind_110 levels bytes = refl

behind_111 : (levels : ℕ) (bytes : List ℕ) → term_at (suc levels) (111 ∷ bytes) ≡ wide_at w32 bytes
unfolding term_at tagged_at leaf_at
behind_111 levels bytes = refl

behind_119 : (levels : ℕ) (bytes : List ℕ) → term_at (suc levels) (119 ∷ bytes) ≡ atom_at w8 bytes
unfolding term_at tagged_at leaf_at
behind_119 levels bytes = refl

behind_118 : (levels : ℕ) (bytes : List ℕ) → term_at (suc levels) (118 ∷ bytes) ≡ atom_at w16 bytes
unfolding term_at tagged_at leaf_at
behind_118 levels bytes = refl

behind_115 : (levels : ℕ) (bytes : List ℕ) → term_at (suc levels) (115 ∷ bytes) ≡ latin_at w8 bytes
unfolding term_at tagged_at leaf_at
behind_115 levels bytes = refl

behind_100 : (levels : ℕ) (bytes : List ℕ) → term_at (suc levels) (100 ∷ bytes) ≡ latin_at w16 bytes
unfolding term_at tagged_at leaf_at
behind_100 levels bytes = refl

behind_109 : (levels : ℕ) (bytes : List ℕ) → term_at (suc levels) (109 ∷ bytes) ≡ binary_at bytes
unfolding term_at tagged_at leaf_at
behind_109 levels bytes = refl

behind_104 : (levels : ℕ) (bytes : List ℕ) → term_at (suc levels) (104 ∷ bytes) ≡ tuple_at (term_at levels) w8 bytes
unfolding term_at tagged_at
behind_104 levels bytes = refl

behind_105 : (levels : ℕ) (bytes : List ℕ) → term_at (suc levels) (105 ∷ bytes) ≡ tuple_at (term_at levels) w32 bytes
unfolding term_at tagged_at
behind_105 levels bytes = refl

behind_107 : (levels : ℕ) (bytes : List ℕ) → term_at (suc levels) (107 ∷ bytes) ≡ numbers_at levels bytes
unfolding term_at tagged_at
behind_107 levels bytes = refl

behind_108 : (levels : ℕ) (bytes : List ℕ) → term_at (suc levels) (108 ∷ bytes) ≡ list_at (term_at levels) bytes
unfolding term_at tagged_at
behind_108 levels bytes = refl

-- ---- and what it reads

small_again : (m : ℕ) (rest : List ℕ) → m < 256 → small_at (to_be_bytes w8 m ++ rest) ≡ Ok (int (pos m), rest)
unfolding small_at
small_again m rest lt = rw (number_again w8 count_1 m rest lt) refl

integer_again : (m : ℕ) (rest : List ℕ) → m < 2 ^ 32 → integer_at (to_be_bytes w32 m ++ rest) ≡ Ok (int (to_z w32 m), rest)
unfolding integer_at
integer_again m rest lt = rw (number_again w32 count_4 m rest lt) refl

kept_fits : (z : ℤ) → FitsSigned w128 z → fits_term z ≡ true
kept_fits (pos n) h = lt-ltb n (2 ^ 127) h.sfits
kept_fits (negsuc n) h = lt-ltb n (2 ^ 127) h.sfits

wide_again : (w : Width) → IsCount w → (sign : ℕ) (digits rest : List ℕ) → length digits < 256 ^ byte_len w → sign ≤ 1 → FitsSigned w128 (signed sign (low_first digits))
    → wide_at w (to_be_bytes w (length digits) ++ (sign ∷ (digits ++ rest))) ≡ Ok (int (signed sign (low_first digits)), rest)
unfolding wide_at
wide_again w is_count sign digits rest lt known kept =
    rw (number_again w is_count (length digits) (sign ∷ (digits ++ rest)) lt, sign_again sign (digits ++ rest) known, bytes_again (length digits) digits rest refl, kept_fits (signed sign (low_first digits)) kept) refl

name_fits : (a : List ℕ) → IsKept (atom a) → is_name a ≡ true
name_fits a kept = rw (is_utf8-from_IsUtf8 a kept.0, le-leb (length (chars a)) 255 kept.1) refl

atom_again : (w : Width) → IsCount w → (a rest : List ℕ) → length a < 256 ^ byte_len w → IsKept (atom a) → atom_at w (to_be_bytes w (length a) ++ (a ++ rest)) ≡ Ok (atom a, rest)
unfolding atom_at
atom_again w is_count a rest lt kept = rw (number_again w is_count (length a) (a ++ rest) lt, bytes_again (length a) a rest refl, name_fits a kept) refl

latin_again : (w : Width) → IsCount w → (latin rest : List ℕ) → length latin < 256 ^ byte_len w → AreBytes latin → IsKept (atom (encode_utf8_all latin))
    → latin_at w (to_be_bytes w (length latin) ++ (latin ++ rest)) ≡ Ok (atom (encode_utf8_all latin), rest)
unfolding latin_at
latin_again w is_count latin rest lt small kept =
    let short : length latin ≤ 255 = omega (arith, kept.1, ap length (chars-latin latin small)) in
    rw (number_again w is_count (length latin) (latin ++ rest) lt, bytes_again (length latin) latin rest refl, le-leb (length latin) 255 short) refl

binary_again : (b rest : List ℕ) → length b < 2 ^ 32 → binary_at (to_be_bytes w32 (length b) ++ (b ++ rest)) ≡ Ok (bin b, rest)
unfolding binary_at
binary_again b rest lt = rw (number_again w32 count_4 (length b) (b ++ rest) lt, bytes_again (length b) b rest refl) refl

byte_same : (t : Tree) → is_byte t ≡ true → int (pos (byte_of t)) ≡ t
byte_same (int (pos n)) h = refl
byte_same (int (negsuc n)) h = absurd cc
byte_same (atom a) h = absurd cc
byte_same (tuple ts) h = absurd cc
byte_same (list ts) h = absurd cc
byte_same (bin b) h = absurd cc

numbers-bytes_of : (ts : Trees) → all_bytes ts ≡ true → numbers (bytes_of ts) ≡ ts
numbers-bytes_of no_trees h = refl
numbers-bytes_of (tree t ts) h =
    let both = and_both (is_byte t) (all_bytes ts) h in
    rw (byte_same t both.0, numbers-bytes_of ts both.1) refl

length-bytes_of : (ts : Trees) → length (bytes_of ts) ≡ count ts
length-bytes_of no_trees = refl
length-bytes_of (tree t ts) = omega (arith, length-bytes_of ts)

depth_some : (t : Tree) → 1 ≤ depth t
depth_some (int n) = omega arith
depth_some (atom a) = omega arith
depth_some (tuple ts) = omega arith
depth_some (list ts) = omega arith
depth_some (bin b) = omega arith

level_fits : (levels : ℕ) (ts : Trees) → greatest_depth ts ≤ levels → eqb levels 0 && ltb 0 (count ts) ≡ false
level_fits zero no_trees h = refl
level_fits zero (tree t ts) h = absurd (omega (arith, h, depth_some t))
level_fits (suc levels) ts h = rw (eqb-suc-zero levels) refl

numbers_again : (levels : ℕ) (ts : Trees) (rest : List ℕ) → count ts < 65536 → all_bytes ts ≡ true → greatest_depth ts ≤ levels → numbers_at levels (to_be_bytes w16 (count ts) ++ (bytes_of ts ++ rest)) ≡ Ok (list ts, rest)
unfolding numbers_at
numbers_again levels ts rest lt small deep =
    rw (number_again w16 count_2 (count ts) (bytes_of ts ++ rest) lt, bytes_again (count ts) (bytes_of ts) rest (length-bytes_of ts), level_fits levels ts deep, numbers-bytes_of ts small) refl

tuple_again : (levels : ℕ) (w : Width) → IsCount w → (ts : Trees) (inside rest : List ℕ) → count ts < 256 ^ byte_len w → items_at (term_at levels) (count ts) (inside ++ rest) ≡ Ok (ts, rest)
    → tuple_at (term_at levels) w (to_be_bytes w (count ts) ++ (inside ++ rest)) ≡ Ok (tuple ts, rest)
unfolding tuple_at
tuple_again levels w is_count ts inside rest lt items = rw (number_again w is_count (count ts) (inside ++ rest) lt, items) refl

nil_again : (levels : ℕ) (rest : List ℕ) → term_at (suc levels) (106 ∷ rest) ≡ Ok (list no_trees, rest)
unfolding term_at tagged_at
nil_again levels rest = refl

list_again : (levels : ℕ) (ts : Trees) (inside rest : List ℕ) → count ts < 2 ^ 32 → items_at (term_at levels) (count ts) (inside ++ 106 ∷ rest) ≡ Ok (ts, 106 ∷ rest)
    → list_at (term_at levels) (to_be_bytes w32 (count ts) ++ (inside ++ 106 ∷ rest)) ≡ Ok (list ts, rest)
unfolding list_at
list_again levels ts inside rest lt items = rw (number_again w32 count_4 (count ts) (inside ++ 106 ∷ rest) lt, items) refl

none_again : (levels : ℕ) (rest : List ℕ) → items_at (term_at levels) 0 rest ≡ Ok (no_trees, rest)
unfolding items_at
none_again levels rest = refl

items_again : (levels : ℕ) (t : Tree) (ts : Trees) (front back rest : List ℕ) → term_at levels (front ++ (back ++ rest)) ≡ Ok (t, back ++ rest) → items_at (term_at levels) (count ts) (back ++ rest) ≡ Ok (ts, rest)
    → items_at (term_at levels) (count (tree t ts)) ((front ++ back) ++ rest) ≡ Ok (tree t ts, rest)
unfolding items_at
items_again levels t ts front back rest first others =
    let size : count ts + 1 ≡ suc (count ts) = omega arith in
    ap (items_at (term_at levels) (count ts + 1)) (append_assoc front back rest) ∙ rw (size, first, others) refl

-- ---- each kind of tree

number_spelled : (levels : ℕ) (z : ℤ) (text rest : List ℕ) → SpellsNumber z text → FitsSigned w128 z → IsAgain (suc levels) text rest (int z)
number_spelled levels z text rest (inl h) kept =
    ap (term_at (suc levels)) (opened 97 w8 h.0 [] text rest h.2) ∙ behind_97 levels (to_be_bytes w8 h.0 ++ rest) ∙ small_again h.0 rest h.2.0 ∙ ap (λ (n : ℤ). Ok (int n, rest)) (sym h.1)
number_spelled levels z text rest (inr (inl h)) kept =
    ap (term_at (suc levels)) (opened 98 w32 h.0 [] text rest h.2) ∙ behind_98 levels (to_be_bytes w32 h.0 ++ rest) ∙ integer_again h.0 rest h.2.0 ∙ ap (λ (n : ℤ). Ok (int n, rest)) (sym h.1)
number_spelled levels z text rest (inr (inr (sign, digits, known, small, is, inl h))) kept =
    ap (term_at (suc levels)) (opened 110 w8 (length digits) (sign ∷ digits) text rest h) ∙ behind_110 levels _ ∙ wide_again w8 count_1 sign digits rest h.0 known (subst (FitsSigned w128) is kept) ∙ ap (λ (n : ℤ). Ok (int n, rest)) (sym is)
number_spelled levels z text rest (inr (inr (sign, digits, known, small, is, inr h))) kept =
    ap (term_at (suc levels)) (opened 111 w32 (length digits) (sign ∷ digits) text rest h) ∙ behind_111 levels _ ∙ wide_again w32 count_4 sign digits rest h.0 known (subst (FitsSigned w128) is kept) ∙ ap (λ (n : ℤ). Ok (int n, rest)) (sym is)

atom_spelled : (levels : ℕ) (a text rest : List ℕ) → SpellsAtom a text → IsKept (atom a) → IsAgain (suc levels) text rest (atom a)
atom_spelled levels a text rest (inl h) kept =
    ap (term_at (suc levels)) (opened 119 w8 (length a) a text rest h) ∙ behind_119 levels _ ∙ atom_again w8 count_1 a rest h.0 kept
atom_spelled levels a text rest (inr (inl h)) kept =
    ap (term_at (suc levels)) (opened 118 w16 (length a) a text rest h) ∙ behind_118 levels _ ∙ atom_again w16 count_2 a rest h.0 kept
atom_spelled levels a text rest (inr (inr (latin, small, is, inl h))) kept =
    ap (term_at (suc levels)) (opened 115 w8 (length latin) latin text rest h) ∙ behind_115 levels _ ∙ latin_again w8 count_1 latin rest h.0 small (subst (λ (b : List ℕ). IsKept (atom b)) is kept) ∙ ap (λ (b : List ℕ). Ok (atom b, rest)) (sym is)
atom_spelled levels a text rest (inr (inr (latin, small, is, inr h))) kept =
    ap (term_at (suc levels)) (opened 100 w16 (length latin) latin text rest h) ∙ behind_100 levels _ ∙ latin_again w16 count_2 latin rest h.0 small (subst (λ (b : List ℕ). IsKept (atom b)) is kept) ∙ ap (λ (b : List ℕ). Ok (atom b, rest)) (sym is)

tuple_spelled : (levels : ℕ) (ts : Trees) (inside text rest : List ℕ) → items_at (term_at levels) (count ts) (inside ++ rest) ≡ Ok (ts, rest) → Tagged 104 w8 (count ts) inside text ⊎ Tagged 105 w32 (count ts) inside text → IsAgain (suc levels) text rest (tuple ts)
tuple_spelled levels ts inside text rest items (inl h) =
    ap (term_at (suc levels)) (opened 104 w8 (count ts) inside text rest h) ∙ behind_104 levels _ ∙ tuple_again levels w8 count_1 ts inside rest h.0 items
tuple_spelled levels ts inside text rest items (inr h) =
    ap (term_at (suc levels)) (opened 105 w32 (count ts) inside text rest h) ∙ behind_105 levels _ ∙ tuple_again levels w32 count_4 ts inside rest h.0 items

nil_spelled : (levels : ℕ) (ts : Trees) (text rest : List ℕ) → ts ≡ no_trees → text ≡ 106 ∷ [] → IsAgain (suc levels) text rest (list ts)
nil_spelled levels ts text rest none e = ap (λ (bytes : List ℕ). term_at (suc levels) (bytes ++ rest)) e ∙ nil_again levels rest ∙ ap (λ (us : Trees). Ok (list us, rest)) (sym none)

string_spelled : (levels : ℕ) (ts : Trees) (text rest : List ℕ) → all_bytes ts ≡ true → greatest_depth ts ≤ levels → Tagged 107 w16 (count ts) (bytes_of ts) text → IsAgain (suc levels) text rest (list ts)
string_spelled levels ts text rest small deep h =
    ap (term_at (suc levels)) (opened 107 w16 (count ts) (bytes_of ts) text rest h) ∙ behind_107 levels _ ∙ numbers_again levels ts rest h.0 small deep

list_spelled : (levels : ℕ) (ts : Trees) (inside text rest : List ℕ) → items_at (term_at levels) (count ts) (inside ++ 106 ∷ rest) ≡ Ok (ts, 106 ∷ rest) → Tagged 108 w32 (count ts) (inside ++ 106 ∷ []) text → IsAgain (suc levels) text rest (list ts)
list_spelled levels ts inside text rest items h =
    let behind : (inside ++ 106 ∷ []) ++ rest ≡ inside ++ 106 ∷ rest = append_assoc inside (106 ∷ []) rest in
    ap (term_at (suc levels)) (opened 108 w32 (count ts) (inside ++ 106 ∷ []) text rest h ∙ ap (λ (bytes : List ℕ). 108 ∷ (to_be_bytes w32 (count ts) ++ bytes)) behind) ∙ behind_108 levels _ ∙ list_again levels ts inside rest h.0 items

binary_spelled : (levels : ℕ) (b text rest : List ℕ) → Tagged 109 w32 (length b) b text → IsAgain (suc levels) text rest (bin b)
binary_spelled levels b text rest h = ap (term_at (suc levels)) (opened 109 w32 (length b) b text rest h) ∙ behind_109 levels _ ∙ binary_again b rest h.0

mutual
  pub term_again : (t : Tree) (levels : ℕ) (text rest : List ℕ) → Spells t text → IsKept t → depth t ≤ levels → term_at levels (text ++ rest) ≡ Ok (t, rest)
  term_again (int z) zero text rest spelled kept deep = absurd (omega (arith, deep))
  term_again (int z) (suc levels) text rest spelled kept deep = number_spelled levels z text rest spelled kept
  term_again (atom a) zero text rest spelled kept deep = absurd (omega (arith, deep))
  term_again (atom a) (suc levels) text rest spelled kept deep = atom_spelled levels a text rest spelled kept
  term_again (tuple ts) zero text rest spelled kept deep = absurd (omega (arith, deep))
  term_again (tuple ts) (suc levels) text rest (inside, all, h) kept deep = tuple_spelled levels ts inside text rest (terms_again ts levels inside rest all kept (omega (arith, deep))) h
  term_again (list ts) zero text rest spelled kept deep = absurd (omega (arith, deep))
  term_again (list ts) (suc levels) text rest (inl h) kept deep = nil_spelled levels ts text rest h.0 h.1
  term_again (list ts) (suc levels) text rest (inr (inl h)) kept deep = string_spelled levels ts text rest h.0 (omega (arith, deep)) h.1
  term_again (list ts) (suc levels) text rest (inr (inr (inside, all, h))) kept deep = list_spelled levels ts inside text rest (terms_again ts levels inside (106 ∷ rest) all kept (omega (arith, deep))) h
  term_again (bin b) zero text rest spelled kept deep = absurd (omega (arith, deep))
  term_again (bin b) (suc levels) text rest spelled kept deep = binary_spelled levels b text rest spelled

  terms_again : (ts : Trees) (levels : ℕ) (text rest : List ℕ) → AllSpell ts text → AreKept ts → greatest_depth ts ≤ levels → items_at (term_at levels) (count ts) (text ++ rest) ≡ Ok (ts, rest)
  terms_again no_trees levels text rest spelled kept deep = ap (λ (bytes : List ℕ). items_at (term_at levels) 0 (bytes ++ rest)) spelled ∙ none_again levels rest
  terms_again (tree t ts) levels text rest (front, back, first, others, e) kept deep =
      let one = term_again t levels front (back ++ rest) first kept.0 (omega (arith, deep)) in
      let more = terms_again ts levels back rest others kept.1 (omega (arith, deep)) in
      ap (λ (bytes : List ℕ). items_at (term_at levels) (count (tree t ts)) (bytes ++ rest)) e ∙ items_again levels t ts front back rest one more

pub text_again : (bytes : List ℕ) (t : Tree) → IsText bytes t → text_at bytes ≡ Ok t
unfolding text_at
text_again bytes t (spelling, e, spelled, kept, deep) =
    let term : term_at 128 spelling ≡ Ok (t, []) = ap (term_at 128) (sym (append-nil spelling)) ∙ term_again t 128 spelling [] spelled kept deep in
    rw (e, term) refl

pub read_again : (bytes : List ℕ) (t : Tree) → IsText bytes t → read bytes ≡ Ok t
read_again bytes t h = ap (with_place (length bytes)) (text_again bytes t h)

pub one_tree : (bytes : List ℕ) (s t : Tree) → IsText bytes s → IsText bytes t → s ≡ t
one_tree bytes s t p q = ok_is s t (sym (text_again bytes s p) ∙ text_again bytes t q)
