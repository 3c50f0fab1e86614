-- The bytes of a spelling are bytes.
use Rattle.std.proofs.Common.{◌≡◌, ℕ, zero, suc, ◌+◌, ◌/◌, ◌%◌, ◌<◌, ◌≤◌, Bool, true, false, cond, ltb, pos, negsuc, List, [], ◌∷◌, ◌++◌, ℤ, refl, sym, subst, arith, inl, inr, ◌⊎◌}
use Rattle.std.specs.Int.{Width, w8, w16, w32, byte_len, to_be_bytes, bytes_high_first, byte_at}
use Rattle.std.specs.Str.{IsUtf8, encode_utf8_all}
use Rattle.std.proofs.Math.Utf8.{scalar, scalars, encode, next, scalar_cases}
use Rattle.std.proofs.lemmas.Bool.{ltb-true}
use Rattle.std.proofs.lemmas.Nat.{mod_below, div_below}
use Rattle.std.proofs.lemmas.List.Elements.{All-nil, All-cons, All-append}
use Rattle.term_core.specs.Tree.{Tree, int, atom, tuple, list, bin, Trees, no_trees, tree, count}
use Rattle.term_core.specs.Written.{is_byte, byte_of, all_bytes, bytes_of}
use Rattle.term_core.specs.Kept.{IsKept, AreKept}
use Rattle.term_wire.specs.Spelling.{Tagged, AreBytes, SpellsNumber, SpellsAtom, Spells, AllSpell, IsText}
use Rattle.term_wire.proofs.Law.{IsByte, byte_small}
use Rattle.term_wire.proofs.Lists.{and_both}

high_bytes : (k n : ℕ) → AreBytes (bytes_high_first k n)
high_bytes zero n = All-nil IsByte
high_bytes (suc k) n = All-cons IsByte (byte_at k n) (bytes_high_first k n) (byte_small k n) (high_bytes k n)

tagged_bytes : (tag : ℕ) (w : Width) (n : ℕ) (inside text : List ℕ) → tag < 256 → AreBytes inside → Tagged tag w n inside text → AreBytes text
tagged_bytes tag w n inside text lt h t = subst AreBytes (sym t.1) (All-cons IsByte tag (to_be_bytes w n ++ inside) lt (All-append IsByte (to_be_bytes w n) inside (high_bytes (byte_len w) n) h))

-- ---- characters

next_byte : (c : ℕ) → 128 + c % 64 < 256
next_byte c = omega (arith, mod_below c 64 (omega arith))

in_range : (c : ℕ) → scalar c ≡ true → c < 1114112
in_range c h = by (scalar_cases c h)
  where
    by : (c < 55296) ⊎ ((57344 ≤ c) × (c < 1114112)) → c < 1114112
    by (inl low) = omega (arith, low)
    by (inr high) = high.1

encode_cases : (c : ℕ) (one two three : Bool) → (one ≡ true → c < 128) → (two ≡ true → c < 2048) → (three ≡ true → c < 65536) → c < 1114112
    → AreBytes (cond one (c ∷ []) (cond two ((192 + c / 64) ∷ next c ∷ []) (cond three ((224 + c / 4096) ∷ next (c / 64) ∷ next c ∷ []) ((240 + c / 262144) ∷ next (c / 4096) ∷ next (c / 64) ∷ next c ∷ []))))
encode_cases c true two three p q r range = All-cons IsByte c [] (let low = p refl in omega (arith, low)) (All-nil IsByte)
encode_cases c false true three p q r range =
    let top : c / 64 < 32 = div_below c 64 32 (omega arith) (let low = q refl in omega (arith, low)) in
    All-cons IsByte (192 + c / 64) (next c ∷ []) (omega (arith, top)) (All-cons IsByte (next c) [] (next_byte c) (All-nil IsByte))
encode_cases c false false true p q r range =
    let top : c / 4096 < 16 = div_below c 4096 16 (omega arith) (let low = r refl in omega (arith, low)) in
    All-cons IsByte (224 + c / 4096) (next (c / 64) ∷ next c ∷ []) (omega (arith, top))
    (All-cons IsByte (next (c / 64)) (next c ∷ []) (next_byte (c / 64)) (All-cons IsByte (next c) [] (next_byte c) (All-nil IsByte)))
encode_cases c false false false p q r range =
    let top : c / 262144 < 5 = div_below c 262144 5 (omega arith) (omega (arith, range)) in
    All-cons IsByte (240 + c / 262144) (next (c / 4096) ∷ next (c / 64) ∷ next c ∷ []) (omega (arith, top))
    (All-cons IsByte (next (c / 4096)) (next (c / 64) ∷ next c ∷ []) (next_byte (c / 4096))
    (All-cons IsByte (next (c / 64)) (next c ∷ []) (next_byte (c / 64)) (All-cons IsByte (next c) [] (next_byte c) (All-nil IsByte))))

encode_bytes : (c : ℕ) → c < 1114112 → AreBytes (encode c)
unfolding encode
encode_bytes c range = encode_cases c (ltb c 128) (ltb c 2048) (ltb c 65536) (ltb-true c 128) (ltb-true c 2048) (ltb-true c 65536) range

encodes_bytes : (cs : List ℕ) → scalars cs ≡ true → AreBytes (encode_utf8_all cs)
encodes_bytes [] h = All-nil IsByte
encodes_bytes (c ∷ cs) h =
    let both = and_both (scalar c) (scalars cs) h in
    All-append IsByte (encode c) (encode_utf8_all cs) (encode_bytes c (in_range c both.0)) (encodes_bytes cs both.1)

utf8_bytes : (a : List ℕ) → IsUtf8 a → AreBytes a
utf8_bytes a (cs, (ok, e)) = subst AreBytes e (encodes_bytes cs ok)

-- ---- each kind of tree

number_bytes : (z : ℤ) (text : List ℕ) → SpellsNumber z text → AreBytes text
number_bytes z text (inl h) = tagged_bytes 97 w8 h.0 [] text (omega arith) (All-nil IsByte) h.2
number_bytes z text (inr (inl h)) = tagged_bytes 98 w32 h.0 [] text (omega arith) (All-nil IsByte) h.2
number_bytes z text (inr (inr (sign, digits, known, small, is, inl h))) = tagged_bytes 110 w8 _ (sign ∷ digits) text (omega arith) (All-cons IsByte sign digits (omega (arith, known)) small) h
number_bytes z text (inr (inr (sign, digits, known, small, is, inr h))) = tagged_bytes 111 w32 _ (sign ∷ digits) text (omega arith) (All-cons IsByte sign digits (omega (arith, known)) small) h

atom_bytes : (a text : List ℕ) → IsKept (atom a) → SpellsAtom a text → AreBytes text
atom_bytes a text kept (inl h) = tagged_bytes 119 w8 _ a text (omega arith) (utf8_bytes a kept.0) h
atom_bytes a text kept (inr (inl h)) = tagged_bytes 118 w16 _ a text (omega arith) (utf8_bytes a kept.0) h
atom_bytes a text kept (inr (inr (latin, small, is, inl h))) = tagged_bytes 115 w8 _ latin text (omega arith) small h
atom_bytes a text kept (inr (inr (latin, small, is, inr h))) = tagged_bytes 100 w16 _ latin text (omega arith) small h

byte_is : (t : Tree) → is_byte t ≡ true → byte_of t < 256
byte_is (int (pos n)) h = ltb-true n 256 h
byte_is (int (negsuc n)) h = absurd cc
byte_is (atom a) h = absurd cc
byte_is (tuple ts) h = absurd cc
byte_is (list ts) h = absurd cc
byte_is (bin b) h = absurd cc

string_bytes : (ts : Trees) → all_bytes ts ≡ true → AreBytes (bytes_of ts)
string_bytes no_trees h = All-nil IsByte
string_bytes (tree t ts) h =
    let both = and_both (is_byte t) (all_bytes ts) h in
    All-cons IsByte (byte_of t) (bytes_of ts) (byte_is t both.0) (string_bytes ts both.1)

tuple_bytes : (ts : Trees) (inside text : List ℕ) → AreBytes inside → Tagged 104 w8 (count ts) inside text ⊎ Tagged 105 w32 (count ts) inside text → AreBytes text
tuple_bytes ts inside text h (inl t) = tagged_bytes 104 w8 _ inside text (omega arith) h t
tuple_bytes ts inside text h (inr t) = tagged_bytes 105 w32 _ inside text (omega arith) h t

mutual
  spelled_bytes : (t : Tree) (text : List ℕ) → IsKept t → Spells t text → AreBytes text
  spelled_bytes (int z) text kept h = number_bytes z text h
  spelled_bytes (atom a) text kept h = atom_bytes a text kept h
  spelled_bytes (tuple ts) text kept (inside, all, h) = tuple_bytes ts inside text (all_spelled_bytes ts inside kept all) h
  spelled_bytes (list ts) text kept (inl h) = subst AreBytes (sym h.1) (All-cons IsByte 106 [] (omega arith) (All-nil IsByte))
  spelled_bytes (list ts) text kept (inr (inl h)) = tagged_bytes 107 w16 _ (bytes_of ts) text (omega arith) (string_bytes ts h.0) h.1
  spelled_bytes (list ts) text kept (inr (inr (inside, all, h))) =
      tagged_bytes 108 w32 _ (inside ++ 106 ∷ []) text (omega arith) (All-append IsByte inside (106 ∷ []) (all_spelled_bytes ts inside kept all) (All-cons IsByte 106 [] (omega arith) (All-nil IsByte))) h
  spelled_bytes (bin b) text kept h = tagged_bytes 109 w32 _ b text (omega arith) kept h

  all_spelled_bytes : (ts : Trees) (text : List ℕ) → AreKept ts → AllSpell ts text → AreBytes text
  all_spelled_bytes no_trees text kept h = subst AreBytes (sym h) (All-nil IsByte)
  all_spelled_bytes (tree t ts) text kept (front, back, first, others, e) =
      subst AreBytes (sym e) (All-append IsByte front back (spelled_bytes t front kept.0 first) (all_spelled_bytes ts back kept.1 others))

pub text_bytes : (bytes : List ℕ) (t : Tree) → IsText bytes t → AreBytes bytes
text_bytes bytes t (spelling, e, spelled, kept, deep) = subst AreBytes (sym e) (All-cons IsByte 131 spelling (omega arith) (spelled_bytes t spelling kept spelled))
