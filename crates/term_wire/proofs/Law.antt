-- What is written of a tree spells it.
use Rattle.std.proofs.Common.{◌≡◌, ℕ, zero, suc, ◌+◌, ◌*◌, ◌/◌, ◌^◌, ◌<◌, ◌≤◌, Bool, true, false, cond, leb, ℤ, pos, negsuc, List, [], ◌∷◌, ◌++◌, length, refl, sym, ap, ◌∙◌, subst, append_assoc, append-nil, arith, of_z, inl, inr}
use Rattle.std.specs.Prelude.{FitsSigned, unsigned_abs}
use Rattle.std.specs.Int.{w8, w16, w32, w128, byte_at, to_be_bytes, to_le_bytes, bytes_low_first, cast_unsigned}
use Rattle.std.proofs.lemmas.Bool.{ltb-true, leb-true}
use Rattle.std.proofs.lemmas.Int.{to_z-of_z}
use Rattle.std.proofs.lemmas.Nat.{mod_below}
use Rattle.std.proofs.lemmas.List.{length-append}
use Rattle.std.proofs.lemmas.List.Elements.{All-nil, All-cons, All-tail, All-head}
use Rattle.byteorder.specs.Endian.{little_number}
use Rattle.byteorder.specs.Numbers.{little_number-reads_back}
use Rattle.term_core.specs.Tree.{Tree, int, atom, tuple, list, bin, Trees, no_trees, tree, count, depth}
use Rattle.term_core.specs.Written.{fits_byte, fits_word, is_byte, all_bytes, is_byte_list, bytes_of, trimmed, trim_front, digits_of, sign_of, number_written, atom_written, tuple_front, written, all_written, canon}
use Rattle.term_core.specs.Kept.{IsKept, AreKept}
use Rattle.term_wire.specs.Spelling.{AreBytes, low_first, signed, SpellsNumber, SpellsAtom, Spells, AllSpell, IsText}
use Rattle.term_wire.proofs.Fields.{one_byte}
use Rattle.term_wire.proofs.Lists.{and_both, count-le-written}
use Rattle.term_wire.proofs.Numbers.{little_all, length-digits_of, number_in_word}
use Rattle.term_wire.proofs.Utf8.{length-le-chars}

-- ---- the bytes of a number

low_first-trim_front : (x : ℕ) (xs : List ℕ) → low_first (trim_front x xs) ≡ x + 256 * low_first xs
low_first-trim_front zero [] = refl
low_first-trim_front (suc x) [] = refl
low_first-trim_front zero (y ∷ ys) = refl
low_first-trim_front (suc x) (y ∷ ys) = refl

low_first-trimmed : (xs : List ℕ) → low_first (trimmed xs) ≡ low_first xs
low_first-trimmed [] = refl
low_first-trimmed (x ∷ xs) = low_first-trim_front x (trimmed xs) ∙ ap (λ (n : ℕ). x + 256 * n) (low_first-trimmed xs)

abbrev pub IsByte : ℕ → Type 0
IsByte byte = byte < 256

trim_front_bytes : (x : ℕ) (xs : List ℕ) → x < 256 → AreBytes xs → AreBytes (trim_front x xs)
trim_front_bytes zero [] lt h = h
trim_front_bytes (suc x) [] lt h = All-cons IsByte (suc x) [] lt h
trim_front_bytes zero (y ∷ ys) lt h = All-cons IsByte 0 (y ∷ ys) lt h
trim_front_bytes (suc x) (y ∷ ys) lt h = All-cons IsByte (suc x) (y ∷ ys) lt h

trimmed_bytes : (xs : List ℕ) → AreBytes xs → AreBytes (trimmed xs)
trimmed_bytes [] h = h
trimmed_bytes (x ∷ xs) h = trim_front_bytes x (trimmed xs) (All-head IsByte x xs h) (trimmed_bytes xs (All-tail IsByte x xs h))

pub byte_small : (i n : ℕ) → byte_at i n < 256
byte_small zero n = mod_below n 256 (omega arith)
byte_small (suc i) n = mod_below (n / 256 ^ suc i) 256 (omega arith)

low_bytes_small : (i k n : ℕ) → AreBytes (bytes_low_first i k n)
low_bytes_small i zero n = All-nil IsByte
low_bytes_small i (suc k) n = All-cons IsByte (byte_at i n) (bytes_low_first (suc i) k n) (byte_small i n) (low_bytes_small (suc i) k n)

length-low : (i k n : ℕ) → length (bytes_low_first i k n) ≡ k
length-low i zero n = refl
length-low i (suc k) n = omega (arith, length-low (suc i) k n)

-- k bytes read as the number that they are of
low_back : (k n : ℕ) → n < 256 ^ k → low_first (bytes_low_first 0 k n) ≡ n
low_back k n lt =
    let bytes = bytes_low_first 0 k n in
    sym (little_all bytes) ∙ ap (λ (m : ℕ). little_number m bytes) (length-low 0 k n) ∙ ap (little_number k) (sym (append-nil bytes)) ∙ little_number-reads_back k n [] lt

abs_fits : (z : ℤ) → FitsSigned w128 z → unsigned_abs z < 256 ^ 16
abs_fits (pos n) h = omega (arith, h.sfits)
abs_fits (negsuc n) h = omega (arith, h.sfits)

digits_back : (z : ℤ) → FitsSigned w128 z → low_first (digits_of z) ≡ unsigned_abs z
digits_back z h = low_first-trimmed (to_le_bytes w128 (unsigned_abs z)) ∙ low_back 16 (unsigned_abs z) (abs_fits z h)

digits_small : (z : ℤ) → AreBytes (digits_of z)
digits_small z = trimmed_bytes (to_le_bytes w128 (unsigned_abs z)) (low_bytes_small 0 16 (unsigned_abs z))

signed_back : (z : ℤ) → z ≡ signed (sign_of z) (unsigned_abs z)
signed_back (pos n) = refl
signed_back (negsuc n) = refl

sign_known : (z : ℤ) → sign_of z ≤ 1
sign_known (pos n) = omega arith
sign_known (negsuc n) = omega arith

-- ---- each kind of tree

small_spells : (z : ℤ) → fits_byte z ≡ true → SpellsNumber z (97 ∷ unsigned_abs z ∷ [])
small_spells (pos n) h =
    let small : n < 256 = ltb-true n 256 h in
    inl (n, refl, (small, ap (λ (bytes : List ℕ). 97 ∷ bytes) (sym (append-nil (to_be_bytes w8 n) ∙ one_byte n small))))
small_spells (negsuc n) h = absurd cc

bits_fit : (z : ℤ) → FitsSigned w32 z → of_z w32 z < 2 ^ 32
bits_fit (pos n) h = omega (arith, h.sfits)
bits_fit (negsuc n) h = omega (arith, h.sfits)

word_spells : (z : ℤ) → fits_word z ≡ true → SpellsNumber z (98 ∷ to_be_bytes w32 (cast_unsigned w32 z))
word_spells z h =
    let fits = number_in_word z h in
    inr (inl (of_z w32 z, sym (to_z-of_z w32 z fits), (bits_fit z fits, ap (λ (bytes : List ℕ). 98 ∷ bytes) (sym (append-nil (to_be_bytes w32 (of_z w32 z)))))))

wide_spells : (z : ℤ) → FitsSigned w128 z → SpellsNumber z (110 ∷ length (digits_of z) ∷ sign_of z ∷ digits_of z)
wide_spells z h =
    let size : length (digits_of z) < 256 = omega (arith, length-digits_of z) in
    let is : z ≡ signed (sign_of z) (low_first (digits_of z)) = signed_back z ∙ ap (signed (sign_of z)) (sym (digits_back z h)) in
    let count : length (digits_of z) ∷ sign_of z ∷ digits_of z ≡ to_be_bytes w8 (length (digits_of z)) ++ sign_of z ∷ digits_of z = ap (λ (bytes : List ℕ). bytes ++ sign_of z ∷ digits_of z) (sym (one_byte (length (digits_of z)) size)) in
    inr (inr (sign_of z, digits_of z, sign_known z, digits_small z, is, inl (size, ap (λ (bytes : List ℕ). 110 ∷ bytes) count)))

number_spells : (z : ℤ) → FitsSigned w128 z → SpellsNumber z (number_written z)
number_spells z h = by (fits_byte z) (fits_word z) refl refl
  where
    by : (a b : Bool) → fits_byte z ≡ a → fits_word z ≡ b → SpellsNumber z (number_written z)
    by true b p q = rw p (small_spells z p)
    by false true p q = rw (p, q) (word_spells z q)
    by false false p q = rw (p, q) (wide_spells z h)

atom_spells : (a : List ℕ) → IsKept (atom a) → SpellsAtom a (atom_written a)
atom_spells a kept = by (leb (length a) 255) refl
  where
    by : (b : Bool) → leb (length a) 255 ≡ b → SpellsAtom a (atom_written a)
    by true p =
        let size : length a < 256 = omega (arith, leb-true (length a) 255 p) in
        rw p (inl (size, ap (λ (bytes : List ℕ). 119 ∷ (bytes ++ a)) (sym (one_byte (length a) size))))
    by false p = rw p (inr (inl (omega (arith, length-le-chars a kept.0, kept.1), refl)))

tuple_spells : (ts : Trees) (inside : List ℕ) → count ts < 2 ^ 32 → AllSpell ts inside → Spells (tuple ts) (tuple_front (count ts) ++ inside)
tuple_spells ts inside lt all = by (leb (count ts) 255) refl
  where
    by : (b : Bool) → leb (count ts) 255 ≡ b → Spells (tuple ts) (tuple_front (count ts) ++ inside)
    by true p =
        let size : count ts < 256 = omega (arith, leb-true (count ts) 255 p) in
        rw p (inside, all, inl (size, ap (λ (bytes : List ℕ). 104 ∷ (bytes ++ inside)) (sym (one_byte (count ts) size))))
    by false p = rw p (inside, all, inr (lt, refl))

list_spells : (t : Tree) (ts : Trees) → count ts + 1 < 2 ^ 32 → AllSpell (tree t ts) (written t ++ all_written ts) → Spells (list (tree t ts)) (written (list (tree t ts)))
list_spells t ts lt all = by (is_byte_list (tree t ts)) refl
  where
    by : (b : Bool) → is_byte_list (tree t ts) ≡ b → Spells (list (tree t ts)) (written (list (tree t ts)))
    by true p =
        let both = and_both (leb (count (tree t ts)) 65535) (all_bytes (tree t ts)) p in
        rw p (inr (inl (both.1, (omega (arith, leb-true (count (tree t ts)) 65535 both.0), refl))))
    by false p = rw p (inr (inr (written t ++ all_written ts, all, (lt, ap (λ (bytes : List ℕ). 108 ∷ bytes) (append_assoc (to_be_bytes w32 (count ts + 1)) (written t ++ all_written ts) (106 ∷ []))))))

-- ---- a tree whose spelling has few enough bytes

inside_tuple : (ts : Trees) → length (written (tuple ts)) < 2 ^ 32 → length (all_written ts) < 2 ^ 32
inside_tuple ts lt = omega (arith, lt, length-append (tuple_front (count ts)) (all_written ts))

byte_length : (t : Tree) → is_byte t ≡ true → length (written t) ≡ 2
byte_length (int (pos n)) h = rw h refl
byte_length (int (negsuc n)) h = absurd cc
byte_length (atom a) h = absurd cc
byte_length (tuple ts) h = absurd cc
byte_length (list ts) h = absurd cc
byte_length (bin b) h = absurd cc

bytes_length : (ts : Trees) → all_bytes ts ≡ true → length (all_written ts) ≡ 2 * count ts
bytes_length no_trees h = refl
bytes_length (tree t ts) h =
    let both = and_both (is_byte t) (all_bytes ts) h in
    omega (arith, byte_length t both.0, bytes_length ts both.1, length-append (written t) (all_written ts))

inside_list : (t : Tree) (ts : Trees) → length (written (list (tree t ts))) < 2 ^ 32 → length (written t ++ all_written ts) < 2 ^ 32
inside_list t ts lt = by (is_byte_list (tree t ts)) refl
  where
    by : (b : Bool) → is_byte_list (tree t ts) ≡ b → length (written t ++ all_written ts) < 2 ^ 32
    by true p =
        let both = and_both (leb (count (tree t ts)) 65535) (all_bytes (tree t ts)) p in
        omega (arith, bytes_length (tree t ts) both.1, leb-true (count (tree t ts)) 65535 both.0)
    by false p =
        let front = to_be_bytes w32 (count ts + 1) in
        let whole : length (108 ∷ (front ++ (written t ++ all_written ts) ++ 106 ∷ [])) < 2 ^ 32 = subst (λ (b : Bool). length (cond b (107 ∷ (to_be_bytes w16 (count ts + 1) ++ bytes_of (tree t ts))) (108 ∷ (front ++ (written t ++ all_written ts) ++ 106 ∷ []))) < 2 ^ 32) p lt in
        omega (arith, whole, length-append (front ++ (written t ++ all_written ts)) (106 ∷ []), length-append front (written t ++ all_written ts))

mutual
  pub written_spells : (t : Tree) → IsKept t → length (written t) < 2 ^ 32 → Spells t (written t)
  written_spells (int z) kept lt = number_spells z kept
  written_spells (atom a) kept lt = atom_spells a kept
  written_spells (tuple ts) kept lt =
      let few = inside_tuple ts lt in
      tuple_spells ts (all_written ts) (omega (arith, few, count-le-written ts)) (all_spell ts kept few)
  written_spells (list no_trees) kept lt = inl (refl, refl)
  written_spells (list (tree t ts)) kept lt =
      let few = inside_list t ts lt in
      let parts = length-append (written t) (all_written ts) in
      let first = written_spells t kept.0 (omega (arith, few, parts)) in
      let others = all_spell ts kept.1 (omega (arith, few, parts)) in
      list_spells t ts (omega (arith, few, count-le-written (tree t ts))) (written t, all_written ts, first, others, refl)
  written_spells (bin b) kept lt = (omega (arith, lt, length-append (to_be_bytes w32 (length b)) b), refl)

  all_spell : (ts : Trees) → AreKept ts → length (all_written ts) < 2 ^ 32 → AllSpell ts (all_written ts)
  all_spell no_trees kept lt = refl
  all_spell (tree t ts) kept lt =
      let parts = length-append (written t) (all_written ts) in
      let first = written_spells t kept.0 (omega (arith, lt, parts)) in
      let others = all_spell ts kept.1 (omega (arith, lt, parts)) in
      (written t, all_written ts, first, others, refl)

pub written_text : (t : Tree) → IsKept t → depth t ≤ 128 → length (canon t) ≤ 2 ^ 28 → IsText (canon t) t
written_text t kept deep short = (written t, refl, written_spells t kept (omega (arith, short)), kept, deep)
