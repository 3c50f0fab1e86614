-- What is written of lists of terms.
use Rattle.std.proofs.Common.{◌≡◌, sym, ap, ◌∙◌, ℕ, zero, suc, ◌+◌, ◌<◌, ◌≤◌, Bool, true, false, ℤ, pos, negsuc, List, [], ◌∷◌, ◌++◌, length, drop, get_or, refl, append_assoc, arith, add-one, Result, Ok, Err}
use Rattle.std.specs.Prelude.{◌&&◌, nat_le, OnOk}
use Rattle.std.specs.Int.{w16, w32, to_be_bytes}
use Rattle.std.proofs.lemmas.Bool.{leb-true, ltb-true}
use Rattle.std.proofs.lemmas.List.{length-append}
use Rattle.term_core.specs.declared.term.Term.{Term}
use Rattle.term_core.specs.Tree.{Tree, int, atom, tuple, list, bin, Trees, no_trees, tree, count}
use Rattle.term_core.specs.View.{tree_of, forest_of}
use Rattle.term_core.specs.Written.{fits_byte, fits_word, is_byte, all_bytes, is_byte_list, bytes_of, number_written, atom_written, tuple_front, written, all_written}
use Rattle.term_core.specs.Kept.{IsKept, AreKept}
use Rattle.term_core.proofs.Forests.{count_forest_of}

first_is : (ts : List Term) (i : ℕ) (t : Term) → i < length ts → t ≡ get_or ts i t → drop i ts ≡ t ∷ drop (suc i) ts
first_is [] i t lt p = absurd (omega arith)
first_is (u ∷ us) zero t lt p = ap (λ (v : Term). v ∷ us) (sym p)
first_is (u ∷ us) (suc i) t lt p = first_is us i t (omega arith) p

-- the first of what is left, and the rest
pub forest_of-drop : (ts : List Term) (i : ℕ) (t : Term) → i < length ts → t ≡ get_or ts i t → forest_of (drop i ts) ≡ tree (tree_of t) (forest_of (drop (i + 1) ts))
forest_of-drop ts i t lt p = ap (λ (us : List Term). forest_of us) (first_is ts i t lt p) ∙ rw add-one refl

pub all_written-drop : (ts : List Term) (i : ℕ) (t : Term) → i < length ts → t ≡ get_or ts i t → all_written (forest_of (drop i ts)) ≡ written (tree_of t) ++ all_written (forest_of (drop (i + 1) ts))
all_written-drop ts i t lt p = ap all_written (forest_of-drop ts i t lt p)

-- an element's spelling is no longer than all of them
pub written_at : (ts : List Term) (i : ℕ) (t : Term) → i < length ts → t ≡ get_or ts i t → length (written (tree_of t)) ≤ length (all_written (forest_of ts))
written_at [] i t lt p = absurd (omega arith)
written_at (u ∷ us) zero t lt p = rw p (omega (arith, length-append (written (tree_of u)) (all_written (forest_of us))))
written_at (u ∷ us) (suc i) t lt p = omega (arith, written_at us i t (omega arith) p, length-append (written (tree_of u)) (all_written (forest_of us)))

pub is_byte_list-forest_of : (ts : List Term) → is_byte_list (forest_of ts) ≡ nat_le (length ts) 65535 && all_bytes (forest_of ts)
is_byte_list-forest_of ts = ap (λ (n : ℕ). nat_le n 65535 && all_bytes (forest_of ts)) (count_forest_of ts)

pub and_both : (a b : Bool) → a && b ≡ true → (a ≡ true) × (b ≡ true)
and_both true b e = (refl, e)
and_both false b e = absurd cc

pub string_fits : (ts : List Term) → is_byte_list (forest_of ts) ≡ true → (length ts ≤ 65535) × (all_bytes (forest_of ts) ≡ true)
string_fits ts h =
    let both = and_both (nat_le (length ts) 65535) (all_bytes (forest_of ts)) (sym (is_byte_list-forest_of ts) ∙ h) in
    (leb-true (length ts) 65535 both.0, both.1)

pub string_written : (ts : List Term) → 0 < length ts → is_byte_list (forest_of ts) ≡ true → written (list (forest_of ts)) ≡ 107 ∷ (to_be_bytes w16 (length ts) ++ bytes_of (forest_of ts))
string_written [] lt h = absurd (omega arith)
string_written (t ∷ ts) lt h = let size : count (forest_of ts) + 1 ≡ length (t ∷ ts) = omega (arith, count_forest_of ts) in rw (h, size) refl

pub list_written : (ts : List Term) → 0 < length ts → is_byte_list (forest_of ts) ≡ false → written (list (forest_of ts)) ≡ 108 ∷ (to_be_bytes w32 (length ts) ++ (all_written (forest_of ts) ++ 106 ∷ []))
list_written [] lt h = absurd (omega arith)
list_written (t ∷ ts) lt h =
    let size : count (forest_of ts) + 1 ≡ length (t ∷ ts) = omega (arith, count_forest_of ts) in
    rw (h, size) (ap (λ (bytes : List ℕ). 108 ∷ bytes) (append_assoc (to_be_bytes w32 (length (t ∷ ts))) (all_written (forest_of (t ∷ ts))) (106 ∷ [])))

length-bytes_of : (ts : List Term) → length (bytes_of (forest_of ts)) ≡ length ts
length-bytes_of [] = refl
length-bytes_of (t ∷ ts) = omega (arith, length-bytes_of ts)

pub list_length : (ts : List Term) → 0 < length ts → is_byte_list (forest_of ts) ≡ false → length (written (list (forest_of ts))) ≡ 6 + length (all_written (forest_of ts))
list_length ts lt h =
    let inside = all_written (forest_of ts) in
    rw (list_written ts lt h) (omega (arith, length-append (to_be_bytes w32 (length ts)) (inside ++ 106 ∷ []), length-append inside (106 ∷ [])))

pub tuple_written : (ts : List Term) → written (tuple (forest_of ts)) ≡ tuple_front (length ts) ++ all_written (forest_of ts)
tuple_written ts = ap (λ (n : ℕ). tuple_front n ++ all_written (forest_of ts)) (count_forest_of ts)

pub tuple_length : (ts : List Term) → length (written (tuple (forest_of ts))) ≡ length (tuple_front (length ts)) + length (all_written (forest_of ts))
tuple_length ts = ap length (tuple_written ts) ∙ length-append (tuple_front (length ts)) (all_written (forest_of ts))

-- each spelling has a byte, so there are no more elements than bytes
front_some : (n : ℕ) → 1 ≤ length (tuple_front n)
front_some n = by (nat_le n 255) refl
  where
    by : (b : Bool) → nat_le n 255 ≡ b → 1 ≤ length (tuple_front n)
    by true e = rw e (omega arith)
    by false e = rw e (omega arith)

number_some : (n : ℤ) → 1 ≤ length (number_written n)
number_some n = by (fits_byte n) (fits_word n) refl refl
  where
    by : (a b : Bool) → fits_byte n ≡ a → fits_word n ≡ b → 1 ≤ length (number_written n)
    by true b e d = rw e (omega arith)
    by false true e d = rw (e, d) (omega arith)
    by false false e d = rw (e, d) (omega arith)

atom_some : (a : List ℕ) → 1 ≤ length (atom_written a)
atom_some a = by (nat_le (length a) 255) refl
  where
    by : (b : Bool) → nat_le (length a) 255 ≡ b → 1 ≤ length (atom_written a)
    by true e = rw e (omega arith)
    by false e = rw e (omega arith)

list_some : (t : Tree) (ts : Trees) → 1 ≤ length (written (list (tree t ts)))
list_some t ts = by (is_byte_list (tree t ts)) refl
  where
    by : (b : Bool) → is_byte_list (tree t ts) ≡ b → 1 ≤ length (written (list (tree t ts)))
    by true e = rw e (omega arith)
    by false e = rw e (omega arith)

pub written_some : (t : Tree) → 1 ≤ length (written t)
written_some (int n) = number_some n
written_some (atom a) = atom_some a
written_some (tuple ts) = omega (arith, front_some (count ts), length-append (tuple_front (count ts)) (all_written ts))
written_some (list no_trees) = omega arith
written_some (list (tree t ts)) = list_some t ts
written_some (bin b) = omega arith

pub count-le-written : (ts : Trees) → count ts ≤ length (all_written ts)
count-le-written no_trees = omega arith
count-le-written (tree t ts) = omega (arith, written_some t, count-le-written ts, length-append (written t) (all_written ts))

pub length-le-written : (ts : List Term) → length ts ≤ length (all_written (forest_of ts))
length-le-written ts = omega (arith, count_forest_of ts, count-le-written (forest_of ts))

byte_kept : (t : Tree) → is_byte t ≡ true → IsKept t
byte_kept (int (pos n)) h = record { sfits = omega (arith, ltb-true n 256 h) }
byte_kept (int (negsuc n)) h = absurd cc
byte_kept (atom a) h = absurd cc
byte_kept (tuple ts) h = absurd cc
byte_kept (list ts) h = absurd cc
byte_kept (bin b) h = absurd cc

pub bytes_kept : (ts : Trees) → all_bytes ts ≡ true → AreKept ts
bytes_kept no_trees h = tt
bytes_kept (tree t ts) h = let both = and_both (is_byte t) (all_bytes ts) h in (byte_kept t both.0, bytes_kept ts both.1)

pub on_ok : {T E P : Type 0} (r : Result T E) → P → OnOk r P
on_ok (Ok x) p = p
on_ok (Err e) p = tt
