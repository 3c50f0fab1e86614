-- Places of ops that are pushed.
use Rattle.std.proofs.Common.{◌≡◌, ℕ, zero, suc, Bool, true, false, not, ◌||◌, cond, List, [], ◌∷◌, ◌++◌, length, filter, map, None, Some}
use Rattle.std.proofs.Common.{IfSome}
use Rattle.std.proofs.Common.{Result, Ok, Err, OnOk, arith, refl, sym, ap, subst, ◌∙◌}
use Rattle.std.specs.Prelude.{is_err, ◌==◌}
use Rattle.std.proofs.lemmas.Bool.Decides.{nat_tests}
use Rattle.std.specs.List.{list_any, AllByRecursion, slice_get}
use Rattle.std.proofs.lemmas.List.{map-append}
use Rattle.std.proofs.lemmas.List.Elements.{filter-append}
use Rattle.db_model.specs.View.{operation}
use Rattle.db_model.specs.declared.op.Op.{Op}
use Rattle.txn_writes.specs.Seen.{changes, changes_in, is_on}
use Rattle.txn_writes.specs.Places.{ops_at, HasKey, AreWrites, IsOpNoted, AreAlike, places_at}
use Rattle.txn_writes.specs.declared.places.Places.{Places}

get_front : (ops more : List Op) (i : ℕ) (op : Op) → slice_get ops i ≡ Some op → slice_get (ops ++ more) i ≡ Some op
get_front [] more i op h = absurd cc
get_front (x ∷ ops) more zero op h = h
get_front (x ∷ ops) more (suc i) op h = get_front ops more i op h

pub get_last : (ops : List Op) (op : Op) → slice_get (ops ++ op ∷ []) (length ops) ≡ Some op
get_last [] op = refl
get_last (x ∷ ops) op = get_last ops op

-- what stands at the places is not moved by what is pushed
front_at : (ops more : List Op) (places : List ℕ) (found : List Op) → ops_at ops places ≡ map Some found
    → ops_at (ops ++ more) places ≡ map Some found
front_at ops more [] found h = h
front_at ops more (i ∷ places) [] h = absurd cc
front_at ops more (i ∷ places) (op ∷ found) h =
    let first : slice_get ops i ≡ Some op = cc in
    let rest : ops_at ops places ≡ map Some found = cc in
    λ j. get_front ops more i op first j ∷ front_at ops more places found rest j

nothing_more : (ops : List Op) → ops ≡ ops ++ []
nothing_more [] = refl
nothing_more (op ∷ ops) = ap (λ (others : List Op). op ∷ others) (nothing_more ops)

placed_more : (ops : List Op) (op : Op) (test : Op → Bool) (was now : List ℕ) → ops_at ops was ≡ map Some (filter test ops)
    → now ≡ cond (test op) (was ++ length ops ∷ []) was → ops_at (ops ++ op ∷ []) now ≡ map Some (filter test (ops ++ op ∷ []))
placed_more ops op test was now h is =
    ap (ops_at (ops ++ op ∷ [])) is ∙ by (test op) ∙ sym (ap (map Some) (filter-append test ops (op ∷ [])))
  where
    by : (b : Bool) → ops_at (ops ++ op ∷ []) (cond b (was ++ length ops ∷ []) was)
        ≡ map Some (filter test ops ++ cond b (op ∷ []) [])
    by true =
        map-append (slice_get (ops ++ op ∷ [])) was (length ops ∷ [])
        ∙ (λ j. front_at ops (op ∷ []) was (filter test ops) h j ++ get_last ops op j ∷ [])
        ∙ sym (map-append Some (filter test ops) (op ∷ []))
    by false = front_at ops (op ∷ []) was (filter test ops) h ∙ ap (map Some) (nothing_more (filter test ops))

pub keyed_more : (ops : List Op) (op : Op) → AllByRecursion HasKey ops → HasKey op → AllByRecursion HasKey (ops ++ op ∷ [])
keyed_more [] op all own = (own, tt)
keyed_more (x ∷ ops) op all own = (all.0, keyed_more ops op all.1 own)

-- ---- tests of ops

or_last : (a b c : Bool) → (a || (b || c)) ≡ (b || (a || c))
or_last true true c = refl
or_last true false c = refl
or_last false b c = refl

any_last : (test : Op → Bool) (ops : List Op) (op : Op) → list_any test (ops ++ op ∷ []) ≡ (test op || list_any test ops)
any_last test [] op = refl
any_last test (x ∷ ops) op =
    ap (λ b. test x || b) (any_last test ops op) ∙ or_last (test x) (test op) (list_any test ops)

abbrev are_some : List Op → Bool
are_some [] = false
are_some (op ∷ ops) = true

some_kept : (test : Op → Bool) (ops : List Op) → list_any test ops ≡ are_some (filter test ops)
some_kept test [] = refl
some_kept test (op ∷ ops) = by (test op) (some_kept test ops)
  where
    by : (b : Bool) → list_any test ops ≡ are_some (filter test ops)
        → (b || list_any test ops) ≡ are_some (cond b (op ∷ filter test ops) (filter test ops))
    by true ih = refl
    by false ih = ih

-- some op passes where some place is there
pub any_placed : (test : Op → Bool) (ops : List Op) (places : List ℕ) → ops_at ops places ≡ map Some (filter test ops)
    → list_any test ops ≡ not (length places == 0)
any_placed test ops places h = some_kept test ops ∙ same places (filter test ops) h
  where
    same : (ps : List ℕ) (found : List Op) → ops_at ops ps ≡ map Some found → are_some found ≡ not (length ps == 0)
    same [] [] h = refl
    same [] (x ∷ found) h = absurd cc
    same (p ∷ ps) [] h = absurd cc
    same (p ∷ ps) (x ∷ found) h =
        let more : (length (p ∷ ps) == 0) ≡ false = grind (arith, nat_tests) in
        ap not (sym more)

-- ---- ops and places once one more is pushed

pub writes_more : (ops : List Op) (op : Op) (old new : Places) → AreWrites ops old → HasKey op → IsOpNoted old new op (length ops)
    → AreWrites (ops ++ op ∷ []) new
writes_more ops op old new h own noted = record {
  keyed = keyed_more ops op h.keyed own;
  placed = λ name key. placed_more ops op (changes name key) (places_at name key old) (places_at name key new)
      (h.placed name key) (noted.places name key);
  tables = λ name. noted.tables name ∙ ap (λ b. is_on name (operation op) || b) (h.tables name)
      ∙ sym (any_last (changes_in name None) ops op);
}

pub writes_kept : (ops : List Op) (old new : Places) → AreWrites ops old → AreAlike old new → AreWrites ops new
writes_kept ops old new h alike = record {
  keyed = h.keyed;
  placed = λ name key. ap (ops_at ops) (alike.places name key) ∙ h.placed name key;
  tables = λ name. alike.tables name ∙ h.tables name;
}

pub front_is : (xs ys : List Op) (x y : Op) → xs ++ x ∷ [] ≡ ys ++ y ∷ [] → xs ≡ ys
front_is [] [] x y h = refl
front_is [] (b ∷ []) x y h = absurd cc
front_is [] (b ∷ c ∷ ys) x y h = absurd cc
front_is (a ∷ []) [] x y h = absurd cc
front_is (a ∷ c ∷ xs) [] x y h = absurd cc
front_is (a ∷ xs) (b ∷ ys) x y h =
    let first : a ≡ b = cc in
    let rest : xs ++ x ∷ [] ≡ ys ++ y ∷ [] = cc in
    λ i. first i ∷ front_is xs ys x y rest i

-- what is pushed and noted
pub pushed : {T E : Type 0} (ops now shown : List Op) (op : Op) (old new : Places) (r : Result T E) (place : ℕ) → AreWrites ops old
    → HasKey op → now ≡ ops ++ op ∷ [] → shown ≡ now → place ≡ length ops → is_err r ≡ false
    → OnOk r (IfSome (slice_get shown place) (λ one. IsOpNoted old new one place)) → AreWrites now new
pushed ops now shown op old new (Err e) place h own is same count ok noted = absurd cc
pushed ops now shown op old new (Ok x) place h own is same count ok noted =
    let there : slice_get shown place ≡ Some op =
    ap (λ (others : List Op). slice_get others place) (same ∙ is) ∙ ap (slice_get (ops ++ op ∷ [])) count ∙ get_last ops op in
    let told : IsOpNoted old new op place = subst (λ found. IfSome found (λ one. IsOpNoted old new one place)) there noted in
    subst (λ others. AreWrites others new) (sym is)
    (writes_more ops op old new h own (subst (λ n. IsOpNoted old new op n) count told))
