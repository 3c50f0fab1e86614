-- What is noted in the maps of places.
use Rattle.std.proofs.Common.{◌≡◌, ℕ, Bool, true, false, ◌&&◌, ◌||◌, cond, List, [], ◌∷◌, ◌++◌, Option, None, Some, is_some, IsSome, refl}
use Rattle.std.proofs.Common.{sym, ap, ◌∙◌}
use Rattle.std.specs.Prelude.{unwrap_or}
use Rattle.std.specs.Ordering.{nat_cmp}
use Rattle.std.specs.Cmp.Lexicographic.{slice_cmp, nat_list_cmp_total}
use Rattle.std.specs.FinMap.{nat_cmp-IsAntisymmetric, slice_cmp-IsAntisymmetric}
use Rattle.std.specs.Map.{lookup, set_value}
use Rattle.std.specs.BTreeMap.{insert_entry}
use Rattle.term_core.specs.Tree.{Tree, tree_cmp}
use Rattle.term_core.specs.Order.{tree_total, tree_cmp-IsAntisymmetric, same_tree, same_tree_true}
use Rattle.term_core.specs.View.{tree_of}
use Rattle.term_core.specs.declared.term.Term.{Term}
use Rattle.db_model.specs.Database.{same_name}
use Rattle.txn_writes.specs.Places.{is_same_key, key_places, AreKeysAlike, IsKeyNoted}
use Rattle.txn_writes.specs.Places.{table_there, places_in, places_at, AreAlike, IsNoted}
use Rattle.txn_writes.specs.declared.key_places.KeyPlaces.{KeyPlaces}
use Rattle.txn_writes.specs.declared.places.Places.{Places}
use Rattle.txn_writes.proofs.Entries.{lookup-inserted, lookup-set, same_is, same_turned}

name_is : (name other : List ℕ) → same_name name other ≡ true → name ≡ other
name_is = same_is (λ n. n) (slice_cmp nat_cmp) nat_list_cmp_total (slice_cmp-IsAntisymmetric nat_cmp-IsAntisymmetric)

some_there : {X : Type 0} (found : Option X) (x : X) → Some x ≡ found → IsSome found
some_there None x h = absurd cc
some_there (Some y) x h = refl

-- ---- one table

-- where the ops on the key stand, as these entries say
abbrev at_key : Tree → List (Term × List ℕ) → List ℕ
at_key asked entries = unwrap_or (lookup (is_same_key asked) entries) []

module _ (old new : List (Term × List ℕ)) (key : Term) (places : List ℕ)
    (set : new ≡ insert_entry (λ a b. tree_cmp (tree_of a) (tree_of b)) old key places) where
  places_now : (asked : Tree)
      → at_key asked new ≡ unwrap_or (cond (same_tree asked (tree_of key)) (Some places) (lookup (is_same_key asked) old)) []
  places_now asked = ap (λ found. unwrap_or found []) (ap (lookup (is_same_key asked)) set
      ∙ lookup-inserted tree_of tree_cmp tree_total tree_cmp-IsAntisymmetric old key places asked)

  own_places : (asked : Tree) → same_tree asked (tree_of key) ≡ true → at_key (tree_of key) old ≡ at_key asked old
  own_places asked same = sym (ap (λ (t : Tree). at_key t old) (same_tree_true asked (tree_of key) same))

  pub key_noted : (place : ℕ) → places ≡ at_key (tree_of key) old ++ place ∷ [] → (asked : Tree)
      → at_key asked new ≡ cond (same_tree (tree_of key) asked) (at_key asked old ++ place ∷ []) (at_key asked old)
  key_noted place is asked = places_now asked ∙ by (same_tree asked (tree_of key)) (same_tree (tree_of key) asked) refl
      (same_turned tree_cmp tree_total tree_cmp-IsAntisymmetric asked (tree_of key))
    where
      by : (b c : Bool) → same_tree asked (tree_of key) ≡ b → b ≡ c
          → unwrap_or (cond b (Some places) (lookup (is_same_key asked) old)) []
          ≡ cond c (at_key asked old ++ place ∷ []) (at_key asked old)
      by true true same h = is ∙ ap (λ (ps : List ℕ). ps ++ place ∷ []) (own_places asked same)
      by true false same h = absurd cc
      by false true same h = absurd cc
      by false false same h = refl

  pub key_kept : places ≡ at_key (tree_of key) old → (asked : Tree) → at_key asked new ≡ at_key asked old
  key_kept is asked = places_now asked ∙ by (same_tree asked (tree_of key)) refl
    where
      by : (b : Bool) → same_tree asked (tree_of key) ≡ b
          → unwrap_or (cond b (Some places) (lookup (is_same_key asked) old)) [] ≡ at_key asked old
      by true same = is ∙ own_places asked same
      by false apart = refl

-- ---- all tables

-- a table with the first place of a key
pub table_begun : (old new : Places) (name : List ℕ) (empty places : KeyPlaces) (key : Tree) (place : ℕ)
    → new.tables.entries ≡ insert_entry (slice_cmp nat_cmp) old.tables.entries name places
    → is_some (table_there name old) ≡ false → ((other : Tree) → key_places other empty ≡ []) → IsKeyNoted empty places key place
    → IsNoted old new name key place
table_begun old new name empty places key place set absent none noted = record {
  places = λ asked other. ap (places_in other) (now asked) ∙ at asked other (same_name asked name) refl;
  tables = λ asked. ap (λ found. is_some {T = KeyPlaces} found) (now asked) ∙ there (same_name asked name) (table_there asked old);
}
  where
    now : (asked : List ℕ) → table_there asked new ≡ cond (same_name asked name) (Some places) (table_there asked old)
    now asked = ap (lookup (same_name asked)) set
        ∙ lookup-inserted (λ n. n) (slice_cmp nat_cmp) nat_list_cmp_total (slice_cmp-IsAntisymmetric nat_cmp-IsAntisymmetric)
        old.tables.entries name places asked

    there : (b : Bool) (was : Option KeyPlaces) → is_some (cond b (Some places) was) ≡ (b || is_some was)
    there true was = refl
    there false was = refl

    nothing : (other : Tree) (found : Option KeyPlaces) → is_some found ≡ false → [] ≡ places_in other found
    nothing other None h = refl
    nothing other (Some places) h = absurd cc

    at : (asked : List ℕ) (other : Tree) (b : Bool) → same_name asked name ≡ b
        → places_in other (cond b (Some places) (table_there asked old))
        ≡ cond (b && same_tree key other) (places_at asked other old ++ place ∷ []) (places_at asked other old)
    at asked other true same = noted other ∙ ap (λ (ps : List ℕ). cond (same_tree key other) (ps ++ place ∷ []) ps)
        (none other ∙ nothing other (table_there asked old)
        (ap (λ (n : List ℕ). is_some (table_there n old)) (name_is asked name same) ∙ absent))
    at asked other false apart = refl

module _ (old new : Places) (name : List ℕ) (was places : KeyPlaces) (there : Some was ≡ table_there name old)
    (set : new.tables.entries ≡ set_value (same_name name) old.tables.entries places) where
  now_there : (asked : List ℕ) → table_there asked new ≡ cond (same_name name asked) (Some places) (table_there asked old)
  now_there asked = ap (lookup (same_name asked)) set
      ∙ lookup-set (λ n. n) (slice_cmp nat_cmp) nat_list_cmp_total (slice_cmp-IsAntisymmetric nat_cmp-IsAntisymmetric)
      old.tables.entries name places asked (some_there _ was there)

  own : (asked : List ℕ) (key : Tree) → same_name name asked ≡ true → key_places key was ≡ places_at asked key old
  own asked key same = ap (places_in key) there ∙ ap (λ (n : List ℕ). places_at n key old) (name_is name asked same)

  turned : (asked : List ℕ) → same_name name asked ≡ same_name asked name
  turned = same_turned (slice_cmp nat_cmp) nat_list_cmp_total (slice_cmp-IsAntisymmetric nat_cmp-IsAntisymmetric) name

  pub table_noted : (key : Tree) (place : ℕ) → IsKeyNoted was places key place → IsNoted old new name key place
  table_noted key place noted = record {
    places = λ asked other. ap (places_in other) (now_there asked)
        ∙ at asked other (same_name name asked) (same_name asked name) refl (turned asked);
    tables = λ asked. ap (λ found. is_some {T = KeyPlaces} found) (now_there asked)
        ∙ now (same_name name asked) (same_name asked name) (table_there asked old) (turned asked);
  }
    where
      at : (asked : List ℕ) (other : Tree) (b c : Bool) → same_name name asked ≡ b → b ≡ c
          → places_in other (cond b (Some places) (table_there asked old))
          ≡ cond (c && same_tree key other) (places_at asked other old ++ place ∷ []) (places_at asked other old)
      at asked other true true same h = noted other
          ∙ ap (λ (ps : List ℕ). cond (same_tree key other) (ps ++ place ∷ []) ps) (own asked other same)
      at asked other true false same h = absurd cc
      at asked other false true same h = absurd cc
      at asked other false false same h = refl

      now : (b c : Bool) (found : Option KeyPlaces) → b ≡ c → is_some (cond b (Some places) found) ≡ (c || is_some found)
      now true true found h = refl
      now true false found h = absurd cc
      now false true found h = absurd cc
      now false false found h = refl

  pub table_kept : AreKeysAlike was places → AreAlike old new
  table_kept same = record {
    places = λ asked other. ap (places_in other) (now_there asked) ∙ at asked other (same_name name asked) refl;
    tables = λ asked. ap (λ found. is_some {T = KeyPlaces} found) (now_there asked) ∙ now asked (same_name name asked) refl;
  }
    where
      at : (asked : List ℕ) (other : Tree) (b : Bool) → same_name name asked ≡ b
          → places_in other (cond b (Some places) (table_there asked old)) ≡ places_at asked other old
      at asked other true is = same other ∙ own asked other is
      at asked other false is = refl

      now : (asked : List ℕ) (b : Bool) → same_name name asked ≡ b
          → is_some (cond b (Some places) (table_there asked old)) ≡ is_some (table_there asked old)
      now asked true is = ap (λ found. is_some {T = KeyPlaces} found) there
          ∙ ap (λ (n : List ℕ). is_some (table_there n old)) (name_is name asked is)
      now asked false is = refl
