-- Where the ops on each key of each table stand.
use Rattle.std.specs.Prelude.{◌≡◌, ℕ, Bool, ◌&&◌, ◌||◌, if◌then◌else◌, List, [], ◌∷◌, ◌++◌, filter, map, Option, None}
use Rattle.std.specs.Prelude.{Some, is_some, IsSome, unwrap_or}
use Rattle.std.specs.List.{AllByRecursion, slice_get}
use Rattle.std.specs.Map.{lookup}
use Rattle.term_core.specs.Tree.{Tree}
use Rattle.term_core.specs.Order.{same_tree}
use Rattle.term_core.specs.View.{tree_of}
use Rattle.term_core.specs.declared.term.Term.{Term}
use Rattle.db_model.specs.Database.{same_name}
use Rattle.db_model.specs.View.{operation}
use Rattle.db_model.specs.declared.op.Op.{Op}
use Rattle.txn_writes.specs.Seen.{key_changed, is_on, changes, is_changed}
use Rattle.txn_writes.specs.declared.key_places.KeyPlaces.{KeyPlaces}
use Rattle.txn_writes.specs.declared.places.Places.{Places}

abbrev pub is_same_key : Tree → Term → Bool
is_same_key key own = same_tree key (tree_of own)

-- the places that stand at the key, where it is there
abbrev pub places_there : Tree → KeyPlaces → Option (List ℕ)
places_there key places = lookup (is_same_key key) places.keys.entries

abbrev pub key_places : Tree → KeyPlaces → List ℕ
key_places key places = unwrap_or (places_there key places) []

abbrev pub AreKeysAlike : KeyPlaces → KeyPlaces → Type 0
AreKeysAlike old new = (key : Tree) → key_places key new ≡ key_places key old

-- the place is the last one of the key; all else is as it was
abbrev pub IsKeyNoted : KeyPlaces → KeyPlaces → Tree → ℕ → Type 0
IsKeyNoted old new key place = (asked : Tree)
    → key_places asked new ≡ (if same_tree key asked then key_places asked old ++ place ∷ [] else key_places asked old)

-- ---- all tables

abbrev pub table_there : List ℕ → Places → Option KeyPlaces
table_there name places = lookup (same_name name) places.tables.entries

abbrev pub places_in : Tree → Option KeyPlaces → List ℕ
places_in key None = []
places_in key (Some own) = key_places key own

abbrev pub places_at : List ℕ → Tree → Places → List ℕ
places_at name key places = places_in key (table_there name places)

pub record AreAlike (old new : Places) : Type 0 where
  pub places : (name : List ℕ) (key : Tree) → places_at name key new ≡ places_at name key old
  pub tables : (name : List ℕ) → is_some (table_there name new) ≡ is_some (table_there name old)

-- the place is the last one of that key of that table, which is there now; all else is as it was
pub record IsNoted (old new : Places) (table : List ℕ) (key : Tree) (place : ℕ) : Type 0 where
  pub places : (name : List ℕ) (asked : Tree) → places_at name asked new
      ≡ (if same_name name table && same_tree key asked then places_at name asked old ++ place ∷ []
      else places_at name asked old)
  pub tables : (name : List ℕ) → is_some (table_there name new)
      ≡ (same_name name table || is_some (table_there name old))

-- ---- ops and their places

pub record IsOpNoted (old new : Places) (op : Op) (place : ℕ) : Type 0 where
  pub places : (name : List ℕ) (key : Tree) → places_at name key new
      ≡ (if changes name key op then places_at name key old ++ place ∷ [] else places_at name key old)
  pub tables : (name : List ℕ) → is_some (table_there name new)
      ≡ (is_on name (operation op) || is_some (table_there name old))

-- the ops that stand at the places
abbrev pub ops_at : List Op → List ℕ → List (Option Op)
ops_at ops places = map (slice_get ops) places

-- the places are where the ops on that key of that table stand, in order
abbrev pub ArePlaces : List Op → Places → Type 0
ArePlaces ops places = (name : List ℕ) (key : Tree)
    → ops_at ops (places_at name key places) ≡ map Some (filter (changes name key) ops)

abbrev pub HasKey : Op → Type 0
HasKey op = IsSome (key_changed (operation op))

-- each op changes one key, the places are where they stand, and the tables those that they are on
pub record AreWrites (ops : List Op) (places : Places) : Type 0 where
  pub keyed : AllByRecursion HasKey ops
  pub placed : ArePlaces ops places
  pub tables : (name : List ℕ) → is_some (table_there name places) ≡ is_changed name None ops
