-- Walks over keys in order.
use Rattle.std.specs.Prelude.{◌≡◌, Bool, if◌then◌else◌, true, false, List, [], ◌∷◌, ◌++◌, filter, map, Option, None}
use Rattle.std.specs.Prelude.{Some, ⊤}
use Rattle.std.specs.List.{list_any, AllByRecursion}
use Rattle.std.specs.Ordering.{is_lt}
use Rattle.term_core.specs.Tree.{Tree, key_of, tree_cmp}
use Rattle.term_core.specs.View.{tree_of}
use Rattle.db_model.specs.Database.{Contents, is_key, is_key_below}
use Rattle.ram_table.specs.Contents.{TableRecords, contents}
use Rattle.txn_writes.specs.declared.key_places.KeyPlaces.{KeyPlaces}

-- the key is above the last one, where there is a last one
abbrev pub is_above : Option Tree → Option Tree → Bool
is_above last None = false
is_above None (Some key) = true
is_above (Some last) (Some key) = is_lt (tree_cmp last key)

abbrev pub rows_above : Option Tree → Contents → Contents
rows_above last rows = filter (λ row. is_above last (key_of row)) rows

-- none of the keys is above the last one and below this one, which is above it itself; or none is above it at all
abbrev pub IsNext : Option Tree → List (Option Tree) → Option Tree → Type 0
IsNext last keys None = AllByRecursion (λ key. is_above last key ≡ false) keys
IsNext last keys (Some next) = (is_above last (Some next) ≡ true)
    × AllByRecursion (λ key. is_above last key ≡ true → is_key_below key (Some next) ≡ false) keys

-- the key is one of these
abbrev pub IsOneOf : List (Option Tree) → Option Tree → Type 0
IsOneOf keys None = ⊤
IsOneOf keys (Some key) = list_any (is_key key) keys ≡ true

abbrev pub live_keys : TableRecords → List (Option Tree)
live_keys table = map key_of (contents table)

abbrev pub own_keys : Option KeyPlaces → List (Option Tree)
own_keys None = []
own_keys (Some places) = map (λ entry. Some (tree_of entry.0)) places.keys.entries

-- the keys of live records, and those of a transaction's own ops
abbrev pub all_keys : Option KeyPlaces → TableRecords → List (Option Tree)
all_keys places table = live_keys table ++ own_keys places

abbrev pub lesser : Option Tree → Option Tree → Option Tree
lesser None other = other
lesser (Some key) None = Some key
lesser (Some key) (Some other) = if is_lt (tree_cmp other key) then Some other else Some key

abbrev pub are_some : Contents → Bool
are_some [] = false
are_some (row ∷ rows) = true
