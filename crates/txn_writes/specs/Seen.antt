-- What a transaction sees of a table through its own writes.
use Rattle.std.specs.Prelude.{ℕ, Bool, ◌&&◌, if◌then◌else◌, List, [], ◌∷◌, filter, map, Option, None, Some}
use Rattle.std.specs.List.{list_any}
use Rattle.term_core.specs.Tree.{Tree, key_of}
use Rattle.db_model.specs.Database.{Contents, is_key, has_key_of, same_name}
use Rattle.db_model.specs.Ops.{Operation, write, delete, delete_object, clear, table_of}
use Rattle.db_model.specs.View.{operation}
use Rattle.db_model.specs.declared.op.Op.{Op}
use Rattle.ram_table.specs.Contents.{TableRecords, contents, put_ops}

-- the one key whose records the op changes
abbrev pub key_changed : Operation → Option Tree
key_changed (write table row) = key_of row
key_changed (delete table key) = Some key
key_changed (delete_object table row) = key_of row
key_changed (clear table) = None

-- the op is done to the table of this name
abbrev pub is_on : List ℕ → Operation → Bool
is_on name op = same_name name (table_of op)

-- the op changes the records of this key in the table of this name
abbrev pub changes : List ℕ → Tree → Op → Bool
changes name key op = is_on name (operation op) && is_key key (key_changed (operation op))

-- the op changes records of the table of this name: those of the key, or any where none is given
abbrev pub changes_in : List ℕ → Option Tree → Op → Bool
changes_in name None op = is_on name (operation op)
changes_in name (Some key) op = changes name key op

-- some op does
abbrev pub is_changed : List ℕ → Option Tree → List Op → Bool
is_changed name key ops = list_any (changes_in name key) ops

-- the table's records once the ops on it are done, in order
abbrev pub seen : List ℕ → List Op → TableRecords → Contents
seen name ops table = put_ops table.kind (filter (is_on name) (map operation ops)) (contents table)

abbrev pub listed : Option Tree → List Tree → List Tree
listed None keys = keys
listed (Some key) keys = key ∷ keys

abbrev pub keys_behind : Option Tree → Contents → List Tree
keys_behind last [] = []
keys_behind last (row ∷ rows) =
    if has_key_of last row then keys_behind last rows else listed (key_of row) (keys_behind (key_of row) rows)

-- the keys of records in order, each once: those of one key stand together
abbrev pub keys : Contents → List Tree
keys rows = keys_behind None rows
