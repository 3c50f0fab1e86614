-- What a table holds, and what ops make of it.
use Rattle.std.specs.Prelude.{◌≡◌, true, false, List, [], ◌∷◌, Option, Some, None, IsSome, filter, map}
use Rattle.std.specs.List.{list_any, AllByRecursion}
use Rattle.term_core.specs.Tree.{Tree, key_of}
use Rattle.term_core.specs.View.{tree_of}
use Rattle.term_core.specs.declared.term.Term.{Term}
use Rattle.db_model.specs.Database.{Contents, has_key, is_key_below, put_op}
use Rattle.db_model.specs.Ops.{Operation, write, delete, delete_object, clear}
use Rattle.db_model.specs.declared.definition.Kind.{Kind}

-- a table as contracts see it: its kind, and its records in their order
pub record TableRecords : Type 0 where
  pub kind : Kind
  pub records : List Term

-- the records as plain data
abbrev pub contents : TableRecords → Contents
contents table = map tree_of table.records

-- the contents after these ops, the first of which is done first
abbrev pub put_ops : Kind → List Operation → Contents → Contents
put_ops kind [] rows = rows
put_ops kind (op ∷ ops) rows = put_ops kind ops (put_op kind op rows)

-- no record's key is below that of an earlier one
abbrev pub IsInOrder : Contents → Type 0
IsInOrder [] = Unit {0}
IsInOrder (row ∷ rows) =
    AllByRecursion (λ later. is_key_below (key_of later) (key_of row) ≡ false) rows × IsInOrder rows

-- a record that is written has a key
abbrev pub IsKeyed : Operation → Type 0
IsKeyed (write table row) = IsSome (key_of row)
IsKeyed (delete table key) = Unit {0}
IsKeyed (delete_object table row) = Unit {0}
IsKeyed (clear table) = Unit {0}

-- ---- keys in order

-- the records whose key is above this one, and all of them where no key is given
abbrev pub records_above : Option Tree → Contents → Contents
records_above None rows = rows
records_above (Some key) rows = filter (λ row. is_key_below (Some key) (key_of row)) rows

-- the key of the first record
abbrev pub first_key : Contents → Option Tree
first_key [] = None
first_key (row ∷ rows) = key_of row

-- The key is that of a record, and no record's key is below it. There is no such key where there are no records.
abbrev pub IsLeastKey : Option Tree → Contents → Type 0
IsLeastKey None rows = rows ≡ []
IsLeastKey (Some key) rows =
    (list_any (has_key key) rows ≡ true) × AllByRecursion (λ row. is_key_below (key_of row) (Some key) ≡ false) rows
