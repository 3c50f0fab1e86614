-- Contents as lists of records, by presence and in order.
use Rattle.std.specs.Prelude.{◌≡◌, true, [], ◌∷◌, ⊤, IsSome}
use Rattle.std.specs.List.{list_any, AllByRecursion}
use Rattle.term_core.specs.Tree.{key_of}
use Rattle.term_core.specs.Order.{same_tree}
use Rattle.db_model.specs.Database.{Contents, comes_before}
use Rattle.db_model.specs.Ops.{Operation, write, delete, delete_object, clear}
use Rattle.dump_laws.specs.Effects.{Rows}

-- whether each record is there
abbrev pub has : Contents → Rows
has contents row = list_any (same_tree row) contents

-- each record has a key, and comes before all that stand behind it
abbrev pub AreOrdered : Contents → Type 0
AreOrdered [] = ⊤
AreOrdered (row ∷ rows) =
    IsSome (key_of row) × AllByRecursion (λ later. comes_before row later ≡ true) rows × AreOrdered rows

-- a record that is written has a key
abbrev pub IsKeyed : Operation → Type 0
IsKeyed (write table row) = IsSome (key_of row)
IsKeyed (delete table key) = ⊤
IsKeyed (delete_object table row) = ⊤
IsKeyed (clear table) = ⊤
