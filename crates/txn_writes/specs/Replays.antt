-- What ops on one key make of its records.
use Rattle.std.specs.Prelude.{◌≡◌, ℕ, Bool, true, false, List, [], ◌∷◌, Option, None, Some}
use Rattle.std.specs.List.{AllByRecursion, slice_get}
use Rattle.term_core.specs.Tree.{Tree}
use Rattle.db_model.specs.Database.{Contents, is_key, has_key}
use Rattle.db_model.specs.Ops.{Operation, write, delete, delete_object, clear}
use Rattle.db_model.specs.View.{operation}
use Rattle.db_model.specs.declared.definition.Kind.{Kind}
use Rattle.db_model.specs.declared.definition.Kind.TheVariants.{Bag}
use Rattle.db_model.specs.declared.op.Op.{Op}
use Rattle.txn_writes.specs.Seen.{key_changed}

abbrev pub with_found : Option Op → List Operation → List Operation
with_found None ops = ops
with_found (Some op) ops = operation op ∷ ops

-- the ops that stand at the places
abbrev pub ops_of : List Op → List ℕ → List Operation
ops_of ops [] = []
ops_of ops (place ∷ places) = with_found (slice_get ops place) (ops_of ops places)

abbrev pub is_set : Kind → Bool
is_set Bag = false
is_set other = true

-- what the op makes of a key's records does not depend on them
abbrev pub is_fresh : Kind → Operation → Bool
is_fresh kind (write table row) = is_set kind
is_fresh kind (delete table key) = true
is_fresh kind (delete_object table row) = false
is_fresh kind (clear table) = true

abbrev pub is_fresh_at : Kind → Option Op → Bool
is_fresh_at kind None = false
is_fresh_at kind (Some op) = is_fresh kind (operation op)

abbrev pub starts_fresh : Kind → List Operation → Bool
starts_fresh kind [] = false
starts_fresh kind (op ∷ ops) = is_fresh kind op

abbrev pub HaveKey : Tree → Contents → Type 0
HaveKey key rows = AllByRecursion (λ row. has_key key row ≡ true) rows

abbrev pub ChangeKey : Tree → List Operation → Type 0
ChangeKey key ops = AllByRecursion (λ op. is_key key (key_changed op) ≡ true) ops
