-- The tests of ops say what may be done on a table.
use Rattle.std.proofs.Common.{◌≡◌, true, List, [], ◌∷◌, Option, None, Some, refl}
use Rattle.std.specs.Prelude.{IsSomeAnd, All}
use Rattle.std.specs.List.{AllByRecursion}
use Rattle.std.proofs.lemmas.List.Elements.{All-nil, All-cons}
use Rattle.db_model.specs.Database.{Table, do_ops, do_op}
use Rattle.db_model.specs.Definitions.{Definition}
use Rattle.db_model.specs.Lawful.{table_in, IsAllowedIn}
use Rattle.db_model.specs.Ops.{Operation, write, delete, delete_object, clear, table_of}
use Rattle.db_model.specs.Records.{Allows}
use Rattle.txn_core.specs.Calls.{Call, change, read, match_object, all_keys, view, ops_of}
use Rattle.txn_core.specs.Refusals.{allows}
use Rattle.txn_core.specs.Sound.{MayCall}
use Rattle.txn_core.proofs.Fitting.{storable_is, fits_is}

pub allows_is : (definition : Definition) (op : Operation) → allows definition op ≡ true → Allows definition op
allows_is d (write table row) h = (fits_is d row).0 h
allows_is d (delete table key) h = (storable_is key).0 h
allows_is d (delete_object table row) h = (fits_is d row).0 h
allows_is d (clear table) h = tt

allowed_in : (op : Operation) (o : Option Table) → IsSomeAnd o (λ table. allows table.definition op ≡ true)
    → IsSomeAnd o (λ table. Allows table.definition op)
allowed_in op None h = h
allowed_in op (Some table) h = allows_is table.definition op h

pub ops_allowed : (tables : List Table) (calls : List Call) → AllByRecursion (MayCall tables) calls
    → All (IsAllowedIn tables) (ops_of calls)
ops_allowed tables [] h = All-nil (IsAllowedIn tables)
ops_allowed tables (change op ∷ calls) h =
    All-cons (IsAllowedIn tables) op (ops_of calls) (allowed_in op (table_in (table_of op) tables) h.0) (ops_allowed tables calls h.1)
ops_allowed tables (read name key ∷ calls) h = ops_allowed tables calls h.1
ops_allowed tables (match_object name pattern ∷ calls) h = ops_allowed tables calls h.1
ops_allowed tables (all_keys name ∷ calls) h = ops_allowed tables calls h.1

-- what calls make of the tables is what their ops do
pub view-is-ops : (calls : List Call) (tables : List Table) → view calls tables ≡ do_ops (ops_of calls) tables
view-is-ops [] tables = refl
view-is-ops (change op ∷ calls) tables = view-is-ops calls (do_op op tables)
view-is-ops (read name key ∷ calls) tables = view-is-ops calls tables
view-is-ops (match_object name pattern ∷ calls) tables = view-is-ops calls tables
view-is-ops (all_keys name ∷ calls) tables = view-is-ops calls tables
