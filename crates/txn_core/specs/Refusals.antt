-- Where the calls of transactions are refused.
use Rattle.std.specs.Prelude.{ℕ, Bool, true, false, ◌&&◌, ◌==◌, ◌^◌, nat_le, if◌then◌else◌, List, length, Option, None, Some, is_some}
use Rattle.term_core.specs.Tree.{Tree, atom, tuple, tree, count, depth}
use Rattle.term_core.specs.Written.{canon}
use Rattle.db_model.specs.Database.{Table, same_name}
use Rattle.db_model.specs.Definitions.{Definition}
use Rattle.db_model.specs.Lawful.{table_in}
use Rattle.db_model.specs.Ops.{Operation, write, delete, delete_object, clear}
use Rattle.txn_core.specs.Calls.{Call, change, read, match_object, all_keys, table_called}
use Rattle.txn_core.specs.Locks.{lock_of, whole_table}
use Rattle.txn_core.specs.Pending.{Txn, named, others, holder}

-- why a call is refused
pub data Refusal : Type 0 where
  -- no transaction of the name is pending
  no_txn : Refusal
  -- one is already
  txn_exists : Refusal
  -- as many are pending as may be
  too_many : Refusal
  -- the table does not stand
  no_table : Refusal
  -- the table can have no such record or key
  bad_record : Refusal
  -- the transaction has as many calls as it may
  too_many_calls : Refusal
  -- another transaction, which is named, has a conflicting lock
  locked : (by : List ℕ) → Refusal

-- a tuple whose first element is the record name, with one more for each attribute
abbrev pub has_elements : Definition → Tree → Bool
has_elements definition (tuple (tree (atom name) elements)) =
    same_name name definition.record_name && (count elements == length definition.attributes)
has_elements definition other = false

-- it nests over at most 100 levels, and the text that is written of it has at most 2^26 bytes
abbrev pub is_storable : Tree → Bool
is_storable item = nat_le (depth item) 100 && nat_le (length (canon item)) (2 ^ 26)

-- a table of this definition can have the record
abbrev pub fits : Definition → Tree → Bool
fits definition item = has_elements definition item && is_storable item

-- the op may be done on a table of this definition
abbrev pub allows : Definition → Operation → Bool
allows definition (write table row) = fits definition row
allows definition (delete table key) = is_storable key
allows definition (delete_object table row) = fits definition row
allows definition (clear table) = true

-- the call may be made on a table of this definition
abbrev pub may_call : Definition → Call → Bool
may_call definition (change op) = allows definition op
may_call definition (read table key) = true
may_call definition (match_object table pattern) = true
may_call definition (all_keys table) = true

-- one of the name, and 64 pending ones, in this order
abbrev pub begin_refusal : List ℕ → List Txn → Option Refusal
begin_refusal name pending =
    if is_some (named name pending) then Some txn_exists
    else (if nat_le 64 (length pending) then Some too_many else None)

abbrev pub lock_refusal : Option (List ℕ) → Option Refusal
lock_refusal None = None
lock_refusal (Some by) = Some (locked by)

abbrev pub table_refusal : Txn → Call → Option Table → List Txn → Option Refusal
table_refusal txn call None others = Some no_table
table_refusal txn call (Some table) others =
    if may_call table.definition call
    then (if nat_le 100000 (length txn.kept) then Some too_many_calls
    else lock_refusal (holder (lock_of call) others))
    else Some bad_record

abbrev pub txn_refusal : Option Txn → Call → List Table → List Txn → Option Refusal
txn_refusal None call tables others = Some no_txn
txn_refusal (Some txn) call tables others = table_refusal txn call (table_in (table_called call) tables) others

-- No transaction of the name, no table, no such record, too many calls, and a lock of another transaction, in this
-- order.
abbrev pub call_refusal : List ℕ → Call → List Table → List Txn → Option Refusal
call_refusal name call tables pending = txn_refusal (named name pending) call tables (others name pending)

-- A call that is a transaction of its own: no table, no such record, and a lock of a transaction, in this order.
abbrev pub single_refusal : Call → Option Table → List Txn → Option Refusal
single_refusal call None pending = Some no_table
single_refusal call (Some table) pending =
    if may_call table.definition call then lock_refusal (holder (lock_of call) pending) else Some bad_record

-- a table that is taken away: no table, and any lock on it, in this order
abbrev pub drop_refusal : List ℕ → Option Table → List Txn → Option Refusal
drop_refusal name None pending = Some no_table
drop_refusal name (Some table) pending = lock_refusal (holder (whole_table name) pending)

-- a commit and an abort are refused alone where no transaction of the name is pending
abbrev pub end_refusal : List ℕ → List Txn → Option Refusal
end_refusal name pending = if is_some (named name pending) then None else Some no_txn
