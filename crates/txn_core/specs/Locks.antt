-- The lock of a call, and which locks conflict.
use Rattle.std.specs.Prelude.{ℕ, Bool, true, false, ◌&&◌, ◌||◌, List, Option, None, Some}
use Rattle.term_core.specs.Tree.{Tree}
use Rattle.term_core.specs.Order.{same_tree}
use Rattle.db_model.specs.Database.{same_name}
use Rattle.db_model.specs.Ops.{table_of}
use Rattle.txn_writes.specs.Seen.{key_changed}
use Rattle.txn_core.specs.Calls.{Call, change, read, match_object, all_keys}

-- a lock on one key, or on all of a table
pub record Lock : Type 0 where
  pub table : List ℕ
  pub key : Option Tree
  pub writes : Bool

abbrev pub lock_of : Call → Lock
lock_of (change op) = record { table = table_of op; key = key_changed op; writes = true }
lock_of (read table key) = record { table = table; key = Some key; writes = false }
lock_of (match_object table pattern) = record { table = table; key = None; writes = false }
lock_of (all_keys table) = record { table = table; key = None; writes = false }

-- the lock of what changes a table as a whole
abbrev pub whole_table : List ℕ → Lock
whole_table table = record { table = table; key = None; writes = true }

-- the keys are equal, or one is of the table
abbrev pub meet : Option Tree → Option Tree → Bool
meet None other = true
meet (Some key) None = true
meet (Some key) (Some other) = same_tree key other

-- of two locks on one table at least one writes, and the keys are equal or one is of the table
abbrev pub clash : Option Tree → Bool → Option Tree → Bool → Bool
clash key writes other also = (writes || also) && meet key other

abbrev pub conflict : Lock → Lock → Bool
conflict lock other = same_name lock.table other.table && clash lock.key lock.writes other.key other.writes
