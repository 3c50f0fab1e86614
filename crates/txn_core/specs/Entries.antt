-- The pending transactions of the code.
use Rattle.std.specs.Prelude.{◌≡◌, ◌<◌, ◌+◌, ℕ, Bool, false, not, ◌&&◌, ◌||◌, if◌then◌else◌, List, [], ◌∷◌, ◌++◌, map}
use Rattle.std.specs.Prelude.{Option, None, Some}
use Rattle.std.specs.Map.{lookup}
use Rattle.std.specs.Option.{option_to_list}
use Rattle.term_core.specs.Tree.{Tree}
use Rattle.db_model.specs.Database.{same_name}
use Rattle.db_model.specs.View.{operation}
use Rattle.txn_writes.specs.Seen.{is_changed}
use Rattle.txn_core.specs.Calls.{Call}
use Rattle.txn_core.specs.Locks.{Lock, lock_of, conflict}
use Rattle.txn_core.specs.Held.{bars_in}
use Rattle.txn_core.specs.Requests.{change_of}
use Rattle.txn_core.specs.declared.pending.Pending.{Pending}
use Rattle.txn_core.specs.declared.txns.Txns.{Txns}

-- ---- one of them

-- This lock conflicts with one of those that the transaction holds: for writing on each key that its ops change, and
-- for reading.
abbrev pub holds_lock : Pending → Lock → Bool
holds_lock txn lock =
    is_changed lock.table lock.key txn.writes || (lock.writes && bars_in txn.reads lock.table lock.key)

abbrev pub TakesLock : Pending → Pending → Lock → Type 0
TakesLock old new lock = (asked : Lock) → holds_lock new asked ≡ (holds_lock old asked || conflict asked lock)

-- it has no locks, no calls and no ops
pub record IsFresh (txn : Pending) : Type 0 where
  pub locks : (lock : Lock) → holds_lock txn lock ≡ false
  pub calls : txn.calls ≡ 0
  pub writes : txn.writes ≡ []

-- it has the lock of a call and its op, and does not count it yet
pub record Takes (old new : Pending) (call : Call) : Type 0 where
  pub locks : TakesLock old new (lock_of call)
  pub calls : new.calls ≡ old.calls
  pub writes : map operation new.writes ≡ map operation old.writes ++ option_to_list (change_of call)

-- it has one call more, with its lock and its op
pub record Keeps (old new : Pending) (call : Call) : Type 0 where
  pub locks : TakesLock old new (lock_of call)
  pub calls : new.calls ≡ old.calls + 1
  pub writes : map operation new.writes ≡ map operation old.writes ++ option_to_list (change_of call)

-- it has one lock more, on the key or on all of the table, for reading
pub record Locks (old new : Pending) (table : List ℕ) (key : Option Tree) : Type 0 where
  pub locks : TakesLock old new record { table = table; key = key; writes = false }
  pub calls : new.calls ≡ old.calls
  pub writes : new.writes ≡ old.writes

pub record IsAlike (old new : Pending) : Type 0 where
  pub locks : (asked : Lock) → holds_lock new asked ≡ holds_lock old asked
  pub calls : new.calls ≡ old.calls
  pub writes : new.writes ≡ old.writes

-- it may have one call more
abbrev pub HasFew : Pending → Type 0
HasFew txn = txn.calls < 100000

-- ---- all of them

abbrev pub pending_at : List ℕ → Txns → Option Pending
pending_at name txns = lookup (same_name name) txns.pending.entries

abbrev pub is_excepted : Option (List ℕ) → List ℕ → Bool
is_excepted None name = false
is_excepted (Some other) name = same_name other name

-- it is not the excepted one and holds a conflicting lock
abbrev pub is_holder : Option (List ℕ) → Lock → List ℕ × Pending → Bool
is_holder except lock entry = not (is_excepted except entry.0) && holds_lock entry.1 lock

-- the first of them that is
abbrev pub first_holder : Option (List ℕ) → Lock → List (List ℕ × Pending) → Option (List ℕ)
first_holder except lock [] = None
first_holder except lock (entry ∷ rest) =
    if is_holder except lock entry then Some entry.0 else first_holder except lock rest
