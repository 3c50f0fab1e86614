-- The table and the lock of a call in code.
use Rattle.std.proofs.Common.{◌≡◌, ℕ, Bool, List, Option, refl}
use Rattle.term_core.specs.Tree.{Tree}
use Rattle.txn_core.specs.Calls.{table_called}
use Rattle.txn_core.specs.Locks.{Lock, lock_of}
use Rattle.txn_core.specs.Requests.{call_of}
use Rattle.txn_core.specs.declared.request.Request.{Request}
use Rattle.txn_core.specs.declared.request.Request.TheVariants.{Write, Delete, DeleteObject, Read, MatchObject, AllKeys}

pub called : (table : List ℕ) (request : Request) → table ≡ table_called (call_of table request)
called table (Write row) = refl
called table (Delete key) = refl
called table (DeleteObject row) = refl
called table (Read key) = refl
called table (MatchObject pattern) = refl
called table AllKeys = refl

locked_table : (table : List ℕ) (request : Request) → table ≡ (lock_of (call_of table request)).table
locked_table table (Write row) = refl
locked_table table (Delete key) = refl
locked_table table (DeleteObject row) = refl
locked_table table (Read key) = refl
locked_table table (MatchObject pattern) = refl
locked_table table AllKeys = refl

pub lock_is : (table : List ℕ) (request : Request) (own : Option Tree) (writing : Bool)
    → own ≡ (lock_of (call_of table request)).key → writing ≡ (lock_of (call_of table request)).writes
    → ◌≡◌ {A = Lock} (record { table = table; key = own; writes = writing }) (lock_of (call_of table request))
lock_is table request own writing k w = λ i. record { table = locked_table table request i; key = k i; writes = w i }
