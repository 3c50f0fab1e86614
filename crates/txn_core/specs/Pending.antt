-- Pending transactions.
use Rattle.std.specs.Prelude.{ℕ, Bool, not, if◌then◌else◌, List, [], ◌∷◌, ◌++◌, filter, map, Option, None, Some}
use Rattle.std.specs.List.{list_any, find}
use Rattle.db_model.specs.Database.{Table, same_name}
use Rattle.txn_core.specs.Calls.{Call, Reply, reply, view}
use Rattle.txn_core.specs.Locks.{Lock, lock_of, conflict}

-- a call that was kept, with the reply that it got
pub record Kept : Type 0 where
  pub call : Call
  pub reply : Reply

-- a pending transaction: its name, and the calls that it kept, in order
pub record Txn : Type 0 where
  pub name : List ℕ
  pub kept : List Kept

abbrev pub calls_of : List Kept → List Call
calls_of kept = map (λ one. one.call) kept

abbrev pub replies_of : List Kept → List Reply
replies_of kept = map (λ one. one.reply) kept

abbrev pub is_named : List ℕ → Txn → Bool
is_named name txn = same_name name txn.name

-- the pending transaction of that name
abbrev pub named : List ℕ → List Txn → Option Txn
named name pending = find (is_named name) pending

abbrev pub others : List ℕ → List Txn → List Txn
others name pending = filter (λ txn. not (is_named name txn)) pending

-- the transaction has a lock that conflicts with this one
abbrev pub holds : Lock → Txn → Bool
holds lock txn = list_any (λ call. conflict lock (lock_of call)) (calls_of txn.kept)

-- the first of them that has
abbrev pub holder : Lock → List Txn → Option (List ℕ)
holder lock [] = None
holder lock (txn ∷ pending) = if holds lock txn then Some txn.name else holder lock pending

-- ---- what may become of them

-- the transaction begins, as the last
abbrev pub begun : List ℕ → List Txn → List Txn
begun name pending = pending ++ record { name = name; kept = [] } ∷ []

abbrev pub kept_by : List ℕ → Kept → Txn → Txn
kept_by name one txn = if is_named name txn then record txn { kept = txn.kept ++ one ∷ [] } else txn

-- the transaction of that name keeps the call
abbrev pub keeping : List ℕ → Kept → List Txn → List Txn
keeping name one pending = map (kept_by name one) pending

-- the call with what it gets: the transaction sees what its own calls made of the tables
abbrev pub kept_call : Call → Txn → List Table → Kept
kept_call call txn tables = record { call = call; reply = reply call (view (calls_of txn.kept) tables) }
