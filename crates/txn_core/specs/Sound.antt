-- What holds of every state that a run reaches where no transaction was pending at first.
use Rattle.std.specs.Prelude.{◌≡◌, ◌≤◌, true, false, List, [], ◌∷◌, length, IsSomeAnd}
use Rattle.std.specs.List.{list_any, AllByRecursion}
use Rattle.db_model.specs.Database.{Table, same_name}
use Rattle.db_model.specs.Lawful.{table_in}
use Rattle.txn_core.specs.Calls.{Call, table_called, alone}
use Rattle.txn_core.specs.Locks.{lock_of, conflict}
use Rattle.txn_core.specs.Machine.{State, AreOrderly}
use Rattle.txn_core.specs.Pending.{Txn, calls_of, replies_of}
use Rattle.txn_core.specs.Refusals.{may_call}

-- each two of them, the earlier one first
abbrev pub Pairs : {X : Type 0} → (X → X → Type 0) → List X → Type 0
Pairs R [] = Unit {0}
Pairs R (x ∷ xs) = AllByRecursion (R x) xs × Pairs R xs

-- no lock of these calls conflicts with one of that call
abbrev pub IsFree : List Call → Call → Type 0
IsFree calls call = list_any (λ other. conflict (lock_of call) (lock_of other)) calls ≡ false

-- two transactions have two names, and no conflicting locks
pub record AreApart (one other : Txn) : Type 0 where
  pub names : same_name one.name other.name ≡ false
  pub locks : AllByRecursion (IsFree (calls_of other.kept)) (calls_of one.kept)

-- the call's table stands, and the call may be made on it
abbrev pub MayCall : List Table → Call → Type 0
MayCall tables call = IsSomeAnd (table_in (table_called call) tables) (λ table. may_call table.definition call ≡ true)

abbrev pub MayCallAll : List Table → Txn → Type 0
MayCallAll tables txn = AllByRecursion (MayCall tables) (calls_of txn.kept)

-- the transaction's replies are those that its calls get alone on the tables
abbrev pub GotAlone : List Table → Txn → Type 0
GotAlone tables txn = replies_of txn.kept ≡ alone (calls_of txn.kept) tables

-- the transaction has no more calls than it may
abbrev pub HasFew : Txn → Type 0
HasFew txn = length txn.kept ≤ 100000

pub record Sound (state : State) : Type 0 where
  pub orderly : AreOrderly state.tables
  pub apart : Pairs AreApart state.pending
  pub allowed : AllByRecursion (MayCallAll state.tables) state.pending
  pub replies : AllByRecursion (GotAlone state.tables) state.pending
  pub few : AllByRecursion HasFew state.pending
  pub few_pending : length state.pending ≤ 64
