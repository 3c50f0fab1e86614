-- The machine: the tables of a database and its pending transactions.
use Rattle.std.specs.Prelude.{◌≡◌, ◌⊎◌, ℕ, ◌<◌, List, [], ◌∷◌, length, Option, None, Some}
use Rattle.std.specs.List.{AllByRecursion}
use Rattle.db_model.specs.Commits.{create, drop_table}
use Rattle.db_model.specs.Database.{Table, do_schema_op}
use Rattle.db_model.specs.Definitions.{Definition}
use Rattle.db_model.specs.Lawful.{table_in}
use Rattle.db_state.specs.Live.{AreInOrder, IsKeyedTable}
use Rattle.txn_core.specs.Calls.{Call, Reply, table_called, reply, after, view}
use Rattle.txn_core.specs.Pending.{Txn, calls_of, named, others, begun, keeping, kept_call}
use Rattle.txn_core.specs.Refusals.{Refusal, begin_refusal, call_refusal, single_refusal, drop_refusal, end_refusal}

-- the pending transactions stand in the order of their beginning
pub record State : Type 0 where
  pub tables : List Table
  pub pending : List Txn

-- an order to the machine
pub data Order : Type 0 where
  begin : (name : List ℕ) → Order
  ask : (name : List ℕ) (call : Call) → Order
  commit : (name : List ℕ) → Order
  abort : (name : List ℕ) → Order
  -- a call that is a transaction of its own
  single : (call : Call) → Order
  -- makes a table that does not stand; no lock is asked for
  make : (definition : Definition) → Order
  drop : (name : List ℕ) → Order
  -- goes on with these tables, and no transaction is pending
  restart : (tables : List Table) → Order

pub data Answer : Type 0 where
  -- what a call gets
  replied : (reply : Reply) → Answer
  committed : Answer
  -- another order was done
  ok : Answer
  refused : (why : Refusal) → Answer
  -- refused for another reason: want of memory, a limit, a table that stands already
  barred : Answer

-- what is answered, and the state then
pub record Outcome : Type 0 where
  pub answer : Answer
  pub state : State

-- the outcome, where nothing bars it
abbrev pub unless_refused : Option Refusal → State → Outcome → Outcome
unless_refused None old outcome = outcome
unless_refused (Some why) old outcome = record { answer = refused why; state = old }

abbrev pub unless_there : Option Table → State → Outcome → Outcome
unless_there None old outcome = outcome
unless_there (Some table) old outcome = record { answer = barred; state = old }

-- the call is kept with its reply
abbrev pub asked : Option Txn → List ℕ → Call → State → Outcome
asked None name call old = record { answer = barred; state = old }
asked (Some txn) name call old =
    let one = kept_call call txn old.tables in
    record { answer = replied one.reply; state = record old { pending = keeping name one old.pending } }

-- its calls are done to the tables, and it is pending no more
abbrev pub committing : Option Txn → List ℕ → State → Outcome
committing None name old = record { answer = barred; state = old }
committing (Some txn) name old = record {
  answer = committed;
  state = record { tables = view (calls_of txn.kept) old.tables; pending = others name old.pending };
}

-- what the machine does
abbrev pub happens : Order → State → Outcome
happens (begin name) old =
    unless_refused (begin_refusal name old.pending) old
    record { answer = ok; state = record old { pending = begun name old.pending } }
happens (ask name call) old =
    unless_refused (call_refusal name call old.tables old.pending) old (asked (named name old.pending) name call old)
happens (commit name) old =
    unless_refused (end_refusal name old.pending) old (committing (named name old.pending) name old)
happens (abort name) old =
    unless_refused (end_refusal name old.pending) old
    record { answer = ok; state = record old { pending = others name old.pending } }
happens (single call) old =
    unless_refused (single_refusal call (table_in (table_called call) old.tables) old.pending) old
    record { answer = replied (reply call old.tables); state = record old { tables = after call old.tables } }
happens (make definition) old =
    unless_there (table_in definition.name old.tables) old
    record { answer = ok; state = record old { tables = do_schema_op (create definition) old.tables } }
happens (drop name) old =
    unless_refused (drop_refusal name (table_in name old.tables) old.pending) old
    record { answer = ok; state = record old { tables = do_schema_op (drop_table name) old.tables } }
happens (restart tables) old = record { answer = ok; state = record { tables = tables; pending = [] } }

-- the records of each table are in the order of their keys, and a record that it can have has a key
pub record AreOrderly (tables : List Table) : Type 0 where
  pub ordered : AreInOrder tables
  pub keyed : AllByRecursion IsKeyedTable tables

-- a table is made with a key, and what a restart goes on with is orderly
abbrev pub IsOrderly : Order → Type 0
IsOrderly (make definition) = 0 < length definition.attributes
IsOrderly (restart tables) = AreOrderly tables
IsOrderly other = Unit {0}

-- an order and its answer
pub record Event : Type 0 where
  pub order : Order
  pub answer : Answer

-- Any order may be refused for another reason instead, and then nothing changes.
pub record Step (old : State) (event : Event) (new : State) : Type 0 where
  pub orderly : IsOrderly event.order
  pub comes : (happens event.order old ≡ record { answer = event.answer; state = new })
      ⊎ ((event.answer ≡ barred) × (new ≡ old))

-- these orders, with these answers, lead from old to new
abbrev pub Run : State → List Event → State → Type 0
Run old [] new = old ≡ new
Run old (event ∷ events) new = (middle : State) × Step old event middle × Run middle events new

-- no transaction is pending
abbrev pub idle : List Table → State
idle tables = record { tables = tables; pending = [] }
