-- What a run of the machine is to its transactions: orders to the machine of transactions alone, over the same tables.
use Rattle.std.specs.Prelude.{◌≡◌, ℕ, ◌+◌, List, [], ◌∷◌, ◌++◌, Ok}
use Rattle.term_core.specs.Tree.{Tree}
use Rattle.db_model.specs.Database.{Table}
use Rattle.db_model.specs.Ops.{write}
use Rattle.schema_txn.specs.Commands.{with_cookie}
use Rattle.txn_core.specs.Calls as calls
use Rattle.txn_core.specs.Machine as txns
use Rattle.mn_node.specs.Effects.{Command, put, get, create_table, delete_table, begin, ask, commit_txn, abort, Answer, started, done, ok, found, stopped, fault}
use Rattle.mn_node.specs.Machine.{Event, command, Machine, IsLawfulMachine, Step, now_of}

-- ---- runs

-- an event, the answer to it, and the machine behind it
pub record Act : Type 0 where
  pub event : Event
  pub answer : Answer
  pub behind : Machine

-- Each act is a step from the machine that the one before it left. Behind it each entry was lawful when it was done.
abbrev pub Run : Machine → List Act → Machine → Type 0
Run old [] new = old ≡ new
Run old (act ∷ acts) new =
    Step old act.event act.answer act.behind × IsLawfulMachine act.behind × Run act.behind acts new

-- ---- what transactions see of a machine

abbrev pub tables_of : Machine → List Table
tables_of machine = (now_of machine).database.tables

abbrev pub state_of : Machine → txns.State
state_of machine = record { tables = tables_of machine; pending = machine.pending }

-- ---- what they see of a run

-- this order, and this answer to it
abbrev pub saw : txns.Order → txns.Answer → List txns.Event
saw order answer = record { order = order; answer = answer } ∷ []

-- a command that is answered `done`, where the database has this version
abbrev pub seen_done : ℕ → Command → List txns.Event
seen_done version (put table row) = saw (txns.single (calls.change (write table row))) (txns.replied calls.done)
seen_done version (create_table name (Ok definition)) = saw (txns.make (with_cookie (version + 1) definition)) txns.ok
seen_done version (delete_table name) = saw (txns.drop name) txns.ok
seen_done version (commit_txn name) = saw (txns.commit name) txns.committed
seen_done version other = []

-- one that is answered `ok`
abbrev pub seen_ok : Command → List txns.Event
seen_ok (begin name) = saw (txns.begin name) txns.ok
seen_ok (ask name call) = saw (txns.ask name call) (txns.replied calls.done)
seen_ok (abort name) = saw (txns.abort name) txns.ok
seen_ok other = []

-- one that is answered by these records or keys
abbrev pub seen_found : List Tree → Command → List txns.Event
seen_found terms (get table key) = saw (txns.single (calls.read table key)) (txns.replied (calls.found terms))
seen_found terms (ask name call) = saw (txns.ask name call) (txns.replied (calls.found terms))
seen_found terms other = []

-- A start, a stop and a fault leave no transaction pending. What is refused is nothing, and so is what tells of tables.
abbrev pub seen : Machine → Event → Answer → Machine → List txns.Event
seen old (command c) done new = seen_done (now_of old).database.version c
seen old (command c) ok new = seen_ok c
seen old (command c) (found terms) new = seen_found terms c
seen old event (started n) new = saw (txns.restart (tables_of new)) txns.ok
seen old event stopped new = saw (txns.restart (tables_of new)) txns.ok
seen old event (fault name) new = saw (txns.restart (tables_of new)) txns.ok
seen old event answer new = []

abbrev pub all_seen : Machine → List Act → List txns.Event
all_seen old [] = []
all_seen old (act ∷ acts) = seen old act.event act.answer act.behind ++ all_seen act.behind acts
