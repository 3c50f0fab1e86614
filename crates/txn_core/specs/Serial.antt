-- The law: a transaction that commits got what its calls get alone on the tables just before.
use Rattle.std.specs.Prelude.{◌≡◌, ℕ, if◌then◌else◌, List, [], ◌∷◌, ◌++◌, map}
use Rattle.db_model.specs.Database.{Table, same_name}
use Rattle.txn_core.specs.Calls.{view, alone}
use Rattle.txn_core.specs.Machine.{Order, begin, ask, commit, single, make, drop, restart, Answer, replied, committed, ok, Event}
use Rattle.txn_core.specs.Pending.{Kept, Txn, calls_of, replies_of}

-- The calls that a transaction kept, with their replies, after one more order: none when it begins, and each that gets
-- a reply.
abbrev pub kept_after : List ℕ → List Kept → Order → Answer → List Kept
kept_after name kept (begin other) ok = if same_name name other then [] else kept
kept_after name kept (ask other call) (replied reply) =
    if same_name name other then kept ++ record { call = call; reply = reply } ∷ [] else kept
kept_after name kept order answer = kept

-- the calls kept since the transaction's last beginning, as the orders and the answers tell them
abbrev pub told : List ℕ → List Kept → List Event → List Kept
told name kept [] = kept
told name kept (event ∷ events) = told name (kept_after name kept event.order event.answer) events

-- The replies are those that the calls get alone on the tables before, and the calls lead from these to those after.
pub record IsSerial (kept : List Kept) (before later : List Table) : Type 0 where
  pub replies : replies_of kept ≡ alone (calls_of kept) before
  pub does : later ≡ view (calls_of kept) before

-- A pending transaction has kept what the orders and the answers tell, and got what its calls get alone on the tables
-- as they are now.
pub record IsTold (events : List Event) (now : List Table) (txn : Txn) : Type 0 where
  pub kept : txn.kept ≡ told txn.name [] events
  pub replies : replies_of txn.kept ≡ alone (calls_of txn.kept) now

-- the transaction's orders with their answers, where it is alone
abbrev pub asks : List ℕ → List Kept → List Event
asks name kept = map (λ one. record { order = ask name one.call; answer = replied one.reply }) kept

abbrev pub whole : List ℕ → List Kept → List Event
whole name kept =
    record { order = begin name; answer = ok } ∷ asks name kept
    ++ record { order = commit name; answer = committed } ∷ []

-- ---- a whole run in the order of its commits

abbrev pub if_done : Order → Answer → List Event
if_done order (replied reply) = record { order = order; answer = replied reply } ∷ []
if_done order ok = record { order = order; answer = ok } ∷ []
if_done order other = []

-- What the event is where transactions stand one after another: a commit is its whole transaction, and the calls of
-- that transaction are nothing by themselves. What was refused is nothing.
abbrev pub serial_of : List Event → Order → Answer → List Event
serial_of earlier (commit name) committed = whole name (told name [] earlier)
serial_of earlier (single call) answer = if_done (single call) answer
serial_of earlier (make definition) answer = if_done (make definition) answer
serial_of earlier (drop name) answer = if_done (drop name) answer
serial_of earlier (restart tables) answer = if_done (restart tables) answer
serial_of earlier order answer = []

abbrev pub serial : List Event → List Event → List Event
serial earlier [] = []
serial earlier (event ∷ events) =
    serial_of earlier event.order event.answer ++ serial (earlier ++ event ∷ []) events
