-- Every run is one in which transactions stand one after another.
use Rattle.std.proofs.Common.{◌≡◌, ℕ, Bool, true, false, if◌then◌else◌, List, [], ◌∷◌, ◌++◌, Option, None, Some}
use Rattle.std.proofs.Common.{refl, sym, ap, subst, inl, inr}
use Rattle.db_model.specs.Commits.{create, drop_table}
use Rattle.db_model.specs.Database.{Table, do_schema_op}
use Rattle.db_model.specs.Definitions.{Definition}
use Rattle.db_model.specs.Lawful.{table_in}
use Rattle.txn_core.specs.Calls.{Call, table_called, reply, after, view}
use Rattle.txn_core.specs.Locks.{lock_of}
use Rattle.txn_core.specs.Machine.{State, Order, begin, ask, commit, abort, single, make, drop, restart, replied, ok, refused, barred, Outcome, unless_refused, unless_there, asked, committing, happens, AreOrderly, IsOrderly, Event, Step, Run, idle}
use Rattle.txn_core.specs.Pending.{Txn, calls_of, named, others, holder, begun}
use Rattle.txn_core.specs.Refusals.{Refusal, bad_record, may_call, begin_refusal, call_refusal, lock_refusal, single_refusal, drop_refusal, end_refusal}
use Rattle.txn_core.specs.Serial.{told, whole, serial_of, serial}
use Rattle.txn_core.proofs.RunLaws.{IsReached, reached, told_kept, told_whole, whole_run}

run_both : (old : State) (events more : List Event) (middle new : State) → Run old events middle → Run middle more new
    → Run old (events ++ more) new
run_both old [] more middle new run rest = subst (λ s. Run s more new) (sym run) rest
run_both old (event ∷ events) more middle new run rest = (run.0, run.1, run_both run.0 events more middle new run.2 rest)

-- the run that an outcome is, where transactions stand one after another
abbrev Serially : List Event → Order → State → Outcome → Type 0
Serially earlier order old outcome = Run (idle old.tables) (serial_of earlier order outcome.answer) (idle outcome.state.tables)

-- ---- what changes nothing

nothing_refused : (earlier : List Event) (order : Order) (why : Refusal) (old : State)
    → Serially earlier order old record { answer = refused why; state = old }
nothing_refused earlier (begin name) why old = refl
nothing_refused earlier (ask name call) why old = refl
nothing_refused earlier (commit name) why old = refl
nothing_refused earlier (abort name) why old = refl
nothing_refused earlier (single call) why old = refl
nothing_refused earlier (make definition) why old = refl
nothing_refused earlier (drop name) why old = refl
nothing_refused earlier (restart tables) why old = refl

nothing_barred : (earlier : List Event) (order : Order) (old : State)
    → Serially earlier order old record { answer = barred; state = old }
nothing_barred earlier (begin name) old = refl
nothing_barred earlier (ask name call) old = refl
nothing_barred earlier (commit name) old = refl
nothing_barred earlier (abort name) old = refl
nothing_barred earlier (single call) old = refl
nothing_barred earlier (make definition) old = refl
nothing_barred earlier (drop name) old = refl
nothing_barred earlier (restart tables) old = refl

unless : (earlier : List Event) (order : Order) (why : Option Refusal) (old : State) (outcome : Outcome)
    → (why ≡ None → Serially earlier order old outcome) → Serially earlier order old (unless_refused why old outcome)
unless earlier order None old outcome h = h refl
unless earlier order (Some why) old outcome h = nothing_refused earlier order why old

serial_asked : (earlier : List Event) (txn : Option Txn) (name : List ℕ) (call : Call) (old : State)
    → Serially earlier (ask name call) old (asked txn name call old)
serial_asked earlier None name call old = refl
serial_asked earlier (Some txn) name call old = refl

-- ---- a commit is its whole transaction

serial_committing : (earlier : List Event) (txn : Option Txn) (name : List ℕ) (old : State) → IsReached earlier old
    → named name old.pending ≡ txn → Serially earlier (commit name) old (committing txn name old)
serial_committing earlier None name old so is = refl
serial_committing earlier (Some txn) name old so is =
    subst (λ kept. Run (idle old.tables) (whole name (told name [] earlier)) (idle (view (calls_of kept) old.tables)))
    (sym (told_kept earlier old name txn so is)) (whole_run name old.tables (told name [] earlier) (told_whole earlier old name txn so is))

-- ---- orders of their own

-- a single call that no lock hinders is not refused where no transaction is pending
single_idle : (call : Call) (table : Option Table) (pending : List Txn) → single_refusal call table pending ≡ None
    → single_refusal call table [] ≡ None
single_idle call None pending h = absurd cc
single_idle call (Some table) pending h = by (may_call table.definition call) h
  where
    by : (b : Bool) → (if b then lock_refusal (holder (lock_of call) pending) else Some bad_record) ≡ None
        → (if b then lock_refusal (holder (lock_of call) []) else Some bad_record) ≡ None
    by true h = refl
    by false h = absurd cc

drop_idle : (name : List ℕ) (table : Option Table) (pending : List Txn) → drop_refusal name table pending ≡ None
    → drop_refusal name table [] ≡ None
drop_idle name None pending h = absurd cc
drop_idle name (Some table) pending h = refl

serial_single : (earlier : List Event) (call : Call) (old : State)
    → single_refusal call (table_in (table_called call) old.tables) old.pending ≡ None
    → Serially earlier (single call) old
    record { answer = replied (reply call old.tables); state = record old { tables = after call old.tables } }
serial_single earlier call old free =
    let outcome : Outcome = record { answer = replied (reply call old.tables); state = idle (after call old.tables) } in (
      idle (after call old.tables),
      record {
        orderly = tt;
        comes = inl (ap (λ why. unless_refused why (idle old.tables) outcome)
            (single_idle call (table_in (table_called call) old.tables) old.pending free));
      },
      refl,
    )

serial_make : (earlier : List Event) (definition : Definition) (table : Option Table) (old : State)
    → IsOrderly (make definition)
    → table_in definition.name old.tables ≡ table
    → Serially earlier (make definition) old (unless_there table old
    record { answer = ok; state = record old { tables = do_schema_op (create definition) old.tables } })
serial_make earlier definition (Some table) old o is = refl
serial_make earlier definition None old o is =
    let outcome : Outcome = record { answer = ok; state = idle (do_schema_op (create definition) old.tables) } in (
      outcome.state,
      record { orderly = o; comes = inl (ap (λ table. unless_there table (idle old.tables) outcome) is) },
      refl,
    )

serial_drop : (earlier : List Event) (name : List ℕ) (old : State)
    → drop_refusal name (table_in name old.tables) old.pending ≡ None
    → Serially earlier (drop name) old
    record { answer = ok; state = record old { tables = do_schema_op (drop_table name) old.tables } }
serial_drop earlier name old free =
    let outcome : Outcome = record { answer = ok; state = idle (do_schema_op (drop_table name) old.tables) } in (
      outcome.state,
      record {
        orderly = tt;
        comes = inl (ap (λ why. unless_refused why (idle old.tables) outcome) (drop_idle name (table_in name old.tables) old.pending free));
      },
      refl,
    )

-- ---- one event

serial_happens : (earlier : List Event) (order : Order) (old : State) → IsOrderly order → IsReached earlier old
    → Serially earlier order old (happens order old)
serial_happens earlier (begin name) old o so =
    unless earlier (begin name) (begin_refusal name old.pending) old
    record { answer = ok; state = record old { pending = begun name old.pending } } (λ _. refl)
serial_happens earlier (ask name call) old o so =
    unless earlier (ask name call) (call_refusal name call old.tables old.pending) old (asked (named name old.pending) name call old)
    (λ _. serial_asked earlier (named name old.pending) name call old)
serial_happens earlier (commit name) old o so =
    unless earlier (commit name) (end_refusal name old.pending) old (committing (named name old.pending) name old)
    (λ _. serial_committing earlier (named name old.pending) name old so refl)
serial_happens earlier (abort name) old o so =
    unless earlier (abort name) (end_refusal name old.pending) old
    record { answer = ok; state = record old { pending = others name old.pending } } (λ _. refl)
serial_happens earlier (single call) old o so =
    unless earlier (single call) (single_refusal call (table_in (table_called call) old.tables) old.pending) old
    record { answer = replied (reply call old.tables); state = record old { tables = after call old.tables } }
    (serial_single earlier call old)
serial_happens earlier (make definition) old o so = serial_make earlier definition (table_in definition.name old.tables) old o refl
serial_happens earlier (drop name) old o so =
    unless earlier (drop name) (drop_refusal name (table_in name old.tables) old.pending) old
    record { answer = ok; state = record old { tables = do_schema_op (drop_table name) old.tables } }
    (serial_drop earlier name old)
serial_happens earlier (restart tables) old o so = (idle tables, record { orderly = o; comes = inl refl }, refl)

serial_step : (earlier : List Event) (old new : State) (event : Event) → IsReached earlier old → Step old event new
    → Run (idle old.tables) (serial_of earlier event.order event.answer) (idle new.tables)
serial_step earlier old new event so step =
    elim step.comes [
      | inl is ↦ subst (Serially earlier event.order old) is (serial_happens earlier event.order old step.orderly so)
      | inr is ↦ subst (λ answer. Run (idle old.tables) (serial_of earlier event.order answer) (idle new.tables)) (sym is.0)
          (subst (λ (s : State). Run (idle old.tables) (serial_of earlier event.order barred) (idle s.tables)) (sym is.1)
          (nothing_barred earlier event.order old))
    ]

serial_from : (tables : List Table) (earlier events : List Event) (old new : State) → AreOrderly tables
    → Run (idle tables) earlier old → Run old events new
    → Run (idle old.tables) (serial earlier events) (idle new.tables)
serial_from tables earlier [] old new orderly before run = ap (λ (s : State). idle s.tables) run
serial_from tables earlier (event ∷ events) old new orderly before run =
    run_both (idle old.tables) (serial_of earlier event.order event.answer) (serial (earlier ++ event ∷ []) events) (idle run.0.tables)
    (idle new.tables) (serial_step earlier old run.0 event (reached tables earlier old orderly before) run.1)
    (serial_from tables (earlier ++ event ∷ []) events run.0 new orderly
    (run_both (idle tables) earlier (event ∷ []) old run.0 before (run.0, run.1, refl)) run.2)

pub serial_run : (tables : List Table) (events : List Event) (new : State) → AreOrderly tables
    → Run (idle tables) events new
    → Run (idle tables) (serial [] events) (idle new.tables)
serial_run tables events new orderly run = serial_from tables [] events (idle tables) new orderly refl run
