-- Each step keeps a state sound.
use Rattle.std.proofs.Common.{◌≡◌, ℕ, false, List, [], ◌∷◌, Option, None, Some, refl, sym, ap, subst, inl, inr, arith}
use Rattle.db_model.specs.Commits.{create, drop_table}
use Rattle.db_model.specs.Database.{Table, do_schema_op}
use Rattle.db_model.specs.Lawful.{table_in}
use Rattle.txn_core.specs.Calls.{Call, table_called, reply, after, view}
use Rattle.txn_core.specs.Locks.{lock_of, whole_table}
use Rattle.txn_core.specs.Machine.{State, Order, begin, ask, commit, abort, single, make, drop, restart, ok, replied, Outcome, unless_refused, unless_there, asked, committing, happens, AreOrderly, IsOrderly, Event, Step, Run, idle}
use Rattle.txn_core.specs.Pending.{Txn, calls_of, named, others, holds, holder, begun}
use Rattle.txn_core.specs.Refusals.{Refusal, begin_refusal, call_refusal, txn_refusal, single_refusal, drop_refusal, end_refusal}
use Rattle.txn_core.specs.Sound.{AreApart, MayCallAll, Sound}
use Rattle.txn_core.proofs.Each.{each_then}
use Rattle.txn_core.proofs.LockFacts.{holder_none}
use Rattle.txn_core.proofs.LockParts.{orderly_after, orderly_view}
use Rattle.txn_core.proofs.NotRefused.{begin_free, ask_free, single_free, drop_free}
use Rattle.txn_core.proofs.SoundPending.{sound_begun, sound_keeping, sound_others, others_apart}
use Rattle.txn_core.proofs.SoundTables.{Spares, sound_tables, spares_commit, spares_single, spares_drop, orderly_drop, orderly_make, spares_make}

pub sound_idle : (tables : List Table) → AreOrderly tables → Sound (idle tables)
sound_idle tables h = record { orderly = h; apart = tt; allowed = tt; replies = tt; few = tt; few_pending = omega arith }

sound_unless : (why : Option Refusal) (old : State) (outcome : Outcome) → Sound old → (why ≡ None → Sound outcome.state)
    → Sound (unless_refused why old outcome).state
sound_unless None old outcome h g = g refl
sound_unless (Some why) old outcome h g = h

sound_there : (table : Option Table) (old : State) (outcome : Outcome) → Sound old
    → (table ≡ None → Sound outcome.state)
    → Sound (unless_there table old outcome).state
sound_there None old outcome h g = g refl
sound_there (Some table) old outcome h g = h

sound_asked : (txn : Option Txn) (name : List ℕ) (call : Call) (old : State) → named name old.pending ≡ txn → Sound old
    → txn_refusal txn call old.tables (others name old.pending) ≡ None → Sound (asked txn name call old).state
sound_asked None name call old is h free = h
sound_asked (Some txn) name call old is h free =
    let may = ask_free txn call (table_in (table_called call) old.tables) (others name old.pending) free in
    sound_keeping txn name call old is may.allowed may.few may.free h

sound_committing : (txn : Option Txn) (name : List ℕ) (old : State) → named name old.pending ≡ txn → Sound old
    → Sound (committing txn name old).state
sound_committing None name old is h = h
sound_committing (Some txn) name old is h =
    let new : List Table = view (calls_of txn.kept) old.tables in
    sound_tables new record { tables = old.tables; pending = others name old.pending }
    (orderly_view (calls_of txn.kept) old.tables h.orderly)
    (each_then (λ one. AreApart one txn) (Spares new old.tables) (λ one away. spares_commit old.tables one txn h.orderly away)
    (others name old.pending) (others_apart name txn old.pending h.apart is))
    (sound_others name old h)

sound_single : (call : Call) (old : State) → Sound old → holder (lock_of call) old.pending ≡ None
    → Sound record { tables = after call old.tables; pending = old.pending }
sound_single call old h free =
    sound_tables (after call old.tables) old (orderly_after call old.tables h.orderly)
    (each_then (λ txn. holds (lock_of call) txn ≡ false) (Spares (after call old.tables) old.tables)
    (λ txn unheld. spares_single old.tables call txn h.orderly unheld) old.pending (holder_none (lock_of call) old.pending free))
    h

sound_drop : (name : List ℕ) (old : State) → Sound old → holder (whole_table name) old.pending ≡ None
    → Sound record { tables = do_schema_op (drop_table name) old.tables; pending = old.pending }
sound_drop name old h free =
    sound_tables (do_schema_op (drop_table name) old.tables) old (orderly_drop name old.tables h.orderly)
    (each_then (λ txn. holds (whole_table name) txn ≡ false) (Spares (do_schema_op (drop_table name) old.tables) old.tables)
    (spares_drop old.tables name) old.pending (holder_none (whole_table name) old.pending free))
    h

pub sound_happens : (order : Order) (old : State) → IsOrderly order → Sound old → Sound (happens order old).state
sound_happens (begin name) old o h =
    sound_unless (begin_refusal name old.pending) old record { answer = ok; state = record old { pending = begun name old.pending } } h
    (λ free. sound_begun name old (begin_free name old.pending free) h)
sound_happens (ask name call) old o h =
    sound_unless (call_refusal name call old.tables old.pending) old (asked (named name old.pending) name call old) h
    (sound_asked (named name old.pending) name call old refl h)
sound_happens (commit name) old o h =
    sound_unless (end_refusal name old.pending) old (committing (named name old.pending) name old) h
    (λ _. sound_committing (named name old.pending) name old refl h)
sound_happens (abort name) old o h =
    sound_unless (end_refusal name old.pending) old record { answer = ok; state = record old { pending = others name old.pending } } h
    (λ _. sound_others name old h)
sound_happens (single call) old o h =
    let table : Option Table = table_in (table_called call) old.tables in
    sound_unless (single_refusal call table old.pending) old
    record { answer = replied (reply call old.tables); state = record old { tables = after call old.tables } } h
    (λ free. sound_single call old h (single_free call table old.pending free))
sound_happens (make definition) old o h =
    let new : List Table = do_schema_op (create definition) old.tables in
    sound_there (table_in definition.name old.tables) old record { answer = ok; state = record old { tables = new } } h
    (λ none. sound_tables new old (orderly_make definition old.tables o h.orderly)
    (each_then (MayCallAll old.tables) (Spares new old.tables) (λ txn. spares_make old.tables definition txn none) old.pending h.allowed) h)
sound_happens (drop name) old o h =
    let table : Option Table = table_in name old.tables in
    sound_unless (drop_refusal name table old.pending) old
    record { answer = ok; state = record old { tables = do_schema_op (drop_table name) old.tables } } h
    (λ free. sound_drop name old h (drop_free name table old.pending free))
sound_happens (restart tables) old o h = sound_idle tables o

pub sound_step : (old new : State) (event : Event) → Sound old → Step old event new → Sound new
sound_step old new event h step =
    elim step.comes [
      | inl is ↦ subst Sound (ap (λ outcome. outcome.state) is) (sound_happens event.order old step.orderly h)
      | inr is ↦ subst Sound (sym is.1) h
    ]

pub sound_run : (old : State) (events : List Event) (new : State) → Run old events new → Sound old → Sound new
sound_run old [] new is h = subst Sound is h
sound_run old (event ∷ events) new run h = sound_run run.0 events new run.2 (sound_step old run.0 event h run.1)
