-- What the commands of transactions do, by what the pending transactions answer.
use Rattle.std.proofs.Common.{◌≡◌, ℕ, true, if◌then◌else◌, List, Option, None, Some, is_some, refl, ap}
use Rattle.txn_core.specs.Calls.{Call, Reply, absent, all_keys}
use Rattle.txn_core.specs.Machine.{State, Answer, replied, ok, refused, Outcome, unless_refused, happens, asked, begin, ask, abort}
use Rattle.txn_core.specs.Pending.{Txn, named, begun, others}
use Rattle.txn_core.specs.Refusals.{Refusal, no_txn, begin_refusal, call_refusal}
use Rattle.mn_node.specs.Durable.{Durable}
use Rattle.mn_node.specs.Effects as effects
use Rattle.mn_node.specs.Effects.{Effect, effect, keeps, bars, refuses, unless_barred, reply_answer, reply_to, kept_if, begun_if, others_if, abort_effect, pending_after}

-- the tables of a durable state, with the transactions that are pending
abbrev pub here : Durable → List Txn → State
here w pending = record { tables = w.database.tables; pending = pending }

-- this is answered, and what is pending is this
abbrev pub comes : Answer → Durable → List Txn → Outcome
comes answer w later = record { answer = answer; state = here w later }

abbrev reply_in : Answer → Reply
reply_in (replied reply) = reply
reply_in other = absent

abbrev refusal_in : Refusal → Answer → Refusal
refusal_in none (refused why) = why
refusal_in none other = none

-- ---- a call

ask_replied : (refusal : Option Refusal) (txn : Option Txn) (name : List ℕ) (call : Call) (w : Durable) (pending later : List Txn)
    (reply : Reply)
    → unless_refused refusal (here w pending) (asked txn name call (here w pending)) ≡ comes (replied reply) w later
    → (unless_barred name call refusal (keeps (reply_answer (reply_to txn call w.database.tables))) ≡ keeps (reply_answer reply))
    × (kept_if refusal txn name call w.database.tables pending ≡ later)
ask_replied None None name call w pending later reply is = let h = ap (λ (o : Outcome). o.answer) is in absurd (cc h)
ask_replied None (Some txn) name call w pending later reply is =
    (ap (λ (o : Outcome). keeps (reply_answer (reply_in o.answer))) is, ap (λ (o : Outcome). o.state.pending) is)
ask_replied (Some why) txn name call w pending later reply is = let h = ap (λ (o : Outcome). o.answer) is in absurd (cc h)

ask_refused : (refusal : Option Refusal) (txn : Option Txn) (name : List ℕ) (call : Call) (w : Durable) (pending later : List Txn)
    (why : Refusal)
    → unless_refused refusal (here w pending) (asked txn name call (here w pending)) ≡ comes (refused why) w later
    → (unless_barred name call refusal (keeps (reply_answer (reply_to txn call w.database.tables))) ≡ bars name call why)
    × (kept_if refusal txn name call w.database.tables pending ≡ later)
ask_refused None None name call w pending later why is = let h = ap (λ (o : Outcome). o.answer) is in absurd (cc h)
ask_refused None (Some txn) name call w pending later why is = let h = ap (λ (o : Outcome). o.answer) is in absurd (cc h)
ask_refused (Some other) txn name call w pending later why is =
    (ap (λ (o : Outcome). bars name call (refusal_in why o.answer)) is, ap (λ (o : Outcome). o.state.pending) is)

barred_takes : (refusal : Option Refusal) (name : List ℕ) (call : Call) (answer : effects.Answer)
    → (unless_barred name call refusal (keeps answer)).takes_memory ≡ true
barred_takes None name call answer = refl
barred_takes (Some why) name call answer = refl

module _ (w : Durable) (pending : List Txn) (name : List ℕ) (call : Call) where
  pub asked_replied : (later : List Txn) (reply : Reply) → happens (ask name call) (here w pending) ≡ comes (replied reply) w later
      → (effect w pending (effects.ask name call) ≡ keeps (reply_answer reply))
      × (pending_after w pending (effects.ask name call) ≡ later)
  asked_replied later reply is =
      ask_replied (call_refusal name call w.database.tables pending) (named name pending) name call w pending later reply is

  pub asked_refused : (later : List Txn) (why : Refusal) → happens (ask name call) (here w pending) ≡ comes (refused why) w later
      → (effect w pending (effects.ask name call) ≡ bars name call why)
      × (pending_after w pending (effects.ask name call) ≡ later)
  asked_refused later why is =
      ask_refused (call_refusal name call w.database.tables pending) (named name pending) name call w pending later why is

  pub asked_takes : (effect w pending (effects.ask name call)).takes_memory ≡ true
  asked_takes =
      barred_takes (call_refusal name call w.database.tables pending) name call
      (reply_answer (reply_to (named name pending) call w.database.tables))

-- ---- a beginning

abbrev begins : Option Refusal → List ℕ → Durable → List Txn → Outcome
begins refusal name w pending =
    unless_refused refusal (here w pending) record { answer = ok; state = here w (begun name pending) }

begin_ok : (refusal : Option Refusal) (name : List ℕ) (w : Durable) (pending later : List Txn)
    → begins refusal name w pending ≡ comes ok w later
    → (unless_barred name (all_keys name) refusal (keeps effects.ok) ≡ keeps effects.ok) × (begun_if refusal name pending ≡ later)
begin_ok None name w pending later is = (refl, ap (λ (o : Outcome). o.state.pending) is)
begin_ok (Some why) name w pending later is = let h = ap (λ (o : Outcome). o.answer) is in absurd (cc h)

begin_refused : (refusal : Option Refusal) (name : List ℕ) (w : Durable) (pending later : List Txn) (why : Refusal)
    → begins refusal name w pending ≡ comes (refused why) w later
    → (unless_barred name (all_keys name) refusal (keeps effects.ok) ≡ bars name (all_keys name) why)
    × (begun_if refusal name pending ≡ later)
begin_refused None name w pending later why is = let h = ap (λ (o : Outcome). o.answer) is in absurd (cc h)
begin_refused (Some other) name w pending later why is =
    (ap (λ (o : Outcome). bars name (all_keys name) (refusal_in why o.answer)) is, ap (λ (o : Outcome). o.state.pending) is)

module _ (w : Durable) (pending : List Txn) (name : List ℕ) where
  pub begun_ok : (later : List Txn) → happens (begin name) (here w pending) ≡ comes ok w later
      → (effect w pending (effects.begin name) ≡ keeps effects.ok) × (pending_after w pending (effects.begin name) ≡ later)
  begun_ok later is = begin_ok (begin_refusal name pending) name w pending later is

  pub begun_refused : (later : List Txn) (why : Refusal) → happens (begin name) (here w pending) ≡ comes (refused why) w later
      → (effect w pending (effects.begin name) ≡ bars name (all_keys name) why) × (pending_after w pending (effects.begin name) ≡ later)
  begun_refused later why is = begin_refused (begin_refusal name pending) name w pending later why is

  pub begun_takes : (effect w pending (effects.begin name)).takes_memory ≡ true
  begun_takes = barred_takes (begin_refusal name pending) name (all_keys name) effects.ok

-- ---- an abort

abbrev aborts : Option Txn → List ℕ → Durable → List Txn → Outcome
aborts found name w pending =
    unless_refused (if is_some found then None else Some no_txn) (here w pending) record
    { answer = ok; state = here w (others name pending) }

abort_ok : (found : Option Txn) (name : List ℕ) (w : Durable) (pending later : List Txn) → aborts found name w pending ≡ comes ok w later
    → (abort_effect found name ≡ refuses effects.ok) × (others_if found name pending ≡ later)
abort_ok None name w pending later is = let h = ap (λ (o : Outcome). o.answer) is in absurd (cc h)
abort_ok (Some txn) name w pending later is = (refl, ap (λ (o : Outcome). o.state.pending) is)

abort_none : (found : Option Txn) (name : List ℕ) (w : Durable) (pending later : List Txn) (why : Refusal)
    → aborts found name w pending ≡ comes (refused why) w later
    → (abort_effect found name ≡ refuses (effects.no_transaction name)) × (others_if found name pending ≡ later)
abort_none None name w pending later why is = (refl, ap (λ (o : Outcome). o.state.pending) is)
abort_none (Some txn) name w pending later why is = let h = ap (λ (o : Outcome). o.answer) is in absurd (cc h)

module _ (w : Durable) (pending : List Txn) (name : List ℕ) (later : List Txn) where
  pub aborted_ok : happens (abort name) (here w pending) ≡ comes ok w later
      → (effect w pending (effects.abort name) ≡ refuses effects.ok) × (pending_after w pending (effects.abort name) ≡ later)
  aborted_ok is = abort_ok (named name pending) name w pending later is

  pub aborted_none : (why : Refusal) → happens (abort name) (here w pending) ≡ comes (refused why) w later
      → (effect w pending (effects.abort name) ≡ refuses (effects.no_transaction name))
      × (pending_after w pending (effects.abort name) ≡ later)
  aborted_none why is = abort_none (named name pending) name w pending later why is
