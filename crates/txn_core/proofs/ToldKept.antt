-- A pending transaction has kept the calls that the orders and the answers tell.
use Rattle.std.proofs.Common.{◌≡◌, ℕ, false, not, cond, List, [], ◌∷◌, ◌++◌, Option, None, Some}
use Rattle.std.proofs.Common.{refl, sym, ap, ◌∙◌, subst, inl, inr}
use Rattle.std.specs.List.{AllByRecursion}
use Rattle.std.proofs.lemmas.Bool.{cases_Bool}
use Rattle.db_model.specs.Commits.{create, drop_table}
use Rattle.db_model.specs.Database.{Table, do_schema_op}
use Rattle.db_model.specs.Lawful.{table_in}
use Rattle.txn_core.specs.Calls.{Call, table_called, reply, after}
use Rattle.txn_core.specs.Machine.{State, Order, begin, ask, commit, abort, single, make, drop, restart, Answer, replied, ok, refused, barred, Outcome, unless_refused, unless_there, asked, committing, happens, Event, Step, Run}
use Rattle.txn_core.specs.Pending.{Kept, Txn, is_named, named, others, begun, kept_by, keeping, kept_call}
use Rattle.txn_core.specs.Refusals.{Refusal, begin_refusal, call_refusal, single_refusal, drop_refusal, end_refusal}
use Rattle.txn_core.specs.Serial.{kept_after, told}
use Rattle.txn_core.proofs.Each.{each_then, each_map, each_push, each_filter, each_unfound, each_both}
use Rattle.txn_core.proofs.NameFacts.{own_name, same_name_sym}
use Rattle.txn_core.proofs.NotRefused.{begin_free, MayBegin}
use Rattle.txn_core.proofs.SoundPending.{kept_by_named, kept_by_other}

kept_refused : (name : List ℕ) (kept : List Kept) (order : Order) (why : Refusal)
    → kept_after name kept order (refused why) ≡ kept
kept_refused name kept (begin other) why = refl
kept_refused name kept (ask other call) why = refl
kept_refused name kept (commit other) why = refl
kept_refused name kept (abort other) why = refl
kept_refused name kept (single call) why = refl
kept_refused name kept (make definition) why = refl
kept_refused name kept (drop table) why = refl
kept_refused name kept (restart tables) why = refl

kept_barred : (name : List ℕ) (kept : List Kept) (order : Order) → kept_after name kept order barred ≡ kept
kept_barred name kept (begin other) = refl
kept_barred name kept (ask other call) = refl
kept_barred name kept (commit other) = refl
kept_barred name kept (abort other) = refl
kept_barred name kept (single call) = refl
kept_barred name kept (make definition) = refl
kept_barred name kept (drop table) = refl
kept_barred name kept (restart tables) = refl

-- each has kept what is said of its name
abbrev pub Keeps : (List ℕ → List Kept) → List Txn → Type 0
Keeps told_of pending = AllByRecursion (λ txn. txn.kept ≡ told_of txn.name) pending

abbrev Tells : (List ℕ → List Kept) → Order → Outcome → Type 0
Tells told_of order outcome = Keeps (λ name. kept_after name (told_of name) order outcome.answer) outcome.state.pending

tells_nothing : (told_of : List ℕ → List Kept) (order : Order) (answer : Answer) (old : State)
    → ((name : List ℕ) (kept : List Kept) → kept_after name kept order answer ≡ kept) → Keeps told_of old.pending
    → Tells told_of order record { answer = answer; state = old }
tells_nothing told_of order answer old same h =
    each_then (λ txn. txn.kept ≡ told_of txn.name) (λ txn. txn.kept ≡ kept_after txn.name (told_of txn.name) order answer)
    (λ txn is. is ∙ sym (same txn.name (told_of txn.name))) old.pending h

tells_refused : (told_of : List ℕ → List Kept) (order : Order) (why : Refusal) (old : State) → Keeps told_of old.pending
    → Tells told_of order record { answer = refused why; state = old }
tells_refused told_of order why old h = tells_nothing told_of order (refused why) old (λ name kept. kept_refused name kept order why) h

tells_barred : (told_of : List ℕ → List Kept) (order : Order) (old : State) → Keeps told_of old.pending
    → Tells told_of order record { answer = barred; state = old }
tells_barred told_of order old h = tells_nothing told_of order barred old (λ name kept. kept_barred name kept order) h

tells_unless : (told_of : List ℕ → List Kept) (order : Order) (why : Option Refusal) (old : State) (outcome : Outcome)
    → Keeps told_of old.pending → (why ≡ None → Tells told_of order outcome)
    → Tells told_of order (unless_refused why old outcome)
tells_unless told_of order None old outcome h g = g refl
tells_unless told_of order (Some why) old outcome h g = tells_refused told_of order why old h

tells_there : (told_of : List ℕ → List Kept) (order : Order) (table : Option Table) (old : State) (outcome : Outcome)
    → Keeps told_of old.pending → Tells told_of order outcome → Tells told_of order (unless_there table old outcome)
tells_there told_of order None old outcome h g = g
tells_there told_of order (Some table) old outcome h g = tells_barred told_of order old h

tells_begun : (told_of : List ℕ → List Kept) (name : List ℕ) (old : State) → MayBegin name old.pending
    → Keeps told_of old.pending
    → Tells told_of (begin name) record { answer = ok; state = record old { pending = begun name old.pending } }
tells_begun told_of name old may h =
    let now : List ℕ → List Kept = λ n. kept_after n (told_of n) (begin name) ok in
    each_push (λ txn. txn.kept ≡ now txn.name) old.pending record { name = name; kept = [] }
    (each_both (λ txn. is_named name txn ≡ false) (λ txn. txn.kept ≡ told_of txn.name) (λ txn. txn.kept ≡ now txn.name)
    (λ txn other kept. kept ∙ sym (ap (λ b. cond b [] (told_of txn.name)) (same_name_sym txn.name name ∙ other)))
    old.pending (each_unfound (is_named name) old.pending may.unknown) h)
    (sym (ap (λ b. cond b [] (told_of name)) (own_name name)))

tells_keeping : (told_of : List ℕ → List Kept) (name : List ℕ) (one : Kept) (old : State) → Keeps told_of old.pending
    → Tells told_of (ask name one.call)
    record { answer = replied one.reply; state = record old { pending = keeping name one old.pending } }
tells_keeping told_of name one old h =
    let now : List ℕ → List Kept = λ n. kept_after n (told_of n) (ask name one.call) (replied one.reply) in
    each_map (λ txn. txn.kept ≡ now txn.name) (kept_by name one) old.pending
    (each_then (λ txn. txn.kept ≡ told_of txn.name) (λ txn. (kept_by name one txn).kept ≡ now (kept_by name one txn).name)
    (λ txn is. elim (cases_Bool (is_named name txn)) [
      | inl k ↦ subst (λ t. t.kept ≡ now t.name) (sym (kept_by_named name one txn k))
          (ap (λ kept. kept ++ one ∷ []) is
          ∙ sym (ap (λ b. cond b (told_of txn.name ++ one ∷ []) (told_of txn.name)) (same_name_sym txn.name name ∙ k)))
      | inr k ↦ subst (λ t. t.kept ≡ now t.name) (sym (kept_by_other name one txn k))
          (is ∙ sym (ap (λ b. cond b (told_of txn.name ++ one ∷ []) (told_of txn.name)) (same_name_sym txn.name name ∙ k)))
    ])
    old.pending h)

tells_asked : (told_of : List ℕ → List Kept) (txn : Option Txn) (name : List ℕ) (call : Call) (old : State)
    → Keeps told_of old.pending → Tells told_of (ask name call) (asked txn name call old)
tells_asked told_of None name call old h = tells_barred told_of (ask name call) old h
tells_asked told_of (Some txn) name call old h = tells_keeping told_of name (kept_call call txn old.tables) old h

tells_others : (told_of : List ℕ → List Kept) (name : List ℕ) (pending : List Txn) → Keeps told_of pending
    → Keeps told_of (others name pending)
tells_others told_of name pending h = each_filter (λ one. one.kept ≡ told_of one.name) (λ one. not (is_named name one)) pending h

tells_committing : (told_of : List ℕ → List Kept) (txn : Option Txn) (name : List ℕ) (old : State)
    → Keeps told_of old.pending
    → Tells told_of (commit name) (committing txn name old)
tells_committing told_of None name old h = tells_barred told_of (commit name) old h
tells_committing told_of (Some txn) name old h = tells_others told_of name old.pending h

tells_happens : (told_of : List ℕ → List Kept) (order : Order) (old : State) → Keeps told_of old.pending
    → Tells told_of order (happens order old)
tells_happens told_of (begin name) old h =
    tells_unless told_of (begin name) (begin_refusal name old.pending) old
    record { answer = ok; state = record old { pending = begun name old.pending } } h
    (λ free. tells_begun told_of name old (begin_free name old.pending free) h)
tells_happens told_of (ask name call) old h =
    tells_unless told_of (ask name call) (call_refusal name call old.tables old.pending) old
    (asked (named name old.pending) name call old) h
    (λ _. tells_asked told_of (named name old.pending) name call old h)
tells_happens told_of (commit name) old h =
    tells_unless told_of (commit name) (end_refusal name old.pending) old (committing (named name old.pending) name old) h
    (λ _. tells_committing told_of (named name old.pending) name old h)
tells_happens told_of (abort name) old h =
    tells_unless told_of (abort name) (end_refusal name old.pending) old
    record { answer = ok; state = record old { pending = others name old.pending } } h
    (λ _. tells_others told_of name old.pending h)
tells_happens told_of (single call) old h =
    tells_unless told_of (single call) (single_refusal call (table_in (table_called call) old.tables) old.pending) old
    record { answer = replied (reply call old.tables); state = record old { tables = after call old.tables } } h (λ _. h)
tells_happens told_of (make definition) old h =
    tells_there told_of (make definition) (table_in definition.name old.tables) old
    record { answer = ok; state = record old { tables = do_schema_op (create definition) old.tables } } h h
tells_happens told_of (drop name) old h =
    tells_unless told_of (drop name) (drop_refusal name (table_in name old.tables) old.pending) old
    record { answer = ok; state = record old { tables = do_schema_op (drop_table name) old.tables } } h (λ _. h)
tells_happens told_of (restart tables) old h = tt

keeps_step : (told_of : List ℕ → List Kept) (old : State) (event : Event) (new : State) → Step old event new
    → Keeps told_of old.pending → Keeps (λ name. kept_after name (told_of name) event.order event.answer) new.pending
keeps_step told_of old event new step h =
    elim step.comes [
      | inl is ↦ subst (Tells told_of event.order) is (tells_happens told_of event.order old h)
      | inr is ↦ subst (λ answer. Keeps (λ name. kept_after name (told_of name) event.order answer) new.pending) (sym is.0)
          (subst (λ (state : State). Keeps (λ name. kept_after name (told_of name) event.order barred) state.pending) (sym is.1)
          (tells_barred told_of event.order old h))
    ]

pub keeps_run : (told_of : List ℕ → List Kept) (old : State) (events : List Event) (new : State) → Run old events new
    → Keeps told_of old.pending → Keeps (λ name. told name (told_of name) events) new.pending
keeps_run told_of old [] new is h = subst (λ (state : State). Keeps told_of state.pending) is h
keeps_run told_of old (event ∷ events) new run h =
    keeps_run (λ name. kept_after name (told_of name) event.order event.answer) run.0 events new run.2
    (keeps_step told_of old event run.0 run.1 h)
