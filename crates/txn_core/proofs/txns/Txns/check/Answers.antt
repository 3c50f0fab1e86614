use Rattle.std.proofs.Common.{◌≡◌, length, Option, None, sym, subst, arith}
use Rattle.std.proofs.lemmas.Result.{err_from_is_err_and}
use Rattle.db_model.specs.Lawful.{table_in}
use Rattle.db_state.specs.Live.{database}
use Rattle.txn_core.specs.Refusals.{Refusal, call_refusal}
use Rattle.txn_core.specs.Requests.{call_of, fit_refusal}
use Rattle.txn_core.specs.Shown.{IsRefusal, IsRefusedBy, refusal_of}
use Rattle.txn_core.proofs.Asked.{refusal_absent, refusal_unfit, refusal_many, refusal_locks}
use Rattle.txn_core.proofs.Fitting.{le_true, le_false}
use Rattle.txn_core.proofs.Lent.{called}
use Rattle.txn_core.proofs.Shown.{found_shown, when_there, when_absent}
use Rattle.txn_core.proofs.txns.Txns.check.Goals as goal

pub returns-in_err-check_fit-in-Some-clause-refusal : goal.returns-in_err-check_fit-in-Some-clause-refusal
returns-in_err-check_fit-in-Some-clause-refusal c = λ pending h.
    let name = c.args.name.now in
    let call = call_of c.args.table.now c.args.request in
    let tables = (database c.args.live.now).tables in
    let entries = c.args.self.now.pending.entries in
    let txn = when_there _ c.in-Some.txn.now _ c.in-Some.ensures.value (found_shown name entries pending h) in
    let error = c.in_err-check_fit-in-Some.field-0.0 in
    let unfit = subst (λ n. IsRefusedBy (refusal_of error) (fit_refusal call (table_in n tables)))
    (called c.args.table.now c.args.request) c.in_err-check_fit-in-Some.ensures.refusal in
    let p = err_from_is_err_and c.from_residual.result c.from_residual.ensures.1 in
    let why = call_refusal name call tables pending in
    subst (λ r. IsRefusal r why) (sym p.1)
    (subst (λ e. IsRefusedBy (refusal_of e) why) (sym p.2)
    (refusal_unfit name call tables pending txn.0 (refusal_of error) txn.1 unfit))

pub returns-then-calls-ge-MOST_CALLS-clause-refusal : goal.returns-then-calls-ge-MOST_CALLS-clause-refusal
returns-then-calls-ge-MOST_CALLS-clause-refusal c = λ pending h.
    let name = c.args.name.now in
    let call = call_of c.args.table.now c.args.request in
    let tables = (database c.args.live.now).tables in
    let entries = c.args.self.now.pending.entries in
    let txn = when_there _ c.in-Some.txn.now _ c.in-Some.ensures.value (found_shown name entries pending h) in
    let fit = subst (λ n. ◌≡◌ {A = Option Refusal} (fit_refusal call (table_in n tables)) None)
    (called c.args.table.now c.args.request) c.in_ok-check_fit-in-Some.ensures.refusal in
    let calls = c.calls.ensures in
    let counted = txn.2.calls in
    let test = c.if-calls-ge-MOST_CALLS.true in
    refusal_many name call tables pending txn.0 txn.1 fit (le_true 100000 (length txn.0.kept) (grind (arith, calls, counted, test)))

pub returns-else-calls-ge-MOST_CALLS-clause-refusal : goal.returns-else-calls-ge-MOST_CALLS-clause-refusal
returns-else-calls-ge-MOST_CALLS-clause-refusal c = λ pending h.
    let name = c.args.name.now in
    let call = call_of c.args.table.now c.args.request in
    let tables = (database c.args.live.now).tables in
    let entries = c.args.self.now.pending.entries in
    let txn = when_there _ c.in-Some.txn.now _ c.in-Some.ensures.value (found_shown name entries pending h) in
    let fit = subst (λ n. ◌≡◌ {A = Option Refusal} (fit_refusal call (table_in n tables)) None)
    (called c.args.table.now c.args.request) c.in_ok-check_fit-in-Some.ensures.refusal in
    let calls = c.calls.ensures in
    let counted = txn.2.calls in
    let test = c.if-calls-ge-MOST_CALLS.false in
    let few = le_false 100000 (length txn.0.kept) (grind (arith, calls, counted, test)) in
    subst (IsRefusal c.check_locks.result) (sym (refusal_locks name call tables pending txn.0 txn.1 fit few))
    (c.check_locks.ensures pending h)

pub returns-in-None-clause-refusal : goal.returns-in-None-clause-refusal
returns-in-None-clause-refusal c = λ pending h.
    let name = c.args.name.now in
    let entries = c.args.self.now.pending.entries in
    refusal_absent name (call_of c.args.table.now c.args.request) (database c.args.live.now).tables pending
    (when_absent _ _ c.in-None.ensures.value (found_shown name entries pending h))
