-- What a call that changes records answers.
use Rattle.std.proofs.Common.{◌≡◌, ℕ, List, filter, None, Some, Result, Ok, Err, OnOk, OnErr, IfErr, refl, sym, ap, ◌∙◌, subst}
use Rattle.db_model.specs.Database.{Table}
use Rattle.db_model.specs.Lawful.{table_in}
use Rattle.txn_writes.specs.Seen.{is_on}
use Rattle.txn_core.specs.Calls.{Call, change, read, match_object, all_keys, Reply, done, table_called, got, reply, view, ops_of}
use Rattle.txn_core.specs.Machine.{ask, replied}
use Rattle.txn_core.specs.Pending.{Txn, calls_of, keeping}
use Rattle.txn_core.specs.Refusals.{call_refusal}
use Rattle.txn_core.specs.Requests.{IsChange}
use Rattle.txn_core.specs.Shown.{Shows, Answers, refusal_of, told_refusal, told_unit}
use Rattle.txn_core.specs.declared.error.TxnErr.{TxnErr}
use Rattle.txn_core.specs.declared.error.TxnErr.TheVariants.{Memory}
use Rattle.txn_core.specs.declared.txns.Txns.{Txns}
use Rattle.txn_core.proofs.Asked.{txn_there, table_there, ask_done}
use Rattle.txn_core.proofs.Views.{view_table, with_ops}

pub reply_is : (call : Call) (calls : List Call) (tables : List Table) (table : Table)
    → table_in (table_called call) tables ≡ Some table
    → reply call (view calls tables) ≡ got call (Some (with_ops (filter (is_on (table_called call)) (ops_of calls)) table))
reply_is call calls tables table h = ap (got call) (view_table (table_called call) calls tables table h)

change_got : (call : Call) (table : Table) → IsChange call → got call (Some table) ≡ done
change_got (change op) table h = refl
change_got (read other key) table h = absurd h
change_got (match_object other pattern) table h = absurd h
change_got (all_keys other) table h = absurd h

pub change_answers : (name : List ℕ) (call : Call) (tables : List Table) (old new : Txns) (kept : Result Unit TxnErr) → IsChange call
    → ((pending : List Txn) → Shows old pending → call_refusal name call tables pending ≡ None)
    → OnOk kept ((pending : List Txn) (reply : Reply) → Shows old pending
    → Shows new (keeping name record { call = call; reply = reply } pending))
    → OnErr kept ((pending : List Txn) → Shows old pending → Shows new pending) → IfErr kept (λ error. error ≡ Memory)
    → Answers (ask name call) tables old new (told_unit (replied done) kept)
change_answers name call tables old new (Ok unit) changes free keeps same memory = λ pending h.
    let none = free pending h in
    let txn = txn_there name call tables pending none in
    let table = table_there name call tables pending none in
    let its = reply_is call (calls_of txn.0.kept) tables table.0 table.1 ∙ change_got call _ changes in (
      keeping name record { call = call; reply = done } pending,
      ask_done name call tables pending txn.0 done none txn.1 its,
      keeps pending done h,
    )
change_answers name call tables old new (Err error) changes free keeps same memory =
    subst (λ e. Answers (ask name call) tables old new (told_refusal (refusal_of e))) (sym memory) same
