-- What a call that reads answers.
use Rattle.std.proofs.Common.{◌≡◌, ℕ, List, map, filter, None, Some, sym, ap, ◌∙◌}
use Rattle.term_core.specs.Tree.{Tree}
use Rattle.term_core.specs.View.{tree_of}
use Rattle.term_core.specs.declared.term.Term.{Term}
use Rattle.db_model.specs.Database.{Table}
use Rattle.db_model.specs.Lawful.{table_in}
use Rattle.db_model.specs.View.{operation}
use Rattle.db_model.specs.declared.op.Op.{Op}
use Rattle.db_state.specs.Live.{table_seen, table_shown}
use Rattle.ram_table.specs.Contents.{TableRecords, put_ops}
use Rattle.txn_writes.specs.Seen.{is_on, seen}
use Rattle.txn_core.specs.Calls.{Call, Reply, found, table_called, got, reply, view, ops_of}
use Rattle.txn_core.specs.Machine.{ask, replied}
use Rattle.txn_core.specs.Pending.{Txn, calls_of, named, keeping}
use Rattle.txn_core.specs.Refusals.{call_refusal}
use Rattle.txn_core.specs.Requests.{Finds}
use Rattle.txn_core.specs.Shown.{Shows, Answers}
use Rattle.txn_core.specs.declared.txns.Txns.{Txns}
use Rattle.txn_core.proofs.Asked.{txn_there, table_there, ask_done}
use Rattle.txn_core.proofs.Changed.{reply_is}

pub found_reply : (call : Call) (calls : List Call) (tables : List Table) (own : Table) (name : List ℕ) (ops : List Op)
    (records : TableRecords) (terms : List Tree) → name ≡ table_called call → table_in name tables ≡ Some own
    → map operation ops ≡ ops_of calls → Some (table_seen records) ≡ Some (table_shown own)
    → Finds call (seen name ops records) terms → reply call (view calls tables) ≡ found terms
found_reply call calls tables own name ops records terms called there written shown finds =
    let same : table_seen records ≡ table_shown own = cc in
    let kind = sym (ap (λ p. p.0) same) in
    let rows = sym (ap (λ p. p.1) same) in
    let table = sym called in
    let done = sym written in
    reply_is call calls tables own (ap (λ n. table_in n tables) table ∙ there)
    ∙ (λ i. got call (Some record {
      definition = own.definition;
      contents = put_ops (kind i) (filter (is_on (table i)) (done i)) (rows i);
    }))
    ∙ finds own.definition

pub found_answers : (name : List ℕ) (call : Call) (tables : List Table) (old new : Txns) (terms : List Term)
    → ((pending : List Txn) → Shows old pending → call_refusal name call tables pending ≡ None)
    → ((pending : List Txn) (txn : Txn) (own : Table) → Shows old pending → named name pending ≡ Some txn
    → table_in (table_called call) tables ≡ Some own → reply call (view (calls_of txn.kept) tables) ≡ found (map tree_of terms))
    → ((pending : List Txn) (reply : Reply) → Shows old pending
    → Shows new (keeping name record { call = call; reply = reply } pending))
    → Answers (ask name call) tables old new (Some (replied (found (map tree_of terms))))
found_answers name call tables old new terms free finds keeps = λ pending h.
    let none = free pending h in
    let txn = txn_there name call tables pending none in
    let table = table_there name call tables pending none in
    let its = found (map tree_of terms) in (
      keeping name record { call = call; reply = its } pending,
      ask_done name call tables pending txn.0 its none txn.1 (finds pending txn.0 table.0 h txn.1 table.1),
      keeps pending its h,
    )
