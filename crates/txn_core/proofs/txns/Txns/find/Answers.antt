use Rattle.std.proofs.Common.{◌≡◌, List, map, None, Some, sym, ap, ◌∙◌}
use Rattle.std.specs.Option.{option_map}
use Rattle.std.proofs.lemmas.Result.{IfOk-weaker}
use Rattle.term_core.specs.View.{tree_of}
use Rattle.db_model.specs.Database.{Table}
use Rattle.db_model.specs.Lawful.{table_in}
use Rattle.db_state.specs.Live.{database, table_shown}
use Rattle.txn_writes.specs.Seen.{seen}
use Rattle.txn_core.specs.Calls.{found, reply, view, ops_of}
use Rattle.txn_core.specs.Pending.{Txn, calls_of, named}
use Rattle.txn_core.specs.Requests.{call_of, Finds}
use Rattle.txn_core.specs.Shown.{Shows}
use Rattle.txn_core.proofs.Found.{found_reply}
use Rattle.txn_core.proofs.Lent.{called}
use Rattle.txn_core.proofs.Shown.{found_shown, when_there, when_absent}
use Rattle.txn_core.proofs.txns.Txns.find.Goals as goal

pub returns-in-Some-table : goal.returns-in-Some-table
returns-in-Some-table c =
    let name = c.args.name.now in
    let table = c.args.table.now in
    let call = call_of table c.args.request in
    let tables = (database c.args.live.now).tables in
    let own_writes = c.in-Some.txn.now.writes in
    let records = c.in-Some-table.records.now in
    IfOk-weaker c.find.result (λ terms. Finds call (seen table own_writes records) (map tree_of terms))
    (λ terms. (pending : List Txn) (txn : Txn) (own : Table) → Shows c.args.self.now pending → named name pending ≡ Some txn
    → table_in table tables ≡ Some own → reply call (view (calls_of txn.kept) tables) ≡ found (map tree_of terms))
    (λ terms finds pending txn own h named_so there.
    let its = when_there _ c.in-Some.txn.now _ c.in-Some.ensures.value (found_shown name c.args.self.now.pending.entries pending h) in
    let is : Some its.0 ≡ Some txn = sym its.1 ∙ named_so in
    let same : its.0 ≡ txn = cc in
    found_reply call (calls_of txn.kept) tables own table own_writes records (map tree_of terms)
    (called table c.args.request) there
    (its.2.writes ∙ ap (λ t. ops_of (calls_of t.kept)) same)
    (c.in-Some-table.ensures ∙ ap (option_map table_shown) there) finds)
    c.find.ensures

pub returns-in-None : goal.returns-in-None
returns-in-None c = λ pending txn own h named_so there.
    let gone = when_absent _ _ c.in-None.ensures.value (found_shown c.args.name.now c.args.self.now.pending.entries pending h) in
    let wrong : None ≡ Some txn = sym gone ∙ named_so in
    absurd (cc)
