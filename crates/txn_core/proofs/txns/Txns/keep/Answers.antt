use Rattle.std.proofs.Common.{sym, subst}
use Rattle.std.proofs.lemmas.Result.{on_ok_weaker, on_err_weaker}
use Rattle.txn_core.specs.Entries.{Keeps, IsAlike}
use Rattle.txn_core.specs.Pending.{Kept, keeping}
use Rattle.txn_core.specs.Requests.{call_of}
use Rattle.txn_core.specs.Shown.{AreShown}
use Rattle.txn_core.specs.declared.txns.Txns.{Txns}
use Rattle.txn_core.proofs.Shown.{kept_shown, alike_shown}
use Rattle.txn_core.proofs.txns.Txns.keep.Goals as goal

pub returns-in-Some-clause-ok : goal.returns-in-Some-clause-ok
returns-in-Some-clause-ok c =
    let name = c.args.name.now in
    let call = call_of c.args.table.now c.args.request in
    let was = c.in-Some.txn.now in
    let now = c.keep.new.self in
    let old : Txns = c.args.self.now in
    let new : Txns = record { pending = c.get_mut.follows.lender now } in
    on_ok_weaker {P = Keeps was now call} c.keep.result
    (λ keeps pending reply h. let one : Kept = record { call = call; reply = reply } in
    subst (λ es. AreShown es (keeping name one pending)) (sym (c.get_mut.follows.holds now).0)
    (kept_shown name was now one old.pending.entries pending c.get_mut.ensures.unique c.in-Some.ensures.value keeps h))
    c.keep.ensures.ok

pub returns-in-Some-clause-err : goal.returns-in-Some-clause-err
returns-in-Some-clause-err c =
    let name = c.args.name.now in
    let was = c.in-Some.txn.now in
    let now = c.keep.new.self in
    let old : Txns = c.args.self.now in
    let new : Txns = record { pending = c.get_mut.follows.lender now } in
    on_err_weaker {P = IsAlike was now} c.keep.result
    (λ alike pending h. subst (λ es. AreShown es pending) (sym (c.get_mut.follows.holds now).0)
    (alike_shown name was now old.pending.entries pending c.in-Some.ensures.value alike h))
    c.keep.ensures.err
