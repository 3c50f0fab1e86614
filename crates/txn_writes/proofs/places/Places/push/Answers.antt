use Rattle.std.proofs.lemmas.Result.{on_ok_weaker, on_err_weaker}
use Rattle.term_core.specs.View.{tree_of}
use Rattle.txn_writes.specs.declared.places.Places.{Places}
use Rattle.txn_writes.proofs.Noted.{table_noted, table_kept}
use Rattle.txn_writes.proofs.places.Places.push.Goals as goal

pub returns-in-Some-clause-ok : goal.returns-in-Some-clause-ok
returns-in-Some-clause-ok c =
    let new : Places = record { tables = c.get_mut.follows.lender c.push.new.self } in
    on_ok_weaker c.push.result
    (table_noted c.args.self.now new c.args.name.now c.in-Some.places.now c.push.new.self
    c.in-Some.ensures.value (c.get_mut.follows.holds c.push.new.self).0 (tree_of c.args.key.now) c.args.place)
    c.push.ensures.ok

pub returns-in-Some-clause-err : goal.returns-in-Some-clause-err
returns-in-Some-clause-err c =
    let new : Places = record { tables = c.get_mut.follows.lender c.push.new.self } in
    on_err_weaker c.push.result
    (table_kept c.args.self.now new c.args.name.now c.in-Some.places.now c.push.new.self
    c.in-Some.ensures.value (c.get_mut.follows.holds c.push.new.self).0) c.push.ensures.err
