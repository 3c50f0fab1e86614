use Rattle.std.proofs.Common.{option_map, option_copied}
use Rattle.std.proofs.lemmas.Result.{on_ok_weaker, on_err_weaker}
use Rattle.term_core.specs.View.{tree_of}
use Rattle.txn_core.specs.declared.read_locks.ReadLocks.{ReadLocks}
use Rattle.txn_core.proofs.Tables.{reads_at, alike_at, some_there}
use Rattle.txn_core.proofs.read_locks.ReadLocks.take.Goals as goal

pub returns-in-Some-clause-ok : goal.returns-in-Some-clause-ok
returns-in-Some-clause-ok c =
    let new : ReadLocks = record { tables = c.get_mut.follows.lender c.take.new.self } in
    let there = some_there _ c.in-Some.reads.now c.in-Some.ensures.value in
    on_ok_weaker c.take.result
    (reads_at c.args.self.now new c.args.table.now c.in-Some.reads.now c.take.new.self c.in-Some.ensures.value
    ((c.get_mut.follows.holds c.take.new.self).3 there).0 (option_map tree_of (option_copied c.args.key))) c.take.ensures.ok

pub returns-in-Some-clause-err : goal.returns-in-Some-clause-err
returns-in-Some-clause-err c =
    let new : ReadLocks = record { tables = c.get_mut.follows.lender c.take.new.self } in
    let there = some_there _ c.in-Some.reads.now c.in-Some.ensures.value in
    on_err_weaker c.take.result
    (alike_at c.args.self.now new c.args.table.now c.in-Some.reads.now c.take.new.self c.in-Some.ensures.value
    ((c.get_mut.follows.holds c.take.new.self).3 there).0) c.take.ensures.err
