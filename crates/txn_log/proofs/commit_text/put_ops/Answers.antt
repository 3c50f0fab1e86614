use Rattle.std.proofs.Common.{arith, ◌<◌, length}
use Rattle.std.proofs.lemmas.Bool.Decides.{nat_tests}
use Rattle.txn_log.proofs.CommitText.{ops_written, ops_length, ops_few}
use Rattle.txn_log.proofs.commit_text.put_ops.Goals as goal

pub returns-then-ops-gt-MOST_BYTES-clause-long : goal.returns-then-ops-gt-MOST_BYTES-clause-long
returns-then-ops-gt-MOST_BYTES-clause-long c is =
    let ops = c.args.ops.now in
    let many = c.if-ops-gt-MOST_BYTES.true in
    omega (arith, many, ops_few ops, ops_length ops (omega (arith, many)))

pub returns-clause-ok : goal.returns-clause-ok
returns-clause-ok c =
    let some : 0 < length c.args.ops.now = grind (arith, nat_tests) in
    rw (ops_written c.args.ops.now some) c.put_some_ops.ensures.ok

pub returns-clause-long : goal.returns-clause-long
returns-clause-long c is =
    let some : 0 < length c.args.ops.now = grind (arith, nat_tests) in
    omega (arith, ops_length c.args.ops.now some, c.put_some_ops.ensures.long is)
