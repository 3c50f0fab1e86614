use Rattle.txn_log.proofs.CommitsRead.{no_schema_ops, more_schema_ops, all_schema_ops}
use Rattle.txn_log.proofs.commit_items.schema_ops_of_terms.Goals as goal

pub returns-in_default : goal.returns-in_default
returns-in_default c =
    no_schema_ops c.args.terms.now c.loop-term.term-index c.term-item.result _ c.loop-term-test.true c.term-item.is
    c.in_ok-op.ensures c.in_default.is

pub loop-term-preserved : goal.loop-term-preserved
loop-term-preserved c =
    more_schema_ops c.args.terms.now c.loop-term.term-index c.term-item.result _ c.loop-term.ops _ c.in-Some.op
    c.loop-term-test.true c.term-item.is c.in_ok-op.ensures c.in-Some.is c.loop-term.invariant c.in_ok-push.ensures.ok

pub returns : goal.returns
returns c = all_schema_ops _ _ _ c.loop-term-test.false c.loop-term.invariant
