use Rattle.txn_log.proofs.CommitsRead.{none_without_schema_ops, none_without_ops, commit_of_lists}
use Rattle.txn_log.proofs.commit_items.commit_of_fields.Goals as goal

pub returns-in_default : goal.returns-in_default
returns-in_default c = none_without_schema_ops c.args.version c.args.schema_terms.now _ _ c.in_ok-schema_ops.ensures c.in_default.is

pub returns-in-None : goal.returns-in-None
returns-in-None c = none_without_ops c.args.version _ c.args.terms.now _ c.in_ok-ops.ensures c.in-None.is

pub returns-in-Some-2 : goal.returns-in-Some-2
returns-in-Some-2 c =
    commit_of_lists c.args.version c.args.schema_terms.now c.args.terms.now _ _ c.in-Some.schema_ops c.in-Some-2.ops c.ranges.version.fits
    c.in_ok-schema_ops.ensures c.in-Some.is c.in_ok-ops.ensures c.in-Some-2.is
