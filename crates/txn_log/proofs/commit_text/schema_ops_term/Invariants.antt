use Rattle.std.proofs.Common.{◌≡◌, take, map}
use Rattle.term_core.specs.View.{tree_of}
use Rattle.db_model.specs.SchemaTerms.{schema_op_tree}
use Rattle.db_model.specs.View.{schema_operation}
use Rattle.txn_log.proofs.commit_text.schema_ops_term.Given as goal

-- the terms are those of the schema ops that were read
abbrev pub invariant-loop-op : goal.invariant-loop-op
invariant-loop-op l = map tree_of l.terms ≡ map schema_op_tree (map schema_operation (take l.op-index l.op-items))
