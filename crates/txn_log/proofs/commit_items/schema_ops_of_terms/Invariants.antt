use Rattle.std.proofs.Common.{take, map}
use Rattle.term_core.specs.View.{tree_of}
use Rattle.db_model.specs.View.{schema_operation}
use Rattle.txn_log.specs.Commits.{AreSchemaOps}
use Rattle.txn_log.proofs.commit_items.schema_ops_of_terms.Given as goal

-- the schema ops are those of the terms that were read
abbrev pub invariant-loop-term : goal.invariant-loop-term
invariant-loop-term l = AreSchemaOps (map tree_of (take l.term-index l.terms)) (map schema_operation l.ops)
