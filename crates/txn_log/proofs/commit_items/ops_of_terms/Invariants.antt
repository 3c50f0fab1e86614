use Rattle.std.proofs.Common.{take, map}
use Rattle.term_core.specs.View.{tree_of}
use Rattle.db_model.specs.View.{operation}
use Rattle.txn_log.specs.Commits.{AreOps}
use Rattle.txn_log.proofs.commit_items.ops_of_terms.Given as goal

-- the ops are those of the terms that were read
abbrev pub invariant-loop-term : goal.invariant-loop-term
invariant-loop-term l = AreOps (map tree_of (take l.term-index l.terms)) (map operation l.ops)
