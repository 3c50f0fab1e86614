use Rattle.std.proofs.Common.{sym, ap, refl, ◌∙◌}
use Rattle.term_core.specs.View.{tree_of}
use Rattle.txn_core.proofs.Taken.{key_there, key_taken}
use Rattle.txn_core.proofs.table_reads.TableReads.take_key.Goals as goal

pub returns-in_ok-insert-clause-ok : goal.returns-in_ok-insert-clause-ok
returns-in_ok-insert-clause-ok c =
    key_taken c.args.self.now (record c.args.self.now { keys = c.insert.new.self }) c.in_ok-try_clone.field-0
    (tree_of c.args.key.now) (ap tree_of c.in_ok-try_clone.ensures.same) refl c.in_ok-insert.ensures.keys

pub returns-else-not-is_read-clause-ok : goal.returns-else-not-is_read-clause-ok
returns-else-not-is_read-clause-ok c =
    key_there c.args.self.now (tree_of c.args.key.now) (sym c.is_read.ensures ∙ c.if-not-is_read.false)
