use Rattle.term_core.specs.Order.{same_tree_is}
use Rattle.term_core.specs.View.{tree_of}
use Rattle.term_core.proofs.order.TermPartialEq.eq.Goals as goal

pub returns-clause-same : goal.returns-clause-same
returns-clause-same c =
    rw (c.is_eq.ensures, c.compare.ensures) (same_tree_is (tree_of c.args.self.now) (tree_of c.args.other.now))
