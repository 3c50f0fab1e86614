use Rattle.term_core.proofs.Before.{less_is, same_is, one_way, not_itself, goes_on}
use Rattle.term_core.proofs.laws.order_law.Goals as goal

pub returns-clause-less : goal.returns-clause-less
returns-clause-less c = less_is

pub returns-clause-same : goal.returns-clause-same
returns-clause-same c = same_is

pub returns-clause-total : goal.returns-clause-total
returns-clause-total c = one_way

pub returns-clause-irreflexive : goal.returns-clause-irreflexive
returns-clause-irreflexive c = not_itself

pub returns-clause-transitive : goal.returns-clause-transitive
returns-clause-transitive c = goes_on
