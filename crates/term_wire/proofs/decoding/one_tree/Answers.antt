use Rattle.term_wire.proofs.Again.{one_tree}
use Rattle.term_wire.proofs.decoding.one_tree.Goals as goal

pub returns : goal.returns
returns c = one_tree
