use Rattle.std.proofs.Common.{◌≡◌, ◌++◌, map, drop}
use Rattle.term_core.specs.View.{tree_of}
use Rattle.mn_node.proofs.terms.copies.Given as goal

abbrev pub invariant-loop-term : goal.invariant-loop-term
invariant-loop-term l = map tree_of l.copies ++ map tree_of (drop l.term-index l.terms) ≡ map tree_of l.terms
