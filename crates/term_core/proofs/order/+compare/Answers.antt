use Rattle.std.proofs.Common.{◌≡◌, arith, sym, ap, ◌∙◌, List, [], drop}
use Rattle.std.proofs.lemmas.Grind.{common_steps}
use Rattle.term_core.specs.View.{forest_of}
use Rattle.term_core.specs.Tree.{trees_cmp}
use Rattle.term_core.specs.declared.term.Term.{Term}
use Rattle.term_core.proofs.Forests.{tuples_cmp, none_below}
use Rattle.term_core.proofs.order.+compare.Goals as goal

pub compare-returns-in-Less : goal.compare-returns-in-Less
compare-returns-in-Less t c =
    sym (tuples_cmp _ _ _ _ _ _ _ c.in-Tuple.is c.in-Tuple-right-2.is c.len.ensures c.len-in-Tuple-right-2.ensures (sym c.in-Less.is ∙ c.cmp-in-Tuple-right-2.ensures))

pub compare-returns-in-Equal : goal.compare-returns-in-Equal
compare-returns-in-Equal t c =
    let tuples = tuples_cmp _ _ _ _ _ _ _ c.in-Tuple.is c.in-Tuple-right-2.is c.len.ensures c.len-in-Tuple-right-2.ensures (sym c.in-Equal.is ∙ c.cmp-in-Tuple-right-2.ensures) in
    grind (arith, common_steps, tuples)

pub compare-returns-in-Greater : goal.compare-returns-in-Greater
compare-returns-in-Greater t c =
    sym (tuples_cmp _ _ _ _ _ _ _ c.in-Tuple.is c.in-Tuple-right-2.is c.len.ensures c.len-in-Tuple-right-2.ensures (sym c.in-Greater.is ∙ c.cmp-in-Tuple-right-2.ensures))

pub compare_all-returns-then-left-right : goal.compare_all-returns-then-left-right
compare_all-returns-then-left-right t c =
    let some = none_below c.loop-i.i c.args.right.now (omega arith) in
    let none : drop c.loop-i.i c.args.left.now ≡ [] = grind (arith, common_steps) in
    sym some ∙ ap (λ (ts : List Term). trees_cmp (forest_of ts) (forest_of (drop c.loop-i.i c.args.right.now))) (sym none) ∙ c.loop-i.invariant.rest
