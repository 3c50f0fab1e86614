use Rattle.std.proofs.Common.{map}
use Rattle.std.proofs.lemmas.Result.{err_from_is_err_and}
use Rattle.term_core.specs.View.{tree_of}
use Rattle.term_wire.specs.Reading.{term_at, items_at}
use Rattle.term_wire.proofs.Loop.{goes_on, one_more, ends, is_done}
use Rattle.term_wire.proofs.reading.+term.Goals as goal

pub items_of-loop-preserved : goal.items_of-loop-preserved
items_of-loop-preserved t c =
    rw (one_more _ _ _ c.in_ok-push.ensures.ok) (goes_on (term_at c.args.levels) _ c.args.count c.loop.counter _ _ _ _ c.loop-test.true c.in_ok-term.ensures c.loop.invariant)

pub items_of-returns-in_err-term : goal.items_of-returns-in_err-term
items_of-returns-in_err-term t c =
    let p = err_from_is_err_and c.from_residual.result c.from_residual.ensures.1 in
    rw (p.1, p.2) (ends (term_at c.args.levels) c.in_err-term.field-0.0 (map tree_of c.loop.items) c.args.count c.loop.counter c.loop.rest.now (items_at (term_at c.args.levels) c.args.count c.args.bytes.now) c.loop-test.true c.in_err-term.ensures c.loop.invariant)

pub items_of-returns : goal.items_of-returns
items_of-returns t c =
    is_done (term_at c.args.levels) (map tree_of c.loop.items) c.args.count c.loop.counter c.loop.rest.now (items_at (term_at c.args.levels) c.args.count c.args.bytes.now) c.loop-test.false c.loop.invariant
