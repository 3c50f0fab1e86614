use Rattle.std.proofs.Common.{◌≡◌, true, false, Ok, length, map}
use Rattle.std.proofs.lemmas.Result.{err_from_is_err_and}
use Rattle.term_core.specs.View.{tree_of}
use Rattle.term_text.specs.Reading.{term_at, more_at, unblanked}
use Rattle.term_text.proofs.Loop.{elements_go_on, elements_close, elements_fail, elements_fail_behind, elements_end, one_more}
use Rattle.term_text.proofs.reading.+term.Goals as goal

pub some_items_of-returns-in_err-term : goal.some_items_of-returns-in_err-term
some_items_of-returns-in_err-term t c =
    let p = err_from_is_err_and c.from_residual.result c.from_residual.ensures.1 in
    rw (p.1, p.2) (elements_fail (term_at c.args.levels) c.args.close (length c.args.bytes.now) c.loop.counter c.in_err-term.field-0.0 (map tree_of c.loop.items) c.loop.rest.now _ c.loop-test.true (rw c.unblanked.ensures at c.in_err-term.ensures) c.loop.invariant)

pub some_items_of-returns-in_err-more : goal.some_items_of-returns-in_err-more
some_items_of-returns-in_err-more t c =
    let p = err_from_is_err_and c.from_residual-in_err-more.result c.from_residual-in_err-more.ensures.1 in
    rw (p.1, p.2) (elements_fail_behind (term_at c.args.levels) c.args.close (length c.args.bytes.now) c.loop.counter c.in_err-more.field-0.0 (map tree_of c.loop.items) c.loop.rest.now _ _ _ c.loop-test.true (rw c.unblanked.ensures at c.in_ok-term.ensures) (rw c.unblanked-in-loop.ensures at c.in_err-more.ensures) c.loop.invariant)

pub some_items_of-returns-then-not-more : goal.some_items_of-returns-then-not-more
some_items_of-returns-then-not-more t c =
    let behind : more_at c.args.close (unblanked c.in_ok-term.after.now) ≡ Ok (false, c.in_ok-more.after.now) = rw (c.unblanked-in-loop.ensures, c.if-not-more.true) at c.in_ok-more.ensures in
    rw (one_more _ _ _ c.in_ok-push.ensures.ok) (elements_close (term_at c.args.levels) c.args.close (length c.args.bytes.now) c.loop.counter (map tree_of c.loop.items) c.loop.rest.now _ _ _ _ c.loop-test.true (rw c.unblanked.ensures at c.in_ok-term.ensures) behind c.loop.invariant)

pub some_items_of-loop-preserved : goal.some_items_of-loop-preserved
some_items_of-loop-preserved t c =
    let behind : more_at c.args.close (unblanked c.in_ok-term.after.now) ≡ Ok (true, c.in_ok-more.after.now) = rw (c.unblanked-in-loop.ensures, c.if-not-more.false) at c.in_ok-more.ensures in
    rw (one_more _ _ _ c.in_ok-push.ensures.ok) (elements_go_on (term_at c.args.levels) c.args.close (length c.args.bytes.now) c.loop.counter (map tree_of c.loop.items) c.loop.rest.now _ _ _ _ c.loop-test.true (rw c.unblanked.ensures at c.in_ok-term.ensures) behind c.loop.invariant)

pub some_items_of-returns : goal.some_items_of-returns
some_items_of-returns t c = rw c.bad.ensures (elements_end (term_at c.args.levels) c.args.close (length c.args.bytes.now) c.loop.counter (map tree_of c.loop.items) c.loop.rest.now _ c.loop-test.false c.loop.invariant)
