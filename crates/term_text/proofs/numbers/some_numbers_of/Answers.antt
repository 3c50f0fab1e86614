use Rattle.std.proofs.Common.{◌≡◌, true, false, Ok, length}
use Rattle.std.proofs.lemmas.Result.{err_from_is_err_and}
use Rattle.term_text.specs.Reading.{small_at, more_at, unblanked}
use Rattle.term_text.proofs.Loop.{elements_go_on, elements_close, elements_fail, elements_fail_behind, elements_end}
use Rattle.term_text.proofs.numbers.some_numbers_of.Goals as goal

pub returns-in_err-number : goal.returns-in_err-number
returns-in_err-number c =
    let p = err_from_is_err_and c.from_residual.result c.from_residual.ensures.1 in
    rw (p.1, p.2) (elements_fail small_at 62 (length c.args.bytes.now) c.loop.counter c.in_err-number.field-0.0 c.loop.items c.loop.rest.now _ c.loop-test.true (rw c.unblanked.ensures at c.in_err-number.ensures) c.loop.invariant)

pub returns-in_err-more : goal.returns-in_err-more
returns-in_err-more c =
    let p = err_from_is_err_and c.from_residual-in_err-more.result c.from_residual-in_err-more.ensures.1 in
    rw (p.1, p.2) (elements_fail_behind small_at 62 (length c.args.bytes.now) c.loop.counter c.in_err-more.field-0.0 c.loop.items c.loop.rest.now _ _ _ c.loop-test.true (rw c.unblanked.ensures at c.in_ok-number.ensures) (rw c.unblanked-in-loop.ensures at c.in_err-more.ensures) c.loop.invariant)

pub returns-then-not-more : goal.returns-then-not-more
returns-then-not-more c =
    let behind : more_at 62 (unblanked c.in_ok-number.after.now) ≡ Ok (false, c.in_ok-more.after.now) = rw (c.unblanked-in-loop.ensures, c.if-not-more.true) at c.in_ok-more.ensures in
    rw c.in_ok-push.ensures.ok (elements_close small_at 62 (length c.args.bytes.now) c.loop.counter c.loop.items c.loop.rest.now _ _ _ _ c.loop-test.true (rw c.unblanked.ensures at c.in_ok-number.ensures) behind c.loop.invariant)

pub loop-preserved : goal.loop-preserved
loop-preserved c =
    let behind : more_at 62 (unblanked c.in_ok-number.after.now) ≡ Ok (true, c.in_ok-more.after.now) = rw (c.unblanked-in-loop.ensures, c.if-not-more.false) at c.in_ok-more.ensures in
    rw c.in_ok-push.ensures.ok (elements_go_on small_at 62 (length c.args.bytes.now) c.loop.counter c.loop.items c.loop.rest.now _ _ _ _ c.loop-test.true (rw c.unblanked.ensures at c.in_ok-number.ensures) behind c.loop.invariant)

pub returns : goal.returns
returns c = rw c.bad.ensures (elements_end small_at 62 (length c.args.bytes.now) c.loop.counter c.loop.items c.loop.rest.now _ c.loop-test.false c.loop.invariant)
