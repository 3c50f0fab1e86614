use Rattle.std.proofs.Common.{ℕ, List, Ok, ap, sym, ◌∙◌, length}
use Rattle.std.proofs.lemmas.Result.{err_from_is_err_and}
use Rattle.term_text.specs.Reading.{narrow_at}
use Rattle.term_text.proofs.Loop.{quoted_goes_on, quoted_fails, quoted_closes, quoted_full, full_fails, full_ok}
use Rattle.term_text.proofs.characters.narrow_characters_of.Goals as goal

pub returns-in-Some : goal.returns-in-Some
returns-in-Some c =
    let closes = quoted_closes narrow_at 34 (length c.args.bytes.now) c.loop.counter c.loop.items c.loop.rest.now _ c.loop-test.true c.in-Some.ensures.0 c.loop.invariant in
    closes ∙ ap (λ (after : List ℕ). Ok (c.loop.items, after)) (sym c.in-Some.ensures.1)

pub returns-in_err-character : goal.returns-in_err-character
returns-in_err-character c =
    let p = err_from_is_err_and c.from_residual.result c.from_residual.ensures.1 in
    rw (p.1, p.2) (quoted_fails narrow_at 34 (length c.args.bytes.now) c.loop.counter c.in_err-character.field-0.0 c.loop.items c.loop.rest.now _ c.loop-test.true c.in_default.ensures c.in_err-character.ensures c.loop.invariant)

pub loop-preserved : goal.loop-preserved
loop-preserved c =
    rw c.in_ok-push.ensures.ok (quoted_goes_on narrow_at 34 (length c.args.bytes.now) c.loop.counter c.loop.items c.loop.rest.now _ _ _ c.loop-test.true c.in_default.ensures c.in_ok-character.ensures c.loop.invariant)

pub returns-in_err-rest : goal.returns-in_err-rest
returns-in_err-rest c =
    let p = err_from_is_err_and c.from_residual-in_err-rest.result c.from_residual-in_err-rest.ensures.1 in
    let full = quoted_full narrow_at 34 (length c.args.bytes.now) c.loop.counter c.loop.items c.loop.rest.now _ c.loop-test.false c.loop.invariant in
    rw (p.1, p.2) (full_fails 34 c.in_err-rest.field-0.0 c.loop.items c.loop.rest.now _ c.in_err-rest.ensures full)

pub returns : goal.returns
returns c =
    let full = quoted_full narrow_at 34 (length c.args.bytes.now) c.loop.counter c.loop.items c.loop.rest.now _ c.loop-test.false c.loop.invariant in
    full_ok 34 c.loop.items c.loop.rest.now _ _ c.in_ok-rest.ensures full
