use Rattle.std.proofs.Common.{ℕ, List, [], ◌∷◌, ◌++◌, Ok, ap, sym, ◌∙◌, length}
use Rattle.std.proofs.lemmas.Result.{err_from_is_err_and}
use Rattle.term_text.specs.Reading.{character_at, quoted_at}
use Rattle.term_text.proofs.Loop.{quoted_goes_on, quoted_fails, quoted_closes, quoted_full, full_fails, full_ok, as_numbers_fails, as_numbers_ok, one_number}
use Rattle.term_text.proofs.characters.code_points_of.Goals as goal

pub returns-in-Some : goal.returns-in-Some
returns-in-Some c =
    let cs = c.loop.invariant.0 in
    let closes = quoted_closes character_at 34 (length c.args.bytes.now) c.loop.counter cs c.loop.rest.now _ c.loop-test.true c.in-Some.ensures.0 c.loop.invariant.2 in
    as_numbers_ok _ cs c.in-Some.after.now _ (closes ∙ ap (λ (after : List ℕ). Ok (cs, after)) (sym c.in-Some.ensures.1)) c.loop.invariant.1

pub returns-in_err-character : goal.returns-in_err-character
returns-in_err-character c =
    let p = err_from_is_err_and c.from_residual.result c.from_residual.ensures.1 in
    let fails = quoted_fails character_at 34 (length c.args.bytes.now) c.loop.counter c.in_err-character.field-0.0 c.loop.invariant.0 c.loop.rest.now _ c.loop-test.true c.in_default.ensures c.in_err-character.ensures c.loop.invariant.2 in
    rw (p.1, p.2) (as_numbers_fails c.in_err-character.field-0.0 (quoted_at character_at 34 (length c.args.bytes.now) c.args.bytes.now) fails)

pub loop-preserved : goal.loop-preserved
loop-preserved c =
    let cs = c.loop.invariant.0 in
    let goes = quoted_goes_on character_at 34 (length c.args.bytes.now) c.loop.counter cs c.loop.rest.now _ _ _ c.loop-test.true c.in_default.ensures c.in_ok-character.ensures c.loop.invariant.2 in
    (cs ++ c.in_ok-character.character ∷ [], one_number c.loop.items c.push.new.self _ cs c.in_ok-character.character c.in_ok-push.ensures.ok c.code_point.ensures c.loop.invariant.1, goes)

pub returns-in_err-rest : goal.returns-in_err-rest
returns-in_err-rest c =
    let p = err_from_is_err_and c.from_residual-in_err-rest.result c.from_residual-in_err-rest.ensures.1 in
    let cs = c.loop.invariant.0 in
    let full = quoted_full character_at 34 (length c.args.bytes.now) c.loop.counter cs c.loop.rest.now _ c.loop-test.false c.loop.invariant.2 in
    rw (p.1, p.2) (as_numbers_fails c.in_err-rest.field-0.0 (quoted_at character_at 34 (length c.args.bytes.now) c.args.bytes.now) (full_fails 34 c.in_err-rest.field-0.0 cs c.loop.rest.now _ c.in_err-rest.ensures full))

pub returns : goal.returns
returns c =
    let cs = c.loop.invariant.0 in
    let full = quoted_full character_at 34 (length c.args.bytes.now) c.loop.counter cs c.loop.rest.now _ c.loop-test.false c.loop.invariant.2 in
    as_numbers_ok _ cs _ _ (full_ok 34 cs c.loop.rest.now _ _ c.in_ok-rest.ensures full) c.loop.invariant.1
