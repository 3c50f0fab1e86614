use Rattle.std.proofs.Common.{◌≡◌, ◌+◌, ◌-◌, ℕ, List, [], ◌∷◌, ◌++◌, Ok, ap, sym, ◌∙◌, length, arith}
use Rattle.std.specs.Prelude.{string_bytes}
use Rattle.std.specs.Str.{chars}
use Rattle.std.proofs.lemmas.List.{length_push}
use Rattle.std.proofs.lemmas.Result.{err_from_is_err_and}
use Rattle.std.proofs.lemmas.Str.{chars-nil, IsUtf8-string_bytes}
use Rattle.term_text.specs.Reading.{character_at, quoted_at}
use Rattle.term_text.proofs.Loop.{with_front, quoted_goes_on, quoted_fails, quoted_closes, quoted_full, full_fails, full_ok, front_none}
use Rattle.term_text.proofs.Utf8.{pushed}
use Rattle.term_text.proofs.characters.name_of.Goals as goal

pub loop-init : goal.loop-init
loop-init c =
    let none : chars (string_bytes c.new-name.result) ≡ [] = ap chars c.new-name.ensures.bytes ∙ chars-nil in
    record { read = front_none (chars (string_bytes c.new-name.result)) (quoted_at character_at 39 255 c.args.bytes.now) none; short = omega (arith, ap length none) }

pub returns-in-Some-clause-read : goal.returns-in-Some-clause-read
returns-in-Some-clause-read c =
    let cs = chars (string_bytes c.loop.name) in
    let closes = quoted_closes character_at 39 255 c.loop.counter cs c.loop.rest.now _ c.loop-test.true c.in-Some.ensures.0 c.loop.invariant.read in
    closes ∙ ap (λ (after : List ℕ). Ok (cs, after)) (sym c.in-Some.ensures.1)

pub returns-in_err-character-clause-read : goal.returns-in_err-character-clause-read
returns-in_err-character-clause-read c =
    let p = err_from_is_err_and c.from_residual.result c.from_residual.ensures.1 in
    rw (p.1, p.2) (quoted_fails character_at 39 255 c.loop.counter c.in_err-character.field-0.0 (chars (string_bytes c.loop.name)) c.loop.rest.now _ c.loop-test.true c.in_default.ensures c.in_err-character.ensures c.loop.invariant.read)

pub loop-preserved : goal.loop-preserved
loop-preserved c =
    let cs = chars (string_bytes c.loop.name) in
    let ch = c.in_ok-character.character in
    let grown : chars (string_bytes c.push.new.self) ≡ cs ++ ch ∷ [] = pushed _ _ ch (IsUtf8-string_bytes c.loop.name) (IsUtf8-string_bytes c.push.new.self) c.in_ok-push.ensures.bytes in
    let goes = quoted_goes_on character_at 39 255 c.loop.counter cs c.loop.rest.now _ _ _ c.loop-test.true c.in_default.ensures c.in_ok-character.ensures c.loop.invariant.read in
    record {
      read = ap (λ (front : List ℕ). with_front front (quoted_at character_at 39 (255 - (c.loop.counter + 1)) c.in_ok-character.after.now)) grown ∙ goes;
      short = omega (arith, ap length grown, length_push cs ch, c.loop.invariant.short);
    }

pub returns-in_err-rest-clause-read : goal.returns-in_err-rest-clause-read
returns-in_err-rest-clause-read c =
    let p = err_from_is_err_and c.from_residual-in_err-rest.result c.from_residual-in_err-rest.ensures.1 in
    let cs = chars (string_bytes c.loop.name) in
    let full = quoted_full character_at 39 255 c.loop.counter cs c.loop.rest.now _ c.loop-test.false c.loop.invariant.read in
    rw (p.1, p.2) (full_fails 39 c.in_err-rest.field-0.0 cs c.loop.rest.now _ c.in_err-rest.ensures full)

pub returns-clause-read : goal.returns-clause-read
returns-clause-read c =
    let cs = chars (string_bytes c.loop.name) in
    let full = quoted_full character_at 39 255 c.loop.counter cs c.loop.rest.now _ c.loop-test.false c.loop.invariant.read in
    full_ok 39 cs c.loop.rest.now _ _ c.in_ok-rest.ensures full
