use Rattle.std.proofs.Common.{◌≡◌, ◌++◌, ℕ, List, length, drop, sym, ap, ◌∙◌, arith, append-nil}
use Rattle.std.specs.List.{flat_map}
use Rattle.std.specs.Str.{chars}
use Rattle.std.proofs.lemmas.Iterator.{YieldsList-from_chars}
use Rattle.std.proofs.lemmas.Iterator.Consumers.{YieldsList-turn, YieldsList-end}
use Rattle.std.proofs.lemmas.List.{at_drop_all, length_push}
use Rattle.std.proofs.lemmas.Result.{err_from_is_err_and}
use Rattle.term_text.specs.Printing.{character_text}
use Rattle.term_text.proofs.Added.{Begins-then}
use Rattle.term_text.proofs.Written.{characters_next, one_added, one_left}
use Rattle.term_text.proofs.printing.put_characters.Goals as goal

pub loop-character-preserved : goal.loop-character-preserved
loop-character-preserved c =
    let t = YieldsList-turn (YieldsList-from_chars c.args.name.now c.utf8.name cc) c.loop-character.yielded _ c.loop-character.yielded_by _ _ c.in-Some.character c.in-Some.is c.next.ensures.steps in
    let front = c.loop-character.invariant.0 in
    let more = one_left front (character_text c.in-Some.character) _ _ _ c.loop-character.invariant.2 (characters_next (chars c.args.name.now) (length c.loop-character.yielded) c.in-Some.character t) in
    let n = length_push c.loop-character.yielded c.in-Some.character in (
      front ++ character_text c.in-Some.character,
      one_added _ front _ _ _ c.loop-character.invariant.1 c.in_ok-put_character.ensures,
      ap (λ (k : ℕ). (front ++ character_text c.in-Some.character) ++ flat_map character_text (drop k (chars c.args.name.now))) n ∙ more,
    )

pub returns-in_err-put_character : goal.returns-in_err-put_character
returns-in_err-put_character c =
    let p = err_from_is_err_and c.from_residual.result c.from_residual.ensures.1 in
    rw p.1 (Begins-then _ c.loop-character.invariant.0 _ _ c.loop-character.invariant.1 c.in_err-put_character.ensures)

pub returns : goal.returns
returns c =
    let t = YieldsList-end (YieldsList-from_chars c.args.name.now c.utf8.name cc) c.loop-character.yielded _ c.loop-character.yielded_by _ _ c.in-None.is c.next.ensures.steps in
    let none = at_drop_all (flat_map character_text) (chars c.args.name.now) (length c.loop-character.yielded) (omega (arith, t.1)) in
    let all : c.loop-character.invariant.0 ≡ flat_map character_text (chars c.args.name.now) = sym (ap (λ (s : List ℕ). c.loop-character.invariant.0 ++ s) none ∙ append-nil c.loop-character.invariant.0) ∙ c.loop-character.invariant.2 in
    c.loop-character.invariant.1 ∙ ap (λ (s : List ℕ). c.args.out.now.items ++ s) all
