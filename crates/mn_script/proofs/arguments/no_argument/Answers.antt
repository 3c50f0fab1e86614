use Rattle.std.proofs.Common.{refl, sym}
use Rattle.mn_script.proofs.Taken.{none_left, some_left}
use Rattle.mn_script.proofs.arguments.no_argument.Goals as goal

pub returns-then-not-is_empty : goal.returns-then-not-is_empty
returns-then-not-is_empty c =
    λ command. sym (some_left command c.args.arguments.now (λ none. absurd (let wrong = c.if-not-is_empty.ensures.1 none in cc)))

pub returns : goal.returns
returns c = λ command. sym (none_left command c.args.arguments.now (c.if-not-is_empty.ensures.0 refl))
