use Rattle.std.proofs.Common.{sym, ap, ◌∙◌}
use Rattle.std.specs.Option.{option_copied}
use Rattle.db_state.proofs.Redefined.{stands_there, stands_not}
use Rattle.db_state.proofs.applies.stands.Goals as goal

pub returns-in-Some : goal.returns-in-Some
returns-in-Some c = λ old. stands_there _ c.args.name.now c.args.slots.now old (sym (ap option_copied c.in-Some.is) ∙ c.def_named.ensures)

pub returns-in-None : goal.returns-in-None
returns-in-None c = λ old. stands_not c.args.name.now c.args.slots.now old (sym (ap option_copied c.in-None.is) ∙ c.def_named.ensures)
