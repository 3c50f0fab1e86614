use Rattle.std.proofs.Common.{List, ℕ, sym, ap, ◌∙◌, subst}
use Rattle.std.specs.Prelude.{IsTrue, Contains, ◌↔◌}
use Rattle.std.specs.Option.{option_copied}
use Rattle.db_model.specs.Definitions.{Definition}
use Rattle.db_model.specs.Lawful.{HasIndex}
use Rattle.db_state.proofs.Redefined.{tested, untested}
use Rattle.db_state.proofs.applies.has_index.Goals as goal

pub returns-in-Some : goal.returns-in-Some
returns-in-Some c =
    let position = c.args.position in
    λ old. tested (λ (def : Definition). Contains def.index position) c.contains.result c.in-Some.def.now c.args.name.now c.args.slots.now old
    (sym (ap option_copied c.in-Some.is) ∙ c.def_named.ensures)
    (subst (λ (ps : List ℕ). IsTrue c.contains.result ↔ Contains ps position) c.as_slice.ensures c.contains.ensures)

pub returns-in-None : goal.returns-in-None
returns-in-None c =
    λ old. untested (HasIndex c.args.position) c.args.name.now c.args.slots.now old (sym (ap option_copied c.in-None.is) ∙ c.def_named.ensures)
