use Rattle.std.proofs.Common.{not, sym, ap, ◌∙◌}
use Rattle.std.specs.Option.{option_copied}
use Rattle.db_model.specs.Lawful.{LacksIndex}
use Rattle.db_state.proofs.Redefined.{Lacks, tested, untested, lacks_where, lacks_nowhere}
use Rattle.db_state.proofs.applies.lacks_index.Goals as goal

pub returns-then-is_position : goal.returns-then-is_position
returns-then-is_position c =
    let position = c.args.position in
    let def = c.in-Some.def.now in
    λ old. tested (Lacks position) (not c.contains.result) def c.args.name.now c.args.slots.now old
    (sym (ap option_copied c.in-Some.is) ∙ c.def_named.ensures)
    (lacks_where def c.as_slice.result.now c.len.result position c.contains.result c.as_slice.ensures c.len.ensures
    (c.is_position.ensures.0 c.if-is_position.true) c.contains.ensures)

pub returns-else-is_position : goal.returns-else-is_position
returns-else-is_position c =
    let position = c.args.position in
    let def = c.in-Some.def.now in
    λ old. tested (Lacks position) c.is_position.result def c.args.name.now c.args.slots.now old
    (sym (ap option_copied c.in-Some.is) ∙ c.def_named.ensures)
    (lacks_nowhere def c.len.result position c.is_position.result c.if-is_position.false c.len.ensures c.is_position.ensures)

pub returns-in-None : goal.returns-in-None
returns-in-None c =
    λ old. untested (LacksIndex c.args.position) c.args.name.now c.args.slots.now old
    (sym (ap option_copied c.in-None.is) ∙ c.def_named.ensures)
