use Rattle.std.proofs.Common.{List, sym, ap, ◌∙◌}
use Rattle.std.proofs.lemmas.Result.{on_ok_weaker}
use Rattle.std.specs.List.{position_from}
use Rattle.db_model.specs.Database.{put_op}
use Rattle.db_model.specs.View.{operation}
use Rattle.db_state.specs.Inside.Parts.{is_for}
use Rattle.db_state.specs.declared.parts.Part.{Part}
use Rattle.db_state.proofs.PartLists.{some_plan, planned_in, planned_behind}
use Rattle.db_state.proofs.parts.plan_part.Goals as goal

pub plan_op-requires-clause-made_for : goal.plan_op-requires-clause-made_for
plan_op-requires-clause-made_for c =
    let place = c.args.place in
    let at = ap (λ (ps : List Part). position_from (is_for place) 0 ps) (sym c.deref.ensures.value) ∙ sym c.part_for.ensures.place
    ∙ c.in-Some.is in
    some_plan c.args.table.now place c.args.parts.now.items c.in-Some.i c.index_mut-part.result.now at c.index_mut-part.ensures.value
    c.requires.made_for

pub returns-in-Some : goal.returns-in-Some
returns-in-Some c =
    let place = c.args.place in
    let at = ap (λ (ps : List Part). position_from (is_for place) 0 ps) (sym c.deref.ensures.value) ∙ sym c.part_for.ensures.place
    ∙ c.in-Some.is in
    on_ok_weaker c.plan_op.result
    (λ done. planned_in (operation c.args.op.now) place c.args.table.now c.args.parts.now.items c.in-Some.i c.index_mut-part.result.now
    c.plan_op.new.plan at c.index_mut-part.ensures.value c.requires.apart done c.plan_op.ensures.made_for)
    c.plan_op.ensures.planned

pub returns-in_ok-push-in-None : goal.returns-in_ok-push-in-None
returns-in_ok-push-in-None c =
    let place = c.args.place in
    let table = c.args.table.now in
    let op = operation c.args.op.now in
    let at = ap (λ (ps : List Part). position_from (is_for place) 0 ps) (sym c.deref.ensures.value) ∙ sym c.part_for.ensures.place
    ∙ c.in-None.is in
    rw c.in_ok-push-in-None.ensures.items
    (planned_behind op place table c.args.parts.now.items c.plan_op-in-None.new.plan at c.requires.apart
    (c.in_ok-plan_op-in-None.ensures.planned ∙ ap (put_op table.kind op) c.no_plan-plan.ensures.planned)
    c.in_ok-plan_op-in-None.ensures.made_for)
