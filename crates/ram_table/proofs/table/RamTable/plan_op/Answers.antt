use Rattle.std.proofs.Common.{◌≡◌, length, sym, ap, ◌∙◌, subst, arith}
use Rattle.std.proofs.lemmas.Result.{on_ok_weaker}
use Rattle.db_model.specs.View.{operation}
use Rattle.ram_table.specs.Contents.{TableRecords, contents}
use Rattle.ram_table.specs.Plans.{PlanSteps, planned, IsMadeFor}
use Rattle.ram_table.specs.Inside.Pages.{joined}
use Rattle.ram_table.proofs.Plans.{planned_push, made_after}
use Rattle.ram_table.proofs.table.RamTable.plan_op.Goals as goal

pub returns-clause-planned : goal.returns-clause-planned
returns-clause-planned c =
    let table = c.args.self.now in
    let pushed = planned_push table.kind c.args.plan.now.steps c.in_ok-step.step (operation c.args.op.now) (contents table) in
    on_ok_weaker c.push.result (λ now. ap (planned table) now ∙ pushed c.in_ok-step.ensures.op) c.push.ensures.ok

pub returns-clause-made_for : goal.returns-clause-made_for
returns-clause-made_for c =
    let steps : length c.plan.inside.steps.items ≡ length c.args.plan.now.steps =
    ap (λ (p : PlanSteps). length p.steps) c.plan.view_is in
    let count : c.len.result ≡ length c.args.plan.now.steps = omega (arith, c.len.ensures, c.plan.inside.steps.ok.0, steps) in
    let room = rw (c.deref.ensures.value, count) at c.in_ok-step.ensures.room in
    let own : TableRecords = record { kind = c.self.inside.kind; records = joined c.self.inside.pages.items } in
    let made = subst (λ (v : TableRecords). IsMadeFor v c.args.plan.now) (sym c.self.view_is) c.requires.made_for in
    subst (λ (v : TableRecords). IsMadeFor v c.push.new.self) c.self.view_is
    (made_after own c.args.plan.now c.push.new.self c.in_ok-step.step (operation c.args.op.now) c.push.result
    c.self.invariant.paged.increasing made room c.in_ok-step.ensures.op c.requires.keyed c.push.ensures.ok c.push.ensures.err)
