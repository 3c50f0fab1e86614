use Rattle.std.proofs.Common.{◌≡◌, length, vec_capacity, sym, ap, ◌∙◌, subst, arith}
use Rattle.ram_table.specs.Contents.{TableRecords}
use Rattle.ram_table.specs.Plans.{PlanSteps, planned}
use Rattle.ram_table.specs.Inside.Pages.{joined}
use Rattle.ram_table.proofs.Plans.{AreKeyedSteps, keyed_all_done, applied}
use Rattle.ram_table.proofs.Rooms.{roomy_after}
use Rattle.ram_table.proofs.table.RamTable.apply.Goals as goal

pub invariant_of-self : goal.invariant_of-self
invariant_of-self c =
    let after = rw c.adopt.ensures.same at c.do_steps-self-inside.ensures.done in
    let keyed = subst (λ (p : PlanSteps). AreKeyedSteps p.steps) (sym c.plan.view_is) c.requires.keyed in
    let planned_count : c.plan.inside.count ≡ length c.args.self.now.records =
    ap (λ (p : PlanSteps). p.count) c.plan.view_is ∙ c.requires.count in
    let own_count : length (joined c.self.inside.pages.items) ≡ length c.args.self.now.records =
    ap (λ (t : TableRecords). length t.records) c.self.view_is in
    let same : c.plan.inside.count ≡ c.self.inside.count = omega (arith, planned_count, own_count, c.self.invariant.counted) in
    let more = rw same at c.plan.invariant.roomy in
    record {
      paged = c.do_steps-self-inside.ensures.paged;
      keyed = rw after (keyed_all_done _ _ _ c.self.invariant.keyed keyed);
      counted = c.do_steps-self-inside.ensures.counted;
      roomy = roomy_after c.self.inside.count (length c.plan.inside.steps.items) c.do_steps-self-inside.result
          (vec_capacity c.self.inside.pages) (vec_capacity c.plan.inside.list) (vec_capacity c.do_steps-self-inside.new.pages)
          (omega arith) (omega arith) more (omega arith) (omega arith);
    }

pub returns-clause-planned : goal.returns-clause-planned
returns-clause-planned c =
    let after = rw c.adopt.ensures.same at c.do_steps-self-inside.ensures.done in
    let keyed = subst (λ (p : PlanSteps). AreKeyedSteps p.steps) (sym c.plan.view_is) c.requires.keyed in
    let own : TableRecords = record { kind = c.self.inside.kind; records = joined c.self.inside.pages.items } in
    let plan : PlanSteps = record { steps = c.plan.inside.steps.items; count = c.plan.inside.count } in
    applied own plan _ c.self.invariant.paged.increasing c.self.invariant.keyed keyed after
    ∙ (λ i. planned (c.self.view_is i) (c.plan.view_is i))
