use Rattle.std.proofs.Common.{ℕ, List, sym, ap, ◌∙◌, arith}
use Rattle.db_model.specs.Database.{same_name}
use Rattle.db_model.specs.View.{operation}
use Rattle.db_state.specs.Inside.Sources.{tables_in}
use Rattle.db_state.proofs.Shown.{as_many}
use Rattle.db_state.proofs.Planned.{made_at_place, still_for, step_planned, step_passed, steps_all}
use Rattle.db_state.proofs.ops.plan_op.Goals.{then-eq+in_ok-plan_part, else-eq}
use Rattle.db_state.proofs.ops.plan_op.Goals as goal

pub table_at-requires-clause-within : goal.table_at-requires-clause-within
table_at-requires-clause-within c =
    let many = as_many c.args.defs.now (tables_in c.args.tables.now c.args.new.now) c.requires.fit in omega arith

pub plan_part-requires-clause-made_for : goal.plan_part-requires-clause-made_for
plan_part-requires-clause-made_for c =
    made_at_place c.loop-i.i c.loop-i.parts.items (tables_in c.args.tables.now c.args.new.now) c.table_at.result.now c.table_at.ensures
    c.loop-i.invariant.made_for

pub loop-i-preserved : goal.loop-i-preserved
loop-i-preserved c =
    let op = operation c.args.op.now in
    let defs = c.args.defs.now in
    let def = c.index-defs-i.result in
    let tables = tables_in c.args.tables.now c.args.new.now in
    let own = ap (λ (n : List ℕ). same_name n def.name) (sym c.name_of-name.ensures) ∙ sym c.eq.ensures.by_order in
    elim c.if-eq.branch [
      | then-eq+in_ok-plan_part w ↦ rw w.parts-is (record {
        planned =
            step_planned op c.loop-i.i w.table_at.result.now c.loop-i.parts.items w.plan_part.new.parts.items defs def tables _
            w.in_ok-plan_part.ensures w.table_at.ensures c.requires.fit c.loop-i-test.true c.index-defs-i.is (own ∙ w.if-eq.true)
            c.loop-i.invariant.planned;
        made_for = still_for op c.loop-i.i w.table_at.result.now c.loop-i.parts.items w.plan_part.new.parts.items tables
            w.in_ok-plan_part.ensures w.table_at.ensures (omega (arith, as_many defs tables c.requires.fit)) c.loop-i.invariant.made_for;
      })
      | else-eq w ↦ rw w.parts-is (record {
        planned =
            step_passed op c.loop-i.i c.loop-i.parts.items defs def tables _ c.loop-i-test.true c.index-defs-i.is (own ∙ w.if-eq.false)
            c.loop-i.invariant.planned;
        made_for = c.loop-i.invariant.made_for;
      })
    ]

pub returns-clause-planned : goal.returns-clause-planned
returns-clause-planned c =
    steps_all (operation c.args.op.now) c.loop-i.i c.loop-i.parts.items c.args.defs.now (tables_in c.args.tables.now c.args.new.now) _
    c.loop-i-test.false c.loop-i.invariant.planned
