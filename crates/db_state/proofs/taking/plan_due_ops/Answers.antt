use Rattle.std.proofs.Common.{ℕ, true, false, List, map, refl, sym, ap, ◌∙◌, subst}
use Rattle.std.specs.List.{AllByRecursion as Each}
use Rattle.db_model.specs.Database.{Contents}
use Rattle.db_model.specs.Ops.{table_of}
use Rattle.db_model.specs.Taken.{take_ops}
use Rattle.db_model.specs.View.{operation}
use Rattle.db_model.specs.declared.op.Op.{Op}
use Rattle.db_state.specs.Live.{with_contents}
use Rattle.db_state.specs.Inside.Parts.{contents_after, AreFor}
use Rattle.db_state.specs.Inside.Sources.{tables_in}
use Rattle.db_state.specs.Inside.Taking.{first_def, is_due_by, MayTakeBy}
use Rattle.db_state.specs.declared.parts.Part.{Part}
use Rattle.db_state.proofs.PartLists.{nothing_planned, nothing_for}
use Rattle.db_state.proofs.Taken.{each_at, due_keyed, due_now, taken_more}
use Rattle.db_state.proofs.taking.plan_due_ops.Goals.{then-is_due+in_ok-plan_op, else-is_due}
use Rattle.db_state.proofs.taking.plan_due_ops.Goals as goal

pub loop-op-init : goal.loop-op-init
loop-op-init c =
    let tables = tables_in c.args.tables.now c.args.new.now in
    record {
      planned = ap (λ (rows : List Contents). take_ops c.args.version (map operation c.as_slice-op-items.result.now)
          (with_contents c.args.defs.now rows))
          (ap (λ (ps : List Part). contents_after 0 ps tables) c.new-parts.ensures.items ∙ nothing_planned 0 tables);
      made_for = subst (AreFor tables) (sym c.new-parts.ensures.items) (nothing_for tables);
    }

pub plan_op-requires-clause-keyed : goal.plan_op-requires-clause-keyed
plan_op-requires-clause-keyed c =
    let defs = c.args.defs.now in
    let version = c.args.version in
    let op = operation c.op-item.result in
    let due = ap (λ (n : List ℕ). is_due_by version (first_def n defs)) (sym c.name_of.ensures) ∙ sym c.is_due.ensures ∙ c.if-is_due.true in
    due_keyed version op defs (tables_in c.args.tables.now c.args.new.now) c.requires.fit
    (each_at (MayTakeBy version defs) operation c.as_slice-op-items.result.now c.loop-op.op-index c.op-item.result c.loop-op-test.true
    c.op-item.is
    (subst (λ (os : List Op). Each (MayTakeBy version defs) (map operation os)) (sym c.as_slice-op-items.ensures) c.requires.may_take)) due

pub loop-op-preserved : goal.loop-op-preserved
loop-op-preserved c =
    let defs = c.args.defs.now in
    let version = c.args.version in
    let op = operation c.op-item.result in
    let ops = c.as_slice-op-items.result.now in
    let tables = tables_in c.args.tables.now c.args.new.now in
    let before = with_contents defs (contents_after 0 c.loop-op.parts.items tables) in
    let due = due_now version (table_of op) defs tables c.loop-op.parts.items c.requires.fit
    ∙ ap (λ (n : List ℕ). is_due_by version (first_def n defs)) (sym c.name_of.ensures) ∙ sym c.is_due.ensures in
    elim c.if-is_due.branch [
      | then-is_due+in_ok-plan_op w ↦ rw w.parts-is (record {
        planned = taken_more version ops c.loop-op.op-index c.op-item.result before
            (with_contents defs (contents_after 0 w.plan_op.new.parts.items tables)) _ true c.loop-op-test.true c.op-item.is
            (due ∙ w.if-is_due.true) w.in_ok-plan_op.ensures.planned c.loop-op.invariant.planned;
        made_for = w.in_ok-plan_op.ensures.made_for;
      })
      | else-is_due w ↦ rw w.parts-is (record {
        planned = taken_more version ops c.loop-op.op-index c.op-item.result before before _ false c.loop-op-test.true c.op-item.is
            (due ∙ w.if-is_due.false) refl c.loop-op.invariant.planned;
        made_for = c.loop-op.invariant.made_for;
      })
    ]
