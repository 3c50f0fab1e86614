use Rattle.std.proofs.Common.{List, map, sym, ap, ◌∙◌, subst}
use Rattle.std.specs.List.{AllByRecursion as Each}
use Rattle.db_model.specs.Database.{do_schema_ops}
use Rattle.db_model.specs.View.{schema_operation}
use Rattle.db_model.specs.declared.commit.SchemaOp.{SchemaOp}
use Rattle.ram_table.specs.Contents.{contents}
use Rattle.db_state.specs.Live.{with_contents}
use Rattle.db_state.specs.Inside.Slots.{slot_tables, AreSlots, HasKeys}
use Rattle.db_state.proofs.SlotLists.{slots_shown, slots_kept, keys_at, ops_done, arranged_by}
use Rattle.db_state.proofs.slots.arrange.Goals as goal

pub loop-op-init : goal.loop-op-init
loop-op-init c =
    let defs = c.args.defs.now in
    let ops = c.as_slice-op-items.result.now in
    record {
      shown = λ old fit. ap (do_schema_ops (map schema_operation ops))
          (ap (slot_tables old) c.in_ok-slots.ensures ∙ slots_shown old defs fit);
      still = λ old fit. subst (AreSlots old) (sym c.in_ok-slots.ensures) (slots_kept old defs fit);
    }

pub do_schema_op-requires : goal.do_schema_op-requires
do_schema_op-requires c =
    keys_at c.as_slice-op-items.result.now c.loop-op.op-index c.op-item.result c.loop-op-test.true c.op-item.is
    (subst (λ (os : List SchemaOp). Each HasKeys (map schema_operation os)) (sym c.as_slice-op-items.ensures) c.requires)

pub returns : goal.returns
returns c =
    let defs = c.args.defs.now in
    let slots = c.loop-op.slots.items in
    let new = c.in_ok-arrangement_of.field-0 in
    λ tables fit. arranged_by (map schema_operation c.args.ops.now) defs tables slots new c.in_ok-arrangement_of.ensures.defs
    c.in_ok-arrangement_of.ensures.sources c.in_ok-arrangement_of.ensures.empty c.in_ok-arrangement_of.ensures.roomy
    (c.loop-op.invariant.still tables fit)
    (ops_done c.as_slice-op-items.result.now c.loop-op.op-index (slot_tables tables slots) _ c.loop-op-test.false
    (c.loop-op.invariant.shown tables fit)
    ∙ ap (λ (os : List SchemaOp). do_schema_ops (map schema_operation os) (with_contents defs (map contents tables)))
    c.as_slice-op-items.ensures)
