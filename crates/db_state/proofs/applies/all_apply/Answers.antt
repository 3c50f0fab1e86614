use Rattle.std.proofs.Common.{[], map, sym, ap, ◌∙◌, subst}
use Rattle.db_model.specs.Lawful.{AllApply}
use Rattle.db_model.specs.View.{schema_operation}
use Rattle.db_state.specs.Inside.Slots.{slot_tables}
use Rattle.db_state.proofs.SlotLists.{slots_shown}
use Rattle.db_state.proofs.Taken.{keys_of}
use Rattle.db_state.proofs.applies.all_apply.Goals as goal

pub loop-op-init : goal.loop-op-init
loop-op-init c = λ old fit.
    let ops = map schema_operation c.as_slice-op-items.result.now in
    let same = ap (slot_tables old) c.in_ok-slots.ensures ∙ slots_shown old c.args.defs.now fit in
    (λ all. subst (AllApply ops) same all, λ all. subst (AllApply ops) (sym same) all)

pub do_schema_op-requires : goal.do_schema_op-requires
do_schema_op-requires c =
    keys_of (schema_operation c.op-item.result) (slot_tables [] c.deref.result.now) ((c.in_ok-applies.ensures []).0 c.if-not-branch.false)
