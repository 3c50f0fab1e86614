use Rattle.std.proofs.Common.{List, map, drop}
use Rattle.std.specs.Prelude.{◌↔◌}
use Rattle.db_model.specs.Lawful.{AllApply}
use Rattle.db_model.specs.View.{schema_operation}
use Rattle.ram_table.specs.Contents.{TableRecords, contents}
use Rattle.db_state.specs.Live.{AreTables, with_contents}
use Rattle.db_state.specs.Inside.Slots.{slot_tables}
use Rattle.db_state.proofs.applies.all_apply.Given as goal

-- all apply where the rest does
abbrev pub invariant-loop-op : goal.invariant-loop-op
invariant-loop-op l = (old : List TableRecords) → AreTables l.defs old
    → AllApply (map schema_operation (drop l.op-index l.op-items)) (slot_tables old l.slots.items)
    ↔ AllApply (map schema_operation l.op-items) (with_contents l.defs (map contents old))
