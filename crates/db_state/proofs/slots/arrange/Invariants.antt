use Rattle.std.proofs.Common.{◌≡◌, List, map, drop}
use Rattle.db_model.specs.Database.{do_schema_ops}
use Rattle.db_model.specs.View.{schema_operation}
use Rattle.ram_table.specs.Contents.{TableRecords, contents}
use Rattle.db_state.specs.Live.{AreTables, with_contents}
use Rattle.db_state.specs.Inside.Slots.{slot_tables, AreSlots}
use Rattle.db_state.proofs.slots.arrange.Given as goal

abbrev pub invariant-loop-op : goal.invariant-loop-op
invariant-loop-op l = record {
  shown : (old : List TableRecords) → AreTables l.defs old
      → do_schema_ops (map schema_operation (drop l.op-index l.op-items)) (slot_tables old l.slots.items)
      ≡ do_schema_ops (map schema_operation l.op-items) (with_contents l.defs (map contents old));
  still : (old : List TableRecords) → AreTables l.defs old → AreSlots old l.slots.items;
}
