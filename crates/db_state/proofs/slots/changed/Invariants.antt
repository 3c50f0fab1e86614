use Rattle.std.proofs.Common.{◌≡◌, List, ◌++◌, reverse, vec_len}
use Rattle.db_model.specs.Database.{do_schema_op}
use Rattle.db_model.specs.View.{schema_operation}
use Rattle.ram_table.specs.Contents.{TableRecords}
use Rattle.db_state.specs.Inside.Slots.{slot_tables, AreSlots}
use Rattle.db_state.proofs.slots.changed.Given as goal

abbrev pub invariant-loop-slot : goal.invariant-loop-slot
invariant-loop-slot l = record {
  shown : (old : List TableRecords) → slot_tables old l.now.items
      ++ do_schema_op (schema_operation l.op) (slot_tables old (reverse l.slots.items))
      ≡ do_schema_op (schema_operation l.op) (slot_tables old l.fn.slots.items);
  still : (old : List TableRecords) → AreSlots old l.fn.slots.items → AreSlots old (l.now.items ++ reverse l.slots.items);
}

abbrev pub decreases-loop-slot : goal.decreases-loop-slot
decreases-loop-slot l = vec_len l.slots
