use Rattle.std.proofs.Common.{◌≡◌, map, drop}
use Rattle.db_model.specs.Taken.{take_ops}
use Rattle.db_model.specs.View.{operation}
use Rattle.ram_table.specs.Contents.{contents}
use Rattle.db_state.specs.Live.{with_contents}
use Rattle.db_state.specs.Inside.Parts.{contents_after, AreFor}
use Rattle.db_state.specs.Inside.Sources.{tables_in}
use Rattle.db_state.proofs.taking.plan_due_ops.Given as goal

abbrev pub invariant-loop-op : goal.invariant-loop-op
invariant-loop-op l = record {
  planned : take_ops l.version (map operation (drop l.op-index l.op-items))
      (with_contents l.defs (contents_after 0 l.parts.items (tables_in l.tables l.new)))
      ≡ take_ops l.version (map operation l.op-items) (with_contents l.defs (map contents (tables_in l.tables l.new)));
  made_for : AreFor (tables_in l.tables l.new) l.parts.items;
}
