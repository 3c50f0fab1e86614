use Rattle.std.proofs.Common.{◌≡◌}
use Rattle.db_model.specs.Database.{with_op, do_op}
use Rattle.db_model.specs.Ops.{table_of}
use Rattle.db_model.specs.View.{operation}
use Rattle.db_state.specs.Live.{with_contents}
use Rattle.db_state.specs.Inside.Parts.{contents_after, AreFor}
use Rattle.db_state.specs.Inside.Sources.{tables_in}
use Rattle.db_state.proofs.Planned.{change_from}
use Rattle.db_state.proofs.ops.plan_op.Given as goal

abbrev pub invariant-loop-i : goal.invariant-loop-i
invariant-loop-i l = record {
  planned : change_from l.i (table_of (operation l.op)) (with_op (operation l.op))
      (with_contents l.defs (contents_after 0 l.parts.items (tables_in l.tables l.new)))
      ≡ do_op (operation l.op) (with_contents l.defs (contents_after 0 l.fn.parts.items (tables_in l.tables l.new)));
  made_for : AreFor (tables_in l.tables l.new) l.parts.items;
}
