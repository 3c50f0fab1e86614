use Rattle.std.proofs.Common.{List, map, sym, ap, ◌∙◌, subst}
use Rattle.std.specs.List.{AllByRecursion as Each}
use Rattle.db_model.specs.Database.{Contents, do_ops}
use Rattle.db_model.specs.View.{operation}
use Rattle.db_model.specs.declared.op.Op.{Op}
use Rattle.ram_table.specs.Contents.{IsKeyed}
use Rattle.db_state.specs.Live.{with_contents}
use Rattle.db_state.specs.Inside.Parts.{contents_after, AreFor}
use Rattle.db_state.specs.Inside.Sources.{tables_in}
use Rattle.db_state.specs.declared.parts.Part.{Part}
use Rattle.db_state.proofs.PartLists.{nothing_planned, nothing_for}
use Rattle.db_state.proofs.OpLists.{keyed_at}
use Rattle.db_state.proofs.ops.plan_ops.Goals as goal

pub loop-op-init : goal.loop-op-init
loop-op-init c =
    let tables = tables_in c.args.tables.now c.args.new.now in
    record {
      planned = ap (λ (rows : List Contents). do_ops (map operation c.as_slice-op-items.result.now) (with_contents c.args.defs.now rows))
          (ap (λ (ps : List Part). contents_after 0 ps tables) c.new-parts.ensures.items ∙ nothing_planned 0 tables);
      made_for = subst (AreFor tables) (sym c.new-parts.ensures.items) (nothing_for tables);
    }

pub plan_op-requires-clause-keyed : goal.plan_op-requires-clause-keyed
plan_op-requires-clause-keyed c =
    keyed_at c.as_slice-op-items.result.now c.loop-op.op-index c.op-item.result c.loop-op-test.true c.op-item.is
    (subst (λ (os : List Op). Each IsKeyed (map operation os)) (sym c.as_slice-op-items.ensures) c.requires.keyed)
