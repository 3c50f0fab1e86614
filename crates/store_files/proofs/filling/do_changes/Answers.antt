use Rattle.std.proofs.Common.{◌++◌, ◌∷◌, [], refl, sym, ◌∙◌}
use Rattle.db_model.specs.Database.{put_op}
use Rattle.db_model.specs.View.{definition, operation}
use Rattle.ram_table.specs.Contents.{contents}
use Rattle.store_files.specs.Tables.{MayChange, dcl_form}
use Rattle.store_files.proofs.FormItems.{allowed, items_more, wrong_at}
use Rattle.store_files.proofs.TableForms.{all_more, other_change, put_ops_more}
use Rattle.store_files.proofs.filling.do_changes.Goals as goal

pub returns-in-None-clause-read : goal.returns-in-None-clause-read
returns-in-None-clause-read c =
    let def = c.args.def.now in
    let table = definition def in
    let loop = c.loop-number in
    let done = loop.invariant.1 in (
      c.dcl_name.ensures.value,
      wrong_at (dcl_form table) c.args.file.now.items def.cookie done.0 loop.number _ done.1 c.content.ensures _ refl
          (other_change table done.0 _ (rw c.in-None.is at c.in_ok-op.ensures)) c.place.ensures,
    )

pub loop-number-preserved : goal.loop-number-preserved
loop-number-preserved c =
    let def = c.args.def.now in
    let table = definition def in
    let form = dcl_form table in
    let loop = c.loop-number in
    let done = loop.invariant.1 in
    let op = operation c.in-Some.op in
    let next = rw c.in-Some.is at c.in_ok-op.ensures in
    let all = all_more (MayChange table) done.0 op (allowed form def.cookie done.0 _ done.1) next.1 in (
      c.do_op.ensures.kind ∙ loop.invariant.0,
      (
        done.0 ++ op ∷ [],
        items_more form c.args.file.now.items def.cookie done.0 loop.number _ done.1 c.content.ensures op next.0 all,
        c.in_ok-do_op-in-Some.ensures.done
            ∙ (λ i. put_op (loop.invariant.0 i) op (done.2 i))
            ∙ sym (put_ops_more def.kind done.0 op (contents c.args.table.now)),
      ),
    )
