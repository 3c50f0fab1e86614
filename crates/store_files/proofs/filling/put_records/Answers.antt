use Rattle.std.proofs.Common.{◌+◌, ◌++◌, ◌∷◌, [], take, refl, sym, ap, ◌∙◌, subst}
use Rattle.term_core.specs.View.{tree_of}
use Rattle.db_model.specs.View.{definition}
use Rattle.ram_table.specs.Contents.{contents}
use Rattle.store_files.specs.Forms.{AreItemsOf}
use Rattle.store_files.specs.Tables.{dcd_form}
use Rattle.store_files.specs.Inside.Reading.{IsLast}
use Rattle.store_files.proofs.FormItems.{allowed, items_more, wrong_at}
use Rattle.store_files.proofs.TableForms.{last_fits, fit_keyed, put_last}
use Rattle.store_files.proofs.filling.put_records.Goals as goal

pub put_row-requires : goal.put_row-requires
put_row-requires c =
    let table = definition c.args.def.now in
    let loop = c.loop-number in
    let rows = contents loop.table in
    let are = allowed (dcd_form table) c.args.def.now.cookie rows _ loop.invariant.1 in
    let last = subst (IsLast rows) (sym c.as_ref.ensures.value) loop.invariant.2 in
    let next = rw c.in-Some.is at (c.in_ok-row.ensures rows are last) in
    fit_keyed table (tree_of c.in-Some.row) c.requires.defined (last_fits table rows (tree_of c.in-Some.row) next.1)

pub returns-in-None-clause-read : goal.returns-in-None-clause-read
returns-in-None-clause-read c =
    let def = c.args.def.now in
    let form = dcd_form (definition def) in
    let loop = c.loop-number in
    let rows = contents loop.table in
    let are = allowed form def.cookie rows _ loop.invariant.1 in
    let last = subst (IsLast rows) (sym c.as_ref.ensures.value) loop.invariant.2 in (
      c.dcd_name.ensures.value,
      wrong_at form c.args.file.now.items def.cookie rows loop.number _ loop.invariant.1 c.content.ensures _ refl
          (rw c.in-None.is at (c.in_ok-row.ensures rows are last)) c.place.ensures,
    )

pub loop-number-preserved : goal.loop-number-preserved
loop-number-preserved c =
    let def = c.args.def.now in
    let form = dcd_form (definition def) in
    let loop = c.loop-number in
    let rows = contents loop.table in
    let row = tree_of c.in-Some.row in
    let items = c.args.file.now.items in
    let are = allowed form def.cookie rows _ loop.invariant.1 in
    let last = subst (IsLast rows) (sym c.as_ref.ensures.value) loop.invariant.2 in
    let next = rw c.in-Some.is at (c.in_ok-row.ensures rows are last) in
    let more = items_more form items def.cookie rows loop.number _ loop.invariant.1 c.content.ensures row next.0 next.1 in
    let put = put_last (definition def) loop.table.kind rows (contents c.put_row.new.table) row loop.invariant.0 next.1
    c.in_ok-put_row-in-Some.ensures.done in (
      c.put_row.ensures.kind ∙ loop.invariant.0,
      subst (λ rs. AreItemsOf form def.cookie rs (take (loop.number + 1) items)) (sym put) more,
      record { front = rows; is = put ∙ ap (λ t. rows ++ t ∷ []) (sym c.in_ok-put_row-in-Some.ensures.same) },
    )
