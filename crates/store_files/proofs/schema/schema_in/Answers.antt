use Rattle.std.proofs.Common.{◌+◌, map, take, sym, ap, ◌∙◌, subst}
use Rattle.std.proofs.lemmas.List.{map-append}
use Rattle.db_model.specs.View.{definition}
use Rattle.store_files.specs.Forms.{AreItemsOf}
use Rattle.store_files.specs.Schema.{schema_form}
use Rattle.store_files.proofs.FormItems.{items_more, wrong_at}
use Rattle.store_files.proofs.schema.schema_in.Goals as goal

pub returns-in-None-clause-tables : goal.returns-in-None-clause-tables
returns-in-None-clause-tables c =
    let found = c.args.found.now in
    let loop = c.loop-number in (
      c.schema_name.ensures.value,
      wrong_at schema_form found.file.items found.number (map definition loop.tables) loop.number _ loop.invariant
          c.content.ensures _ tt (rw c.in-None.is at c.in_ok-table.ensures) c.place.ensures,
    )

pub loop-number-preserved : goal.loop-number-preserved
loop-number-preserved c =
    let found = c.args.found.now in
    let loop = c.loop-number in
    let next = rw c.in-Some.is at c.in_ok-table.ensures in
    let more = items_more schema_form found.file.items found.number (map definition loop.tables) loop.number _ loop.invariant
    c.content.ensures (definition c.in-Some.table) next.0 next.1 in
    let all = ap (map definition) c.in_ok-push-in-Some.ensures.ok ∙ map-append definition loop.tables _ in
    subst (λ ts. AreItemsOf schema_form found.number ts (take (loop.number + 1) found.file.items)) (sym all) more
