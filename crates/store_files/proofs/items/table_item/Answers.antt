use Rattle.std.proofs.Common.{◌≤◌, sym, subst}
use Rattle.term_core.specs.Tree.{depth}
use Rattle.db_model.specs.View.{definition}
use Rattle.store_files.proofs.Definitions.{table_depth, table_written}
use Rattle.store_files.proofs.items.table_item.Goals as goal

pub term_item-requires : goal.term_item-requires
term_item-requires c = subst (λ t. depth t ≤ 128) (sym c.in_ok-table_term.ensures) (table_depth (definition c.args.def.now) c.requires)

pub returns-clause-item : goal.returns-clause-item
returns-clause-item c =
    let made = c.term_item in
    table_written (λ v. v.items) made.result (definition c.args.def.now) _ c.in_ok-table_term.ensures c.requires
    made.ensures.bytes made.ensures.text made.ensures.fits
