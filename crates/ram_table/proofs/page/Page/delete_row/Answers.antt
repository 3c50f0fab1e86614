use Rattle.std.proofs.Common.{sym, ◌∙◌}
use Rattle.ram_table.proofs.InPage.{row_hit, row_miss}
use Rattle.ram_table.proofs.page.Page.delete_row.Goals as goal

pub returns-then-found-clause-without : goal.returns-then-found-clause-without
returns-then-found-clause-without c =
    let place = rw c.rows-rows.ensures at c.row_start-at.ensures in
    let stands = rw c.rows-rows.ensures at (sym c.same_at-found.ensures ∙ c.if-found.true) in
    c.remove.ensures ∙ sym (row_hit _ _ _ _ c.requires.increasing place stands)

pub returns-else-found-clause-without : goal.returns-else-found-clause-without
returns-else-found-clause-without c =
    let place = rw c.rows-rows.ensures at c.row_start-at.ensures in
    let stands = rw c.rows-rows.ensures at (sym c.same_at-found.ensures ∙ c.if-found.false) in
    sym (row_miss _ _ _ _ c.requires.increasing place stands)
