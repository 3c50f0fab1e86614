use Rattle.std.proofs.Common.{sym, ◌∙◌}
use Rattle.ram_table.proofs.InPage.{put_hit, put_miss}
use Rattle.ram_table.proofs.page.Page.put.Goals as goal

pub returns-then-found-clause-put : goal.returns-then-found-clause-put
returns-then-found-clause-put c =
    let place = rw c.rows-rows.ensures at c.row_start-at.ensures in
    let stands = rw c.rows-rows.ensures at (sym c.ties_at-found.ensures ∙ c.if-found.true) in
    c.set.ensures ∙ sym (put_hit _ _ _ _ c.requires.increasing place stands)

pub returns-clause-put : goal.returns-clause-put
returns-clause-put c =
    let place = rw c.rows-rows.ensures at c.row_start-at.ensures in
    let stands = rw c.rows-rows.ensures at (sym c.ties_at-found.ensures ∙ c.if-found.false) in
    c.insert.ensures.insert ∙ sym (put_miss _ _ _ _ c.requires.increasing place stands)
