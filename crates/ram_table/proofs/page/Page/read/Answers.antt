use Rattle.std.proofs.Common.{sym}
use Rattle.term_core.specs.View.{tree_of}
use Rattle.ram_table.specs.Inside.Rows.{key_cmp}
use Rattle.ram_table.proofs.Increasing.{key_monotone}
use Rattle.ram_table.proofs.InPage.{tied_is}
use Rattle.ram_table.proofs.page.Page.read.Goals as goal

pub returns : goal.returns
returns c =
    let from = rw c.rows-rows.ensures at c.key_start-start.ensures in
    let rest = rw c.rows-rows.ensures at c.split_at.ensures.back in
    let to = rw rest at c.key_end-count.ensures in
    rw (c.split_at-2.ensures.front, rest) (sym
    (tied_is c.requires.0 (key_cmp (tree_of c.args.key.now)) (key_monotone c.requires.0 (tree_of c.args.key.now))
    c.args.self.now c.key_start-start.result c.key_end-count.result c.requires.1 from to))
