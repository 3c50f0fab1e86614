use Rattle.std.proofs.Common.{sym, refl, ap, ◌∙◌, ◌++◌, take, List}
use Rattle.term_core.specs.View.{tree_of}
use Rattle.term_core.specs.declared.term.Term.{Term}
use Rattle.ram_table.specs.Inside.Rows.{key_cmp}
use Rattle.ram_table.proofs.Increasing.{key_monotone}
use Rattle.ram_table.proofs.InPage.{others_are, drop_sum}
use Rattle.ram_table.proofs.page.Page.delete_key.Goals as goal

pub returns-clause-without : goal.returns-clause-without
returns-clause-without c =
    let from = rw c.rows-rows.ensures at c.key_start-start.ensures in
    let rest = rw c.rows-rows.ensures at c.split_at.ensures.back in
    let to = rw rest at c.key_end-count.ensures in
    let gone = c.drop.ensures.items in
    let kept = c.drain.ensures.kept in
    let is = others_are c.requires.ordered.0 (key_cmp (tree_of c.args.key.now)) (key_monotone c.requires.ordered.0 (tree_of c.args.key.now))
    c.args.self.now c.key_start-start.result c.key_end-count.result c.requires.ordered.1 from to in
    gone ∙ kept ∙ rw c.self.view_is (ap (λ (t : List Term). take c.key_start-start.result c.args.self.now ++ t)
    (drop_sum c.key_start-start.result c.key_end-count.result _ c.args.self.now refl)) ∙ sym is
