use Rattle.std.proofs.Common.{arith}
use Rattle.ram_table.proofs.Cuts.{cut_at_start, cut_at_end, no_cut}
use Rattle.ram_table.proofs.rows.boundary.Goals as goal

pub returns-then-start-gt0-clause-some : goal.returns-then-start-gt0-clause-some
returns-then-start-gt0-clause-some c =
    cut_at_start c.requires.ordered.0 _ _ _ c.index-rows-near.result c.requires.ordered.1 c.requires.within c.key_of-key.ensures
    c.index-rows-near.is _ c.key_start-start.ensures (omega (arith, c.if-start-gt0.true))

pub returns-then-end-rows-clause-some : goal.returns-then-end-rows-clause-some
returns-then-end-rows-clause-some c =
    cut_at_end c.requires.ordered.0 _ _ _ c.index-rows-near.result c.requires.ordered.1 c.requires.within c.key_of-key.ensures
    c.index-rows-near.is _ c.key_end-end.ensures (omega (arith, c.if-end-rows.true))

pub returns-clause-none : goal.returns-clause-none
returns-clause-none c =
    no_cut c.requires.ordered.0 _ _ _ _ c.requires.ordered.1 c.key_start-start.ensures (omega (arith, c.if-start-gt0.false))
    c.key_end-end.ensures (omega (arith, c.if-end-rows.false))
