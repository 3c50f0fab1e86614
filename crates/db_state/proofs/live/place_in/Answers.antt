use Rattle.std.proofs.Common.{sym, ◌∙◌}
use Rattle.db_state.specs.Live.{is_named}
use Rattle.db_state.proofs.Places.{passed, hit, missed}
use Rattle.db_state.proofs.live.place_in.Goals as goal

pub loop-i-preserved : goal.loop-i-preserved
loop-i-preserved c =
    passed (is_named c.args.name.now) c.args.defs.now c.loop-i.i c.index-defs-i.result _ c.loop-i-test.true c.index-defs-i.is
    (sym c.eq.ensures.by_order ∙ c.if-eq.false) c.loop-i.invariant

pub returns-then-eq : goal.returns-then-eq
returns-then-eq c =
    hit (is_named c.args.name.now) c.args.defs.now c.loop-i.i c.index-defs-i.result _ c.loop-i-test.true c.index-defs-i.is
    (sym c.eq.ensures.by_order ∙ c.if-eq.true) c.loop-i.invariant

pub returns : goal.returns
returns c = missed (is_named c.args.name.now) c.args.defs.now c.loop-i.i _ c.loop-i-test.false c.loop-i.invariant
