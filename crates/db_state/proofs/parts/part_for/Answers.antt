use Rattle.std.proofs.lemmas.Bool.{eq-eqb}
use Rattle.db_state.specs.Inside.Parts.{is_for}
use Rattle.db_state.proofs.Places.{passed, hit, missed}
use Rattle.db_state.proofs.PartLists.{not_for}
use Rattle.db_state.proofs.parts.part_for.Goals as goal

pub loop-i-preserved : goal.loop-i-preserved
loop-i-preserved c =
    passed (is_for c.args.place) c.args.parts.now c.loop-i.i c.index-parts-i.result _ c.loop-i-test.true c.index-parts-i.is
    (not_for c.args.place c.index-parts-i.result c.if-part-place.false) c.loop-i.invariant

pub returns-then-part-place-clause-place : goal.returns-then-part-place-clause-place
returns-then-part-place-clause-place c =
    hit (is_for c.args.place) c.args.parts.now c.loop-i.i c.index-parts-i.result _ c.loop-i-test.true c.index-parts-i.is
    (eq-eqb c.index-parts-i.result.table c.args.place c.if-part-place.true) c.loop-i.invariant

pub returns-clause-place : goal.returns-clause-place
returns-clause-place c = missed (is_for c.args.place) c.args.parts.now c.loop-i.i _ c.loop-i-test.false c.loop-i.invariant
