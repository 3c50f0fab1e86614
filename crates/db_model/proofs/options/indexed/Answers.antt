use Rattle.db_model.proofs.Settings.{none_indexed, one_indexed}
use Rattle.db_model.proofs.options.indexed.Goals as goal

pub loop-position-preserved-in_default : goal.loop-position-preserved-in_default
loop-position-preserved-in_default c =
    none_indexed c.args.def.now.attributes c.loop-position.found c.as_slice-position-items.result.now c.loop-position.position-index _ _
    c.loop-position-test.true
    c.saturating_sub.ensures c.get.ensures.value c.in_default.is c.loop-position.invariant

pub loop-position-preserved : goal.loop-position-preserved
loop-position-preserved c =
    one_indexed c.args.def.now.attributes c.loop-position.found c.push.new.self c.as_slice-position-items.result.now
    c.loop-position.position-index _ _ _ _ c.loop-position-test.true
    c.saturating_sub.ensures c.get.ensures.value c.in-Some.is c.loop-position.invariant c.in_ok-copied_term.ensures c.in_ok-push.ensures.ok
