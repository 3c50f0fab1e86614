use Rattle.db_model.proofs.Forests.{more_different, other_than_before, all_different}
use Rattle.db_model.proofs.setting.are_different.Goals as goal

pub returns-then-not-is_other_than : goal.returns-then-not-is_other_than
returns-then-not-is_other_than c =
    (λ no. absurd cc, λ all. let yes = c.is_other_than.ensures.1 (other_than_before _ _ _ c.loop-i-test.true c.index-terms-i.is all) in cc)

pub loop-i-preserved : goal.loop-i-preserved
loop-i-preserved c =
    more_different _ _ _ c.loop-i-test.true c.index-terms-i.is c.loop-i.invariant (c.is_other_than.ensures.0 c.if-not-is_other_than.false)

pub returns : goal.returns
returns c = (λ yes. all_different _ _ c.loop-i-test.false c.loop-i.invariant, λ all. cc)
