use Rattle.db_model.proofs.Settings.{ill_term, ill_term_word, more_terms, all_terms}
use Rattle.db_model.proofs.options.settings_of.Goals as goal

pub returns-in_default : goal.returns-in_default
returns-in_default c = ill_term _ _ _ _ c.loop-i.settings c.loop-i-test.true c.index-options-i.is c.loop-i.invariant c.in_ok-setting.ensures
    c.in_default.is

pub returns-then-not-is_of_other_word : goal.returns-then-not-is_of_other_word
returns-then-not-is_of_other_word c =
    ill_term_word _ _ _ _ _ c.loop-i.settings _ _ c.loop-i-test.true c.index-options-i.is c.loop-i.invariant c.in_ok-setting.ensures
    c.in-Some.is c.as_slice.ensures
    c.is_of_other_word.ensures c.if-not-is_of_other_word.true

pub loop-i-preserved : goal.loop-i-preserved
loop-i-preserved c =
    more_terms _ _ _ _ _ c.loop-i.settings _ _ c.loop-i-test.true c.index-options-i.is c.loop-i.invariant c.in_ok-setting.ensures
    c.in-Some.is c.as_slice.ensures
    (c.is_of_other_word.ensures.0 c.if-not-is_of_other_word.false) c.in_ok-push.ensures.ok

pub returns : goal.returns
returns c = all_terms _ _ _ c.loop-i-test.false c.loop-i.invariant
