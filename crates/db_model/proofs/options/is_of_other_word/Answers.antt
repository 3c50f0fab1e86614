use Rattle.std.proofs.Common.{◌≢◌, sym, ◌∙◌}
use Rattle.db_model.specs.Options.{word_of}
use Rattle.db_model.specs.View.{setting}
use Rattle.db_model.specs.declared.setting.Setting.{Setting}
use Rattle.db_model.proofs.Forests.{more_all, all_done}
use Rattle.db_model.proofs.options.is_of_other_word.Goals as goal

pub loop-other-preserved : goal.loop-other-preserved
loop-other-preserved c =
    more_all (λ (other : Setting). word_of (setting other) ≢ word_of (setting c.args.one.now)) _ _ _ c.loop-other-test.true c.other-item.is
    c.loop-other.invariant
    (λ same. let yes = c.has_word.ensures.1 (same ∙ sym c.word.ensures) in absurd cc)

pub returns : goal.returns
returns c = (
  λ yes. all_done (λ (other : Setting). word_of (setting other) ≢ word_of (setting c.args.one.now)) _ _ c.loop-other-test.false
      c.loop-other.invariant,
  λ all. cc,
)
