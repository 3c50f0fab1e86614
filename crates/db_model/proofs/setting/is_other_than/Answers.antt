use Rattle.term_core.specs.View.{tree_of}
use Rattle.term_core.specs.declared.term.Term.{Term}
use Rattle.db_model.specs.Definitions.{Differ}
use Rattle.db_model.proofs.Forests.{more_all, all_done, all_at}
use Rattle.db_model.proofs.setting.is_other_than.Goals as goal

pub returns-then-eq : goal.returns-then-eq
returns-then-eq c = (
  λ no. absurd cc,
  λ all. absurd (all_at (λ (other : Term). Differ (tree_of other) (tree_of c.args.term.now)) _ _ _
      c.loop-other-test.true c.other-item.is all (c.eq.ensures.same.0 c.if-eq.true)),
)

pub loop-other-preserved : goal.loop-other-preserved
loop-other-preserved c =
    more_all (λ (other : Term). Differ (tree_of other) (tree_of c.args.term.now)) _ _ _ c.loop-other-test.true c.other-item.is
    c.loop-other.invariant
    (λ same. let yes = c.eq.ensures.same.1 same in absurd cc)

pub returns : goal.returns
returns c = (
  λ yes. all_done (λ (other : Term). Differ (tree_of other) (tree_of c.args.term.now)) _ _ c.loop-other-test.false
      c.loop-other.invariant,
  λ all. cc,
)
