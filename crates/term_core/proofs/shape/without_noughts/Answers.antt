use Rattle.std.proofs.Common.{arith, sym, ◌∙◌}
use Rattle.term_core.proofs.Trims.{trimmed-shorter, trimmed-whole}
use Rattle.term_core.proofs.shape.without_noughts.Goals as goal
use Rattle.term_core.proofs.shape.without_noughts.Goals.{then-loop-count-test+else-bytes-count-eq0, else-loop-count-test}

pub loop-count-preserved : goal.loop-count-preserved
loop-count-preserved c =
    (omega (arith, c.loop-count.invariant.0), trimmed-shorter c.args.bytes.now c.loop-count.count c.loop-count-test.true c.loop-count.invariant.0 c.if-bytes-count-eq0.true ∙ c.loop-count.invariant.1)

pub returns-clause-bytes : goal.returns-clause-bytes
returns-clause-bytes c =
    sym (trimmed-whole c.args.bytes.now c.loop-count.count c.loop-count.invariant.0 (λ some. elim c.loop-count-test.branch [
      | then-loop-count-test+else-bytes-count-eq0 w ↦ w.if-bytes-count-eq0.false
      | else-loop-count-test w ↦ absurd (omega (arith, some, w.loop-count-test.false))
    ])) ∙ c.loop-count.invariant.1
