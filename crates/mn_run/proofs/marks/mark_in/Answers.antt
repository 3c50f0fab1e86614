use Rattle.std.proofs.Common.{◌∙◌, ap, sym, ◌∷◌, drop, ◌+◌, arith}
use Rattle.std.proofs.lemmas.List.{drop_more}
use Rattle.mn_run.proofs.Stretches.{got_here, goes_on}
use Rattle.mn_run.proofs.marks.mark_in.Goals as goal

pub returns-then-left-stretch : goal.returns-then-left-stretch
returns-then-left-stretch c =
    let all = c.args.stretches.now in
    let i = c.loop-stretch.stretch-index in
    let here = c.stretch-item.result in
    let rest = drop_more all i here (omega arith) ∙ ap (λ x. x ∷ drop (i + 1) all) (sym c.stretch-item.is) in
    got_here all c.args.number i c.loop-stretch.left here c.stretch.inside.first c.stretch.inside.step c.stretch.inside.count rest
    c.stretch.view_is c.loop-stretch.invariant c.if-left-stretch.true c.get.result c.get.ensures

pub loop-stretch-preserved : goal.loop-stretch-preserved
loop-stretch-preserved c =
    let all = c.args.stretches.now in
    let i = c.loop-stretch.stretch-index in
    let here = c.stretch-item.result in
    let rest = drop_more all i here (omega arith) ∙ ap (λ x. x ∷ drop (i + 1) all) (sym c.stretch-item.is) in
    goes_on all c.args.number i c.loop-stretch.left here c.stretch.inside.first c.stretch.inside.step c.stretch.inside.count rest
    c.stretch.view_is c.loop-stretch.invariant c.if-left-stretch.false
