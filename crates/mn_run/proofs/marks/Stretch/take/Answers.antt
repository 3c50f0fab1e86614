use Rattle.std.proofs.Common.{sym, refl, ◌∙◌}
use Rattle.mn_run.proofs.Stretches.{one_more}
use Rattle.mn_run.proofs.marks.Stretch.take.Goals as goal

pub returns-in-Some-mark_behind : goal.returns-in-Some-mark_behind
returns-in-Some-mark_behind c =
    one_more c.self.inside.first c.self.inside.step c.self.inside.count c.in-Some.count c.args.self.now c.args.mark c.self.view_is
    c.in-Some.ensures.1 (sym c.in-Some-mark_behind.ensures.some ∙ c.if-are_same.ensures refl)
