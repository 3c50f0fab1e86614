use Rattle.mn_run.proofs.Stretches.{second}
use Rattle.mn_run.proofs.marks.Stretch.take_second.Goals as goal

pub returns-in-Some : goal.returns-in-Some
returns-in-Some c =
    second c.self.inside.first c.in-Some.step c.self.inside.step c.self.inside.count c.args.self.now c.args.mark c.self.view_is
    c.requires c.in-Some.ensures
