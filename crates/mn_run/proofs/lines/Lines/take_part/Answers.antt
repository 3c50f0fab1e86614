use Rattle.mn_run.proofs.Parts.{part_ended}
use Rattle.mn_run.proofs.lines.Lines.take_part.Goals as goal

pub returns-in_ok-add-in-Some : goal.returns-in_ok-add-in-Some
returns-in_ok-add-in-Some c =
    let i = c.self.inside in
    part_ended i.piece c.args.line.now.items c.add.new.line.items c.args.self.now i.from i.to c.in-Some.n c.self.view_is c.self.invariant.0
    c.self.invariant.1 c.in-Some.ensures c.in_ok-add-in-Some.ensures.0 c.in_ok-add-in-Some.ensures.1
