use Rattle.mn_node.specs.Seen as seen
use Rattle.mn_node.proofs.NodeStarts.{end_steps}
use Rattle.mn_node.proofs.node.Node.end.Goals as goal

pub returns-clause-steps : goal.returns-clause-steps
returns-clause-steps g c told first old shown =
    let before = g.D.Disk.past c.args.disk.now in
    let now = g.D.Disk.past c.answer.new.disk in
    end_steps first before now old (seen.answer c.answer.result) c.args.self.now c.answer.new.self
    (c.answer.ensures.steps told first old shown)
