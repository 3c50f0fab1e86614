use Rattle.std.proofs.Common.{sym, subst}
use Rattle.mn_node.specs.Seen.{answer}
use Rattle.mn_node.specs.Shown.{IsWhole}
use Rattle.mn_node.specs.declared.node.Node.{Node}
use Rattle.mn_run.specs.Seen as seen
use Rattle.mn_run.proofs.RunServes.{served, whole_on}
use Rattle.mn_run.proofs.session.Session.serve.Goals as goal

pub returns-clause-served : goal.returns-clause-served
returns-clause-served g c told first machine shown =
    served first machine (g.D.Disk.past c.args.disk.now) (g.D.Disk.faults c.args.disk.now) c.args.self.now c.tell.new.self
    c.answer-reply.new.node c.tell.ensures.node
    (g.D.Disk.past c.answer-reply.new.disk) (g.D.Disk.faults c.answer-reply.new.disk) c.answer-reply.ensures.owes.calls.later c.args.done
    c.mark_now-mark.result (c.mark_now-mark.ensures told)
    (answer c.answer-reply.result) c.answer-reply.ensures.owes.calls.rose c.answer-reply.ensures.owes.calls.answered (seen.event c.args.line)
    (c.answer-reply.ensures.steps told first machine shown) c.tell.result c.tell.ensures.told

pub returns-clause-whole : goal.returns-clause-whole
returns-clause-whole g c =
    whole_on (answer c.answer-reply.result) c.mark_now-mark.result c.tell.result c.args.self.now.text.items c.tell.new.self.text.items
    c.args.self.now.marks.items c.tell.new.self.marks.items c.tell.new.self.node.state c.tell.ensures.told
    (λ sound. subst (λ (n : Node). IsWhole n.state) (sym c.tell.ensures.node) (c.answer-reply.ensures.owes.whole sound))
