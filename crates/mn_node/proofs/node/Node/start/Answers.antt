use Rattle.std.proofs.Common.{[], Err, ap, refl}
use Rattle.mn_node.specs.Inside.Loads.{start_answer, up_node, down_node}
use Rattle.mn_node.specs.Machine.{start}
use Rattle.mn_node.specs.Seen as seen
use Rattle.mn_node.proofs.NodeOwes.{booted_owes, remain_owes}
use Rattle.mn_node.proofs.NodeStarts.{start_done, start_failed}
use Rattle.mn_node.proofs.NodeSteps.{steps_at}
use Rattle.mn_node.proofs.node.Node.start.Goals as goal

pub returns-in-Ok : goal.returns-in-Ok
returns-in-Ok g c =
    let before = g.D.Disk.past c.args.disk.now in
    let now = g.D.Disk.past c.start.new.disk in
    let node = c.args.self.now in
    let live = c.in-Ok.live in
    let did = c.in-Ok.ensures in
    let told_now = seen.answer c.boot.result in
    let boot = c.boot.ensures in
    record {
      steps = λ told first old shown. steps_at first before now old start _ told_now node _ (up_node live) refl boot.node
          (start_done first before now node old c.requires.whole c.in_default.not-Up shown live told_now
          (λ none. ap seen.answer (boot.first none)) (λ base is. ap seen.answer (boot.later base is))
          did.pends (did.started told) (did.any_moment told) (did.sound told) (did.touches told) (did.meaning told));
      owes = booted_owes g.D.Disk.tells _ _ _ before now node live c.boot.result _ boot.node boot.first boot.later did.calls.later
          (did.calls.answered (λ name is. absurd (cc is))) did.touches did.log did.few ([], did.pends);
    }

pub returns-in-Err : goal.returns-in-Err
returns-in-Err g c =
    let before = g.D.Disk.past c.args.disk.now in
    let now = g.D.Disk.past c.start.new.disk in
    let node = c.args.self.now in
    let error = c.in-Err.error in
    let did = c.in-Err.ensures in
    let left = c.remain.ensures in
    record {
      steps = λ told first old shown. steps_at first before now old start _ (start_answer error) node _ (down_node node error) left.reply
          left.node (start_failed first before now node old c.requires.whole c.in_default.not-Up shown error
          (did.failed told) (did.any_moment told) (did.sound told) (did.touches told) (λ name at is. did.damaged told name at (ap Err is))
          (did.meaning told) (did.kept told) (λ name is. did.named name (ap Err is)));
      owes = remain_owes g.D.Disk.tells _ _ _ before now node did.touches error _ _ left.reply left.node did.calls;
    }
