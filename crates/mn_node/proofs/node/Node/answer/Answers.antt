use Rattle.std.proofs.Common.{◌≡◌, Ok, Err, refl, sym, ap, ◌∙◌}
use Rattle.mn_node.specs.Inside.Tries.{durable, failed_answer}
use Rattle.mn_node.specs.Effects.{is_down, is_fault, no_memory, pending_after}
use Rattle.mn_node.specs.Machine.{command}
use Rattle.mn_node.specs.Seen as seen
use Rattle.mn_node.proofs.NodeOwes.{failed_owes, same_owes}
use Rattle.mn_node.proofs.NodeSteps.{settled_steps, failed_steps, down_steps, not_up, up_shows, up_pends, pends_at, tried_at, steps_at, kept_pending, whole_pending}
use Rattle.mn_node.proofs.node.Node.answer.Goals as goal

pub returns-in_default : goal.returns-in_default
returns-in_default g c =
    let past = g.D.Disk.past c.args.disk.now in
    let node = c.args.self.now in
    let asked = seen.asked c.args.command in
    let given = seen.answer c.refused.result in
    let down : given ≡ is_down = ap seen.answer c.refused.ensures in
    record {
      steps = λ told first old shown. steps_at first past past old (command asked) given is_down node node node down refl
          (down_steps first past node old c.requires.whole c.in_default.not-Up shown asked);
      owes = same_owes g.D.Disk.tells _ (g.D.Disk.blamed c.args.disk.now) past node given (ap is_fault down) c.requires.whole
          c.requires.log;
      down = (λ is. not_up node.state c.in_default.not-Up, λ off. down);
      sync = λ is wanted. let wrong : is_down ≡ no_memory = sym down ∙ wanted in absurd (cc wrong);
    }

pub returns-in-Ok-clause-steps : goal.returns-in-Ok-clause-steps
returns-in-Ok-clause-steps g c told first old shown =
    let before = g.D.Disk.past c.args.disk.now in
    let now = g.D.Disk.past c.attempt-tried.new.disk in
    let node = c.args.self.now in
    let up = c.in-Up.is in
    let asked = seen.asked c.args.command in
    let live = c.attempt-tried.new.self in
    let done = c.in-Ok.done in
    let open_shows = up_shows first before now node c.in-Up.live old up shown asked in
    let pends = up_pends first before now node c.in-Up.live old up shown asked in
    let later = pends_at first before now node c.in-Up.live old up shown asked (Ok done) live (c.in-Ok.ensures.pends old.pending pends) in
    let did = c.in-Ok.ensures in
    let tried = tried_at first before now node c.in-Up.live old up shown asked _ live
    (did.tries told _ _ old.pending open_shows pends) in
    steps_at first before now old (command asked) _ (seen.answer done.reply) node _ _ (ap seen.answer c.settle.ensures.reply)
    c.settle.ensures.node (settled_steps first before now node c.in-Up.live old up shown asked live done tried later did.owes.plain)

pub returns-in-Err-clause-steps : goal.returns-in-Err-clause-steps
returns-in-Err-clause-steps g c told first old shown =
    let before = g.D.Disk.past c.args.disk.now in
    let now = g.D.Disk.past c.attempt-tried.new.disk in
    let node = c.args.self.now in
    let up = c.in-Up.is in
    let asked = seen.asked c.args.command in
    let live = c.attempt-tried.new.self in
    let trouble = c.in-Err.trouble in
    let open_shows = up_shows first before now node c.in-Up.live old up shown asked in
    let pends = up_pends first before now node c.in-Up.live old up shown asked in
    let later = pends_at first before now node c.in-Up.live old up shown asked (Err trouble) live
    (c.in-Err.ensures.pends old.pending pends) in
    let tried = tried_at first before now node c.in-Up.live old up shown asked _ live
    (c.in-Err.ensures.tries told _ _ old.pending open_shows pends) in
    steps_at first before now old (command asked) _ (failed_answer trouble) node _ _ c.fail.ensures.reply
    c.fail.ensures.node (failed_steps first before now node c.in-Up.live old up shown asked live trouble tried later)

pub returns-in-Err-clause-owes : goal.returns-in-Err-clause-owes
returns-in-Err-clause-owes g c =
    let past = g.D.Disk.past c.attempt-tried.new.disk in
    let live = c.attempt-tried.new.self in
    let did = c.in-Err.ensures in
    failed_owes g.D.Disk.tells _ _ _ _ past c.args.self.now c.in-Up.live live c.in-Up.is did.owes.few did.owes.touches c.in-Err.trouble _ _
    c.fail.ensures.reply c.fail.ensures.node did.owes.calls did.owes.log
    (kept_pending c.in-Err.trouble c.in-Up.live live (λ pending. pending_after (durable c.in-Up.live) pending (seen.asked c.args.command))
    (whole_pending c.args.self.now.state c.in-Up.live c.in-Up.is c.requires.whole) did.pends)
