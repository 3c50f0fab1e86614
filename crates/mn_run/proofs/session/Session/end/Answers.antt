use Rattle.std.proofs.Common.{◌∙◌, ap}
use Rattle.mn_node.specs.Seen as seen
use Rattle.mn_run.specs.declared.outcome.Status.TheVariants.{Done, DiskFault}
use Rattle.mn_run.specs.declared.session.Session.{Session}
use Rattle.mn_run.proofs.RunServes.{is_marked, ended_stopped, ended_fault, ended_down, ended_wanting, wants_reply}
use Rattle.mn_run.proofs.session.Session.end.Goals as goal
use Rattle.mn_run.proofs.session.Session.end.Goals.{in-Stopped, in-Fault, in-Down, in_default}

pub returns-clause-ended : goal.returns-clause-ended
returns-clause-ended g c told first machine shown =
    let past = g.D.Disk.past c.args.disk.now in
    let faults = g.D.Disk.faults c.args.disk.now in
    let now = g.D.Disk.past c.end-reply.new.disk in
    let faults_now = g.D.Disk.faults c.end-reply.new.disk in
    let owes = c.end-reply.ensures.owes in
    let mark = c.mark_now-mark.result in
    let is = c.mark_now-mark.ensures told in
    let answer = seen.answer c.end-reply.result in
    let steps = c.end-reply.ensures.steps told first machine shown in
    let session = c.args.self.now in
    let new = c.match-reply.self in
    let node = c.end-reply.new.self in
    let end = c.match-reply.result in
    elim c.match-reply.branch [
      | in-Stopped w ↦ ended_stopped first machine past faults session new node
          (ap (λ (s : Session). s.node) w.self-is ∙ w.marked.ensures.node) now faults_now owes.calls.later c.args.done mark is answer
          owes.calls.rose owes.calls.answered
          steps end (ap seen.answer w.in-Stopped.is)
          (is_marked mark end w.marked.result Done session.marks.items new.marks.items w.marked.new.self.marks.items w.result-is
          (ap (λ (s : Session). s.marks.items) w.self-is) w.marked.ensures.ok)
      | in-Fault w ↦ ended_fault first machine past faults session new node
          (ap (λ (s : Session). s.node) w.self-is ∙ w.marked-in-Fault.ensures.node) now faults_now owes.calls.later c.args.done mark is
          answer owes.calls.rose owes.calls.answered
          steps end w.in-Fault.field-0 (ap seen.answer w.in-Fault.is)
          (is_marked mark end w.marked-in-Fault.result DiskFault session.marks.items new.marks.items w.marked-in-Fault.new.self.marks.items
          w.result-is (ap (λ (s : Session). s.marks.items) w.self-is) w.marked-in-Fault.ensures.ok)
      | in-Down w ↦ ended_down first machine past faults session new node
          (ap (λ (s : Session). s.node) w.self-is) now faults_now owes.calls.later c.args.done mark is answer owes.calls.rose owes.calls.answered
          steps end (ap seen.answer w.in-Down.is) (w.result-is ∙ w.why_down.ensures) (ap (λ (s : Session). s.marks.items) w.self-is)
      | in_default w ↦ ended_wanting first machine past faults session new node
          (ap (λ (s : Session). s.node) w.self-is) now faults_now owes.calls.later c.args.done mark is answer owes.calls.rose owes.calls.answered
          steps end w.result-is (wants_reply c.end-reply.result _ w.in_default.not-Down)
          (ap (λ (s : Session). s.marks.items) w.self-is)
    ]
