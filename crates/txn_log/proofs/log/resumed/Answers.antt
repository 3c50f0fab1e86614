use Rattle.std.proofs.Common.{false, Some, length, refl, sym, ap, ◌∙◌}
use Rattle.disk_logs.specs.Logs.{Handle, FileRead}
use Rattle.txn_log.proofs.Acts.{handle_of}
use Rattle.txn_log.proofs.Opening.{was_closed, not_resumed, resumed}
use Rattle.txn_log.proofs.log.resumed.Goals as goal

pub returns-in-Ok-clause-opens : goal.returns-in-Ok-clause-opens
returns-in-Ok-clause-opens g c told =
    let log = c.in-Ok.log in
    let is = c.in-Ok.ensures.log in
    let there = c.requires.read told ∙ ap (λ (read : FileRead). Some read.bytes) (sym c.file.ensures.same) in
    let count = c.len.ensures.len ∙ ap (λ (read : FileRead). length read.items) (sym c.file.ensures.same) in
    let own = ap (λ (l : Handle). l.name) is ∙ c.latest.ensures.value in
    resumed (g.D.Disk.past c.args.disk.now) c.file.result.now c.file.ensures.whole there
    (g.D.Disk.past c.resume.new.disk) c.latest.result c.latest.ensures.value
    (record {
      any_moment = c.in-Ok.ensures.any_moment told;
      sound = c.in-Ok.ensures.sound told;
      touches = c.in-Ok.ensures.calls.touches told;
    })
    (record { commits = c.len.result; closed = log.closed; waits = false }) log refl count
    (handle_of log c.len.result own (ap (λ (l : Handle). l.draft) is)) is
    (c.in-Ok.ensures.items told) (c.in-Ok.ensures.stands told)

pub returns-in-Err-clause-opens : goal.returns-in-Err-clause-opens
returns-in-Err-clause-opens g c told =
    let there = c.requires.read told ∙ ap (λ (read : FileRead). Some read.bytes) (sym c.file.ensures.same) in
    not_resumed (g.D.Disk.past c.args.disk.now) c.file.result.now c.file.ensures.whole there
    (g.D.Disk.past c.resume.new.disk) c.latest.result c.latest.ensures.value
    (record {
      any_moment = c.in-Err.ensures.any_moment told;
      sound = c.in-Err.ensures.sound told;
      touches = c.in-Err.ensures.calls.touches told;
    })
    c.in-Err.error (c.in-Err.ensures.kept told)

pub returns-in-Ok-clause-trusted : goal.returns-in-Ok-clause-trusted
returns-in-Ok-clause-trusted g c items told closed =
    let there = c.requires.read told ∙ ap (λ (read : FileRead). Some read.bytes) (sym c.file.ensures.same) in
    let unopened = was_closed (g.D.Disk.past c.args.disk.now) c.file.result.now c.file.ensures.whole there items closed in
    (refl, (c.in-Ok.ensures.trusted unopened).1)

pub returns-in-Err-clause-trusted : goal.returns-in-Err-clause-trusted
returns-in-Err-clause-trusted g c items told closed =
    let there = c.requires.read told ∙ ap (λ (read : FileRead). Some read.bytes) (sym c.file.ensures.same) in
    let unopened = was_closed (g.D.Disk.past c.args.disk.now) c.file.result.now c.file.ensures.whole there items closed in
    absurd (cc ((c.in-Err.ensures.trusted unopened).0))
