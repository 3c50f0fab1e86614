use Rattle.std.proofs.Common.{◌≡◌, true, ap, ◌∙◌, length}
use Rattle.txn_log.specs.Logs.{LogState, handle}
use Rattle.disk_logs.specs.Logs.{Handle}
use Rattle.disk_logs.specs.Errors.{OnlyFile}
use Rattle.txn_log.proofs.Acts.{any_ok, held_at, handle_same, same_moments, log_sound, sync_fails, when_synced}
use Rattle.txn_log.proofs.Held.{waits_nothing, latest_calls, same_state, state_of, either_reads, call_moments, call_sound, call_reads, call_synced}
use Rattle.txn_log.proofs.log.TxnLog.sync.Given.{Over}
use Rattle.txn_log.proofs.log.TxnLog.sync.Goals as goal

pub returns-clause-stands : goal.returns-clause-stands
returns-clause-stands g c commits synced told stands =
    let at = held_at c.args.self.now (c.self.invariant ∙ ap handle c.self.view_is) stands.made in
    when_synced (g.D.Disk.past c.args.disk.now)
    (g.D.Disk.past c.sync.new.disk) c.self.inside.log c.sync.new.self c.args.self.now commits synced at stands c.sync.result _
    (ap (λ (l : LogState). l.waits) c.self.view_is ∙ stands.made)
    (any_ok c.sync.result (handle_same c.self.inside.log c.sync.new.self c.args.self.now c.self.inside.commits at c.sync.ensures.log))
    (ap (λ (l : LogState). l.commits) c.self.view_is) (λ all least before. c.sync.ensures.stands all least told before)

pub returns-clause-left : goal.returns-clause-left
returns-clause-left g c commits synced told stands =
    sync_fails (g.D.Disk.past c.args.disk.now)
    (g.D.Disk.past c.sync.new.disk) c.self.inside.log c.sync.new.self c.args.self.now commits synced
    (held_at c.args.self.now (c.self.invariant ∙ ap handle c.self.view_is) stands.made) stands c.sync.result
    (c.sync.ensures.same told)

pub returns-clause-any_moment : goal.returns-clause-any_moment
returns-clause-any_moment g c commits synced told stands =
    same_moments (g.D.Disk.past c.args.disk.now)
    (g.D.Disk.past c.sync.new.disk) c.self.inside.log c.sync.new.self c.args.self.now commits synced
    (held_at c.args.self.now (c.self.invariant ∙ ap handle c.self.view_is) stands.made) stands
    (λ all least before. c.sync.ensures.any_moment all least told before)

pub returns-clause-sound : goal.returns-clause-sound
returns-clause-sound g c commits synced told stands =
    log_sound (g.D.Disk.past c.args.disk.now)
    (g.D.Disk.past c.sync.new.disk) c.self.inside.log c.sync.new.self c.args.self.now commits synced
    (held_at c.args.self.now (c.self.invariant ∙ ap handle c.self.view_is) stands.made) stands
    (λ all least before. c.sync.ensures.sound all least told before)

pub returns-clause-calls : goal.returns-clause-calls
returns-clause-calls g c =
    latest_calls g.D.Disk _ _ c.self.inside.log c.args.self.now OnlyFile c.sync.result (c.self.invariant ∙ ap handle c.self.view_is)
    c.sync.ensures.nothing c.sync.ensures.calls

-- nothing is done to a log that waits for its file
untouched : (g : Over) (c : goal.After-sync g) → c.args.self.now.waits ≡ true →
    (g.D.Disk.past c.sync.new.disk ≡ g.D.Disk.past c.args.disk.now)
    × (state_of c.self.inside.commits c.self.inside.waits c.sync.new.self ≡ c.args.self.now)
untouched g c waits = (
  ap g.D.Disk.past
      (waits_nothing c.self.inside.log c.args.self.now _ (c.self.invariant ∙ ap handle c.self.view_is) c.sync.ensures.nothing waits).1,
  same_state c.self.inside.commits c.self.inside.waits c.self.inside.log c.sync.new.self c.args.self.now
      (ap (λ (l : Handle). l.closed) c.sync.ensures.log) c.self.view_is,
)

pub returns-clause-logs_stand : goal.returns-clause-logs_stand
returns-clause-logs_stand g c before after synced told logs =
    call_synced logs ((returns-clause-calls g c).touches told) (untouched g c) c.sync.result
    (returns-clause-stands g c after synced told)

pub returns-clause-logs_left : goal.returns-clause-logs_left
returns-clause-logs_left g c before after synced told logs =
    call_reads logs ((returns-clause-calls g c).touches told) (untouched g c)
    (λ stands. either_reads (g.D.Disk.past c.sync.new.disk) _ after (length after) c.sync.result
    (returns-clause-stands g c after synced told stands) (returns-clause-left g c after synced told stands))

pub returns-clause-logs_moments : goal.returns-clause-logs_moments
returns-clause-logs_moments g c before after synced told logs =
    call_moments logs ((returns-clause-calls g c).touches told) (untouched g c)
    (returns-clause-any_moment g c after synced told)

pub returns-clause-logs_sound : goal.returns-clause-logs_sound
returns-clause-logs_sound g c before after synced told logs =
    call_sound logs ((returns-clause-calls g c).touches told) (untouched g c)
    (returns-clause-sound g c after synced told)
