use Rattle.std.proofs.Common.{◌≡◌, true, length, OnOk, sym, ap, ◌∙◌, subst}
use Rattle.disk_logs.specs.Errors.{OnlyFileOrMemory}
use Rattle.disk_logs.specs.Logs.{Handle, with_mark}
use Rattle.txn_log.specs.Logs.{LogState, handle}
use Rattle.txn_log.proofs.Acts.{on_ok, held_at, handle_marked, handle_same, same_moments, log_sound, log_durable, close_fails, kept_stands, when_synced}
use Rattle.txn_log.proofs.Held.{waits_closed, latest_calls, same_state, state_of, close_wanted, close_log, either_reads, call_moments, call_sound, call_reads, call_kept, call_synced}
use Rattle.txn_log.proofs.log.TxnLog.close.Given.{Over}
use Rattle.txn_log.proofs.log.TxnLog.close.Goals as goal

pub returns-clause-wanted : goal.returns-clause-wanted
returns-clause-wanted g c told is =
    close_wanted c.close.result (g.D.Disk.past c.args.disk.now) (g.D.Disk.past c.close.new.disk) c.self.inside.log c.close.new.self
    c.args.self.now c.self.inside.commits c.self.inside.waits (ap (λ (l : LogState). l.waits) c.self.view_is)
    (c.self.invariant ∙ ap handle c.self.view_is) (λ closed. (c.close.ensures.nothing closed).0) (c.requires told) is
    c.close.ensures.wanted (λ all. c.close.ensures.closed all told)

pub returns-clause-stands : goal.returns-clause-stands
returns-clause-stands g c commits synced told stands =
    let at = held_at c.args.self.now (c.self.invariant ∙ ap handle c.self.view_is) stands.made in
    when_synced (g.D.Disk.past c.args.disk.now)
    (g.D.Disk.past c.close.new.disk) c.self.inside.log c.close.new.self c.args.self.now commits synced at stands c.close.result _
    (ap (λ (l : LogState). l.waits) c.self.view_is ∙ stands.made)
    (on_ok c.close.result
    (handle_marked c.self.inside.log c.close.new.self c.args.self.now c.self.inside.commits true at) c.close.ensures.log)
    (ap (λ (l : LogState). l.commits) c.self.view_is) (λ all least before. c.close.ensures.stands all least told before)

pub returns-clause-kept : goal.returns-clause-kept
returns-clause-kept g c commits synced told stands is =
    let at = held_at c.args.self.now (c.self.invariant ∙ ap handle c.self.view_is) stands.made in
    kept_stands (g.D.Disk.past c.args.disk.now)
    (g.D.Disk.past c.close.new.disk) c.self.inside.log c.close.new.self c.args.self.now commits synced at stands _
    (ap (λ (l : LogState). l.waits) c.self.view_is ∙ stands.made)
    (handle_same c.self.inside.log c.close.new.self c.args.self.now c.self.inside.commits at (c.close.ensures.wanted is))
    (ap (λ (l : LogState). l.commits) c.self.view_is) (λ all least before. c.close.ensures.kept all least told before is)

pub returns-clause-left : goal.returns-clause-left
returns-clause-left g c commits synced told stands =
    close_fails (g.D.Disk.past c.args.disk.now)
    (g.D.Disk.past c.close.new.disk) c.self.inside.log c.close.new.self c.args.self.now commits synced
    (held_at c.args.self.now (c.self.invariant ∙ ap handle c.self.view_is) stands.made) stands c.close.result
    (λ all. c.close.ensures.closed all told)

pub returns-clause-any_moment : goal.returns-clause-any_moment
returns-clause-any_moment g c commits synced told stands =
    same_moments (g.D.Disk.past c.args.disk.now)
    (g.D.Disk.past c.close.new.disk) c.self.inside.log c.close.new.self c.args.self.now commits synced
    (held_at c.args.self.now (c.self.invariant ∙ ap handle c.self.view_is) stands.made) stands
    (λ all least before. c.close.ensures.any_moment all least told before)

pub returns-clause-sound : goal.returns-clause-sound
returns-clause-sound g c commits synced told stands =
    log_sound (g.D.Disk.past c.args.disk.now)
    (g.D.Disk.past c.close.new.disk) c.self.inside.log c.close.new.self c.args.self.now commits synced
    (held_at c.args.self.now (c.self.invariant ∙ ap handle c.self.view_is) stands.made) stands
    (λ all least before. c.close.ensures.sound all least told before)

pub returns-clause-durable : goal.returns-clause-durable
returns-clause-durable g c commits synced told stands is_open =
    log_durable (g.D.Disk.past c.args.disk.now)
    (g.D.Disk.past c.close.new.disk) c.self.inside.log c.close.new.self c.args.self.now commits synced
    (held_at c.args.self.now (c.self.invariant ∙ ap handle c.self.view_is) stands.made) stands c.close.result is_open
    (λ all least before still. c.close.ensures.durable all least told before still)

pub returns-clause-calls : goal.returns-clause-calls
returns-clause-calls g c =
    latest_calls g.D.Disk _ _ c.self.inside.log c.args.self.now OnlyFileOrMemory c.close.result
    (c.self.invariant ∙ ap handle c.self.view_is)
    (λ closed published. c.close.ensures.nothing closed) c.close.ensures.calls

-- nothing is done to a log that waits for its file
untouched : (g : Over) (c : goal.After-close g) → c.args.self.now.waits ≡ true →
    (g.D.Disk.past c.close.new.disk ≡ g.D.Disk.past c.args.disk.now)
    × (state_of c.self.inside.commits c.self.inside.waits c.close.new.self ≡ c.args.self.now)
untouched g c waits =
    let closed = ap (λ (l : Handle). l.closed) (waits_closed c.self.inside.log c.args.self.now
    (c.self.invariant ∙ ap handle c.self.view_is) waits) in
    let none = c.close.ensures.nothing closed in
    let marked : c.close.new.self ≡ with_mark true c.self.inside.log =
    subst (λ r. OnOk r (c.close.new.self ≡ with_mark true c.self.inside.log)) none.0 c.close.ensures.log in (
      ap g.D.Disk.past none.1,
      same_state c.self.inside.commits c.self.inside.waits c.self.inside.log c.close.new.self c.args.self.now
          (ap (λ (l : Handle). l.closed) marked ∙ sym closed) c.self.view_is,
    )

pub returns-clause-log : goal.returns-clause-log
returns-clause-log g c told =
    close_log c.close.result (g.D.Disk.past c.args.disk.now) (g.D.Disk.past c.close.new.disk) c.self.inside.log c.close.new.self
    c.args.self.now c.self.inside.commits c.self.inside.waits (ap (λ (l : LogState). l.waits) c.self.view_is)
    (c.self.invariant ∙ ap handle c.self.view_is) (untouched g c) (c.requires told) c.close.ensures.log
    (λ all. c.close.ensures.closed all told)

pub returns-clause-logs_stand : goal.returns-clause-logs_stand
returns-clause-logs_stand g c before after synced told logs =
    call_synced logs ((returns-clause-calls g c).touches told) (untouched g c) c.close.result
    (returns-clause-stands g c after synced told)

pub returns-clause-logs_kept : goal.returns-clause-logs_kept
returns-clause-logs_kept g c before after synced told logs wanted =
    call_kept logs ((returns-clause-calls g c).touches told) (untouched g c)
    (λ stands. returns-clause-kept g c after synced told stands wanted)

pub returns-clause-logs_left : goal.returns-clause-logs_left
returns-clause-logs_left g c before after synced told logs =
    call_reads logs ((returns-clause-calls g c).touches told) (untouched g c)
    (λ stands. either_reads (g.D.Disk.past c.close.new.disk) _ after (length after) c.close.result
    (returns-clause-stands g c after synced told stands) (returns-clause-left g c after synced told stands))

pub returns-clause-logs_moments : goal.returns-clause-logs_moments
returns-clause-logs_moments g c before after synced told logs =
    call_moments logs ((returns-clause-calls g c).touches told) (untouched g c)
    (returns-clause-any_moment g c after synced told)

pub returns-clause-logs_sound : goal.returns-clause-logs_sound
returns-clause-logs_sound g c before after synced told logs =
    call_sound logs ((returns-clause-calls g c).touches told) (untouched g c)
    (returns-clause-sound g c after synced told)
