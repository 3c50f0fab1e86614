use Rattle.std.proofs.Common.{◌≡◌, true, false, refl, sym, ap, ◌∙◌}
use Rattle.file_trait.proofs.Moments.{none_done}
use Rattle.disk_logs.specs.Logs.{Handle, file_of}
use Rattle.disk_logs.proofs.Appends.{set_touches}
use Rattle.disk_logs.proofs.Handles.{stands_safe, closes_kept, closes_moments, closes_sound, closes_durable, closes_stands}
use Rattle.disk_logs.specs.Errors.{OnlyFile, OnlyFileOrMemory}
use Rattle.disk_logs.proofs.Calls.{then_calls}
use Rattle.disk_logs.proofs.log.Log.close.Goals as goal

pub returns-then-self-clause-any_moment : goal.returns-then-self-clause-any_moment
returns-then-self-clause-any_moment g c items synced told stands =
    none_done _ _ _ refl (stands_safe _ c.args.self.now items synced stands).0

pub returns-then-self-clause-sound : goal.returns-then-self-clause-sound
returns-then-self-clause-sound g c items synced told stands = none_done _ _ _ refl (stands_safe _ c.args.self.now items synced stands).1

pub returns-clause-stands : goal.returns-clause-stands
returns-clause-stands g c items synced told stands =
    let was : c.args.self.now.closed ≡ false = sym (ap (λ (h : Handle). h.closed) c.self.view_is) ∙ c.if-self.false in
    closes_stands c.args.self.now c.sync.new.self items synced _ _ _ c.sync.ensures.log was stands
    (c.in_ok-sync.ensures.stands items synced told stands) c.set_mark.result (c.set_mark.ensures.done told)
    (c.in_ok-sync.ensures.durable items synced told stands was) _ c.set_mark.ensures.log

pub returns-clause-durable : goal.returns-clause-durable
returns-clause-durable g c items synced told stands was =
    closes_durable c.args.self.now c.sync.new.self items synced _ _ _ c.sync.ensures.log was stands
    (c.in_ok-sync.ensures.stands items synced told stands) c.set_mark.result (c.set_mark.ensures.done told)
    (c.in_ok-sync.ensures.durable items synced told stands was)

pub returns-clause-kept : goal.returns-clause-kept
returns-clause-kept g c items synced told stands wanted =
    closes_kept c.args.self.now c.sync.new.self items synced _ _ _ c.sync.ensures.log
    (sym (ap (λ (h : Handle). h.closed) c.self.view_is) ∙ c.if-self.false) stands
    (c.in_ok-sync.ensures.stands items synced told stands) c.set_mark.result (c.set_mark.ensures.done told) _
    (c.set_mark.ensures.wanted wanted) wanted

pub returns-clause-any_moment : goal.returns-clause-any_moment
returns-clause-any_moment g c items synced told stands =
    let was : c.args.self.now.closed ≡ false = sym (ap (λ (h : Handle). h.closed) c.self.view_is) ∙ c.if-self.false in
    closes_moments c.args.self.now c.sync.new.self items synced _ _ _ c.sync.ensures.log was stands
    (c.in_ok-sync.ensures.stands items synced told stands) c.set_mark.result (c.set_mark.ensures.done told)
    (c.in_ok-sync.ensures.durable items synced told stands was) (c.sync.ensures.any_moment items synced told stands)

pub returns-clause-sound : goal.returns-clause-sound
returns-clause-sound g c items synced told stands =
    let was : c.args.self.now.closed ≡ false = sym (ap (λ (h : Handle). h.closed) c.self.view_is) ∙ c.if-self.false in
    closes_sound c.args.self.now c.sync.new.self items synced _ _ _ c.sync.ensures.log was stands
    (c.in_ok-sync.ensures.stands items synced told stands) c.set_mark.result (c.set_mark.ensures.done told)
    (c.in_ok-sync.ensures.durable items synced told stands was) (c.sync.ensures.sound items synced told stands)

pub returns-clause-calls : goal.returns-clause-calls
returns-clause-calls g c =
    let same = ap file_of c.sync.ensures.log in
    then_calls g.D.Disk (λ n. n ≡ file_of c.args.self.now) _ _ _ OnlyFile OnlyFileOrMemory c.sync.result _ c.set_mark.result
    c.in_ok-sync.was c.sync.ensures.calls (record {
      touches = λ told. set_touches _ (file_of c.sync.new.self) true c.set_mark.result _ _ same (c.set_mark.ensures.done told);
      time = c.set_mark.ensures.time;
      named = λ name is. c.set_mark.ensures.named name is ∙ same;
      only = c.set_mark.ensures.only;
      cause = c.set_mark.ensures.cause;
    })
