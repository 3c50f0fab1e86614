use Rattle.std.proofs.Common.{◌≡◌, ◌⊎◌, inr, true, Some, ap, sym, ◌∙◌, subst}
use Rattle.std.proofs.lemmas.Result.{err_from_is_err_and}
use Rattle.log_items.specs.Items.{log_bytes}
use Rattle.disk_logs.proofs.Effects.{on_err}
use Rattle.disk_logs.proofs.Publishing.{same_error}
use Rattle.disk_logs.proofs.Renewing.{read_closed, read_stands, drafting_has, drafting_touches, drafting_moments, drafting_sound, renewing_has, renewing_reads, renewing_draft, renewing_whole, renewing_wanted, renewing_moments, renewing_sound}
use Rattle.disk_logs.specs.Calls.{LogCalls}
use Rattle.disk_logs.specs.Errors.{OnlyFileOrMemory}
use Rattle.disk_logs.specs.Logs.{Handle, draft_name}
use Rattle.disk_logs.proofs.Calls.{then_calls, done_calls, passed_calls}
use Rattle.disk_logs.proofs.log.Log.resume.Goals as goal

pub returns-then-not-was_open-clause-items : goal.returns-then-not-was_open-clause-items
returns-then-not-was_open-clause-items g c told =
    c.requires.read told ∙ ap (λ b. Some b) (read_closed c.args.read.now (sym c.was_open.ensures.value ∙ c.if-not-was_open.true) c.was_open.ensures.whole)

pub returns-then-not-was_open-clause-stands : goal.returns-then-not-was_open-clause-stands
returns-then-not-was_open-clause-stands g c told =
    read_stands _ _ c.args.read.now (sym c.was_open.ensures.value ∙ c.if-not-was_open.true) c.was_open.ensures.whole (c.requires.read told)

pub returns-in_err-log-clause-kept : goal.returns-in_err-log-clause-kept
returns-in_err-log-clause-kept g c told =
    on_err _ (drafting_has _ _ _ (c.redraft.ensures.touches told) c.args.read.now c.was_open.ensures.whole (c.requires.read told))

pub returns-in_err-log-clause-any_moment : goal.returns-in_err-log-clause-any_moment
returns-in_err-log-clause-any_moment g c told settled =
    drafting_moments _ _ _ (c.redraft.ensures.touches told) c.args.read.now.items settled

pub returns-in_err-log-clause-sound : goal.returns-in_err-log-clause-sound
returns-in_err-log-clause-sound g c told =
    drafting_sound _ _ _ (c.redraft.ensures.touches told)

pub returns-in_err-publish-clause-kept : goal.returns-in_err-publish-clause-kept
returns-in_err-publish-clause-kept g c told =
    on_err _ (renewing_has _ _ _ (c.redraft.ensures.touches told) (g.D.Disk.past c.publish.new.disk) _ c.in_ok-log.ensures.log c.args.read.now c.was_open.ensures.whole (c.requires.read told) (c.in_ok-log.ensures.made told) (c.in_err-publish.ensures.left told))

pub returns-in_err-publish-clause-wanted : goal.returns-in_err-publish-clause-wanted
returns-in_err-publish-clause-wanted g c told wanted =
    let p = err_from_is_err_and c.from_residual-in_err-publish.result c.from_residual-in_err-publish.ensures.1 in
    renewing_wanted _ _ _ (c.redraft.ensures.touches told) (g.D.Disk.past c.publish.new.disk) _ c.in_ok-log.ensures.log (c.publish.ensures.wanted told (same_error _ _ _ _ _ p.1 p.2 c.in_err-publish.was wanted))

pub returns-in_err-publish-clause-any_moment : goal.returns-in_err-publish-clause-any_moment
returns-in_err-publish-clause-any_moment g c told settled =
    renewing_moments _ _ _ (c.redraft.ensures.touches told) (g.D.Disk.past c.publish.new.disk) _ c.in_ok-log.ensures.log c.args.read.now.items c.was_open.ensures.whole.fit settled
    (c.publish.ensures.any_moment (log_bytes true c.args.read.now.items) told (renewing_whole _ _ _ (c.redraft.ensures.touches told) (g.D.Disk.past c.publish.new.disk) _ c.in_ok-log.ensures.log c.args.read.now.items (c.in_ok-log.ensures.made told)))

pub returns-in_err-publish-clause-sound : goal.returns-in_err-publish-clause-sound
returns-in_err-publish-clause-sound g c told sound =
    renewing_sound _ _ _ (c.redraft.ensures.touches told) (g.D.Disk.past c.publish.new.disk) _ c.in_ok-log.ensures.log sound
    (c.publish.ensures.sound c.args.read.now.items told c.was_open.ensures.whole.fit (renewing_draft _ _ _ (c.redraft.ensures.touches told) (g.D.Disk.past c.publish.new.disk) _ c.in_ok-log.ensures.log c.args.read.now.items (c.in_ok-log.ensures.made told)))

pub returns-clause-items : goal.returns-clause-items
returns-clause-items g c told =
    renewing_reads _ _ _ (c.redraft.ensures.touches told) (g.D.Disk.past c.publish.new.disk) _ c.in_ok-log.ensures.log c.args.read.now.items (c.in_ok-log.ensures.made told) (c.in_ok-publish.ensures.moved told)

pub returns-clause-stands : goal.returns-clause-stands
returns-clause-stands g c told settled sound =
    c.in_ok-publish.ensures.stands c.args.read.now.items told c.was_open.ensures.whole.fit (renewing_draft _ _ _ (c.redraft.ensures.touches told) (g.D.Disk.past c.publish.new.disk) _ c.in_ok-log.ensures.log c.args.read.now.items (c.in_ok-log.ensures.made told))

pub returns-clause-any_moment : goal.returns-clause-any_moment
returns-clause-any_moment g c told settled =
    renewing_moments _ _ _ (c.redraft.ensures.touches told) (g.D.Disk.past c.publish.new.disk) _ c.in_ok-log.ensures.log c.args.read.now.items c.was_open.ensures.whole.fit settled
    (c.publish.ensures.any_moment (log_bytes true c.args.read.now.items) told (renewing_whole _ _ _ (c.redraft.ensures.touches told) (g.D.Disk.past c.publish.new.disk) _ c.in_ok-log.ensures.log c.args.read.now.items (c.in_ok-log.ensures.made told)))

pub returns-clause-sound : goal.returns-clause-sound
returns-clause-sound g c told sound =
    renewing_sound _ _ _ (c.redraft.ensures.touches told) (g.D.Disk.past c.publish.new.disk) _ c.in_ok-log.ensures.log sound
    (c.publish.ensures.sound c.args.read.now.items told c.was_open.ensures.whole.fit (renewing_draft _ _ _ (c.redraft.ensures.touches told) (g.D.Disk.past c.publish.new.disk) _ c.in_ok-log.ensures.log c.args.read.now.items (c.in_ok-log.ensures.made told)))

pub returns-in_err-log-clause-calls : goal.returns-in_err-log-clause-calls
returns-in_err-log-clause-calls g c =
    let p = err_from_is_err_and c.from_residual.result c.from_residual.ensures.1 in
    let drafts : LogCalls g.D.Disk c.args.disk.now c.redraft.new.disk (λ n. (n ≡ c.args.name) ⊎ (n ≡ draft_name c.args.name))
    OnlyFileOrMemory c.redraft.result = record {
      touches = λ told. drafting_touches _ _ _ (c.redraft.ensures.touches told);
      time = c.redraft.ensures.time;
      named = λ name is. inr (c.redraft.ensures.named name is);
      only = c.redraft.ensures.only;
      cause = c.redraft.ensures.cause;
    } in
    passed_calls g.D.Disk _ _ _ _ _ _ _ p.1 p.2 c.in_err-log.was drafts

pub returns-in_err-publish-clause-calls : goal.returns-in_err-publish-clause-calls
returns-in_err-publish-clause-calls g c =
    let p = err_from_is_err_and c.from_residual-in_err-publish.result c.from_residual-in_err-publish.ensures.1 in
    let drafts : LogCalls g.D.Disk c.args.disk.now c.redraft.new.disk (λ n. (n ≡ c.args.name) ⊎ (n ≡ draft_name c.args.name))
    OnlyFileOrMemory c.redraft.result = record {
      touches = λ told. drafting_touches _ _ _ (c.redraft.ensures.touches told);
      time = c.redraft.ensures.time;
      named = λ name is. inr (c.redraft.ensures.named name is);
      only = c.redraft.ensures.only;
      cause = c.redraft.ensures.cause;
    } in
    let publishes = subst (λ (l : Handle). LogCalls g.D.Disk c.redraft.new.disk c.publish.new.disk
    (λ n. (n ≡ l.name) ⊎ (n ≡ draft_name l.name)) OnlyFileOrMemory c.publish.result) c.in_ok-log.ensures.log c.publish.ensures.calls in
    let both = then_calls g.D.Disk _ _ _ _ OnlyFileOrMemory OnlyFileOrMemory c.redraft.result _ c.publish.result c.in_ok-log.was
    drafts publishes in
    passed_calls g.D.Disk _ _ _ _ _ _ _ p.1 p.2 c.in_err-publish.was both

pub returns-clause-calls : goal.returns-clause-calls
returns-clause-calls g c =
    let drafts : LogCalls g.D.Disk c.args.disk.now c.redraft.new.disk (λ n. (n ≡ c.args.name) ⊎ (n ≡ draft_name c.args.name))
    OnlyFileOrMemory c.redraft.result = record {
      touches = λ told. drafting_touches _ _ _ (c.redraft.ensures.touches told);
      time = c.redraft.ensures.time;
      named = λ name is. inr (c.redraft.ensures.named name is);
      only = c.redraft.ensures.only;
      cause = c.redraft.ensures.cause;
    } in
    let publishes = subst (λ (l : Handle). LogCalls g.D.Disk c.redraft.new.disk c.publish.new.disk
    (λ n. (n ≡ l.name) ⊎ (n ≡ draft_name l.name)) OnlyFileOrMemory c.publish.result) c.in_ok-log.ensures.log c.publish.ensures.calls in
    let both = then_calls g.D.Disk _ _ _ _ OnlyFileOrMemory OnlyFileOrMemory c.redraft.result _ c.publish.result c.in_ok-log.was
    drafts publishes in
    done_calls g.D.Disk _ _ _ _ _ _ _ c.in_ok-publish.was both
