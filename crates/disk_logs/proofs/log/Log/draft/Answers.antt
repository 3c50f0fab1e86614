use Rattle.std.proofs.Common.{◌≡◌, subst}
use Rattle.std.proofs.lemmas.Result.{err_from_is_err_and}
use Rattle.disk_logs.specs.Calls.{LogCalls}
use Rattle.disk_logs.specs.Errors.{OnlyFileOrMemory}
use Rattle.disk_logs.proofs.Calls.{done_calls, passed_calls, at_most}
use Rattle.disk_logs.proofs.log.Log.draft.Goals as goal

pub returns-in_err-make-clause-calls : goal.returns-in_err-make-clause-calls
returns-in_err-make-clause-calls g c =
    let draft = subst (λ f. LogCalls g.D.Disk c.args.disk.now c.make.new.disk (λ n. n ≡ f) OnlyFileOrMemory c.make.result)
    c.draft_name-file.ensures (record {
      touches = c.make.ensures.touches;
      time = c.make.ensures.time;
      named = c.make.ensures.named;
      only = c.make.ensures.only;
      cause = c.make.ensures.cause;
    }) in
    let p = err_from_is_err_and c.from_residual-in_err-make.result c.from_residual-in_err-make.ensures.1 in
    at_most _ _ _ _ _ _ (passed_calls g.D.Disk _ _ _ _ _ _ _ p.1 p.2 c.in_err-make.was draft)

pub returns-clause-calls : goal.returns-clause-calls
returns-clause-calls g c =
    let draft = subst (λ f. LogCalls g.D.Disk c.args.disk.now c.make.new.disk (λ n. n ≡ f) OnlyFileOrMemory c.make.result)
    c.draft_name-file.ensures (record {
      touches = c.make.ensures.touches;
      time = c.make.ensures.time;
      named = c.make.ensures.named;
      only = c.make.ensures.only;
      cause = c.make.ensures.cause;
    }) in
    at_most _ _ _ _ _ _ (done_calls g.D.Disk _ _ _ _ _ _ _ c.in_ok-make.was draft)
