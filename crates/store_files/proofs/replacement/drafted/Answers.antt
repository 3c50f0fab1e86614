use Rattle.std.proofs.Common.{◌≡◌, [], ◌∷◌, inl, sym, ap, ◌∙◌, subst}
use Rattle.std.proofs.lemmas.Result.{err_from_is_err_and}
use Rattle.disk_logs.specs.Calls.{LogCalls}
use Rattle.disk_logs.specs.Errors.{OnlyFileOrMemory}
use Rattle.disk_logs.specs.Logs.{Handle, draft_name, file_of}
use Rattle.disk_logs.proofs.Calls.{then_calls, done_calls, passed_calls, wider_calls}
use Rattle.store_files.proofs.Replacing.{made_log, draft_there, as_drafted, of_drafted}
use Rattle.store_files.proofs.replacement.drafted.Goals as goal

pub append-requires-clause-log : goal.append-requires-clause-log
append-requires-clause-log g c told =
    made_log (g.D.Disk.past c.draft.new.disk) c.in_ok-log.log c.args.name (c.args.head.now ∷ []) c.in_ok-log.ensures.log
    (c.in_ok-log.ensures.reads told)

pub returns-in_err-append-clause-calls : goal.returns-in_err-append-clause-calls
returns-in_err-append-clause-calls g c =
    let p = err_from_is_err_and c.from_residual-in_err-append.result c.from_residual-in_err-append.ensures.1 in
    passed_calls g.D.Disk (λ n. n ≡ draft_name c.args.name) _ _ c.append.result _ _ _ p.1 p.2 c.in_err-append.was
    (then_calls g.D.Disk (λ n. n ≡ draft_name c.args.name) _ _ _ OnlyFileOrMemory OnlyFileOrMemory c.draft.result _ c.append.result
    c.in_ok-log.was
    (wider_calls g.D.Disk _ _ (λ n. n ≡ draft_name c.args.name) OnlyFileOrMemory c.draft.result (λ n is. is)
    (λ only. only c.requires.head) c.draft.ensures.calls)
    (subst (λ m. LogCalls g.D.Disk c.draft.new.disk c.append.new.disk (λ n. n ≡ m) OnlyFileOrMemory c.append.result)
    (ap file_of c.in_ok-log.ensures.log) c.append.ensures.calls))

pub returns-clause-made : goal.returns-clause-made
returns-clause-made g c more told is =
    of_drafted _ c.in_ok-log.log c.args.name (c.args.head.now ∷ more) c.in_ok-log.ensures.log
    (c.in_ok-append.ensures.drafted (c.args.head.now ∷ []) more told (ap (λ (l : Handle). l.draft) c.in_ok-log.ensures.log) is
    (as_drafted _ c.in_ok-log.log c.args.name (c.args.head.now ∷ []) c.in_ok-log.ensures.log (c.in_ok-log.ensures.made told)))

pub returns-clause-there : goal.returns-clause-there
returns-clause-there g c told =
    draft_there _ _ _ (returns-clause-made g c c.requires.items.0 told c.requires.items.2)

pub returns-clause-calls : goal.returns-clause-calls
returns-clause-calls g c =
    done_calls g.D.Disk (λ n. n ≡ draft_name c.args.name) _ _ OnlyFileOrMemory c.append.result _ _ c.in_ok-append.was
    (then_calls g.D.Disk (λ n. n ≡ draft_name c.args.name) _ _ _ OnlyFileOrMemory OnlyFileOrMemory c.draft.result _ c.append.result
    c.in_ok-log.was
    (wider_calls g.D.Disk _ _ (λ n. n ≡ draft_name c.args.name) OnlyFileOrMemory c.draft.result (λ n is. is)
    (λ only. only c.requires.head) c.draft.ensures.calls)
    (subst (λ m. LogCalls g.D.Disk c.draft.new.disk c.append.new.disk (λ n. n ≡ m) OnlyFileOrMemory c.append.result)
    (ap file_of c.in_ok-log.ensures.log) c.append.ensures.calls))
