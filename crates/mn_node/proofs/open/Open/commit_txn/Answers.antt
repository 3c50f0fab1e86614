use Rattle.std.proofs.Common.{◌≡◌, ◌<◌, ◌^◌, map, Option, false, rules, Ok, refl, sym, ap, ◌∙◌, subst}
use Rattle.db_model.specs.Database.{Database}
use Rattle.db_model.specs.View.{operation, commit_record}
use Rattle.db_state.specs.Live.{database}
use Rattle.txn_core.specs.Pending.{Txn}
use Rattle.txn_core.specs.Shown.{Shows}
use Rattle.mn_node.specs.Durable.{made}
use Rattle.mn_node.specs.Effects.{Effect, no_transaction, done, commit_effect, commits as commits_of}
use Rattle.mn_node.specs.declared.reply.Reply.TheVariants.{NoTransaction, Done}
use Rattle.mn_node.proofs.Acts.{none_tried, only_told, refuses_answered, tries_as}
use Rattle.mn_node.proofs.Refusals.{commits_take}
use Rattle.mn_node.proofs.TxnCommits.{commit_of, unmapped_some, shows_txns, tries_txns, tries_at, tries_failed, pends_at, ops_lawful, ops_logged, ops_levels, some_named, nothing_effect, nothing_pends, written_effect, done_pends, long_pends}
use Rattle.mn_node.proofs.open.Open.commit_txn.Goals as goal
use Rattle.mn_node.proofs.open.Open.commit_txn.Goals.{then-done, else-done}

pub returns-in_default-clause-tries : goal.returns-in_default-clause-tries
returns-in_default-clause-tries g c told commits synced pending shown pends =
    let none = c.in_default.ensures pending pends.shows in
    only_told shown _ (NoTransaction c.args.name) c.told.result (refuses_answered _ (no_transaction c.args.name)
    (ap (λ (f : Option Txn). commit_effect (made commits).database f c.args.name) none)) c.told.ensures

pub returns-then-is_empty-clause-tries : goal.returns-then-is_empty-clause-tries
returns-then-is_empty-clause-tries g c told commits synced pending shown pends =
    let ops = map operation c.in-Some.ops.now in
    let none = ap (map operation) (c.is_empty.ensures.0 c.if-is_empty.true) in
    only_told (shows_txns c.drop_txn.new.txns shown) _ Done c.told-then-is_empty.result (refuses_answered _ done
    (nothing_effect pends c.args.name ops (c.in-Some.ensures pending pends.shows) (made commits).database none))
    c.told-then-is_empty.ensures

pub returns-then-is_empty-clause-pends : goal.returns-then-is_empty-clause-pends
returns-then-is_empty-clause-pends g c pending pends on =
    let ops = map operation c.in-Some.ops.now in
    let has = c.in-Some.ensures pending pends.shows in
    nothing_pends pends c.args.name ops has (ap (map operation) (c.is_empty.ensures.0 c.if-is_empty.true)) refl
    (c.drop_txn.ensures pending pends.shows (some_named pends c.args.name ops has))

pub returns-in_err-commit-clause-tries : goal.returns-in_err-commit-clause-tries
returns-in_err-commit-clause-tries g c told commits synced pending shown pends =
    let base = (made commits).database in
    let ops = map operation c.in-Some.ops.now in
    let some = unmapped_some operation c.in-Some.ops.now c.is_empty.result c.is_empty.ensures c.if-is_empty.false in
    let is = written_effect pends c.args.name ops (c.in-Some.ensures pending pends.shows) base some in
    none_tried shown _ c.from_residual.result
    (ap (λ (e : Effect). e.takes_memory) is ∙ commits_take false (commit_of base.version ops)) c.from_residual.ensures.1

pub commit-requires-clause-lawful : goal.commit-requires-clause-lawful
commit-requires-clause-lawful g c =
    let ops = map operation c.in-Some.ops.now in
    let (pending, pends) = c.requires.pending in
    ops_lawful pends c.args.name ops (c.in-Some.ensures pending pends.shows) (commit_record c.in_ok-commit.commit)
    (c.in_ok-commit.ensures ∙ ap (λ v. commit_of v ops) c.schema.ensures.version)

pub commit-requires-clause-logged : goal.commit-requires-clause-logged
commit-requires-clause-logged g c =
    let ops = map operation c.in-Some.ops.now in
    let (pending, pends) = c.requires.pending in
    let small : (commit_record c.in_ok-commit.commit).version < 2 ^ 64 = search rules in
    ops_logged pends c.args.name ops (c.in-Some.ensures pending pends.shows) (commit_record c.in_ok-commit.commit)
    (c.in_ok-commit.ensures ∙ ap (λ v. commit_of v ops) c.schema.ensures.version) small

pub commit-requires-clause-levels : goal.commit-requires-clause-levels
commit-requires-clause-levels g c =
    let ops = map operation c.in-Some.ops.now in
    let (pending, pends) = c.requires.pending in
    ops_levels pends c.args.name ops (c.in-Some.ensures pending pends.shows) (commit_record c.in_ok-commit.commit)
    (c.in_ok-commit.ensures ∙ ap (λ v. commit_of v ops) c.schema.ensures.version)

pub returns-in_err-done-clause-tries : goal.returns-in_err-done-clause-tries
returns-in_err-done-clause-tries g c told commits synced pending shown pends =
    let base = (made commits).database in
    let ops = map operation c.in-Some.ops.now in
    let some = unmapped_some operation c.in-Some.ops.now c.is_empty.result c.is_empty.ensures c.if-is_empty.false in
    let cr = commit_record c.in_ok-commit.commit in
    let is : cr ≡ commit_of base.version ops =
    c.in_ok-commit.ensures ∙ ap (λ v. commit_of v ops) c.schema.ensures.version
    ∙ ap (λ (d : Database). commit_of d.version ops) shown.same in
    tries_failed c.from_residual-in_err-done.result c.in_err-done.field-0.0 c.from_residual-in_err-done.ensures.1
    (tries_as _ (commits_of false cr)
    (written_effect pends c.args.name ops (c.in-Some.ensures pending pends.shows) base some ∙ ap (commits_of false) (sym is))
    (c.in_err-done.ensures.tries told commits synced shown))

pub returns-clause-tries : goal.returns-clause-tries
returns-clause-tries g c told commits synced pending shown pends =
    let base = (made commits).database in
    let ops = map operation c.in-Some.ops.now in
    let some = unmapped_some operation c.in-Some.ops.now c.is_empty.result c.is_empty.ensures c.if-is_empty.false in
    let cr = commit_record c.in_ok-commit.commit in
    let is : cr ≡ commit_of base.version ops =
    c.in_ok-commit.ensures ∙ ap (λ v. commit_of v ops) c.schema.ensures.version
    ∙ ap (λ (d : Database). commit_of d.version ops) shown.same in
    let tried = tries_as _ (commits_of false cr)
    (written_effect pends c.args.name ops (c.in-Some.ensures pending pends.shows) base some ∙ ap (commits_of false) (sym is))
    (c.in_ok-done.ensures.tries told commits synced shown) in
    elim c.if-done.branch [
      | then-done w ↦
          tries_at {result = Ok c.in_ok-done.done} w.self-is
          (tries_txns w.drop_txn-then-done.new.txns tried)
      | else-done w ↦ tries_at {result = Ok c.in_ok-done.done} w.self-is tried
    ]

pub returns-clause-pends : goal.returns-clause-pends
returns-clause-pends g c pending pends on =
    let here = database c.args.self.now.tables in
    let ops = map operation c.in-Some.ops.now in
    let some = unmapped_some operation c.in-Some.ops.now c.is_empty.result c.is_empty.ensures c.if-is_empty.false in
    let cr = commit_record c.in_ok-commit.commit in
    let is : cr ≡ commit_of here.version ops = c.in_ok-commit.ensures ∙ ap (λ v. commit_of v ops) c.schema.ensures.version in
    let has = c.in-Some.ensures pending pends.shows in
    let did = c.in_ok-done.ensures.did in
    elim c.if-done.branch [
      | then-done w ↦
          pends_at w.self-is
          (done_pends pends c.args.name ops has cr is some c.in_ok-done.done did w.drop_txn-then-done.new.txns w.if-done.true
          (w.drop_txn-then-done.ensures pending (subst (λ t. Shows t pending) (sym did.txns) pends.shows)
          (some_named pends c.args.name ops has)))
      | else-done w ↦
          pends_at w.self-is
          (long_pends pends c.args.name ops has cr is some c.in_ok-done.done did w.if-done.false)
    ]
