use Rattle.std.proofs.Common.{◌≡◌, true, sym, ap, subst, ◌∙◌, Ok, Err}
use Rattle.db_model.specs.Lawful.{IsLawful}
use Rattle.db_model.specs.View.{definition, commit_record}
use Rattle.db_state.specs.Live.{database}
use Rattle.schema_txn.specs.Commands.{create_commit, RefusesCreate}
use Rattle.mn_node.specs.Durable.{made}
use Rattle.mn_node.specs.Effects.{IsAskable, create_table, create_effect, commits as commit_effect}
use Rattle.mn_node.specs.Inside.Tries.{CommitsTo}
use Rattle.mn_node.specs.Seen.{read_as}
use Rattle.mn_node.proofs.Acts.{tries_as}
use Rattle.mn_node.proofs.Refusals.{create_free, create_refused, create_undefined}
use Rattle.mn_node.proofs.TxnKept.{out_kept, commit_pends, create_steps}
use Rattle.mn_node.proofs.open.Open.create.Goals as goal

pub returns-in-Err-clause-tries : goal.returns-in-Err-clause-tries
returns-in-Err-clause-tries g c told commits synced pending shown pends =
    let base = (made commits).database in
    tries_as _ (create_effect base c.args.name (Err c.in-Err.error))
    (ap (λ r. create_effect base c.args.name (read_as r)) c.in-Err.is)
    (create_undefined shown c.args.name c.in-Err.error c.undefined.result c.undefined.ensures)

pub returns-in-Ok-create_table-clause-tries : goal.returns-in-Ok-create_table-clause-tries
returns-in-Ok-create_table-clause-tries g c told commits synced pending shown pends =
    let live = database c.args.self.now.tables in
    let base = (made commits).database in
    let d = definition c.in-Ok.def in
    let asked = subst (λ r. IsAskable (create_table c.args.name (read_as r))) c.in-Ok.is c.requires.asked in
    let cr = commit_record c.in-Ok-create_table.commit in
    let is : cr ≡ create_commit d base = c.in-Ok-create_table.ensures.commit ∙ ap (λ def. create_commit (definition def) live) c.get.ensures
    ∙ ap (create_commit d) shown.same in
    let lawful = subst (λ r. IsLawful r base) is (subst (IsLawful cr) shown.same c.in-Ok-create_table.ensures.lawful) in
    tries_as _ (commit_effect true cr)
    (ap (λ r. create_effect base c.args.name (read_as r)) c.in-Ok.is ∙ create_free base d c.args.name asked.0 lawful
    ∙ ap (commit_effect true) (sym is)) (c.commit.ensures.tries told commits synced shown)

pub returns-in-Err-create_table-clause-tries : goal.returns-in-Err-create_table-clause-tries
returns-in-Err-create_table-clause-tries g c told commits synced pending shown pends =
    let base = (made commits).database in
    let d = definition c.in-Ok.def in
    let asked = subst (λ r. IsAskable (create_table c.args.name (read_as r))) c.in-Ok.is c.requires.asked in
    tries_as _ (create_effect base c.args.name (Ok d)) (ap (λ r. create_effect base c.args.name (read_as r)) c.in-Ok.is)
    (create_refused shown d c.args.name c.in-Err-create_table.error c.refused.result asked.0
    (subst (λ def. RefusesCreate c.in-Err-create_table.error (definition def) (database c.args.self.now.tables)) c.get.ensures
    c.in-Err-create_table.ensures.refused) c.refused.ensures)

pub returns-in-Err-clause-pends : goal.returns-in-Err-clause-pends
returns-in-Err-clause-pends g c pending pends = out_kept c.undefined.result c.args.self.now pending pends

pub returns-in-Err-create_table-clause-pends : goal.returns-in-Err-create_table-clause-pends
returns-in-Err-create_table-clause-pends g c pending pends = out_kept c.refused.result c.args.self.now pending pends

pub returns-in-Ok-create_table-clause-pends : goal.returns-in-Ok-create_table-clause-pends
returns-in-Ok-create_table-clause-pends g c pending pends =
    let base = database c.args.self.now.tables in
    let d = definition c.in-Ok.def in
    let cr = commit_record c.in-Ok-create_table.commit in
    let is : cr ≡ create_commit d base = c.in-Ok-create_table.ensures.commit ∙ ap (λ def. create_commit (definition def) base) c.get.ensures in
    let lawful = subst (λ r. IsLawful r base) is c.in-Ok-create_table.ensures.lawful in
    commit_pends pends (create_commit d base) _ (create_steps pends d lawful) c.commit.new.self c.commit.result
    (subst (λ r. CommitsTo r c.args.self.now c.commit.new.self c.commit.result) is c.commit.ensures.did)
