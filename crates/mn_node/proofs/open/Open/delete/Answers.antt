use Rattle.std.proofs.Common.{◌≡◌, Some, Ok, true, sym, ap, subst, ◌∙◌}
use Rattle.std.specs.Option.{option_copied}
use Rattle.db_model.specs.Lawful.{table_in, IsLawful}
use Rattle.db_model.specs.View.{definition, commit_record}
use Rattle.db_state.specs.Live.{database, definition_of}
use Rattle.schema_txn.specs.Commands.{delete_commit}
use Rattle.mn_node.specs.Durable.{made}
use Rattle.mn_node.specs.Effects.{unless, version_refusal, commits as commit_effect}
use Rattle.mn_node.specs.Inside.Tries.{CommitsTo}
use Rattle.mn_node.specs.declared.reply.Reply.TheVariants.{NoTable}
use Rattle.mn_node.proofs.Acts.{only_told, tries_as}
use Rattle.mn_node.proofs.Lookups.{none_standing, some_and, some_there, known_as}
use Rattle.mn_node.proofs.Refusals.{delete_free, delete_known, delete_unknown, delete_refused, held_tried}
use Rattle.mn_node.proofs.TxnKept.{out_kept, commit_pends, delete_steps}
use Rattle.mn_node.proofs.open.Open.delete.Goals as goal

pub returns-in_default-clause-tries : goal.returns-in_default-clause-tries
returns-in_default-clause-tries g c told commits synced pending shown pends =
    only_told shown _ (NoTable c.args.name) c.told.result
    (delete_unknown shown pending c.args.name (none_standing shown c.args.name c.in_default.ensures)) c.told.ensures

pub returns-in-Some-holder-clause-tries : goal.returns-in-Some-holder-clause-tries
returns-in-Some-holder-clause-tries g c told commits synced pending shown pends =
    let base = (made commits).database in
    let name = c.args.name in
    let stands = some_there (known_as shown name)
    (some_and (λ t. definition c.in-Some.field-0.now ≡ definition_of t) (table_in name (database c.args.self.now.tables).tables)
    c.in-Some.ensures.1) in
    let held = sym (c.holder.ensures pending pends.shows) ∙ ap option_copied c.in-Some-holder.is in
    held_tried shown _ (unless (version_refusal base) (commit_effect true (delete_commit name base))) c.in-Some-holder.by.now
    c.locked.result
    (delete_known base pending name stands (Some c.in-Some-holder.by.now) held) c.locked.ensures.ok c.locked.ensures.err

pub returns-in-Ok-clause-tries : goal.returns-in-Ok-clause-tries
returns-in-Ok-clause-tries g c told commits synced pending shown pends =
    let base = (made commits).database in
    let cr = commit_record c.in-Ok.commit in
    let is : cr ≡ delete_commit c.args.name base = c.in-Ok.ensures.commit ∙ ap (delete_commit c.args.name) shown.same in
    let lawful = subst (λ r. IsLawful r base) is (subst (IsLawful cr) shown.same c.in-Ok.ensures.lawful) in
    let free = sym (c.holder.ensures pending pends.shows) ∙ ap option_copied c.in_default-holder.is in
    tries_as _ (commit_effect true cr) (delete_free base pending c.args.name lawful free ∙ ap (commit_effect true) (sym is))
    (c.commit.ensures.tries told commits synced shown)

pub returns-in-Err-clause-tries : goal.returns-in-Err-clause-tries
returns-in-Err-clause-tries g c told commits synced pending shown pends =
    let name = c.args.name in
    let stands = some_there (known_as shown name)
    (some_and (λ t. definition c.in-Some.field-0.now ≡ definition_of t) (table_in name (database c.args.self.now.tables).tables)
    c.in-Some.ensures.1) in
    let free = sym (c.holder.ensures pending pends.shows) ∙ ap option_copied c.in_default-holder.is in
    delete_refused shown pending name c.in-Err.error c.refused.result stands free c.in-Err.ensures.refused c.refused.ensures

pub returns-in_default-clause-pends : goal.returns-in_default-clause-pends
returns-in_default-clause-pends g c pending pends = out_kept (Ok c.told.result) c.args.self.now pending pends

pub returns-in-Some-holder-clause-pends : goal.returns-in-Some-holder-clause-pends
returns-in-Some-holder-clause-pends g c pending pends = out_kept c.locked.result c.args.self.now pending pends

pub returns-in-Err-clause-pends : goal.returns-in-Err-clause-pends
returns-in-Err-clause-pends g c pending pends = out_kept c.refused.result c.args.self.now pending pends

pub returns-in-Ok-clause-pends : goal.returns-in-Ok-clause-pends
returns-in-Ok-clause-pends g c pending pends =
    let base = database c.args.self.now.tables in
    let name = c.args.name in
    let is : commit_record c.in-Ok.commit ≡ delete_commit name base = c.in-Ok.ensures.commit in
    let lawful = subst (λ r. IsLawful r base) is c.in-Ok.ensures.lawful in
    let free = sym (c.holder.ensures pending pends.shows) ∙ ap option_copied c.in_default-holder.is in
    commit_pends pends (delete_commit name base) _ (delete_steps pends name lawful free) c.commit.new.self c.commit.result
    (subst (λ r. CommitsTo r c.args.self.now c.commit.new.self c.commit.result) is c.commit.ensures.did)
