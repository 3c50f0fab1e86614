use Rattle.std.proofs.Common.{◌≡◌, None, Some, Ok, true, false, sym, ap, subst, ◌∙◌}
use Rattle.std.specs.Option.{option_copied}
use Rattle.term_core.specs.View.{tree_of}
use Rattle.db_model.specs.Lawful.{table_in, IsLawful}
use Rattle.db_model.specs.Records.{Fits}
use Rattle.db_model.specs.View.{definition, commit_record}
use Rattle.db_state.specs.Live.{database, definition_of}
use Rattle.mn_node.specs.Durable.{made}
use Rattle.mn_node.specs.Effects.{no_table, bad_record, write_of, commits as commit_effect}
use Rattle.mn_node.specs.Inside.Tries.{CommitsTo}
use Rattle.mn_node.specs.declared.reply.Reply.TheVariants.{NoTable, BadRecord}
use Rattle.mn_node.proofs.Acts.{none_tried, only_told, refuses_answered, tries_as}
use Rattle.mn_node.proofs.Lookups.{some_and, known_as, none_standing}
use Rattle.mn_node.proofs.Refusals.{put_unknown, put_unfit, put_fit, write_lawful, commits_take, held_tried}
use Rattle.mn_node.proofs.TxnKept.{out_kept, commit_pends, put_steps}
use Rattle.mn_node.proofs.open.Open.put.Goals as goal

pub returns-in_default-clause-tries : goal.returns-in_default-clause-tries
returns-in_default-clause-tries g c told commits synced pending shown pends =
    let base = (made commits).database in
    let name = c.args.table in
    only_told shown _ (NoTable name) c.told.result (refuses_answered _ (no_table name)
    (put_unknown (table_in name base.tables) base.version pending name (tree_of c.args.row)
    (none_standing shown name c.in_default.ensures)))
    c.told.ensures

pub returns-then-not-fits-clause-tries : goal.returns-then-not-fits-clause-tries
returns-then-not-fits-clause-tries g c told commits synced pending shown pends =
    let base = (made commits).database in
    let name = c.args.table in
    let item = tree_of c.args.row in
    let known = some_and (λ t. definition c.in-Some.def.now ≡ definition_of t) (table_in name (database c.args.self.now.tables).tables)
    c.in-Some.ensures.1 in
    let unfit : Fits known.0.definition item → ⊥ = λ fit.
    let yes : c.fits.result ≡ true = c.fits.ensures.1 (subst (λ d. Fits d item) (sym known.2) fit) in cc (yes, c.if-not-fits.true) in
    only_told shown _ (BadRecord c.args.row) c.told-then-not-fits.result (refuses_answered _ (bad_record item)
    (put_unfit (table_in name base.tables) known.0 base.version pending name item (sym (known_as shown name) ∙ known.1) unfit))
    c.told-then-not-fits.ensures

pub returns-in_err-commit-clause-tries : goal.returns-in_err-commit-clause-tries
returns-in_err-commit-clause-tries g c told commits synced pending shown pends =
    let base = (made commits).database in
    let name = c.args.table in
    let item = tree_of c.args.row in
    let known = some_and (λ t. definition c.in-Some.def.now ≡ definition_of t) (table_in name (database c.args.self.now.tables).tables)
    c.in-Some.ensures.1 in
    let fit = subst (λ d. Fits d item) known.2 (c.fits.ensures.0 c.if-not-fits.false) in
    let free = sym (c.write_holder.ensures pending pends) ∙ ap option_copied c.in_default-write_holder.is in
    let is = put_fit (table_in name base.tables) known.0 base.version pending name item (sym (known_as shown name) ∙ known.1) fit None free
    in
    none_tried shown _ c.from_residual.result
    (ap (λ e. e.takes_memory) is ∙ commits_take false (write_of base.version name item)) c.from_residual.ensures.1

pub commit-requires-clause-lawful : goal.commit-requires-clause-lawful
commit-requires-clause-lawful g c =
    let live = database c.args.self.now.tables in
    let name = c.args.table in
    let item = tree_of c.args.row in
    let known = some_and (λ t. definition c.in-Some.def.now ≡ definition_of t) (table_in name live.tables) c.in-Some.ensures.1 in
    let fit = subst (λ d. Fits d item) known.2 (c.fits.ensures.0 c.if-not-fits.false) in
    let is : commit_record c.in_ok-commit.commit ≡ write_of live.version name item =
    ap commit_record c.in_ok-commit.ensures ∙ ap (λ v. write_of v name item) c.schema.ensures.version in
    subst (λ r. IsLawful r live) (sym is) (write_lawful live known.0 name item known.1 fit)

pub returns-clause-tries : goal.returns-clause-tries
returns-clause-tries g c told commits synced pending shown pends =
    let base = (made commits).database in
    let name = c.args.table in
    let item = tree_of c.args.row in
    let known = some_and (λ t. definition c.in-Some.def.now ≡ definition_of t) (table_in name (database c.args.self.now.tables).tables)
    c.in-Some.ensures.1 in
    let fit = subst (λ d. Fits d item) known.2 (c.fits.ensures.0 c.if-not-fits.false) in
    let free = sym (c.write_holder.ensures pending pends) ∙ ap option_copied c.in_default-write_holder.is in
    let is = put_fit (table_in name base.tables) known.0 base.version pending name item (sym (known_as shown name) ∙ known.1) fit None free
    in
    let written : commit_record c.in_ok-commit.commit ≡ write_of base.version name item =
    ap commit_record c.in_ok-commit.ensures ∙ ap (λ v. write_of v name item) c.schema.ensures.version
    ∙ ap (λ d. write_of d.version name item) shown.same in
    tries_as _ (commit_effect false (commit_record c.in_ok-commit.commit)) (is ∙ ap (commit_effect false) (sym written))
    (c.commit.ensures.tries told commits synced shown)

pub returns-in-Some-write_holder-clause-tries : goal.returns-in-Some-write_holder-clause-tries
returns-in-Some-write_holder-clause-tries g c told commits synced pending shown pends =
    let base = (made commits).database in
    let name = c.args.table in
    let item = tree_of c.args.row in
    let known = some_and (λ t. definition c.in-Some.def.now ≡ definition_of t) (table_in name (database c.args.self.now.tables).tables)
    c.in-Some.ensures.1 in
    let fit = subst (λ d. Fits d item) known.2 (c.fits.ensures.0 c.if-not-fits.false) in
    let held = sym (c.write_holder.ensures pending pends) ∙ ap option_copied c.in-Some-write_holder.is in
    held_tried shown _ (commit_effect false (write_of base.version name item)) c.in-Some-write_holder.by.now c.locked.result
    (put_fit (table_in name base.tables) known.0 base.version pending name item (sym (known_as shown name) ∙ known.1) fit
    (Some c.in-Some-write_holder.by.now) held) c.locked.ensures.ok c.locked.ensures.err

pub returns-in_default-clause-pends : goal.returns-in_default-clause-pends
returns-in_default-clause-pends g c pending pends = out_kept (Ok c.told.result) c.args.self.now pending pends

pub returns-then-not-fits-clause-pends : goal.returns-then-not-fits-clause-pends
returns-then-not-fits-clause-pends g c pending pends = out_kept (Ok c.told-then-not-fits.result) c.args.self.now pending pends

pub returns-in-Some-write_holder-clause-pends : goal.returns-in-Some-write_holder-clause-pends
returns-in-Some-write_holder-clause-pends g c pending pends = out_kept c.locked.result c.args.self.now pending pends

pub returns-in_err-commit-clause-pends : goal.returns-in_err-commit-clause-pends
returns-in_err-commit-clause-pends g c pending pends = out_kept c.from_residual.result c.args.self.now pending pends

pub returns-clause-pends : goal.returns-clause-pends
returns-clause-pends g c pending pends =
    let live = database c.args.self.now.tables in
    let name = c.args.table in
    let item = tree_of c.args.row in
    let known = some_and (λ t. definition c.in-Some.def.now ≡ definition_of t) (table_in name live.tables) c.in-Some.ensures.1 in
    let fit = subst (λ d. Fits d item) known.2 (c.fits.ensures.0 c.if-not-fits.false) in
    let free = sym (c.write_holder.ensures pending pends) ∙ ap option_copied c.in_default-write_holder.is in
    let is : commit_record c.in_ok-commit.commit ≡ write_of live.version name item =
    ap commit_record c.in_ok-commit.ensures ∙ ap (λ v. write_of v name item) c.schema.ensures.version in
    commit_pends pends (write_of live.version name item) _ (put_steps pends name item known.0 known.1 fit free) c.commit.new.self
    c.commit.result (subst (λ r. CommitsTo r c.args.self.now c.commit.new.self c.commit.result) is c.commit.ensures.did)
