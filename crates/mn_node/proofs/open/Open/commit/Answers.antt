use Rattle.std.proofs.Common.{refl, ap, sym, subst, ◌∙◌, Ok, Err}
use Rattle.db_model.specs.View.{commit_record}
use Rattle.txn_log.proofs.CallerLemmas.{written_levels}
use Rattle.mn_node.specs.Effects.{adds, commits as commit_effect}
use Rattle.mn_node.specs.Inside.Tries.{CommitsTo}
use Rattle.mn_node.specs.declared.open.Trouble.TheVariants.{Memory}
use Rattle.mn_node.specs.declared.reply.Reply.TheVariants.{TooLong}
use Rattle.mn_node.proofs.Acts.{none_tried, wanted_memory, only_told, appends_tried, tries_as}
use Rattle.mn_node.proofs.Owed.{untried, wanted_owes}
use Rattle.mn_node.proofs.Refusals.{short_commit, long_commit, short_free, long_refused, commits_take}
use Rattle.mn_node.proofs.TxnCommits.{did_commit}
use Rattle.mn_node.proofs.open.Open.commit.Goals as goal

pub encode_commit-requires-clause-levels : goal.encode_commit-requires-clause-levels
encode_commit-requires-clause-levels g c = written_levels (commit_record c.args.commit.now) c.requires.logged c.requires.levels

pub returns-in-Err-TooLong-clause-tries : goal.returns-in-Err-TooLong-clause-tries
returns-in-Err-TooLong-clause-tries g c told commits synced shown =
    let cr = commit_record c.args.commit.now in
    only_told shown (commit_effect c.args.settles cr) TooLong c.told.result
    (long_commit c.args.settles cr (c.in-Err-TooLong.ensures.long (ap Err c.in-Err-TooLong.field-0-is))) c.told.ensures

pub returns-in-Err : goal.returns-in-Err
returns-in-Err g c =
    let cr = commit_record c.args.commit.now in
    record {
      tries = λ told commits synced shown. wanted_memory shown (commit_effect c.args.settles cr) (commits_take c.args.settles cr);
      owes = untried g.D.Disk c.args.disk.now c.args.self.now.log c.args.self.now.log (Err Memory) refl c.requires.log
          (λ name doubt is. absurd (cc is)) tt;
      did = record { txns = refl; done = tt; on = tt; fits = tt; kept = refl };
    }

pub returns-in_err-plan-clause-tries : goal.returns-in_err-plan-clause-tries
returns-in_err-plan-clause-tries g c told commits synced shown =
    let cr = commit_record c.args.commit.now in
    none_tried shown (commit_effect c.args.settles cr) c.from_residual.result (commits_take c.args.settles cr) c.from_residual.ensures.1

pub returns-in_err-plan-clause-owes : goal.returns-in_err-plan-clause-owes
returns-in_err-plan-clause-owes g c =
    wanted_owes g.D.Disk c.args.disk.now c.args.self.now.log _ c.from_residual.result refl c.requires.log c.from_residual.ensures.1

pub returns-in-Ok-append-clause-tries : goal.returns-in-Ok-append-clause-tries
returns-in-Ok-append-clause-tries g c told commits synced shown =
    let cr = commit_record c.args.commit.now in
    let item = c.in-Ok.ensures.item in
    tries_as (commit_effect c.args.settles cr) (adds c.args.settles cr) (short_commit c.args.settles cr item.fits)
    (appends_tried shown c.args.settles cr (Ok c.in-Ok-append.done) c.requires.lawful
    (c.in-Ok-append.ensures.appends told commits synced cr item shown.log) (λ failed. absurd (cc failed))
    (λ done is. c.apply.ensures ∙ c.in_ok-plan.ensures.planned) (c.append.ensures.owes.touches told))

pub returns-clause-tries : goal.returns-clause-tries
returns-clause-tries g c told commits synced shown =
    let cr = commit_record c.args.commit.now in
    let item = c.in-Ok.ensures.item in
    tries_as (commit_effect c.args.settles cr) (adds c.args.settles cr) (short_commit c.args.settles cr item.fits)
    (appends_tried shown c.args.settles cr (Err c.in-Err-append.trouble) c.requires.lawful
    (c.in-Err-append.ensures.appends told commits synced cr item shown.log) (λ failed. refl)
    (λ done is. absurd (cc is)) (c.append.ensures.owes.touches told))

pub returns-in-Err-TooLong-clause-did : goal.returns-in-Err-TooLong-clause-did
returns-in-Err-TooLong-clause-did g c =
    subst (λ d. CommitsTo (commit_record c.args.commit.now) c.args.self.now c.args.self.now (Ok d)) (sym c.told.ensures) (record {
      txns = refl;
      done = refl;
      on = refl;
      fits = long_refused (commit_record c.args.commit.now) (c.in-Err-TooLong.ensures.long (ap Err c.in-Err-TooLong.field-0-is));
      kept = tt;
    })

pub returns-in-Ok-append-clause-did : goal.returns-in-Ok-append-clause-did
returns-in-Ok-append-clause-did g c =
    did_commit (commit_record c.args.commit.now) c.args.self.now _ c.args.settles c.in-Ok-append.done c.in-Ok-append.ensures.done refl
    (c.apply.ensures ∙ c.in_ok-plan.ensures.planned) (short_free (commit_record c.args.commit.now) c.in-Ok.ensures.item.fits)
