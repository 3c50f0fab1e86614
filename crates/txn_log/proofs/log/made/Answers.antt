use Rattle.disk_logs.proofs.Drafts.{others_read}
use Rattle.txn_log.proofs.Making.{no_draft, not_published, published}
use Rattle.txn_log.proofs.log.made.Goals as goal

pub returns-in-Err-clause-opens : goal.returns-in-Err-clause-opens
returns-in-Err-clause-opens g c told =
    no_draft (g.D.Disk.past c.args.disk.now) (g.D.Disk.past c.draft.new.disk) c.latest.result c.latest.ensures.value (c.requires told) (c.in-Err.ensures.calls.touches told) c.in-Err.error
    (others_read _ _ _ (c.in-Err.ensures.calls.touches told))

pub returns-in-Ok-publish-clause-opens : goal.returns-in-Ok-publish-clause-opens
returns-in-Ok-publish-clause-opens g c told =
    published (g.D.Disk.past c.args.disk.now) (g.D.Disk.past c.draft.new.disk) c.latest.result c.latest.ensures.value (c.requires told) (c.in-Ok.ensures.calls.touches told) (g.D.Disk.past c.publish.new.disk)
    c.in-Ok.log c.in-Ok.ensures.log (c.in-Ok.ensures.reads told) (c.in-Ok.ensures.made told) (others_read _ _ _ (c.in-Ok.ensures.calls.touches told))
    (λ whole. c.in-Ok-publish.ensures.any_moment whole told) (λ items. c.in-Ok-publish.ensures.sound items told) (c.in-Ok-publish.ensures.calls.touches told)
    c.publish.new.self c.in-Ok-publish.ensures.log (c.in-Ok-publish.ensures.moved told) (λ items. c.in-Ok-publish.ensures.stands items told)

pub returns-in-Err-publish-clause-opens : goal.returns-in-Err-publish-clause-opens
returns-in-Err-publish-clause-opens g c told =
    not_published (g.D.Disk.past c.args.disk.now) (g.D.Disk.past c.draft.new.disk) c.latest.result c.latest.ensures.value (c.requires told) (c.in-Ok.ensures.calls.touches told) (g.D.Disk.past c.publish.new.disk)
    c.in-Ok.log c.in-Ok.ensures.log (c.in-Ok.ensures.reads told) (c.in-Ok.ensures.made told) (others_read _ _ _ (c.in-Ok.ensures.calls.touches told))
    (λ whole. c.in-Err-publish.ensures.any_moment whole told) (λ items. c.in-Err-publish.ensures.sound items told) (c.in-Err-publish.ensures.calls.touches told)
    c.in-Err-publish.error (c.in-Err-publish.ensures.left told)
