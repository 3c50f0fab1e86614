use Rattle.file_trait.proofs.Touched.{then_touched, append_touches}
use Rattle.disk_logs.proofs.Drafts.{renamed_touches, redrafted}
use Rattle.disk_logs.proofs.log.redraft.Goals as goal

pub returns-in_err-make-clause-touches : goal.returns-in_err-make-clause-touches
returns-in_err-make-clause-touches g c told = renamed_touches _ _ _ _ c.draft_name-file.ensures (c.make.ensures.touches told)

pub returns-in_err-told-clause-touches : goal.returns-in_err-told-clause-touches
returns-in_err-told-clause-touches g c told =
    then_touched _ _ _ _ (renamed_touches _ _ _ _ c.draft_name-file.ensures (c.make.ensures.touches told)) (append_touches _ _ _ _ _ _ (c.append.ensures.done told) c.draft_name-file.ensures)

pub returns-clause-made : goal.returns-clause-made
returns-clause-made g c told =
    redrafted _ _ _ _ c.args.read.now.items _ _ _ _ _ c.draft_name-file.ensures c.head.ensures c.items.ensures.items (c.in_ok-make.ensures.made told) c.told.ensures c.in_ok-told.was (c.append.ensures.done told)

pub returns-clause-touches : goal.returns-clause-touches
returns-clause-touches g c told =
    then_touched _ _ _ _ (renamed_touches _ _ _ _ c.draft_name-file.ensures (c.make.ensures.touches told)) (append_touches _ _ _ _ _ _ (c.append.ensures.done told) c.draft_name-file.ensures)
