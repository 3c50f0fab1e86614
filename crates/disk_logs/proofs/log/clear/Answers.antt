use Rattle.std.proofs.Common.{refl}
use Rattle.file_trait.proofs.Touched.{untouched, then_touched, done_touches}
use Rattle.disk_logs.proofs.log.clear.Goals as goal

pub returns-in-Some-clause-touches : goal.returns-in-Some-clause-touches
returns-in-Some-clause-touches g c told =
    then_touched _ _ _ _ (untouched _ _ _ (c.len.ensures.same told)) (done_touches _ _ _ _ _ (c.remove.ensures.done told) refl)
