use Rattle.file_trait.proofs.Touched.{sync_dir_touches}
use Rattle.mn_node.proofs.Loading.{sync_moments, sync_stays, sync_calls}
use Rattle.mn_node.proofs.starting.synced_directory.Goals as goal

pub returns-in-Ok-clause-any_moment : goal.returns-in-Ok-clause-any_moment
returns-in-Ok-clause-any_moment g c told = sync_moments _ _ _ (c.sync_dir.ensures.done told)

pub returns-in-Err-clause-any_moment : goal.returns-in-Err-clause-any_moment
returns-in-Err-clause-any_moment g c told = sync_moments _ _ _ (c.sync_dir.ensures.done told)

pub returns-in-Ok-clause-sound : goal.returns-in-Ok-clause-sound
returns-in-Ok-clause-sound g c told = sync_stays _ _ _ (c.sync_dir.ensures.done told)

pub returns-in-Ok-clause-touches : goal.returns-in-Ok-clause-touches
returns-in-Ok-clause-touches g c told = sync_dir_touches (λ n. ⊥) _ _ _ (c.sync_dir.ensures.done told)

pub returns-in-Err-clause-sound : goal.returns-in-Err-clause-sound
returns-in-Err-clause-sound g c told = sync_stays _ _ _ (c.sync_dir.ensures.done told)

pub returns-in-Err-clause-touches : goal.returns-in-Err-clause-touches
returns-in-Err-clause-touches g c told = sync_dir_touches (λ n. ⊥) _ _ _ (c.sync_dir.ensures.done told)

pub returns-in-Err-clause-calls : goal.returns-in-Err-clause-calls
returns-in-Err-clause-calls g c = sync_calls c.in-Err.field-0 c.latest.result c.in-Err.ensures.memory c.in-Err.ensures.cause
