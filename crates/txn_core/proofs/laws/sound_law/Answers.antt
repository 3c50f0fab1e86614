use Rattle.txn_core.specs.Pending.{is_named, calls_of}
use Rattle.txn_core.specs.Sound.{MayCallAll, HasFew}
use Rattle.txn_core.proofs.Each.{each_found}
use Rattle.txn_core.proofs.AllowedOps.{ops_allowed, view-is-ops}
use Rattle.txn_core.proofs.SoundSteps.{sound_idle, sound_step, sound_run}
use Rattle.txn_core.proofs.laws.sound_law.Goals as goal

pub returns-clause-start : goal.returns-clause-start
returns-clause-start c = sound_idle

pub returns-clause-step : goal.returns-clause-step
returns-clause-step c = sound_step

pub returns-clause-reached : goal.returns-clause-reached
returns-clause-reached c = λ tables events now orderly run. sound_run _ events now run (sound_idle tables orderly)

pub returns-clause-orderly : goal.returns-clause-orderly
returns-clause-orderly c = λ state sound. sound.orderly

pub returns-clause-allowed : goal.returns-clause-allowed
returns-clause-allowed c = λ state name txn sound is.
    ops_allowed state.tables (calls_of txn.kept)
    (each_found (MayCallAll state.tables) (is_named name) state.pending txn is sound.allowed)

pub returns-clause-few : goal.returns-clause-few
returns-clause-few c = λ state name txn sound is. each_found HasFew (is_named name) state.pending txn is sound.few

pub returns-clause-few_pending : goal.returns-clause-few_pending
returns-clause-few_pending c = λ state sound. sound.few_pending

pub returns-clause-view_is_ops : goal.returns-clause-view_is_ops
returns-clause-view_is_ops c = view-is-ops
