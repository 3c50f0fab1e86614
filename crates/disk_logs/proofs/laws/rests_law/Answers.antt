use Rattle.disk_logs.proofs.Resting.{rests_leaves, rests_sound, rests_other, rests_untouched, absent_gone, rests_replaced}
use Rattle.disk_logs.proofs.Sound.{sound_stands}
use Rattle.disk_logs.proofs.laws.rests_law.Goals as goal

pub returns-clause-leaves : goal.returns-clause-leaves
returns-clause-leaves c = rests_leaves

pub returns-clause-sound : goal.returns-clause-sound
returns-clause-sound c = rests_sound

pub returns-clause-kept : goal.returns-clause-kept
returns-clause-kept c = rests_other

pub returns-clause-untouched : goal.returns-clause-untouched
returns-clause-untouched c = rests_untouched

pub returns-clause-absent : goal.returns-clause-absent
returns-clause-absent c = absent_gone

pub returns-clause-trusted : goal.returns-clause-trusted
returns-clause-trusted c = sound_stands

pub returns-clause-replaced : goal.returns-clause-replaced
returns-clause-replaced c = rests_replaced
