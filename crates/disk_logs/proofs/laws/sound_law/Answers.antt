use Rattle.disk_logs.proofs.Sound.{handed_sound, absent_sound, open_sound, stands_sound, sound_stands}
use Rattle.disk_logs.proofs.laws.sound_law.Goals as goal

pub returns-clause-handed : goal.returns-clause-handed
returns-clause-handed c = handed_sound

pub returns-clause-absent : goal.returns-clause-absent
returns-clause-absent c = absent_sound

pub returns-clause-open_log : goal.returns-clause-open_log
returns-clause-open_log c = open_sound

pub returns-clause-stands : goal.returns-clause-stands
returns-clause-stands c = stands_sound

pub returns-clause-trusted : goal.returns-clause-trusted
returns-clause-trusted c = sound_stands
