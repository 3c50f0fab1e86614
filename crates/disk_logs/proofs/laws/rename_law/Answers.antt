use Rattle.disk_logs.proofs.Renaming.{renamed_leaves, renamed_sound, renamed_other, renamed_rests}
use Rattle.disk_logs.proofs.laws.rename_law.Goals as goal

pub returns-clause-leaves : goal.returns-clause-leaves
returns-clause-leaves c = renamed_leaves

pub returns-clause-sound : goal.returns-clause-sound
returns-clause-sound c = renamed_sound

pub returns-clause-kept : goal.returns-clause-kept
returns-clause-kept c = renamed_other

pub returns-clause-settled : goal.returns-clause-settled
returns-clause-settled c = renamed_rests
