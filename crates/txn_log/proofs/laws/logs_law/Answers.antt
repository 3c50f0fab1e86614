use Rattle.disk_logs.proofs.Resting.{absent_gone}
use Rattle.txn_log.specs.Logs.{previous}
use Rattle.txn_log.proofs.TwoLogs.{logs_leave, logs_read, logs_sound, logs_other, previous_beside, previous_trusted, beside_moments, one_list_of_two}
use Rattle.txn_log.proofs.laws.logs_law.Goals as goal

pub returns-clause-leaves : goal.returns-clause-leaves
returns-clause-leaves c = logs_leave

pub returns-clause-reads : goal.returns-clause-reads
returns-clause-reads c = logs_read

pub returns-clause-sound : goal.returns-clause-sound
returns-clause-sound c = logs_sound

pub returns-clause-one : goal.returns-clause-one
returns-clause-one c = one_list_of_two

pub returns-clause-kept : goal.returns-clause-kept
returns-clause-kept c = logs_other

pub returns-clause-beside : goal.returns-clause-beside
returns-clause-beside c = previous_beside

pub returns-clause-grown : goal.returns-clause-grown
returns-clause-grown c before after synced old new touches stands h = beside_moments before touches stands after synced h

pub returns-clause-absent : goal.returns-clause-absent
returns-clause-absent c past settled none = absent_gone past previous settled none

pub returns-clause-trusted : goal.returns-clause-trusted
returns-clause-trusted c = previous_trusted
