use Rattle.std.proofs.Common.{subst}
use Rattle.disk_logs.specs.Logs.{IsRead}
use Rattle.disk_logs.proofs.ReadLemmas.{was_read}
use Rattle.disk_logs.proofs.log_file.LogFile.was_open.Goals as goal

pub returns-clause-whole : goal.returns-clause-whole
returns-clause-whole c = subst IsRead c.self.view_is (was_read _ _ c.self.invariant)
