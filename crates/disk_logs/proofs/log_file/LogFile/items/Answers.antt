use Rattle.std.proofs.Common.{subst}
use Rattle.disk_logs.specs.Logs.{IsRead}
use Rattle.disk_logs.proofs.ReadLemmas.{was_read, items_between}
use Rattle.disk_logs.proofs.log_file.LogFile.items.Goals as goal

pub returns-clause-whole : goal.returns-clause-whole
returns-clause-whole c = subst IsRead c.self.view_is (was_read _ _ c.self.invariant)

pub returns-clause-items : goal.returns-clause-items
returns-clause-items c = items_between _ _ c.self.invariant _ c.self.view_is _ c.deref.ensures.value
