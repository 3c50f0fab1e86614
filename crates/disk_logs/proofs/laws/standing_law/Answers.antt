use Rattle.disk_logs.proofs.Standing.{synced_within, stands_leaves}
use Rattle.disk_logs.proofs.laws.standing_law.Goals as goal

pub returns-clause-within : goal.returns-clause-within
returns-clause-within c = synced_within

pub returns-clause-leaves : goal.returns-clause-leaves
returns-clause-leaves c = stands_leaves
