use Rattle.txn_core.proofs.SerialRuns.{serial_run}
use Rattle.txn_core.proofs.laws.serial_law.Goals as goal

pub returns : goal.returns
returns c = serial_run
