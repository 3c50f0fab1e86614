use Rattle.mn_run.proofs.Serial.{commit_serial, acts_in_order}
use Rattle.mn_run.proofs.laws.transactions_law.Goals as goal

pub returns-clause-serial : goal.returns-clause-serial
returns-clause-serial c = commit_serial

pub returns-clause-in_order : goal.returns-clause-in_order
returns-clause-in_order c = acts_in_order
