use Rattle.mn_node.proofs.TxnRuns.{run_seen, run_serial, run_in_order}
use Rattle.mn_node.proofs.laws.transactions_law.Goals as goal

pub returns-clause-run : goal.returns-clause-run
returns-clause-run c = run_seen

pub returns-clause-serial : goal.returns-clause-serial
returns-clause-serial c = run_serial

pub returns-clause-in_order : goal.returns-clause-in_order
returns-clause-in_order c = run_in_order
