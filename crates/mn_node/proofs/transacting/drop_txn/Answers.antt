use Rattle.mn_node.proofs.TxnCommits.{txn_dropped}
use Rattle.mn_node.proofs.transacting.drop_txn.Goals as goal

pub returns : goal.returns
returns c = txn_dropped c.args.name.now c.args.txns.now c.abort.new.self c.abort.result c.abort.ensures.answers c.abort.ensures.none
