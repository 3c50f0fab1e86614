use Rattle.std.proofs.Common.{Option, subst}
use Rattle.disk_logs.specs.Logs.{FileRead}
use Rattle.txn_log.specs.Logs.{IsAsRead}
use Rattle.mn_node.specs.Meaning.{latest}
use Rattle.mn_node.proofs.Loading.{items_broken}
use Rattle.mn_node.proofs.TxnKept.{result_named}
use Rattle.mn_node.proofs.starting.loaded.Goals as goal

pub returns-in-Some-clause-damaged : goal.returns-in-Some-clause-damaged
returns-in-Some-clause-damaged c files as_read name at is =
    let there = subst (λ (o : Option FileRead). IsAsRead o (files latest)) c.in-Some.is as_read in
    items_broken files c.in-Some.file name at c.database_of.ensures.whole there (c.database_of.ensures.damaged name at is)

pub returns-in-Some-clause-named : goal.returns-in-Some-clause-named
returns-in-Some-clause-named c = result_named c.in-Some.file.items c.database_of.result c.database_of.ensures.made
