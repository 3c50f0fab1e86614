use Rattle.std.proofs.Common.{option_map, option_copied}
use Rattle.term_core.specs.View.{tree_of}
use Rattle.txn_core.proofs.Tables.{first_read}
use Rattle.txn_core.proofs.read_locks.ReadLocks.take_first.Goals as goal

pub returns-clause-ok : goal.returns-clause-ok
returns-clause-ok c =
    let same = c.in_ok-try_clone.ensures.same in
    first_read c.args.self.now (record { tables = c.insert.new.self }) c.args.table.now c.in_ok-reads.reads
    (option_map tree_of (option_copied c.args.key)) (rw same at c.in_ok-insert.ensures.entries) c.requires.absent
    c.in_ok-reads.ensures
