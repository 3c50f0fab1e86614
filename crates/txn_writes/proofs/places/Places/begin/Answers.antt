use Rattle.term_core.specs.View.{tree_of}
use Rattle.txn_writes.proofs.Noted.{table_begun}
use Rattle.txn_writes.proofs.places.Places.begin.Goals as goal

pub returns-clause-ok : goal.returns-clause-ok
returns-clause-ok c =
    let same = c.in_ok-copied_atom.ensures in
    table_begun c.args.self.now (record { tables = c.insert.new.self }) c.args.name.now c.new-places.result c.push.new.self
    (tree_of c.args.key.now) c.args.place (rw same at c.in_ok-insert.ensures.entries) c.requires.absent c.new-places.ensures
    c.in_ok-push.ensures.ok
