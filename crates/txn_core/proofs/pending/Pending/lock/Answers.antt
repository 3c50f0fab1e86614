use Rattle.std.proofs.Common.{sym, refl, ◌∙◌}
use Rattle.txn_core.proofs.OwnLocks.{locked_enough}
use Rattle.txn_core.proofs.pending.Pending.lock.Goals as goal

pub returns-then-changes-clause-ok : goal.returns-then-changes-clause-ok
returns-then-changes-clause-ok c = record {
  locks = locked_enough c.args.self.now c.args.table.now c.args.key (sym c.is_some.ensures ∙ c.if-is_some.true)
      (sym c.changes.ensures ∙ c.if-changes.true);
  calls = refl;
  writes = refl;
}
