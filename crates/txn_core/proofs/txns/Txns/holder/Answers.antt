use Rattle.std.proofs.Common.{◌∙◌}
use Rattle.txn_core.specs.Locks.{whole_table}
use Rattle.txn_core.proofs.Shown.{holder_shown}
use Rattle.txn_core.proofs.txns.Txns.holder.Goals as goal

pub returns : goal.returns
returns c = λ pending h.
    c.first_holder.ensures ∙ holder_shown (whole_table c.args.table.now) c.args.self.now.pending.entries pending h
