use Rattle.std.proofs.Common.{Some, ◌∙◌}
use Rattle.term_core.specs.View.{tree_of}
use Rattle.txn_core.specs.Locks.{Lock}
use Rattle.txn_core.proofs.Shown.{holder_shown}
use Rattle.txn_core.proofs.txns.Txns.key_holder.Goals as goal

pub returns : goal.returns
returns c = λ pending h.
    let lock : Lock = record { table = c.args.table.now; key = Some (tree_of c.args.key.now); writes = c.args.writes } in
    c.first_holder.ensures ∙ holder_shown lock c.args.self.now.pending.entries pending h
