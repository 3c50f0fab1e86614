use Rattle.std.proofs.Common.{◌≡◌, drop, option_map, option_copied}
use Rattle.term_core.specs.View.{tree_of}
use Rattle.txn_core.specs.Locks.{Lock}
use Rattle.txn_core.specs.Entries.{first_holder}
use Rattle.txn_core.proofs.txns.Txns.first_holder.Given as goal

abbrev pub invariant-loop-i : goal.invariant-loop-i
invariant-loop-i l =
    let lock : Lock = record { table = l.table; key = option_map tree_of (option_copied l.key); writes = l.writes } in
    let except = option_copied l.except in
    let entries = l.self.pending.entries in
    first_holder except lock (drop l.i entries) ≡ first_holder except lock entries
