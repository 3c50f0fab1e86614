use Rattle.std.proofs.Common.{ℕ, List, ◌∙◌, sym, option_map, option_copied}
use Rattle.term_core.specs.View.{tree_of}
use Rattle.txn_core.specs.Locks.{Lock}
use Rattle.txn_core.specs.declared.pending.Pending.{Pending}
use Rattle.txn_core.proofs.Begun.{found_at, passed_at, past_at}
use Rattle.txn_core.proofs.txns.Txns.first_holder.Goals.{in-Some+else-is_holder, in-None}
use Rattle.txn_core.proofs.txns.Txns.first_holder.Goals as goal

pub returns-then-is_holder : goal.returns-then-is_holder
returns-then-is_holder c =
    let key = option_map tree_of (option_copied c.args.key) in
    let lock : Lock = record { table = c.args.table.now; key = key; writes = c.args.writes } in
    let entry : List ℕ × Pending = (c.in-Some.name.now, c.in-Some.txn.now) in
    let is = sym c.is_holder.ensures ∙ c.if-is_holder.true in
    sym (found_at (option_copied c.args.except) lock c.args.self.now.pending.entries c.loop-i.i entry c.in-Some.ensures.entry is)
    ∙ c.loop-i.invariant

pub loop-i-preserved : goal.loop-i-preserved
loop-i-preserved c =
    let key = option_map tree_of (option_copied c.args.key) in
    let lock : Lock = record { table = c.args.table.now; key = key; writes = c.args.writes } in
    let except = option_copied c.args.except in
    let entries = c.args.self.now.pending.entries in
    elim c.match-get_index.branch [
      | in-Some+else-is_holder w ↦ (
          let is = sym w.is_holder.ensures ∙ w.if-is_holder.false in
          passed_at except lock entries c.loop-i.i (w.in-Some.name.now, w.in-Some.txn.now) w.in-Some.ensures.entry is
          ∙ c.loop-i.invariant)
      | in-None w ↦ past_at except lock entries c.loop-i.i w.in-None.ensures.entry ∙ c.loop-i.invariant
    ]
