use Rattle.std.proofs.Common.{Some, option_map, option_copied, sym, ap, ◌∙◌}
use Rattle.term_core.specs.View.{tree_of}
use Rattle.txn_core.specs.Locks.{lock_of}
use Rattle.txn_core.specs.Refusals.{locked, lock_refusal}
use Rattle.txn_core.specs.Requests.{call_of}
use Rattle.txn_core.specs.Entries.{first_holder}
use Rattle.txn_core.proofs.Lent.{lock_is}
use Rattle.txn_core.proofs.Shown.{other_holder_shown}
use Rattle.txn_core.proofs.txns.Txns.check_locks.Goals as goal

pub returns-in_ok-try_clone-in-Some : goal.returns-in_ok-try_clone-in-Some
returns-in_ok-try_clone-in-Some c = λ pending h.
    let table = c.args.table.now in
    let name = c.args.name.now in
    let entries = c.args.self.now.pending.entries in
    let key = option_map tree_of (option_copied c.key.result) in
    let its = lock_is table c.args.request key c.writes.result (c.key.ensures table) (c.writes.ensures table) in
    let lock = lock_of (call_of table c.args.request) in
    let at = c.in-Some.ensures ∙ ap (λ l. first_holder (Some name) l entries) its ∙ other_holder_shown name lock entries pending h in
    ap lock_refusal (sym at) ∙ ap (λ n. Some (locked n)) (sym c.in_ok-try_clone-in-Some.ensures.same)

pub returns-in-None : goal.returns-in-None
returns-in-None c = λ pending h.
    let table = c.args.table.now in
    let name = c.args.name.now in
    let entries = c.args.self.now.pending.entries in
    let key = option_map tree_of (option_copied c.key.result) in
    let its = lock_is table c.args.request key c.writes.result (c.key.ensures table) (c.writes.ensures table) in
    let lock = lock_of (call_of table c.args.request) in
    let at = c.in-None.ensures ∙ ap (λ l. first_holder (Some name) l entries) its ∙ other_holder_shown name lock entries pending h in
    ap lock_refusal (sym at)
