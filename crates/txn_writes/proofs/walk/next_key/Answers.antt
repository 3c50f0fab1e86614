use Rattle.std.proofs.Common.{sym, subst}
use Rattle.std.specs.Option.{option_map, option_copied}
use Rattle.term_core.specs.View.{tree_of}
use Rattle.txn_writes.specs.Walks.{IsNext, IsOneOf, live_keys, own_keys, all_keys}
use Rattle.txn_writes.proofs.Nexts.{next_of_both, one_of_both}
use Rattle.txn_writes.proofs.walk.next_key.Goals as goal

pub returns-clause-next : goal.returns-clause-next
returns-clause-next c =
    subst (IsNext (option_map tree_of (option_copied c.args.last)) (all_keys (option_copied c.args.own) c.args.table.now))
    (sym c.lesser.ensures)
    (next_of_both _ (live_keys c.args.table.now) (own_keys (option_copied c.args.own)) _ _ c.next_live.ensures.next c.next_own.ensures.next)

pub returns-clause-one_of : goal.returns-clause-one_of
returns-clause-one_of c =
    subst (IsOneOf (all_keys (option_copied c.args.own) c.args.table.now)) (sym c.lesser.ensures)
    (one_of_both (live_keys c.args.table.now) (own_keys (option_copied c.args.own)) _ _ c.next_live.ensures.one_of
    c.next_own.ensures.one_of)
