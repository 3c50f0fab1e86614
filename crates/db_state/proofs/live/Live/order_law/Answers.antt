use Rattle.std.proofs.Common.{subst}
use Rattle.std.specs.List.{AllByRecursion}
use Rattle.db_state.specs.Live.{LiveTables}
use Rattle.db_state.proofs.Shown.{IsOrderedTable, order_shown}
use Rattle.db_state.proofs.live.Live.order_law.Goals as goal

pub returns : goal.returns
returns c =
    let live = c.args.self.now in
    order_shown live.schema.tables live.tables
    (subst (λ (v : LiveTables). AllByRecursion IsOrderedTable v.tables) c.self.view_is
    (rw c.as_slice.ensures.value at c.order_law_of.ensures))
