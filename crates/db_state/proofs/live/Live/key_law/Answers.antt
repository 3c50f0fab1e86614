use Rattle.std.proofs.Common.{subst}
use Rattle.std.specs.List.{AllByRecursion}
use Rattle.db_state.specs.Live.{LiveTables, AreTables, database, IsKeyedTable}
use Rattle.db_state.proofs.Shown.{keys_shown}
use Rattle.db_state.proofs.live.Live.key_law.Goals as goal

pub returns : goal.returns
returns c =
    let live = c.args.self.now in
    keys_shown live.schema.tables live.tables
    (subst (λ (v : LiveTables). AreTables v.schema.tables v.tables) c.self.view_is c.self.invariant)
