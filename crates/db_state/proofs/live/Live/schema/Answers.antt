use Rattle.std.proofs.Common.{◌≡◌, map, subst}
use Rattle.db_model.specs.View.{definition}
use Rattle.db_state.specs.Live.{LiveTables, database, definition_of}
use Rattle.db_state.proofs.Shown.{defs_shown}
use Rattle.db_state.proofs.live.Live.schema.Goals as goal

pub returns-clause-tables : goal.returns-clause-tables
returns-clause-tables c =
    subst (λ (v : LiveTables). map definition c.self.inside.schema.tables ≡ map definition_of (database v).tables) c.self.view_is
    (defs_shown c.self.inside.schema.tables c.self.inside.tables.items c.self.invariant)
