-- Plans of commits.
use Rattle.db_model.specs.Database.{Database}
use Rattle.db_state.specs.Live.{LiveTables, with_contents}
use Rattle.db_state.specs.Inside.Parts.{contents_after, AreFor}
use Rattle.db_state.specs.Inside.Sources.{defs_in, tables_in, IsArranged}
use Rattle.db_state.specs.declared.plan.Plan.{Plan}

-- the database once the plan is done: the tables are arranged first, and then the ops are done to each
abbrev pub planned : LiveTables → Plan → Database
planned live plan = record {
  version = plan.version;
  tables = with_contents (defs_in live.schema.tables plan.arrangement)
      (contents_after 0 plan.parts.items (tables_in live.tables plan.arrangement));
}

-- the plan was made for this database: it has the memory for what its tables need of it
pub record IsMadeFor (live : LiveTables) (plan : Plan) : Type 0 where
  pub arranged : IsArranged live.tables plan.arrangement
  pub parts : AreFor (tables_in live.tables plan.arrangement) plan.parts.items
