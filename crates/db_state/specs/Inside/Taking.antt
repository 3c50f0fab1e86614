-- What a start may take of ops, by definitions.
use Rattle.std.specs.Prelude.{◌≡◌, ℕ, All, map, Bool, false, IsTrue, nat_le, if◌then◌else◌, List, [], ◌∷◌, Option, None, Some, IfSome}
use Rattle.db_model.specs.Commits.{CommitRecord}
use Rattle.db_model.specs.Database.{Table}
use Rattle.db_model.specs.Ops.{Operation, table_of}
use Rattle.db_model.specs.Records.{Allows}
use Rattle.db_model.specs.Taken.{take_ops, MayTakeOp}
use Rattle.db_model.specs.View.{definition}
use Rattle.db_model.specs.declared.definition.TableDef.{TableDef}
use Rattle.ram_table.specs.Contents.{contents}
use Rattle.db_state.specs.Live.{LiveTables, with_contents, is_named}
use Rattle.db_state.specs.Plans.{planned, IsMadeFor}
use Rattle.db_state.specs.Inside.Sources.{defs_in, tables_in}
use Rattle.db_state.specs.declared.arrangement.Arrangement.{Arrangement}
use Rattle.db_state.specs.declared.plan.Plan.{Plan}

-- the first definition of this name
abbrev pub first_def : List ℕ → List TableDef → Option TableDef
first_def name [] = None
first_def name (def ∷ defs) = if is_named name def then Some def else first_def name defs

-- the definition stands, and is no newer
abbrev pub is_due_by : ℕ → Option TableDef → Bool
is_due_by version None = false
is_due_by version (Some def) = nat_le def.cookie version

-- the op is skipped, or its table allows it
abbrev pub MayTakeBy : ℕ → List TableDef → Operation → Type 0
MayTakeBy version defs op = IfSome (first_def (table_of op) defs)
    (λ def. IsTrue (nat_le def.cookie version) → Allows (definition def) op)

-- the tables in the new arrangement
abbrev pub arranged_tables : LiveTables → Option Arrangement → List Table
arranged_tables live new = with_contents (defs_in live.schema.tables new) (map contents (tables_in live.tables new))

-- on these tables the plan takes the commit's ops, and leaves this version
pub record TakesOps (live : LiveTables) (commit : CommitRecord) (version : ℕ) (tables : List Table)
    (plan : Plan) : Type 0 where
  pub made_for : IsMadeFor live plan
  pub may : All (MayTakeOp commit.version tables) commit.operations
  pub done : planned live plan ≡ record { version = version; tables = take_ops commit.version commit.operations tables }
