-- Commits as plain data.
use Rattle.std.specs.Prelude.{ℕ, List}
use Rattle.db_model.specs.Definitions.{Definition}
use Rattle.db_model.specs.Ops.{Operation}

-- what is done to a table as a whole
pub data SchemaOperation : Type 0 where
  create : (table : Definition) → SchemaOperation
  drop_table : (table : List ℕ) → SchemaOperation
  add_index : (table : List ℕ) (position : ℕ) → SchemaOperation
  del_index : (table : List ℕ) (position : ℕ) → SchemaOperation
  remake : (table : Definition) → SchemaOperation

-- the schema operations come first, and the version is that of the database behind them
pub record CommitRecord : Type 0 where
  pub version : ℕ
  pub schema_operations : List SchemaOperation
  pub operations : List Operation
