-- Plans of what is done to a table.
use Rattle.std.specs.Prelude.{◌≡◌, ℕ, List, [], length, map}
use Rattle.std.specs.List.{AllByRecursion}
use Rattle.term_core.specs.View.{tree_of}
use Rattle.db_model.specs.Database.{Contents}
use Rattle.db_model.specs.Ops.{Operation, write, delete, delete_object, clear}
use Rattle.ram_table.specs.Contents.{TableRecords, contents, put_ops, IsKeyed}
use Rattle.ram_table.specs.Inside.Steps.{HaveRoom}
use Rattle.ram_table.specs.declared.step.Step.{Step}
use Rattle.ram_table.specs.declared.step.Step.TheVariants.{Write, Delete, DeleteObject, Clear}

-- a plan as contracts see it: its steps, and how many records the table has for which it was made
pub record PlanSteps : Type 0 where
  pub steps : List Step
  pub count : ℕ

-- the op that a step does, whose table is not named
abbrev pub operation_of : Step → Operation
operation_of (Write put) = write [] (tree_of put.row)
operation_of (Delete key) = delete [] (tree_of key)
operation_of (DeleteObject row) = delete_object [] (tree_of row)
operation_of Clear = clear []

-- the same op, whose table is not named
abbrev pub unnamed : Operation → Operation
unnamed (write table row) = write [] row
unnamed (delete table key) = delete [] key
unnamed (delete_object table row) = delete_object [] row
unnamed (clear table) = clear []

-- the contents of the table once the plan is done
abbrev pub planned : TableRecords → PlanSteps → Contents
planned table plan = put_ops table.kind (map operation_of plan.steps) (contents table)

-- the plan was made for this table: it has the memory for what the table's records need of it
pub record IsMadeFor (table : TableRecords) (plan : PlanSteps) : Type 0 where
  pub count : plan.count ≡ length table.records
  pub room : HaveRoom table.kind table.records plan.steps
  pub keyed : AllByRecursion (λ step. IsKeyed (operation_of step)) plan.steps
