-- What is planned for tables one by one.
use Rattle.std.specs.Prelude.{◌≡◌, ℕ, suc, ◌<◌, Bool, ◌==◌, if◌then◌else◌, List, [], ◌∷◌, length, Option, None, Some, IfSome}
use Rattle.std.specs.List.{AllByRecursion}
use Rattle.db_model.specs.Database.{Contents, put_op}
use Rattle.db_model.specs.Ops.{Operation}
use Rattle.db_model.specs.declared.definition.Kind.{Kind}
use Rattle.ram_table.specs.Contents.{TableRecords, contents}
use Rattle.ram_table.specs.Plans.{PlanSteps, IsMadeFor}
use Rattle.ram_table.specs.Plans as table_plans
use Rattle.db_state.specs.declared.parts.Part.{Part}

abbrev pub kind_of : TableRecords → Kind
kind_of table = table.kind

-- the part is for the table at this place
abbrev pub is_for : ℕ → Part → Bool
is_for place part = part.table == place

-- the plan for the table at a place, if there is one
abbrev pub plan_for : ℕ → List Part → Option PlanSteps
plan_for place [] = None
plan_for place (part ∷ parts) = if is_for place part then Some part.plan else plan_for place parts

-- the contents of a table once that is done
abbrev pub done_by : TableRecords → Option PlanSteps → Contents
done_by table None = contents table
done_by table (Some plan) = table_plans.planned table plan

-- the contents of the tables, the first of which is at this place, once all is done
abbrev pub contents_after : ℕ → List Part → List TableRecords → List Contents
contents_after place parts [] = []
contents_after place parts (table ∷ tables) =
    done_by table (plan_for place parts) ∷ contents_after (suc place) parts tables

-- each plan is made for its table
abbrev pub AreMadeFrom : ℕ → List Part → List TableRecords → Type 0
AreMadeFrom place parts [] = Unit {0}
AreMadeFrom place parts (table ∷ tables) =
    IfSome (plan_for place parts) (IsMadeFor table) × AreMadeFrom (suc place) parts tables

-- no two are for one table
abbrev pub AreApart : List Part → Type 0
AreApart [] = Unit {0}
AreApart (part ∷ parts) = (plan_for part.table parts ≡ None) × AreApart parts

abbrev pub AreWithin : ℕ → List Part → Type 0
AreWithin count parts = AllByRecursion (λ part. part.table < count) parts

-- what is planned can be done to these tables
pub record AreFor (tables : List TableRecords) (parts : List Part) : Type 0 where
  pub made : AreMadeFrom 0 parts tables
  pub apart : AreApart parts
  pub within : AreWithin (length tables) parts

-- the op is planned for the table at this place, behind what was planned for it, and for no other
pub record IsPlannedAt (op : Operation) (place : ℕ) (table : TableRecords) (before after : List Part) : Type 0 where
  pub done : done_by table (plan_for place after) ≡ put_op table.kind op (done_by table (plan_for place before))
  pub made : IfSome (plan_for place after) (IsMadeFor table)
  pub others : (other : ℕ) → (other ≡ place → ⊥) → plan_for other after ≡ plan_for other before
  pub apart : AreApart after
  pub within : (count : ℕ) → place < count → AreWithin count before → AreWithin count after
