-- An op planned for each table of its name.
use Rattle.std.proofs.Common.{◌≡◌, ℕ, zero, suc, ◌+◌, ◌<◌, ◌≤◌, true, false, if◌then◌else◌, List, [], ◌∷◌, length, get_or}
use Rattle.std.proofs.Common.{refl, sym, ap, ◌∙◌, subst, arith, Option, Some, IfSome}
use Rattle.std.specs.Prelude.{slice_get}
use Rattle.db_model.specs.Database.{Contents, Table, change_table, with_op, put_op}
use Rattle.db_model.specs.Ops.{Operation, table_of}
use Rattle.db_model.specs.View.{definition}
use Rattle.db_model.specs.declared.definition.Kind.{Kind}
use Rattle.db_model.specs.declared.definition.TableDef.{TableDef}
use Rattle.ram_table.specs.Contents.{TableRecords}
use Rattle.ram_table.specs.Plans.{PlanSteps, IsMadeFor}
use Rattle.db_state.specs.Live.{with_contents, AreTables, is_named}
use Rattle.db_state.specs.Inside.Parts.{plan_for, done_by, contents_after, AreMadeFrom, AreFor, IsPlannedAt}
use Rattle.db_state.specs.declared.parts.Part.{Part}

-- the tables from a place on, each of the name changed
abbrev pub change_from : ℕ → List ℕ → (Table → Table) → List Table → List Table
change_from zero name change tables = change_table name change tables
change_from (suc i) name change [] = []
change_from (suc i) name change (t ∷ ts) = t ∷ change_from i name change ts

-- the table at a place changed
abbrev pub change_at : ℕ → (Table → Table) → List Table → List Table
change_at i change [] = []
change_at zero change (t ∷ ts) = change t ∷ ts
change_at (suc i) change (t ∷ ts) = t ∷ change_at i change ts

-- ---- one table after another

module _ (name : List ℕ) (change : Table → Table) where
  nothing_changed : (i : ℕ) → change_from i name change [] ≡ []
  nothing_changed zero = refl
  nothing_changed (suc i) = refl

  nothing_changed_at : (i : ℕ) → change_at i change [] ≡ []
  nothing_changed_at zero = refl
  nothing_changed_at (suc i) = refl

  one_changed : (defs : List TableDef) (rows : List Contents) (i : ℕ) (d : TableDef) → i < length defs
      → is_named name (get_or defs i d) ≡ true
      → change_from (suc i) name change (change_at i change (with_contents defs rows)) ≡ change_from i name change (with_contents defs rows)
  one_changed [] rows i d lt e = absurd (omega arith)
  one_changed (d ∷ ds) [] i e0 lt e = ap (change_from (suc i) name change) (nothing_changed_at i) ∙ sym (nothing_changed i)
  one_changed (d ∷ ds) (r ∷ rs) zero e0 lt e =
      let table : Table = record { definition = definition d; contents = r } in
      ap (λ b. (if b then change table else table) ∷ change_table name change (with_contents ds rs)) (sym e)
  one_changed (d ∷ ds) (r ∷ rs) (suc i) e0 lt e =
      ap (λ rest. record { definition = definition d; contents = r } ∷ rest) (one_changed ds rs i e0 (omega arith) e)

  one_passed : (defs : List TableDef) (rows : List Contents) (i : ℕ) (d : TableDef) → i < length defs
      → is_named name (get_or defs i d) ≡ false
      → change_from (suc i) name change (with_contents defs rows) ≡ change_from i name change (with_contents defs rows)
  one_passed [] rows i d lt e = absurd (omega arith)
  one_passed (d ∷ ds) [] i e0 lt e = sym (nothing_changed i)
  one_passed (d ∷ ds) (r ∷ rs) zero e0 lt e =
      let table : Table = record { definition = definition d; contents = r } in
      ap (λ b. (if b then change table else table) ∷ change_table name change (with_contents ds rs)) (sym e)
  one_passed (d ∷ ds) (r ∷ rs) (suc i) e0 lt e =
      ap (λ rest. record { definition = definition d; contents = r } ∷ rest) (one_passed ds rs i e0 (omega arith) e)

  all_passed : (defs : List TableDef) (rows : List Contents) (i : ℕ) → length defs ≤ i
      → change_from i name change (with_contents defs rows) ≡ with_contents defs rows
  all_passed [] rows zero le = refl
  all_passed [] rows (suc i) le = refl
  all_passed (d ∷ ds) rows zero le = absurd (omega arith)
  all_passed (d ∷ ds) [] (suc i) le = refl
  all_passed (d ∷ ds) (r ∷ rs) (suc i) le =
      ap (λ rest. record { definition = definition d; contents = r } ∷ rest) (all_passed ds rs i (omega arith))

-- ---- an op planned at a place

module _ (op : Operation) (place : ℕ) (table : TableRecords) (before after : List Part) (at : IsPlannedAt op place table before after) where
  later_contents : (k : ℕ) (tables : List TableRecords) → place < k → contents_after k after tables ≡ contents_after k before tables
  later_contents k [] lt = refl
  later_contents k (t ∷ ts) lt =
      λ i. done_by t (at.others k (λ e. absurd (omega arith)) i) ∷ later_contents (suc k) ts (omega arith) i

  later_made : (k : ℕ) (tables : List TableRecords) → place < k → AreMadeFrom k before tables → AreMadeFrom k after tables
  later_made k [] lt m = tt
  later_made k (t ∷ ts) lt m = (
    subst (λ (o : Option PlanSteps). IfSome o (IsMadeFor t)) (sym (at.others k (λ e. absurd (omega arith)))) m.0,
    later_made (suc k) ts (omega arith) m.1,
  )

  planned_rows : (k n : ℕ) (defs : List TableDef) (tables : List TableRecords) → place ≡ k + n → AreTables defs tables
      → slice_get tables n ≡ Some table
      → with_contents defs (contents_after k after tables) ≡ change_at n (with_op op) (with_contents defs (contents_after k before tables))
  planned_rows k n [] [] is a e = absurd cc
  planned_rows k n [] (t ∷ ts) is a e = absurd a
  planned_rows k n (d ∷ ds) [] is a e = absurd a
  planned_rows k zero (d ∷ ds) (t ∷ ts) is a e =
      let own : t ≡ table = cc in
      let here : place ≡ k = omega arith in
      let done : done_by t (plan_for k after) ≡ put_op d.kind op (done_by t (plan_for k before)) =
      subst (λ (u : TableRecords). done_by u (plan_for k after) ≡ put_op d.kind op (done_by u (plan_for k before))) (sym own)
      (subst (λ (n : ℕ). done_by table (plan_for n after) ≡ put_op d.kind op (done_by table (plan_for n before))) here
      (subst (λ (kind : Kind). done_by table (plan_for place after) ≡ put_op kind op (done_by table (plan_for place before)))
      (ap (λ (u : TableRecords). u.kind) (sym own) ∙ a.0.kind) at.done)) in
      λ i. record { definition = definition d; contents = done i } ∷ with_contents ds (later_contents (suc k) ts (omega arith) i)
  planned_rows k (suc n) (d ∷ ds) (t ∷ ts) is a e =
      λ i. record { definition = definition d; contents = done_by t (at.others k (λ same. absurd (omega arith)) i) }
      ∷ planned_rows (suc k) n ds ts (omega arith) a.1 e i

  planned_made : (k n : ℕ) (tables : List TableRecords) → place ≡ k + n → slice_get tables n ≡ Some table
      → AreMadeFrom k before tables → AreMadeFrom k after tables
  planned_made k n [] is e m = absurd cc
  planned_made k zero (t ∷ ts) is e m =
      let own : t ≡ table = cc in
      let here : place ≡ k = omega arith in (
        subst (λ (u : TableRecords). IfSome (plan_for k after) (IsMadeFor u)) (sym own)
            (subst (λ (n : ℕ). IfSome (plan_for n after) (IsMadeFor table)) here at.made),
        later_made (suc k) ts (omega arith) m.1,
      )
  planned_made k (suc n) (t ∷ ts) is e m = (
    subst (λ (o : Option PlanSteps). IfSome o (IsMadeFor t)) (sym (at.others k (λ same. absurd (omega arith)))) m.0,
    planned_made (suc k) n ts (omega arith) e m.1,
  )

made_here : (k n : ℕ) (parts : List Part) (tables : List TableRecords) (table : TableRecords) → slice_get tables n ≡ Some table
    → AreMadeFrom k parts tables → IfSome (plan_for (k + n) parts) (IsMadeFor table)
made_here k n parts [] table e m = absurd cc
made_here k zero parts (t ∷ ts) table e m =
    let own : t ≡ table = cc in
    let here : k ≡ k + 0 = omega arith in
    subst (λ (u : TableRecords). IfSome (plan_for (k + 0) parts) (IsMadeFor u)) own
    (subst (λ (n : ℕ). IfSome (plan_for n parts) (IsMadeFor t)) here m.0)
made_here k (suc n) parts (t ∷ ts) table e m =
    let here : suc k + n ≡ k + suc n = omega arith in
    subst (λ (i : ℕ). IfSome (plan_for i parts) (IsMadeFor table)) here (made_here (suc k) n parts ts table e m.1)

pub made_at_place : (place : ℕ) (parts : List Part) (tables : List TableRecords) (table : TableRecords)
    → slice_get tables place ≡ Some table → AreFor tables parts → IfSome (plan_for place parts) (IsMadeFor table)
made_at_place place parts tables table e are =
    let here : 0 + place ≡ place = omega arith in
    subst (λ (i : ℕ). IfSome (plan_for i parts) (IsMadeFor table)) here (made_here 0 place parts tables table e are.made)

pub still_for : (op : Operation) (place : ℕ) (table : TableRecords) (before after : List Part) (tables : List TableRecords)
    → IsPlannedAt op place table before after → slice_get tables place ≡ Some table → place < length tables → AreFor tables before
    → AreFor tables after
still_for op place table before after tables at e lt are = record {
  made = planned_made op place table before after at 0 place tables (omega arith) e are.made;
  apart = at.apart;
  within = at.within (length tables) lt are.within;
}

next : (i : ℕ) (name : List ℕ) (change : Table → Table) (tables : List Table)
    → change_from (i + 1) name change tables ≡ change_from (suc i) name change tables
next i name change tables =
    let same : i + 1 ≡ suc i = omega arith in
    ap (λ (n : ℕ). change_from n name change tables) same

-- the op is done to the tables before a place, and to the rest by the definition
pub step_planned : (op : Operation) (i : ℕ) (table : TableRecords) (before after : List Part) (defs : List TableDef)
    (def : TableDef) (tables : List TableRecords) (r : List Table)
    → IsPlannedAt op i table before after → slice_get tables i ≡ Some table → AreTables defs tables
    → i < length defs → def ≡ get_or defs i def → is_named (table_of op) def ≡ true
    → change_from i (table_of op) (with_op op) (with_contents defs (contents_after 0 before tables)) ≡ r
    → change_from (i + 1) (table_of op) (with_op op) (with_contents defs (contents_after 0 after tables)) ≡ r
step_planned op i table before after defs def tables r at e fit lt is named so_far =
    next i (table_of op) (with_op op) (with_contents defs (contents_after 0 after tables))
    ∙ ap (change_from (suc i) (table_of op) (with_op op)) (planned_rows op i table before after at 0 i defs tables (omega arith) fit e)
    ∙ one_changed (table_of op) (with_op op) defs (contents_after 0 before tables) i def lt (ap (is_named (table_of op)) (sym is) ∙ named)
    ∙ so_far

pub step_passed : (op : Operation) (i : ℕ) (parts : List Part) (defs : List TableDef) (def : TableDef) (tables : List TableRecords)
    (r : List Table) → i < length defs → def ≡ get_or defs i def → is_named (table_of op) def ≡ false
    → change_from i (table_of op) (with_op op) (with_contents defs (contents_after 0 parts tables)) ≡ r
    → change_from (i + 1) (table_of op) (with_op op) (with_contents defs (contents_after 0 parts tables)) ≡ r
step_passed op i parts defs def tables r lt is named so_far =
    next i (table_of op) (with_op op) (with_contents defs (contents_after 0 parts tables))
    ∙ one_passed (table_of op) (with_op op) defs (contents_after 0 parts tables) i def lt (ap (is_named (table_of op)) (sym is) ∙ named)
    ∙ so_far

pub steps_all : (op : Operation) (i : ℕ) (parts : List Part) (defs : List TableDef) (tables : List TableRecords) (r : List Table)
    → length defs ≤ i
    → change_from i (table_of op) (with_op op) (with_contents defs (contents_after 0 parts tables)) ≡ r
    → with_contents defs (contents_after 0 parts tables) ≡ r
steps_all op i parts defs tables r le so_far =
    sym (all_passed (table_of op) (with_op op) defs (contents_after 0 parts tables) i le) ∙ so_far
