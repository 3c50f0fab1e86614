-- What is planned for tables one by one.
use Rattle.std.proofs.Common.{◌≡◌, ℕ, zero, suc, ◌+◌, ◌<◌, Bool, true, false, if◌then◌else◌, List, [], ◌∷◌, ◌++◌, map}
use Rattle.std.proofs.Common.{length, get_or, set, refl, sym, ap, ◌∙◌, subst, arith, Option, None, Some, IfSome}
use Rattle.std.specs.Prelude.{◌==◌}
use Rattle.std.specs.List.{position_from, AllByRecursion as Each}
use Rattle.std.proofs.lemmas.Bool.{eqb-true, eqb-false, eq-eqb}
use Rattle.std.proofs.lemmas.List.{length-set}
use Rattle.db_model.specs.Database.{put_op}
use Rattle.db_model.specs.Ops.{Operation}
use Rattle.ram_table.specs.Contents.{TableRecords, contents}
use Rattle.ram_table.specs.Plans.{PlanSteps, IsMadeFor}
use Rattle.ram_table.specs.Plans as table_plans
use Rattle.db_state.specs.Inside.Parts.{is_for, kind_of, plan_for, done_by, contents_after, AreMadeFrom, AreApart, AreWithin, AreFor, IsPlannedAt}
use Rattle.db_state.specs.declared.parts.Part.{Part}
use Rattle.db_state.proofs.Places.{IsFirst, found, none}

pub not_for : (place : ℕ) (part : Part) → (part.table ≡ place → ⊥) → is_for place part ≡ false
not_for place part differs = by (part.table == place) refl
  where
    by : (b : Bool) → (part.table == place) ≡ b → b ≡ false
    by true e = absurd (differs (eqb-true part.table place e))
    by false e = refl

other_than : (place other : ℕ) (part : Part) → is_for place part ≡ true → (other ≡ place → ⊥) → is_for other part ≡ false
other_than place other part own differs = not_for other part (λ e. differs (sym e ∙ eqb-true part.table place own))

first_plan : (place : ℕ) (part : Part) (parts : List Part) → is_for place part ≡ true
    → plan_for place (part ∷ parts) ≡ Some part.plan
first_plan place part parts e = ap (λ b. if b then Some part.plan else plan_for place parts) e

later_plan : (place : ℕ) (part : Part) (parts : List Part) → is_for place part ≡ false
    → plan_for place (part ∷ parts) ≡ plan_for place parts
later_plan place part parts e = ap (λ b. if b then Some part.plan else plan_for place parts) e

-- what comes first stays first
behind : (place : ℕ) (part : Part) (one two : List Part) → plan_for place one ≡ plan_for place two
    → plan_for place (part ∷ one) ≡ plan_for place (part ∷ two)
behind place part one two e = ap (λ r. if is_for place part then Some part.plan else r) e

module _ (place : ℕ) where
  found_plan : (parts : List Part) (i : ℕ) (d : Part) → IsFirst (is_for place) parts i
      → plan_for place parts ≡ Some (get_or parts i d).plan
  found_plan [] i d f = absurd f
  found_plan (p ∷ ps) zero d f = first_plan place p ps f
  found_plan (p ∷ ps) (suc i) d f = later_plan place p ps f.0 ∙ found_plan ps i d f.1

  found_table : (parts : List Part) (i : ℕ) (d : Part) → IsFirst (is_for place) parts i → is_for place (get_or parts i d) ≡ true
  found_table [] i d f = absurd f
  found_table (p ∷ ps) zero d f = f
  found_table (p ∷ ps) (suc i) d f = found_table ps i d f.1

  no_plan : (parts : List Part) → Each (λ part. is_for place part ≡ false) parts → plan_for place parts ≡ None
  no_plan [] e = refl
  no_plan (p ∷ ps) e = later_plan place p ps e.0 ∙ no_plan ps e.1

  -- ---- another part in the place of the one for the table, or one behind all

  module _ (new : Part) (own : is_for place new ≡ true) where
    set_here : (parts : List Part) (i : ℕ) → IsFirst (is_for place) parts i → plan_for place (set parts i new) ≡ Some new.plan
    set_here [] i f = absurd f
    set_here (p ∷ ps) zero f = first_plan place new ps own
    set_here (p ∷ ps) (suc i) f = later_plan place p (set ps i new) f.0 ∙ set_here ps i f.1

    set_other : (other : ℕ) → (other ≡ place → ⊥) → (parts : List Part) (i : ℕ) → IsFirst (is_for place) parts i
        → plan_for other (set parts i new) ≡ plan_for other parts
    set_other other differs [] i f = absurd f
    set_other other differs (p ∷ ps) zero f =
        later_plan other new ps (other_than place other new own differs) ∙ sym (later_plan other p ps (other_than place other p f differs))
    set_other other differs (p ∷ ps) (suc i) f = behind other p (set ps i new) ps (set_other other differs ps i f.1)

    set_apart : (parts : List Part) (i : ℕ) → IsFirst (is_for place) parts i → AreApart parts → AreApart (set parts i new)
    set_apart [] i f a = absurd f
    set_apart (p ∷ ps) zero f a =
        (subst (λ (n : ℕ). plan_for n ps ≡ None) (eqb-true p.table place f ∙ sym (eqb-true new.table place own)) a.0, a.1)
    set_apart (p ∷ ps) (suc i) f a =
        (set_other p.table (eqb-false p.table place f.0) ps i f.1 ∙ a.0, set_apart ps i f.1 a.1)

    set_within : (count : ℕ) → place < count → (parts : List Part) (i : ℕ) → AreWithin count parts
        → AreWithin count (set parts i new)
    set_within count lt [] i w = tt
    set_within count lt (p ∷ ps) zero w =
        let same = eqb-true new.table place own in (omega arith, w.1)
    set_within count lt (p ∷ ps) (suc i) w = (w.0, set_within count lt ps i w.1)

    push_here : (parts : List Part) → Each (λ part. is_for place part ≡ false) parts
        → plan_for place (parts ++ new ∷ []) ≡ Some new.plan
    push_here [] e = first_plan place new [] own
    push_here (p ∷ ps) e = later_plan place p (ps ++ new ∷ []) e.0 ∙ push_here ps e.1

    push_other : (other : ℕ) → (other ≡ place → ⊥) → (parts : List Part) → plan_for other (parts ++ new ∷ []) ≡ plan_for other parts
    push_other other differs [] = later_plan other new [] (other_than place other new own differs)
    push_other other differs (p ∷ ps) = behind other p (ps ++ new ∷ []) ps (push_other other differs ps)

    push_apart : (parts : List Part) → Each (λ part. is_for place part ≡ false) parts → AreApart parts → AreApart (parts ++ new ∷ [])
    push_apart [] e a = (refl, tt)
    push_apart (p ∷ ps) e a =
        (push_other p.table (eqb-false p.table place e.0) ps ∙ a.0, push_apart ps e.1 a.1)

    push_within : (count : ℕ) → place < count → (parts : List Part) → AreWithin count parts → AreWithin count (parts ++ new ∷ [])
    push_within count lt [] w = let same = eqb-true new.table place own in (omega arith, tt)
    push_within count lt (p ∷ ps) w = (w.0, push_within count lt ps w.1)

pub some_plan : (table : TableRecords) (place : ℕ) (parts : List Part) (i : ℕ) (part : Part)
    → position_from (is_for place) 0 parts ≡ Some i → part ≡ get_or parts i part
    → IfSome (plan_for place parts) (IsMadeFor table) → IsMadeFor table part.plan
some_plan table place parts i part at is made =
    let plan = found_plan place parts i part (found (is_for place) i parts at) ∙ ap (λ (p : Part). Some p.plan) (sym is) in
    subst (λ (o : Option PlanSteps). IfSome o (IsMadeFor table)) plan made

pub planned_in : (op : Operation) (place : ℕ) (table : TableRecords) (parts : List Part) (i : ℕ) (part : Part) (plan : PlanSteps)
    → position_from (is_for place) 0 parts ≡ Some i → part ≡ get_or parts i part → AreApart parts
    → table_plans.planned table plan ≡ put_op table.kind op (table_plans.planned table part.plan) → IsMadeFor table plan
    → IsPlannedAt op place table parts (set parts i (record { table = part.table; plan = plan }))
planned_in op place table parts i part plan at is apart done made =
    let first = found (is_for place) i parts at in
    let new : Part = record { table = part.table; plan = plan } in
    let own : is_for place new ≡ true =
    ap (λ (p : Part). is_for place p) is ∙ found_table place parts i part first in
    let here = set_here place new own parts i first in
    let before = found_plan place parts i part first ∙ ap (λ (p : Part). Some p.plan) (sym is) in
    record {
      done = ap (done_by table) here ∙ done ∙ ap (λ o. put_op table.kind op (done_by table o)) (sym before);
      made = subst (λ (o : Option PlanSteps). IfSome o (IsMadeFor table)) (sym here) made;
      others = λ other differs. set_other place new own other differs parts i first;
      apart = set_apart place new own parts i first apart;
      within = λ count lt w. set_within place new own count lt parts i w;
    }

pub planned_behind : (op : Operation) (place : ℕ) (table : TableRecords) (parts : List Part) (plan : PlanSteps)
    → position_from (is_for place) 0 parts ≡ None → AreApart parts
    → table_plans.planned table plan ≡ put_op table.kind op (contents table) → IsMadeFor table plan
    → IsPlannedAt op place table parts (parts ++ record { table = place; plan = plan } ∷ [])
planned_behind op place table parts plan at apart done made =
    let free = none (is_for place) parts at in
    let new : Part = record { table = place; plan = plan } in
    let own : is_for place new ≡ true = eq-eqb place place refl in
    let here = push_here place new own parts free in
    record {
      done = ap (done_by table) here ∙ done ∙ ap (λ o. put_op table.kind op (done_by table o)) (sym (no_plan place parts free));
      made = subst (λ (o : Option PlanSteps). IfSome o (IsMadeFor table)) (sym here) made;
      others = λ other differs. push_other place new own other differs parts;
      apart = push_apart place new own parts free apart;
      within = λ count lt w. push_within place new own count lt parts w;
    }

-- ---- one part done

later_tables : (part : Part) (parts : List Part) (k : ℕ) (tables : List TableRecords) → part.table < k
    → contents_after k (part ∷ parts) tables ≡ contents_after k parts tables
later_tables part parts k [] lt = refl
later_tables part parts k (t ∷ ts) lt =
    λ i. done_by t (later_plan k part parts (not_for k part (λ e. absurd (omega arith))) i)
    ∷ later_tables part parts (suc k) ts (omega arith) i

later_made : (part : Part) (parts : List Part) (k : ℕ) (tables : List TableRecords) → part.table < k
    → AreMadeFrom k (part ∷ parts) tables → AreMadeFrom k parts tables
later_made part parts k [] lt m = tt
later_made part parts k (t ∷ ts) lt m = (
  subst (λ (o : Option PlanSteps). IfSome o (IsMadeFor t)) (later_plan k part parts (not_for k part (λ e. absurd (omega arith)))) m.0,
  later_made part parts (suc k) ts (omega arith) m.1,
)

contents_done : (part : Part) (parts : List Part) (k n : ℕ) (tables : List TableRecords) (new d : TableRecords)
    → part.table ≡ k + n → n < length tables → plan_for part.table parts ≡ None
    → contents new ≡ table_plans.planned (get_or tables n d) part.plan
    → contents_after k parts (set tables n new) ≡ contents_after k (part ∷ parts) tables
contents_done part parts k n [] new d at lt differs is = absurd (omega arith)
contents_done part parts k zero (t ∷ ts) new d at lt differs is =
    let same : part.table ≡ k = omega arith in
    let none_here : plan_for k parts ≡ None = subst (λ (n : ℕ). plan_for n parts ≡ None) same differs in
    let first = ap (done_by new) none_here ∙ is ∙ ap (done_by t) (sym (first_plan k part parts (eq-eqb part.table k same))) in
    λ i. first i ∷ sym (later_tables part parts (suc k) ts (omega arith)) i
contents_done part parts k (suc n) (t ∷ ts) new d at lt differs is =
    λ i. done_by t (sym (later_plan k part parts (not_for k part (λ e. absurd (omega arith)))) i)
    ∷ contents_done part parts (suc k) n ts new d (omega arith) (omega arith) differs is i

made_done : (part : Part) (parts : List Part) (k n : ℕ) (tables : List TableRecords) (new : TableRecords)
    → part.table ≡ k + n → plan_for part.table parts ≡ None
    → AreMadeFrom k (part ∷ parts) tables → AreMadeFrom k parts (set tables n new)
made_done part parts k n [] new at differs m = tt
made_done part parts k zero (t ∷ ts) new at differs m =
    let same : part.table ≡ k = omega arith in
    let none_here : plan_for k parts ≡ None = subst (λ (n : ℕ). plan_for n parts ≡ None) same differs in (
      subst (λ (o : Option PlanSteps). IfSome o (IsMadeFor new)) (sym none_here) tt,
      later_made part parts (suc k) ts (omega arith) m.1,
    )
made_done part parts k (suc n) (t ∷ ts) new at differs m = (
  subst (λ (o : Option PlanSteps). IfSome o (IsMadeFor t)) (later_plan k part parts (not_for k part (λ e. absurd (omega arith)))) m.0,
  made_done part parts (suc k) n ts new (omega arith) differs m.1,
)

made_at : (part : Part) (parts : List Part) (k n : ℕ) (tables : List TableRecords) (d : TableRecords)
    → part.table ≡ k + n → n < length tables → AreMadeFrom k (part ∷ parts) tables → IsMadeFor (get_or tables n d) part.plan
made_at part parts k n [] d at lt m = absurd (omega arith)
made_at part parts k zero (t ∷ ts) d at lt m =
    let same : part.table ≡ k = omega arith in
    subst (λ (o : Option PlanSteps). IfSome o (IsMadeFor t)) (first_plan k part parts (eq-eqb part.table k same)) m.0
made_at part parts k (suc n) (t ∷ ts) d at lt m = made_at part parts (suc k) n ts d (omega arith) (omega arith) m.1

pub part_made : (part : Part) (parts : List Part) (tables : List TableRecords) (table : TableRecords)
    → table ≡ get_or tables part.table table → AreFor tables (part ∷ parts) → IsMadeFor table part.plan
part_made part parts tables table is are =
    subst (λ (t : TableRecords). IsMadeFor t part.plan) (sym is)
    (made_at part parts 0 part.table tables table (omega arith) are.within.0 are.made)

pub part_done : (part : Part) (parts : List Part) (tables : List TableRecords) (table new : TableRecords)
    → table ≡ get_or tables part.table table → AreFor tables (part ∷ parts) → contents new ≡ table_plans.planned table part.plan
    → contents_after 0 parts (set tables part.table new) ≡ contents_after 0 (part ∷ parts) tables
part_done part parts tables table new is are done =
    contents_done part parts 0 part.table tables new table (omega arith) are.within.0 are.apart.0
    (done ∙ ap (λ (t : TableRecords). table_plans.planned t part.plan) is)

pub others_for : (part : Part) (parts : List Part) (tables : List TableRecords) (new : TableRecords) → AreFor tables (part ∷ parts)
    → AreFor (set tables part.table new) parts
others_for part parts tables new are = record {
  made = made_done part parts 0 part.table tables new (omega arith) are.apart.0 are.made;
  apart = are.apart.1;
  within = subst (λ (n : ℕ). AreWithin n parts) (sym (length-set tables part.table new)) are.within.1;
}

pub nothing_planned : (k : ℕ) (tables : List TableRecords) → contents_after k [] tables ≡ map contents tables
nothing_planned k [] = refl
nothing_planned k (t ∷ ts) = ap (λ rest. contents t ∷ rest) (nothing_planned (suc k) ts)

nothing_made : (k : ℕ) (tables : List TableRecords) → AreMadeFrom k [] tables
nothing_made k [] = tt
nothing_made k (t ∷ ts) = (tt, nothing_made (suc k) ts)

pub nothing_for : (tables : List TableRecords) → AreFor tables []
nothing_for tables = record { made = nothing_made 0 tables; apart = tt; within = tt }

pub kinds_kept : (tables : List TableRecords) (i : ℕ) (table new : TableRecords) → table ≡ get_or tables i table
    → new.kind ≡ table.kind → map kind_of (set tables i new) ≡ map kind_of tables
kinds_kept [] i table new is e = refl
kinds_kept (t ∷ ts) zero table new is e = ap (λ k. k ∷ map kind_of ts) (e ∙ ap kind_of is)
kinds_kept (t ∷ ts) (suc i) table new is e = ap (λ rest. t.kind ∷ rest) (kinds_kept ts i table new is e)
