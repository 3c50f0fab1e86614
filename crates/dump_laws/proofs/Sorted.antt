-- Tables in order stay so, and are told by what stands under each name.
use Rattle.std.proofs.Common.{◌≡◌, ◌⊎◌, inl, inr, ℕ, Bool, true, false, not, if◌then◌else◌, cond, filter, List, [], ◌∷◌, ◌++◌, None, Some, option_map, refl, sym, ap, ◌∙◌}
use Rattle.std.specs.List.{AllByRecursion}
use Rattle.std.specs.Ordering.{nat_cmp, is_lt}
use Rattle.std.specs.Cmp.Lexicographic.{slice_cmp, nat_list_cmp_total}
use Rattle.std.specs.FinMap.{nat_cmp-IsAntisymmetric, slice_cmp-IsAntisymmetric}
use Rattle.std.proofs.lemmas.Bool.{cases_Bool, both_ways}
use Rattle.db_model.specs.Commits.{SchemaOperation, create, drop_table, add_index, del_index, remake, CommitRecord}
use Rattle.db_model.specs.Database.{Contents, Table, Database, is_called, change_table, with_table, with_op, do_op, indexed, unindexed}
use Rattle.db_model.specs.Lawful.{table_in, Applies}
use Rattle.db_model.specs.Ops.{Operation, table_of}
use Rattle.db_model.specs.Taken.{is_next, is_due, take_op, take_ops}
use Rattle.db_model.specs.declared.definition.Kind.{Kind}
use Rattle.dump_laws.specs.Contents.{has, AreOrdered, IsKeyed}
use Rattle.dump_laws.specs.Directory.{Files, under}
use Rattle.dump_laws.specs.Lists.{Directory, made_table, make, make_all, AllApplyWith, tables_with, taken_with, CanTakeWith, all_taken_with, CanTakeAllWith, begun, database_of, HasMeaning, seen_table, seen, view_of, IsNamedBefore, AreSorted, AreKeyed, IsOrderly}
use Rattle.dump_laws.proofs.Options.{some_same}
use Rattle.dump_laws.proofs.Contents.{ordered-put_op, same_contents}
use Rattle.dump_laws.proofs.Meaning.{look, none_is, meaning_seen}
use Rattle.dump_laws.proofs.Names.{name_is, is_name}
use Rattle.dump_laws.proofs.Orders as orders

less_through : (a b c : List ℕ) → is_lt (slice_cmp nat_cmp a b) ≡ true → is_lt (slice_cmp nat_cmp b c) ≡ true
    → is_lt (slice_cmp nat_cmp a c) ≡ true
less_through = orders.less_through (slice_cmp nat_cmp) nat_list_cmp_total (slice_cmp-IsAntisymmetric nat_cmp-IsAntisymmetric)

less_never : (a : List ℕ) → is_lt (slice_cmp nat_cmp a a) ≡ false
less_never = orders.less_never (slice_cmp nat_cmp) nat_list_cmp_total (slice_cmp-IsAntisymmetric nat_cmp-IsAntisymmetric)

which : (a b : List ℕ) → (a ≡ b) ⊎ (is_lt (slice_cmp nat_cmp a b) ≡ true) ⊎ (is_lt (slice_cmp nat_cmp b a) ≡ true)
which = orders.which (slice_cmp nat_cmp) nat_list_cmp_total (slice_cmp-IsAntisymmetric nat_cmp-IsAntisymmetric)

-- the table's name comes before those of all these
abbrev Leads : Table → List Table → Type 0
Leads x tables = AllByRecursion (IsNamedBefore x) tables

leads_through : (a b : Table) (tables : List Table) → IsNamedBefore a b → Leads b tables → Leads a tables
leads_through a b [] before h = tt
leads_through a b (x ∷ xs) before h =
    (less_through a.definition.name b.definition.name x.definition.name before h.0, leads_through a b xs before h.1)

leads_lacks : (name : List ℕ) (x : Table) (tables : List Table) → name ≡ x.definition.name → Leads x tables → table_in name tables ≡ None
leads_lacks name x [] is h = refl
leads_lacks name x (y ∷ ys) is h = elim (cases_Bool (is_called name y)) [
  | inl called ↦ absurd (both_ways (is_lt (slice_cmp nat_cmp x.definition.name x.definition.name)) (less_never x.definition.name)
      (ap (λ n. is_lt (slice_cmp nat_cmp x.definition.name n)) (sym is ∙ name_is name y.definition.name called) ∙ h.0))
  | inr other ↦ ap (λ b. if b then Some y else table_in name ys) other ∙ leads_lacks name x ys is h.1
]

-- ---- what is taken away, added and changed

leads-filter : (keep : Table → Bool) (x : Table) (tables : List Table) → Leads x tables → Leads x (filter keep tables)
leads-filter keep x [] h = tt
leads-filter keep x (y ∷ ys) h = by (keep y) (leads-filter keep x ys h.1)
  where
    by : (b : Bool) → Leads x (filter keep ys) → Leads x (cond b (y ∷ filter keep ys) (filter keep ys))
    by true ih = (h.0, ih)
    by false ih = ih

sorted-filter : (keep : Table → Bool) (tables : List Table) → AreSorted tables → AreSorted (filter keep tables)
sorted-filter keep [] h = tt
sorted-filter keep (x ∷ xs) h = by (keep x) (sorted-filter keep xs h.2)
  where
    by : (b : Bool) → AreSorted (filter keep xs) → AreSorted (cond b (x ∷ filter keep xs) (filter keep xs))
    by true ih = (h.0, leads-filter keep x xs h.1, ih)
    by false ih = ih

leads_with : (x new : Table) (tables : List Table) → IsNamedBefore x new → Leads x tables → Leads x (with_table new tables)
leads_with x new [] before h = (before, tt)
leads_with x new (y ∷ ys) before h = by (is_lt (slice_cmp nat_cmp new.definition.name y.definition.name)) (leads_with x new ys before h.1)
  where
    by : (b : Bool) → Leads x (with_table new ys) → Leads x (if b then new ∷ y ∷ ys else y ∷ with_table new ys)
    by true ih = (before, h)
    by false ih = (h.0, ih)

sorted_with : (new : Table) (tables : List Table) → AreOrdered new.contents → table_in new.definition.name tables ≡ None
    → AreSorted tables → AreSorted (with_table new tables)
sorted_with new [] ordered none h = (ordered, tt, tt)
sorted_with new (x ∷ xs) ordered none h =
    by (is_lt (slice_cmp nat_cmp new.definition.name x.definition.name)) refl (sorted_with new xs ordered other.1 h.2)
  where
    absent : (b : Bool) → is_called new.definition.name x ≡ b → (if b then Some x else table_in new.definition.name xs) ≡ None
        → (is_called new.definition.name x ≡ false) × (table_in new.definition.name xs ≡ None)
    absent true called is = cc is
    absent false called is = (called, is)

    other : (is_called new.definition.name x ≡ false) × (table_in new.definition.name xs ≡ None)
    other = absent (is_called new.definition.name x) refl none

    past : is_lt (slice_cmp nat_cmp new.definition.name x.definition.name) ≡ false → IsNamedBefore x new
    past behind = elim (which new.definition.name x.definition.name) [
      | inl same ↦ absurd (both_ways (is_called new.definition.name x) other.0 (is_name new.definition.name x.definition.name same))
      | inr (inl before) ↦ absurd (both_ways (is_lt (slice_cmp nat_cmp new.definition.name x.definition.name)) behind before)
      | inr (inr after) ↦ after
    ]

    by : (b : Bool) → is_lt (slice_cmp nat_cmp new.definition.name x.definition.name) ≡ b → AreSorted (with_table new xs)
        → AreSorted (if b then new ∷ x ∷ xs else x ∷ with_table new xs)
    by true is ih = (ordered, (is, leads_through new x xs is h.1), h)
    by false is ih = (h.0, leads_with x new xs (past is) h.1, ih)

-- a change of the tables of a name that keeps the name, and the records in order
record Keeps (its : List ℕ) (change : Table → Table) : Type 0 where
  name : (t : Table) → is_called its t ≡ true → (change t).definition.name ≡ t.definition.name
  order : (t : Table) → is_called its t ≡ true → AreOrdered t.contents → AreOrdered (change t).contents

leads_change : (its : List ℕ) (change : Table → Table) → Keeps its change → (x y : Table) (tables : List Table)
    → x.definition.name ≡ y.definition.name → Leads x tables → Leads y (change_table its change tables)
leads_change its change keeps x y [] same h = tt
leads_change its change keeps x y (t ∷ ts) same h = (by (is_called its t) refl, leads_change its change keeps x y ts same h.1)
  where
    before : IsNamedBefore y t
    before = ap (λ n. is_lt (slice_cmp nat_cmp n t.definition.name)) (sym same) ∙ h.0

    by : (b : Bool) → is_called its t ≡ b → IsNamedBefore y (if b then change t else t)
    by true called = ap (λ n. is_lt (slice_cmp nat_cmp y.definition.name n)) (keeps.name t called) ∙ before
    by false called = before

sorted_change : (its : List ℕ) (change : Table → Table) → Keeps its change → (tables : List Table) → AreSorted tables
    → AreSorted (change_table its change tables)
sorted_change its change keeps [] h = tt
sorted_change its change keeps (t ∷ ts) h = by (is_called its t) refl (sorted_change its change keeps ts h.2)
  where
    by : (b : Bool) → is_called its t ≡ b → AreSorted (change_table its change ts)
        → AreSorted ((if b then change t else t) ∷ change_table its change ts)
    by true called ih = (keeps.order t called h.0, leads_change its change keeps t (change t) ts (sym (keeps.name t called)) h.1, ih)
    by false called ih = (h.0, leads_change its change keeps t t ts refl h.1, ih)

-- ---- what commits make of them

abbrev AllOrdered : Files Contents → Type 0
AllOrdered files = (name : List ℕ) (kind : Kind) (cookie : ℕ) → AreOrdered (files name kind cookie)

sorted_make : (files : Files Contents) → AllOrdered files → (op : SchemaOperation) (tables : List Table) → Applies op tables
    → AreSorted tables → AreSorted (make files op tables)
sorted_make files ordered (create d) tables applies h =
    sorted_with (made_table files d) tables (ordered d.name d.kind d.cookie) (none_is (table_in d.name tables) applies.1) h
sorted_make files ordered (drop_table name) tables applies h = sorted-filter (λ table. not (is_called name table)) tables h
sorted_make files ordered (add_index name position) tables applies h =
    sorted_change name (indexed position) record { name = λ t called. refl; order = λ t called o. o } tables h
sorted_make files ordered (del_index name position) tables applies h =
    sorted_change name (unindexed position) record { name = λ t called. refl; order = λ t called o. o } tables h
sorted_make files ordered (remake d) tables applies h =
    sorted_change d.name (λ table. made_table files d)
    record { name = λ t called. name_is d.name t.definition.name called; order = λ t called o. ordered d.name d.kind d.cookie } tables h

sorted_make_all : (files : Files Contents) → AllOrdered files → (ops : List SchemaOperation) (tables : List Table)
    → AllApplyWith files ops tables → AreSorted tables → AreSorted (make_all files ops tables)
sorted_make_all files ordered [] tables applies h = h
sorted_make_all files ordered (op ∷ ops) tables applies h =
    sorted_make_all files ordered ops (make files op tables) applies.1 (sorted_make files ordered op tables applies.0 h)

sorted_ops : (version : ℕ) (ops : List Operation) (tables : List Table) → AllByRecursion IsKeyed ops → AreSorted tables
    → AreSorted (take_ops version ops tables)
sorted_ops version [] tables keyed h = h
sorted_ops version (op ∷ ops) tables keyed h =
    sorted_ops version ops (take_op version op tables) keyed.1 (by (is_due version (table_in (table_of op) tables)))
  where
    by : (b : Bool) → AreSorted (if b then do_op op tables else tables)
    by true = sorted_change (table_of op) (with_op op)
        record { name = λ t called. refl; order = λ t called o. ordered-put_op t.definition.kind op t.contents keyed.0 o } tables h
    by false = h

sorted_taken : (files : Files Contents) → AllOrdered files → (x : CommitRecord) (db : Database) → CanTakeWith files x db
    → AllByRecursion IsKeyed x.operations → AreSorted db.tables → AreSorted (taken_with files x db).tables
sorted_taken files ordered x db can keyed h =
    sorted_ops x.version x.operations (tables_with files x db) keyed (by (is_next x db) can.applies)
  where
    by : (b : Bool) → (b ≡ true → AllApplyWith files x.schema_operations db.tables)
        → AreSorted (if b then make_all files x.schema_operations db.tables else db.tables)
    by true applies = sorted_make_all files ordered x.schema_operations db.tables (applies refl) h
    by false applies = h

sorted_all : (files : Files Contents) → AllOrdered files → (xs : List CommitRecord) (db : Database) → CanTakeAllWith files xs db
    → AreKeyed xs → AreSorted db.tables → AreSorted (all_taken_with files xs db).tables
sorted_all files ordered [] db can keyed h = h
sorted_all files ordered (x ∷ xs) db can keyed h =
    sorted_all files ordered xs (taken_with files x db) can.1 keyed.1 (sorted_taken files ordered x db can.0 keyed.0 h)

pub directory_sorted : (d : Directory) → IsOrderly d → HasMeaning d → AreSorted (database_of d).tables
directory_sorted d orderly can = sorted_all d.files orderly.files (d.previous ++ d.latest) (begun d) can orderly.keyed orderly.schema

-- ---- tables in order are told by look-ups

first_look : (x : Table) (xs : List Table) (name : List ℕ) → name ≡ x.definition.name → look (x ∷ xs) name ≡ Some (seen_table has x)
first_look x xs name is = ap (λ b. option_map (seen_table has) (if b then Some x else table_in name xs)) (is_name name x.definition.name is)

same_table : (x y : Table) → AreOrdered x.contents → AreOrdered y.contents → Some (seen_table has x) ≡ Some (seen_table has y) → x ≡ y
same_table x y a b is =
    ap (λ d. record { definition = d; contents = x.contents }) definitions
    ∙ ap (λ c. record { definition = y.definition; contents = c }) (same_contents x.contents y.contents a b (λ r. ap (λ rows. rows r) rows))
  where
    told : seen_table has x ≡ seen_table has y
    told = some_same (seen_table has x) (seen_table has y) is

    definitions : x.definition ≡ y.definition
    definitions = ap (λ t. t.definition) told

    rows : has x.contents ≡ has y.contents
    rows = ap (λ t. t.rows) told

same_tables : (a b : List Table) → AreSorted a → AreSorted b → ((name : List ℕ) → look a name ≡ look b name) → a ≡ b
same_tables [] [] h g same = refl
same_tables [] (y ∷ ys) h g same =
    let no_such : None ≡ Some (seen_table has y) = same y.definition.name ∙ first_look y ys y.definition.name refl in absurd (cc)
same_tables (x ∷ xs) [] h g same =
    let no_such : None ≡ Some (seen_table has x) = sym (same x.definition.name) ∙ first_look x xs x.definition.name refl in absurd (cc)
same_tables (x ∷ xs) (y ∷ ys) h g same = ap (λ u. u ∷ xs) head ∙ ap (λ us. y ∷ us) (same_tables xs ys h.2 g.2 tails)
  where
    lacks : (a b : Table) (bs : List Table) → IsNamedBefore a b → Leads b bs → look (b ∷ bs) a.definition.name ≡ None
    lacks a b bs before leads =
        ap (option_map (seen_table has)) (leads_lacks a.definition.name a (b ∷ bs) refl (before, leads_through a b bs before leads))

    head : x ≡ y
    head = elim (which x.definition.name y.definition.name) [
      | inl is ↦ same_table x y h.0 g.0
          (sym (first_look x xs x.definition.name refl) ∙ same x.definition.name ∙ first_look y ys x.definition.name is)
      | inr (inl lt) ↦
          let no_such : None ≡ Some (seen_table has x) =
          sym (lacks x y ys lt g.1) ∙ sym (same x.definition.name) ∙ first_look x xs x.definition.name refl in absurd (cc)
      | inr (inr gt) ↦
          let no_such : None ≡ Some (seen_table has y) =
          sym (lacks y x xs gt h.1) ∙ same y.definition.name ∙ first_look y ys y.definition.name refl in absurd (cc)
    ]

    tails : (name : List ℕ) → look xs name ≡ look ys name
    tails name = elim (cases_Bool (is_called name x)) [
      | inl called ↦
          let is : name ≡ x.definition.name = name_is name x.definition.name called in
          ap (option_map (seen_table has)) (leads_lacks name x xs is h.1
          ∙ sym (leads_lacks name y ys (is ∙ ap (λ t. t.definition.name) head) g.1))
      | inr other ↦
          sym (ap (λ b. option_map (seen_table has) (if b then Some x else table_in name xs)) other) ∙ same name
          ∙ ap (λ b. option_map (seen_table has) (if b then Some y else table_in name ys)) (ap (λ t. is_called name t) (sym head) ∙ other)
    ]

pub same_database : (one other : Database) → AreSorted one.tables → AreSorted other.tables → seen one ≡ seen other → one ≡ other
same_database one other h g same =
    ap (λ v. record { version = v; tables = one.tables }) (ap (λ d. d.version) same)
    ∙ ap (λ t. record { version = other.version; tables = t })
    (same_tables one.tables other.tables h g (λ name. ap (λ d. d.tables name) same))

-- what directories stand for is one where it is by look-ups
pub alike : (d e : Directory) → IsOrderly d → IsOrderly e → HasMeaning d → HasMeaning e → under (view_of d) ≡ under (view_of e)
    → database_of d ≡ database_of e
alike d e one other can_one can_other same =
    same_database (database_of d) (database_of e) (directory_sorted d one can_one) (directory_sorted e other can_other)
    (some_same (seen (database_of d)) (seen (database_of e)) (sym (meaning_seen d can_one) ∙ same ∙ meaning_seen e can_other))
