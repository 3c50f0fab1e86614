-- A directory keeps its meaning when the schema file is written as the schema is behind the first commits.
use mathlib.Core.Path.{fun_ext}
use Rattle.std.proofs.Common.{◌≡◌, ◌⊎◌, inl, inr, ℕ, ◌+◌, ◌<◌, ◌≤◌, arith, Bool, true, false, if◌then◌else◌, map, List, [], ◌∷◌, ◌++◌, Option, None, Some, option_map, get_or, refl, sym, ap, ◌∙◌, subst, true≢false}
use Rattle.std.specs.Prelude.{All, IsSomeAnd}
use Rattle.std.specs.List.{AllByRecursion}
use Rattle.std.proofs.lemmas.Bool.{ne_eqb, eqb-true, le-leb, leb-true}
use Rattle.db_model.specs.Commits.{SchemaOperation, create, drop_table, add_index, del_index, remake, CommitRecord}
use Rattle.db_model.specs.Database.{Contents, Table, Database, same_name, indexed, unindexed}
use Rattle.db_model.specs.Lawful.{table_in, Applies, HasCookie}
use Rattle.db_model.specs.Ops.{Operation, write, delete, delete_object, clear, table_of}
use Rattle.db_model.specs.Records.{Allows}
use Rattle.db_model.specs.Taken.{is_next, is_due, MayTakeOp}
use Rattle.dump_laws.specs.Directory.{Files, TableOf, reached_after, schema_after, put_unit}
use Rattle.dump_laws.specs.Lists.{Directory, made_table, make, make_all, AllApplyWith, tables_with, taken_with, CanTakeWith, all_taken_with, CanTakeAllWith, begun, HasMeaning, seen_table, schema_of, view_of, behind, with_schema_behind}
use Rattle.dump_laws.specs.Order.{IsInTurn, AreInTurn, AllUpTo, with_schema}
use Rattle.dump_laws.proofs.Options.{some_same}
use Rattle.dump_laws.proofs.Alike.{Alike, alike_sym, AlikeFound, alike_found, alike_ops, alike_may, AlikeDatabases, alike_dbs, alike_turned, still_one, can_all_alike, can-append, can_left, can_right, still_all}
use Rattle.dump_laws.proofs.Closed.{reached_later}
use Rattle.dump_laws.proofs.Listed.{in_with_table, in_dropped, in_changed}
use Rattle.dump_laws.proofs.Meaning.{none_is, all_seen}
use Rattle.dump_laws.proofs.Names.{name_is}
use Rattle.dump_laws.proofs.Runs.{in_turn_left, in_turn_up_to}

-- ---- where a table comes from

-- a table of the name stood in these, with its cookie, and allowed no other ops
record Stood (tables : List Table) (name : List ℕ) (t : Table) : Type 0 where
  old : Table
  found : table_in name tables ≡ Some old
  cookie : t.definition.cookie ≡ old.definition.cookie
  allows : (op : Operation) → Allows old.definition op → Allows t.definition op

stood_still : (tables : List Table) (name : List ℕ) (t : Table) → table_in name tables ≡ Some t → Stood tables name t
stood_still tables name t found = record { old = t; found = found; cookie = refl; allows = λ op h. h }

stood_before : (tables now : List Table) (name : List ℕ) (t : Table) → (s : Stood now name t) → Stood tables name s.old
    → Stood tables name t
stood_before tables now name t s u = record {
  old = u.old;
  found = u.found;
  cookie = s.cookie ∙ u.cookie;
  allows = λ op h. s.allows op (u.allows op h);
}

-- one found in what a change made of the table of a name
from_changed : (change : Table → Table) → ((u : Table) → (change u).definition.cookie ≡ u.definition.cookie)
    → ((u : Table) (op : Operation) → Allows u.definition op → Allows (change u).definition op)
    → (tables : List Table) (name : List ℕ) (t : Table) (b : Bool)
    → (if b then option_map change (table_in name tables) else table_in name tables) ≡ Some t → Stood tables name t
from_changed change cookie allows tables name t false is = stood_still tables name t is
from_changed change cookie allows tables name t true is = by (table_in name tables) refl is
  where
    by : (o : Option Table) → table_in name tables ≡ o → option_map change o ≡ Some t → Stood tables name t
    by None found is = cc is
    by (Some u) found is =
        let same : change u ≡ t = some_same (change u) t is in
        record {
          old = u;
          found = found;
          cookie = ap (λ w. w.definition.cookie) (sym same) ∙ cookie u;
          allows = λ op h. subst (λ w. Allows w.definition op) same (allows u op h);
        }

op_origin : (files : Files Contents) (version : ℕ) (op : SchemaOperation) (tables : List Table) (name : List ℕ) (t : Table)
    → HasCookie version op → Applies op tables → table_in name (make files op tables) ≡ Some t
    → (t.definition.cookie ≡ version) ⊎ Stood tables name t
op_origin files version (create d) tables name t cookie applies is =
    by (same_name d.name name) (sym (in_with_table (made_table files d) tables name (none_is (table_in d.name tables) applies.1)) ∙ is)
  where
    by : (b : Bool) → (if b then Some (made_table files d) else table_in name tables) ≡ Some t
        → (t.definition.cookie ≡ version) ⊎ Stood tables name t
    by true made = inl (ap (λ w. w.definition.cookie) (sym (some_same (made_table files d) t made)) ∙ cookie)
    by false found = inr (stood_still tables name t found)
op_origin files version (drop_table gone) tables name t cookie applies is =
    by (same_name gone name) (sym (in_dropped gone tables name) ∙ is)
  where
    by : (b : Bool) → (if b then None else table_in name tables) ≡ Some t → (t.definition.cookie ≡ version) ⊎ Stood tables name t
    by true no_such = cc no_such
    by false found = inr (stood_still tables name t found)
op_origin files version (add_index its position) tables name t cookie applies is =
    inr (from_changed (indexed position) (λ u. refl) (same position) tables name t (same_name its name)
    (sym (in_changed its (indexed position) (λ u called. refl) tables name) ∙ is))
  where
    same : (position : ℕ) (u : Table) (op : Operation) → Allows u.definition op → Allows (indexed position u).definition op
    same position u (write table row) h = h
    same position u (delete table key) h = h
    same position u (delete_object table row) h = h
    same position u (clear table) h = h
op_origin files version (del_index its position) tables name t cookie applies is =
    inr (from_changed (unindexed position) (λ u. refl) (same position) tables name t (same_name its name)
    (sym (in_changed its (unindexed position) (λ u called. refl) tables name) ∙ is))
  where
    same : (position : ℕ) (u : Table) (op : Operation) → Allows u.definition op → Allows (unindexed position u).definition op
    same position u (write table row) h = h
    same position u (delete table key) h = h
    same position u (delete_object table row) h = h
    same position u (clear table) h = h
op_origin files version (remake d) tables name t cookie applies is =
    by (same_name d.name name) (table_in name tables)
    (sym (in_changed d.name (λ table. made_table files d) (λ u called. name_is d.name u.definition.name called) tables name) ∙ is) refl
  where
    by : (b : Bool) (o : Option Table) → (if b then option_map (λ table. made_table files d) o else o) ≡ Some t → table_in name tables ≡ o
        → (t.definition.cookie ≡ version) ⊎ Stood tables name t
    by true None no_such there = cc no_such
    by true (Some u) made there = inl (ap (λ w. w.definition.cookie) (sym (some_same (made_table files d) t made)) ∙ cookie)
    by false o found there = inr (stood_still tables name t (there ∙ found))

ops_origin : (files : Files Contents) (version : ℕ) (ops : List SchemaOperation) (tables : List Table) (name : List ℕ) (t : Table)
    → AllByRecursion (HasCookie version) ops → AllApplyWith files ops tables → table_in name (make_all files ops tables) ≡ Some t
    → (t.definition.cookie ≡ version) ⊎ Stood tables name t
ops_origin files version [] tables name t cookies applies is = inr (stood_still tables name t is)
ops_origin files version (op ∷ ops) tables name t cookies applies is =
    elim (ops_origin files version ops (make files op tables) name t cookies.1 applies.1 is) [
      | inl new ↦ inl new
      | inr s ↦ elim (op_origin files version op tables name s.old cookies.0 applies.0 s.found) [
        | inl new ↦ inl (s.cookie ∙ new)
        | inr u ↦ inr (stood_before tables (make files op tables) name t s u)
      ]
    ]

-- tables of the same definitions
stood_alike : (a b : List Table) (name : List ℕ) (t : Table) → Alike a b → Stood a name t → Stood b name t
stood_alike a b name t alike s =
    by (table_in name b) refl (subst (λ o. AlikeFound o (table_in name b)) s.found (alike_found name a b alike))
  where
    by : (o : Option Table) → table_in name b ≡ o → AlikeFound (Some s.old) o → Stood b name t
    by None found no_such = absurd no_such
    by (Some u) found same = record {
      old = u;
      found = found;
      cookie = s.cookie ∙ ap (λ d. d.cookie) same;
      allows = λ op h. s.allows op (subst (λ d. Allows d op) (sym same) h);
    }

commit_origin : (files : Files Contents) (x : CommitRecord) (db : Database) (name : List ℕ) (t : Table) → IsInTurn db.version x
    → CanTakeWith files x db → Stood (taken_with files x db).tables name t
    → (db.version < t.definition.cookie) ⊎ Stood db.tables name t
commit_origin files x db name t in_turn can s =
    by (is_next x db) refl can.applies
    (stood_alike (taken_with files x db).tables (tables_with files x db) name t
    (alike_ops x.version x.operations (tables_with files x db)) s)
  where
    by : (b : Bool) → is_next x db ≡ b → (b ≡ true → AllApplyWith files x.schema_operations db.tables)
        → Stood (if b then make_all files x.schema_operations db.tables else db.tables) name t
        → (db.version < t.definition.cookie) ⊎ Stood db.tables name t
    by true next applies u =
        let above : x.version ≡ db.version + 1 = eqb-true x.version (db.version + 1) next in
        elim (ops_origin files x.version x.schema_operations db.tables name u.old in_turn.cookies (applies refl) u.found) [
          | inl new ↦ inl (omega (arith, u.cookie, new, above))
          | inr v ↦ inr (stood_before db.tables (make_all files x.schema_operations db.tables) name t u v)
        ]
    by false next applies u = inr u

origin : (files : Files Contents) (p : List CommitRecord) (db : Database) (name : List ℕ) (t : Table) → AreInTurn db.version p
    → CanTakeAllWith files p db → table_in name (all_taken_with files p db).tables ≡ Some t
    → (db.version < t.definition.cookie) ⊎ Stood db.tables name t
origin files [] db name t in_turn can is = inr (stood_still db.tables name t is)
origin files (x ∷ p) db name t in_turn can is = elim (origin files p (taken_with files x db) name t in_turn.1 can.1 is) [
  | inl young ↦ inl (omega (arith, young, reached_later db.version x))
  | inr s ↦ commit_origin files x db name t in_turn.0 can.0 s
]

-- ---- so ops that are done over the schema behind the commits are allowed there

AllMay : List CommitRecord → List Table → Type 0
AllMay [] tables = Unit {0}
AllMay (x ∷ p) tables = All (MayTakeOp x.version tables) x.operations × AllMay p tables

stood_may : (version : ℕ) (op : Operation) (tables last : List Table)
    → ((t : Table) → table_in (table_of op) last ≡ Some t → t.definition.cookie ≤ version → Stood tables (table_of op) t)
    → MayTakeOp version tables op → MayTakeOp version last op
stood_may version op tables last stood may due = by (table_in (table_of op) last) refl due
  where
    allowed : (t : Table) (s : Stood tables (table_of op) t) (o : Option Table) → table_in (table_of op) tables ≡ o → o ≡ Some s.old
        → t.definition.cookie ≤ version → IsSomeAnd o (λ table. Allows table.definition op) → Allows t.definition op
    allowed t s None at no_such old h = absurd h
    allowed t s (Some u) at same old h =
        s.allows op (subst (λ w. Allows w.definition op) (some_same u s.old same) h)

    by : (o : Option Table) → table_in (table_of op) last ≡ o → is_due version o ≡ true → IsSomeAnd o (λ table. Allows table.definition op)
    by None at due = absurd (true≢false (sym due))
    by (Some t) at due =
        let old : t.definition.cookie ≤ version = leb-true t.definition.cookie version due in
        let s : Stood tables (table_of op) t = stood t at old in
        allowed t s (table_in (table_of op) tables) refl s.found old
        (may (ap (is_due version) s.found ∙ le-leb s.old.definition.cookie version (subst (λ c. c ≤ version) s.cookie old)))

over_last : (files : Files Contents) (p : List CommitRecord) (db : Database) → AreInTurn db.version p → CanTakeAllWith files p db
    → AllMay p (all_taken_with files p db).tables
unfolding AllMay
over_last files [] db in_turn can = tt
over_last files (x ∷ p) db in_turn can = (
  λ k d within. stood_may x.version (get_or x.operations k d) (taken_with files x db).tables
      (all_taken_with files p (taken_with files x db)).tables
      (λ t at old. elim (origin files p (taken_with files x db) (table_of (get_or x.operations k d)) t in_turn.1 can.1 at) [
        | inl young ↦ absurd (omega (arith, young, old, in_turn.0.within))
        | inr s ↦ s
      ])
      (alike_may x.version (get_or x.operations k d) (tables_with files x db) (taken_with files x db).tables
      (alike_sym (taken_with files x db).tables (tables_with files x db) (alike_ops x.version x.operations (tables_with files x db)))
      (can.0.allowed k d within)),
  over_last files p (taken_with files x db) in_turn.1 can.1,
)

while_still : (files : Files Contents) (p : List CommitRecord) (db now : Database) → AlikeDatabases db now → AllUpTo now.version p
    → AllMay p db.tables → CanTakeAllWith files p now
unfolding AllMay
while_still files [] db now alike old may = tt
while_still files (x ∷ p) db now alike old may = (
  record {
    applies = λ next. absurd (true≢false (sym next ∙ test));
    allowed = λ k d within. subst (λ b. MayTakeOp x.version (if b then make_all files x.schema_operations now.tables else now.tables)
        (get_or x.operations k d))
        (sym test) (alike_may x.version (get_or x.operations k d) db.tables now.tables alike.tables (may.0 k d within));
  },
  while_still files p db (taken_with files x now)
      (alike_dbs db now (taken_with files x now) alike (alike_turned (taken_with files x now) now one))
      (subst (λ n. AllUpTo n p) (sym one.version) old.1) may.1,
)
  where
    test : is_next x now ≡ false
    test = ne_eqb x.version (now.version + 1) (λ is. omega (arith, is, old.0))

    one : AlikeDatabases (taken_with files x now) now
    one = still_one files x now old.0

-- ---- a directory

defined_alike : (files : Files Contents) (tables : List Table)
    → Alike (map (made_table files) (map (λ table. table.definition) tables)) tables
defined_alike files [] = tt
defined_alike files (t ∷ ts) = (refl, defined_alike files ts)

behind_alike : (p : List CommitRecord) (d : Directory) → AlikeDatabases (begun (with_schema_behind p d)) (behind p d)
behind_alike p d = record { version = refl; tables = defined_alike d.files (behind p d).tables }

reached_version : (files : Files Contents) (p : List CommitRecord) (db : Database)
    → (all_taken_with files p db).version ≡ reached_after db.version p
reached_version files [] db = refl
reached_version files (x ∷ p) db = reached_version files p (taken_with files x db)

pub schema_meaning : (d : Directory) (p s : List CommitRecord) → d.previous ++ d.latest ≡ p ++ s → AreInTurn d.version (p ++ s)
    → HasMeaning d → HasMeaning (with_schema_behind p d)
schema_meaning d p s whole in_turn h =
    subst (λ xs. CanTakeAllWith d.files xs (begun (with_schema_behind p d))) (sym whole)
    (can-append d.files p s (begun (with_schema_behind p d))
    (while_still d.files p (behind p d) (begun (with_schema_behind p d))
    (alike_turned (begun (with_schema_behind p d)) (behind p d) (behind_alike p d))
    old (over_last d.files p (begun d) left (can_left d.files p s (begun d) can)))
    (can_all_alike d.files d.files s (behind p d) (all_taken_with d.files p (begun (with_schema_behind p d)))
    (alike_turned (all_taken_with d.files p (begun (with_schema_behind p d))) (behind p d)
    (alike_dbs (all_taken_with d.files p (begun (with_schema_behind p d))) (begun (with_schema_behind p d)) (behind p d)
    (still_all d.files p (begun (with_schema_behind p d)) old) (behind_alike p d)))
    (can_right d.files p s (begun d) can)))
  where
    can : CanTakeAllWith d.files (p ++ s) (begun d)
    can = subst (λ xs. CanTakeAllWith d.files xs (begun d)) whole h

    left : AreInTurn d.version p
    left = in_turn_left d.version p s in_turn

    old : AllUpTo (behind p d).version p
    old = subst (λ n. AllUpTo n p) (sym (reached_version d.files p (begun d))) (in_turn_up_to d.version p left)

-- and its view is with that schema, which the commits lead to
pub schema_behind : (d : Directory) (p s : List CommitRecord) → d.previous ++ d.latest ≡ p ++ s → HasMeaning d
    → schema_after p (view_of d).schema ≡ Some (schema_of (behind p d))
schema_behind d p s whole h =
    all_seen put_unit (λ contents. tt) (λ kind op rows. refl) d.files p (begun d)
    (can_left d.files p s (begun d) (subst (λ xs. CanTakeAllWith d.files xs (begun d)) whole h))

pub view_behind : (d : Directory) (p : List CommitRecord)
    → view_of (with_schema_behind p d) ≡ with_schema (schema_of (behind p d)) (view_of d)
view_behind d p = ap (λ tables. with_schema record { version = (behind p d).version; tables = tables } (view_of d))
    (fun_ext (λ name. same (table_in name (begun (with_schema_behind p d)).tables) (table_in name (behind p d).tables)
    (alike_found name (begun (with_schema_behind p d)).tables (behind p d).tables (defined_alike d.files (behind p d).tables))))
  where
    same : (o q : Option Table) → AlikeFound o q
        → option_map {U = TableOf (Unit {0})} (seen_table (λ contents. tt)) o ≡ option_map (seen_table (λ contents. tt)) q
    same None None h = refl
    same None (Some u) h = absurd h
    same (Some t) None h = absurd h
    same (Some t) (Some u) h = ap (λ d. Some record { definition = d; rows = tt }) h
