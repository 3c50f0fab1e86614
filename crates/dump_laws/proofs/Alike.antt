-- What can be taken depends on the version and the definitions alone.
use Rattle.std.proofs.Common.{◌≡◌, suc, nat_le, append_assoc, ℕ, ◌+◌, ◌<◌, ◌≤◌, arith, Bool, true, false, not, if◌then◌else◌, cond, ◌==◌, filter, length, map, List, [], ◌∷◌, ◌++◌, Option, None, Some, is_some, get_or, refl, sym, ap, ◌∙◌, subst}
use Rattle.std.specs.Prelude.{IsSomeAnd, Contains}
use Rattle.std.specs.Ordering.{nat_cmp, is_lt}
use Rattle.std.specs.Cmp.Lexicographic.{slice_cmp}
use Rattle.std.proofs.lemmas.Bool.{eq-eqb, ne_eqb}
use Rattle.db_model.specs.Commits.{SchemaOperation, create, drop_table, add_index, del_index, remake, CommitRecord}
use Rattle.db_model.specs.Database.{Contents, Table, Database, with_position, is_called, same_name, change_table, with_table, with_op, do_op, indexed, unindexed, do_schema_ops}
use Rattle.db_model.specs.Definitions.{Definition, IsPosition}
use Rattle.db_model.specs.Lawful.{table_in, Applies, IsVersionBehind, IsLawful}
use Rattle.db_model.specs.Ops.{Operation, table_of}
use Rattle.db_model.specs.Records.{Allows}
use Rattle.db_model.specs.Taken.{is_next, is_due, take_op, take_ops, MayTakeOp}
use Rattle.dump_laws.specs.Directory.{Files}
use Rattle.dump_laws.specs.Lists.{Directory, made_table, make, make_all, AllApplyWith, tables_with, taken_with, CanTakeWith, all_taken_with, CanTakeAllWith, begun, database_of, HasMeaning, no_files}
use Rattle.dump_laws.specs.Order.{AllUpTo}
use Rattle.dump_laws.proofs.Logs.{apply_with, make_all_same}

-- the same definitions in the same order
abbrev pub Alike : List Table → List Table → Type 0
Alike [] [] = Unit {0}
Alike [] (y ∷ ys) = ⊥
Alike (x ∷ xs) [] = ⊥
Alike (x ∷ xs) (y ∷ ys) = (x.definition ≡ y.definition) × Alike xs ys

pub alike_refl : (a : List Table) → Alike a a
alike_refl [] = tt
alike_refl (x ∷ xs) = (refl, alike_refl xs)

pub alike_sym : (a b : List Table) → Alike a b → Alike b a
alike_sym [] [] h = tt
alike_sym [] (y ∷ ys) h = absurd h
alike_sym (x ∷ xs) [] h = absurd h
alike_sym (x ∷ xs) (y ∷ ys) h = (sym h.0, alike_sym xs ys h.1)

alike_through : (a b c : List Table) → Alike a b → Alike b c → Alike a c
alike_through [] [] c h g = g
alike_through [] (y ∷ ys) c h g = absurd h
alike_through (x ∷ xs) [] c h g = absurd h
alike_through (x ∷ xs) (y ∷ ys) [] h g = absurd g
alike_through (x ∷ xs) (y ∷ ys) (z ∷ zs) h g = (h.0 ∙ g.0, alike_through xs ys zs h.1 g.1)

alike_length : (a b : List Table) → Alike a b → length a ≡ length b
alike_length [] [] h = refl
alike_length [] (y ∷ ys) h = absurd h
alike_length (x ∷ xs) [] h = absurd h
alike_length (x ∷ xs) (y ∷ ys) h = ap suc (alike_length xs ys h.1)

abbrev pub AlikeFound : Option Table → Option Table → Type 0
AlikeFound None None = Unit {0}
AlikeFound None (Some y) = ⊥
AlikeFound (Some x) None = ⊥
AlikeFound (Some x) (Some y) = x.definition ≡ y.definition

pub alike_found : (name : List ℕ) (a b : List Table) → Alike a b → AlikeFound (table_in name a) (table_in name b)
alike_found name [] [] h = tt
alike_found name [] (y ∷ ys) h = absurd h
alike_found name (x ∷ xs) [] h = absurd h
alike_found name (x ∷ xs) (y ∷ ys) h =
    subst (λ b. AlikeFound (if is_called name x then Some x else table_in name xs) (if b then Some y else table_in name ys))
    (ap (λ d. same_name name d.name) h.0) (by (is_called name x) (alike_found name xs ys h.1))
  where
    by : (b : Bool) → AlikeFound (table_in name xs) (table_in name ys)
        → AlikeFound (if b then Some x else table_in name xs) (if b then Some y else table_in name ys)
    by true ih = h.0
    by false ih = ih

alike_with : (x y : Table) (a b : List Table) → x.definition ≡ y.definition → Alike a b → Alike (with_table x a) (with_table y b)
alike_with x y [] [] same h = (same, tt)
alike_with x y [] (t ∷ ts) same h = absurd h
alike_with x y (s ∷ ss) [] same h = absurd h
alike_with x y (s ∷ ss) (t ∷ ts) same h =
    subst (λ b. Alike (if is_lt (slice_cmp nat_cmp x.definition.name s.definition.name) then x ∷ s ∷ ss else s ∷ with_table x ss)
    (if b then y ∷ t ∷ ts else t ∷ with_table y ts))
    ((λ i. is_lt (slice_cmp nat_cmp (same i).name (h.0 i).name)))
    (by (is_lt (slice_cmp nat_cmp x.definition.name s.definition.name)) (alike_with x y ss ts same h.1))
  where
    by : (b : Bool) → Alike (with_table x ss) (with_table y ts)
        → Alike (if b then x ∷ s ∷ ss else s ∷ with_table x ss) (if b then y ∷ t ∷ ts else t ∷ with_table y ts)
    by true ih = (same, h)
    by false ih = (h.0, ih)

alike_dropped : (name : List ℕ) (a b : List Table) → Alike a b
    → Alike (filter (λ table. not (is_called name table)) a) (filter (λ table. not (is_called name table)) b)
alike_dropped name [] [] h = tt
alike_dropped name [] (y ∷ ys) h = absurd h
alike_dropped name (x ∷ xs) [] h = absurd h
alike_dropped name (x ∷ xs) (y ∷ ys) h =
    subst (λ b. Alike (cond (not (is_called name x)) (x ∷ filter (λ table. not (is_called name table)) xs)
    (filter (λ table. not (is_called name table)) xs))
    (cond (not b) (y ∷ filter (λ table. not (is_called name table)) ys) (filter (λ table. not (is_called name table)) ys)))
    (ap (λ d. same_name name d.name) h.0) (by (is_called name x) (alike_dropped name xs ys h.1))
  where
    by : (b : Bool) → Alike (filter (λ table. not (is_called name table)) xs) (filter (λ table. not (is_called name table)) ys)
        → Alike (cond (not b) (x ∷ filter (λ table. not (is_called name table)) xs) (filter (λ table. not (is_called name table)) xs))
        (cond (not b) (y ∷ filter (λ table. not (is_called name table)) ys) (filter (λ table. not (is_called name table)) ys))
    by true ih = ih
    by false ih = (h.0, ih)

alike_change : (name : List ℕ) (change other : Table → Table)
    → ((x y : Table) → x.definition ≡ y.definition → (change x).definition ≡ (other y).definition)
    → (a b : List Table) → Alike a b → Alike (change_table name change a) (change_table name other b)
alike_change name change other keeps [] [] h = tt
alike_change name change other keeps [] (y ∷ ys) h = absurd h
alike_change name change other keeps (x ∷ xs) [] h = absurd h
alike_change name change other keeps (x ∷ xs) (y ∷ ys) h = (
  ap (λ b. (if b then change x else x).definition) (ap (λ d. same_name name d.name) h.0) ∙ by (is_called name y),
  alike_change name change other keeps xs ys h.1,
)
  where
    by : (b : Bool) → (if b then change x else x).definition ≡ (if b then other y else y).definition
    by true = keeps x y h.0
    by false = h.0

-- an op changes no definition
alike_op : (name : List ℕ) (op : Operation) (a : List Table) → Alike (change_table name (with_op op) a) a
alike_op name op [] = tt
alike_op name op (x ∷ xs) = (by (is_called name x), alike_op name op xs)
  where
    by : (b : Bool) → (if b then with_op op x else x).definition ≡ x.definition
    by true = refl
    by false = refl

pub alike_ops : (version : ℕ) (ops : List Operation) (a : List Table) → Alike (take_ops version ops a) a
alike_ops version [] a = alike_refl a
alike_ops version (op ∷ ops) a =
    alike_through (take_ops version ops (take_op version op a)) (take_op version op a) a
    (alike_ops version ops (take_op version op a)) (by (is_due version (table_in (table_of op) a)))
  where
    by : (b : Bool) → Alike (if b then do_op op a else a) a
    by true = alike_op (table_of op) op a
    by false = alike_refl a

-- ---- schema ops

alike_make : (files others : Files Contents) (op : SchemaOperation) (a b : List Table) → Alike a b
    → Alike (make files op a) (make others op b)
alike_make files others (create d) a b h = alike_with (made_table files d) (made_table others d) a b refl h
alike_make files others (drop_table name) a b h = alike_dropped name a b h
alike_make files others (add_index name position) a b h =
    alike_change name (indexed position) (indexed position)
    (λ x y same. ap (λ (d : Definition). record d { index = with_position position d.index }) same) a b h
alike_make files others (del_index name position) a b h =
    alike_change name (unindexed position) (unindexed position)
    (λ x y same. ap (λ (d : Definition). record d { index = filter (λ other. not (other == position)) d.index }) same) a b h
alike_make files others (remake d) a b h =
    alike_change d.name (λ table. made_table files d) (λ table. made_table others d) (λ x y same. refl) a b h

alike_make_all : (files others : Files Contents) (ops : List SchemaOperation) (a b : List Table) → Alike a b
    → Alike (make_all files ops a) (make_all others ops b)
alike_make_all files others [] a b h = h
alike_make_all files others (op ∷ ops) a b h =
    alike_make_all files others ops (make files op a) (make others op b) (alike_make files others op a b h)

-- what is said of the definition of a table that is found
found_and : (P : Definition → Type 0) (o p : Option Table) → AlikeFound o p → IsSomeAnd o (λ t. P t.definition)
    → IsSomeAnd p (λ t. P t.definition)
found_and P None None h g = g
found_and P None (Some y) h g = absurd h
found_and P (Some x) None h g = absurd h
found_and P (Some x) (Some y) h g = subst P h g

found_some : (o p : Option Table) → AlikeFound o p → is_some o ≡ is_some p
found_some None None h = refl
found_some None (Some y) h = absurd h
found_some (Some x) None h = absurd h
found_some (Some x) (Some y) h = refl

alike_applies : (op : SchemaOperation) (a b : List Table) → Alike a b → Applies op a → Applies op b
alike_applies (create d) a b h g = (
  g.0,
  sym (found_some (table_in d.name a) (table_in d.name b) (alike_found d.name a b h))
      ∙ g.1,
  subst (λ n. n < 1000) (alike_length a b h) g.2,
)
alike_applies (drop_table name) a b h g = sym (found_some (table_in name a) (table_in name b) (alike_found name a b h)) ∙ g
alike_applies (add_index name position) a b h g =
    found_and (λ d. IsPosition (length d.attributes) position × (Contains d.index position → ⊥))
    (table_in name a) (table_in name b) (alike_found name a b h) g
alike_applies (del_index name position) a b h g =
    found_and (λ d. Contains d.index position) (table_in name a) (table_in name b) (alike_found name a b h) g
alike_applies (remake d) a b h g = (g.0, sym (found_some (table_in d.name a) (table_in d.name b) (alike_found d.name a b h)) ∙ g.1)

alike_apply_all : (files others : Files Contents) (ops : List SchemaOperation) (a b : List Table) → Alike a b
    → AllApplyWith files ops a → AllApplyWith others ops b
alike_apply_all files others [] a b h g = tt
alike_apply_all files others (op ∷ ops) a b h g = (
  alike_applies op a b h g.0,
  alike_apply_all files others ops (make files op a) (make others op b) (alike_make files others op a b h) g.1,
)

-- ---- ops

found_due : (version : ℕ) (o p : Option Table) → AlikeFound o p → is_due version o ≡ is_due version p
found_due version None None h = refl
found_due version None (Some y) h = absurd h
found_due version (Some x) None h = absurd h
found_due version (Some x) (Some y) h = ap (λ d. nat_le d.cookie version) h

pub alike_may : (version : ℕ) (op : Operation) (a b : List Table) → Alike a b → MayTakeOp version a op → MayTakeOp version b op
alike_may version op a b h may due =
    found_and (λ d. Allows d op) (table_in (table_of op) a) (table_in (table_of op) b) (alike_found (table_of op) a b h)
    (may (found_due version (table_in (table_of op) a) (table_in (table_of op) b) (alike_found (table_of op) a b h) ∙ due))

-- ---- commits

pub record AlikeDatabases (a b : Database) : Type 0 where
  pub version : a.version ≡ b.version
  pub tables : Alike a.tables b.tables

pub alike_turned : (a b : Database) → AlikeDatabases a b → AlikeDatabases b a
alike_turned a b h = record { version = sym h.version; tables = alike_sym a.tables b.tables h.tables }

next_alike : (x : CommitRecord) (a b : Database) → AlikeDatabases a b → is_next x a ≡ is_next x b
next_alike x a b h = ap (λ n. x.version == n + 1) h.version

tables_alike : (files others : Files Contents) (x : CommitRecord) (a b : Database) → AlikeDatabases a b
    → Alike (tables_with files x a) (tables_with others x b)
tables_alike files others x a b h =
    subst (λ n. Alike (tables_with files x a) (if n then make_all others x.schema_operations b.tables else b.tables)) (next_alike x a b h)
    (by (is_next x a))
  where
    by : (n : Bool) → Alike (if n then make_all files x.schema_operations a.tables else a.tables)
        (if n then make_all others x.schema_operations b.tables else b.tables)
    by true = alike_make_all files others x.schema_operations a.tables b.tables h.tables
    by false = h.tables

pub taken_alike : (files others : Files Contents) (x : CommitRecord) (a b : Database) → AlikeDatabases a b
    → AlikeDatabases (taken_with files x a) (taken_with others x b)
taken_alike files others x a b h = record {
  version = ap (λ n. if n then x.version else a.version) (next_alike x a b h) ∙ ap (λ v. if is_next x b then x.version else v) h.version;
  tables = alike_through (take_ops x.version x.operations (tables_with files x a)) (tables_with files x a)
      (take_ops x.version x.operations (tables_with others x b)) (alike_ops x.version x.operations (tables_with files x a))
      (alike_through (tables_with files x a) (tables_with others x b) (take_ops x.version x.operations (tables_with others x b))
      (tables_alike files others x a b h)
      (alike_sym (take_ops x.version x.operations (tables_with others x b)) (tables_with others x b)
      (alike_ops x.version x.operations (tables_with others x b))));
}

can_alike : (files others : Files Contents) (x : CommitRecord) (a b : Database) → AlikeDatabases a b → CanTakeWith files x a
    → CanTakeWith others x b
can_alike files others x a b h can = record {
  applies = λ next. alike_apply_all files others x.schema_operations a.tables b.tables h.tables (can.applies (next_alike x a b h ∙ next));
  allowed = λ k d within. alike_may x.version (get_or x.operations k d) (tables_with files x a) (tables_with others x b)
      (tables_alike files others x a b h) (can.allowed k d within);
}

pub can_all_alike : (files others : Files Contents) (xs : List CommitRecord) (a b : Database) → AlikeDatabases a b
    → CanTakeAllWith files xs a → CanTakeAllWith others xs b
can_all_alike files others [] a b h can = tt
can_all_alike files others (x ∷ xs) a b h can = (
  can_alike files others x a b h can.0,
  can_all_alike files others xs (taken_with files x a) (taken_with others x b) (taken_alike files others x a b h) can.1,
)

pub can-append : (files : Files Contents) (p s : List CommitRecord) (db : Database) → CanTakeAllWith files p db
    → CanTakeAllWith files s (all_taken_with files p db) → CanTakeAllWith files (p ++ s) db
can-append files [] s db h g = g
can-append files (x ∷ p) s db h g = (h.0, can-append files p s (taken_with files x db) h.1 g)

pub can_left : (files : Files Contents) (p s : List CommitRecord) (db : Database) → CanTakeAllWith files (p ++ s) db
    → CanTakeAllWith files p db
can_left files [] s db h = tt
can_left files (x ∷ p) s db h = (h.0, can_left files p s (taken_with files x db) h.1)

pub can_right : (files : Files Contents) (p s : List CommitRecord) (db : Database) → CanTakeAllWith files (p ++ s) db
    → CanTakeAllWith files s (all_taken_with files p db)
can_right files [] s db h = h
can_right files (x ∷ p) s db h = can_right files p s (taken_with files x db) h.1

-- commits of versions that are reached change no definition
pub still_one : (files : Files Contents) (x : CommitRecord) (db : Database) → x.version ≤ db.version
    → AlikeDatabases (taken_with files x db) db
still_one files x db old = record {
  version = ap (λ b. if b then x.version else db.version) test;
  tables = subst
      (λ b. Alike (take_ops x.version x.operations (if b then make_all files x.schema_operations db.tables else db.tables)) db.tables)
      (sym test) (alike_ops x.version x.operations db.tables);
}
  where
    test : is_next x db ≡ false
    test = ne_eqb x.version (db.version + 1) (λ is. omega (arith, is, old))

pub alike_dbs : (a b c : Database) → AlikeDatabases a b → AlikeDatabases b c → AlikeDatabases a c
alike_dbs a b c h g = record { version = h.version ∙ g.version; tables = alike_through a.tables b.tables c.tables h.tables g.tables }

pub still_all : (files : Files Contents) (xs : List CommitRecord) (db : Database) → AllUpTo db.version xs
    → AlikeDatabases (all_taken_with files xs db) db
still_all files [] db old = record { version = refl; tables = alike_refl db.tables }
still_all files (x ∷ xs) db old =
    let one : AlikeDatabases (taken_with files x db) db = still_one files x db old.0 in
    alike_dbs (all_taken_with files xs (taken_with files x db)) (taken_with files x db) db
    (still_all files xs (taken_with files x db) (subst (λ n. AllUpTo n xs) (sym one.version) old.1)) one

-- ---- a directory

made_alike : (files others : Files Contents) (definitions : List Definition)
    → Alike (map (made_table files) definitions) (map (made_table others) definitions)
made_alike files others [] = tt
made_alike files others (d ∷ ds) = (refl, made_alike files others ds)

pub files_meaning : (d : Directory) (files : Files Contents) → HasMeaning d → HasMeaning (record d { files = files })
files_meaning d files h =
    can_all_alike d.files files (d.previous ++ d.latest) (begun d) (begun (record d { files = files }))
    record { version = refl; tables = made_alike d.files files d.definitions } h

pub previous_meaning : (d : Directory) → AllUpTo d.version d.previous → HasMeaning d → HasMeaning (record d { previous = [] })
previous_meaning d old h =
    can_all_alike d.files d.files d.latest (all_taken_with d.files d.previous (begun d)) (begun d)
    (still_all d.files d.previous (begun d) old)
    (can_right d.files d.previous d.latest (begun d) h)

pub rotated_meaning : (d : Directory) (previous latest : List CommitRecord) → previous ++ latest ≡ d.previous ++ d.latest → HasMeaning d
    → HasMeaning (record d { previous = previous; latest = latest })
rotated_meaning d previous latest same h = subst (λ xs. CanTakeAllWith d.files xs (begun d)) (sym same) h

-- a lawful commit can be taken
lawful_can : (files : Files Contents) (x : CommitRecord) (db : Database) → IsLawful x db → CanTakeWith files x db
lawful_can files x db lawful = record {
  applies = λ next. alike_apply_all no_files files x.schema_operations db.tables db.tables (alike_refl db.tables)
      (apply_with x.schema_operations db.tables lawful.applies);
  allowed = λ k d within due. (alike_may x.version (get_or x.operations k d) (do_schema_ops x.schema_operations db.tables)
      (tables_with files x db)
      (made x.schema_operations refl lawful.version) (λ is. lawful.allowed k d within)) due;
}
  where
    same : Alike (do_schema_ops x.schema_operations db.tables) (make_all files x.schema_operations db.tables)
    same = subst (λ a. Alike a (make_all files x.schema_operations db.tables)) (make_all_same x.schema_operations db.tables)
        (alike_make_all no_files files x.schema_operations db.tables db.tables (alike_refl db.tables))

    made : (ops : List SchemaOperation) → x.schema_operations ≡ ops → IsVersionBehind db.version ops x.version
        → Alike (do_schema_ops x.schema_operations db.tables) (tables_with files x db)
    made [] is version =
        subst (λ b. Alike (do_schema_ops x.schema_operations db.tables)
        (if b then make_all files x.schema_operations db.tables else db.tables))
        (sym (ne_eqb x.version (db.version + 1) (λ next. omega (arith, next, version))))
        (subst (λ ops. Alike (do_schema_ops ops db.tables) db.tables) (sym is) (alike_refl db.tables))
    made (op ∷ ops) is version =
        subst (λ b. Alike (do_schema_ops x.schema_operations db.tables)
        (if b then make_all files x.schema_operations db.tables else db.tables))
        (sym (eq-eqb x.version (db.version + 1) version.0)) same

pub appended_meaning : (d : Directory) (x : CommitRecord) → IsLawful x (database_of d) → HasMeaning d
    → HasMeaning (record d { latest = d.latest ++ x ∷ [] })
appended_meaning d x lawful h =
    subst (λ xs. CanTakeAllWith d.files xs (begun d)) (append_assoc d.previous d.latest (x ∷ []))
    (can-append d.files (d.previous ++ d.latest) (x ∷ []) (begun d) h (lawful_can d.files x (database_of d) lawful, tt))

pub front_meaning : (d : Directory) (lost : List CommitRecord) → HasMeaning (record d { latest = d.latest ++ lost }) → HasMeaning d
front_meaning d lost h = can_left d.files (d.previous ++ d.latest) lost (begun d)
    (subst (λ xs. CanTakeAllWith d.files xs (begun d)) (sym (append_assoc d.previous d.latest lost)) h)
