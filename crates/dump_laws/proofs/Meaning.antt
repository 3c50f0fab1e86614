-- A directory over lists is told by look-ups as it is there.
use mathlib.Core.Path.{fun_ext}
use Rattle.std.proofs.Common.{◌≡◌, ℕ, ◌+◌, arith, Bool, true, false, not, ◌&&◌, ◌||◌, if◌then◌else◌, ◌==◌, nat_le, filter, length, map, true≢false, subst, List, [], ◌∷◌, ◌++◌, Option, None, Some, IsSome, option_map, option_and_then, refl, sym, ap, ◌∙◌}
use Rattle.std.specs.Prelude.{IsNone, IsSomeAnd, Contains}
use Rattle.std.specs.List.{list_any}
use Rattle.std.proofs.lemmas.Bool.{and_from, le-leb, eq-eqb, eqb-true, false_from_ne_true}
use Rattle.std.proofs.lemmas.List.Elements.{Contains-append_right}
use Rattle.std.proofs.lemmas.List.Folds.{list_any_at}
use Rattle.db_model.specs.Commits.{SchemaOperation, create, drop_table, add_index, del_index, remake, CommitRecord}
use Rattle.db_model.specs.Database.{Contents, Table, Database, same_name, is_called, change_table, with_position, with_op, do_op, indexed, unindexed, put_op}
use Rattle.db_model.specs.Definitions.{Definition}
use Rattle.db_model.specs.Lawful.{table_in, Applies, LacksIndex, HasIndex}
use Rattle.db_model.specs.Ops.{Operation, table_of}
use Rattle.db_model.specs.Taken.{is_due, take_op, take_ops}
use Rattle.db_model.specs.declared.definition.Kind.{Kind}
use Rattle.dump_laws.specs.Contents.{has}
use Rattle.dump_laws.specs.Directory.{Files, TableOf, Tables, changed, change, definition_of, changed_table, is_indexed, can_index, reindexed, set_table, schema_op_taken, schema_ops_taken, touched, op_taken, ops_taken, reached, commit_taken, run, begin, under}
use Rattle.dump_laws.specs.Effects.{Rows, put}
use Rattle.dump_laws.specs.Lists.{Directory, made_table, make, make_all, AllApplyWith, tables_with, taken_with, CanTakeWith, all_taken_with, CanTakeAllWith, begun, database_of, HasMeaning, seen_table, seen_by, seen, view_of}
use Rattle.dump_laws.proofs.Contents.{has-put_op}
use Rattle.dump_laws.proofs.Listed.{in_with_table, in_dropped, in_changed}
use Rattle.dump_laws.proofs.Names.{name_is}

-- ---- a table that stands

pub none_is : (o : Option Table) → IsNone o → o ≡ None
none_is None h = refl
none_is (Some t) h = absurd (cc)

-- a table that stands
record Stands (name : List ℕ) (tables : List Table) (P : Table → Type 0) : Type 0 where
  table : Table
  is : table_in name tables ≡ Some table
  holds : P table

stands : (name : List ℕ) (tables : List Table) → IsSome (table_in name tables) → Stands name tables (λ t. Unit {0})
stands name tables some = by (table_in name tables) refl some
  where
    by : (o : Option Table) → table_in name tables ≡ o → IsSome o → Stands name tables (λ t. Unit {0})
    by None is some = absurd (cc)
    by (Some t) is some = record { table = t; is = is; holds = tt }

stands_and : (name : List ℕ) (tables : List Table) (P : Table → Type 0) → IsSomeAnd (table_in name tables) P → Stands name tables P
stands_and name tables P some = by (table_in name tables) refl some
  where
    by : (o : Option Table) → table_in name tables ≡ o → IsSomeAnd o P → Stands name tables P
    by None is some = absurd some
    by (Some t) is some = record { table = t; is = is; holds = some }

-- ---- positions

is_there : (position : ℕ) (xs : List ℕ) → Contains xs position → list_any (λ other. other == position) xs ≡ true
is_there position xs there =
    list_any_at (λ other. other == position) xs there.0 position there.1 (ap (λ n. n == position) there.2 ∙ eq-eqb position position refl)

contained : (position : ℕ) (xs : List ℕ) → list_any (λ other. other == position) xs ≡ true → Contains xs position
contained position [] h = absurd (true≢false (sym h))
contained position (x ∷ xs) h =
    by (x == position) refl (λ apart. contained position xs (sym (ap (λ b. b || list_any (λ other. other == position) xs) apart) ∙ h))
  where
    by : (b : Bool) → (x == position) ≡ b → ((x == position) ≡ false → Contains xs position) → Contains (x ∷ xs) position
    by true same rest = (0, omega arith, eqb-true x position same)
    by false apart rest = Contains-append_right (x ∷ []) xs position (rest apart)

indexable : (position : ℕ) (t : Table) → LacksIndex position t → can_index position t.definition ≡ true
indexable position t lacks =
    and_from (nat_le 3 position && nat_le position (length t.definition.attributes + 1)) (not (is_indexed position t.definition))
    (and_from (nat_le 3 position) (nat_le position (length t.definition.attributes + 1))
    (le-leb 3 position lacks.0.0) (le-leb position (length t.definition.attributes + 1) lacks.0.1))
    (ap not (false_from_ne_true (is_indexed position t.definition) (λ there. lacks.1 (contained position t.definition.index there))))

-- ---- by look-ups

abbrev pub look_by : {X : Type 0} → (Contents → X) → List Table → Tables X
look_by see tables name = option_map (seen_table see) (table_in name tables)

abbrev pub look : List Table → Tables Rows
look tables = look_by has tables

abbrev pub given : {X : Type 0} → (Contents → X) → Files Contents → Files X
given see files name kind cookie = see (files name kind cookie)

module _ {X : Type 0} (put_one : Kind → Operation → X → X) (see : Contents → X)
    (sees : (kind : Kind) (op : Operation) (rows : Contents) → see (put_op kind op rows) ≡ put_one kind op (see rows)) where
  -- ---- ops

  one_op : (version : ℕ) (op : Operation) (found : Option Table) (due : Bool) → due ≡ is_due version found
      → option_map (seen_table see) (if due then option_map (with_op op) found else found)
      ≡ option_map (touched put_one version op) (option_map (seen_table see) found)
  one_op version op None true is = refl
  one_op version op None false is = refl
  one_op version op (Some t) true is =
      ap (λ rows. Some record { definition = t.definition; rows = rows }) (sees t.definition.kind op t.contents)
      ∙ ap (λ b. Some record {
        definition = t.definition;
        rows =
            if b then put_one t.definition.kind op (see t.contents) else see t.contents;
      }) is
  one_op version op (Some t) false is =
      ap (λ b. Some record {
        definition = t.definition;
        rows =
            if b then put_one t.definition.kind op (see t.contents) else see t.contents;
      }) is

  take_seen : (version : ℕ) (op : Operation) (tables : List Table) (name : List ℕ)
      → look_by see (take_op version op tables) name ≡ op_taken put_one version op (look_by see tables) name
  take_seen version op tables name = by (is_due version (table_in (table_of op) tables)) (same_name (table_of op) name) refl refl
    where
      there : Option Table
      there = table_in name tables

      changed : (n : Bool) → same_name (table_of op) name ≡ n
          → table_in name (do_op op tables) ≡ (if n then option_map (with_op op) (table_in name tables) else table_in name tables)
      changed n is = in_changed (table_of op) (with_op op) (λ t called. refl) tables name
          ∙ ap (λ b. if b then option_map (with_op op) (table_in name tables) else table_in name tables) is

      due_at : (due : Bool) → is_due version (table_in (table_of op) tables) ≡ due → same_name (table_of op) name ≡ true
          → due ≡ is_due version (table_in name tables)
      due_at due is same = sym is ∙ ap (λ n. is_due version (table_in n tables)) (name_is (table_of op) name same)

      by : (due n : Bool) → is_due version (table_in (table_of op) tables) ≡ due → same_name (table_of op) name ≡ n
          → option_map (seen_table see) (table_in name (if due then do_op op tables else tables))
          ≡ (if n then option_map (touched put_one version op) (look_by see tables name) else look_by see tables name)
      by true true due same = ap (option_map (seen_table see)) (changed true same)
          ∙ one_op version op (table_in name tables) true (due_at true due same)
      by true false due same = ap (option_map (seen_table see)) (changed false same)
      by false true due same = one_op version op (table_in name tables) false (due_at false due same)
      by false false due same = refl

  pub ops_seen : (version : ℕ) (ops : List Operation) (tables : List Table)
      → look_by see (take_ops version ops tables) ≡ ops_taken put_one version ops (look_by see tables)
  ops_seen version [] tables = refl
  ops_seen version (op ∷ ops) tables =
      ops_seen version ops (take_op version op tables) ∙ ap (ops_taken put_one version ops) (fun_ext (take_seen version op tables))

  -- ---- schema ops

  -- the table of the name is changed to this one
  set_at : (its : List ℕ) (change : Table → Table) → ((t : Table) → is_called its t ≡ true → (change t).definition.name ≡ t.definition.name)
      → (tables : List Table) (t : Table) → table_in its tables ≡ Some t
      → set_table its (Some (seen_table see (change t))) (look_by see tables) ≡ look_by see (change_table its change tables)
  set_at its change keeps tables t found = fun_ext (λ other. by other (same_name its other) refl)
    where
      by : (other : List ℕ) (b : Bool) → same_name its other ≡ b
          → (if b then Some (seen_table see (change t)) else look_by see tables other) ≡ look_by see (change_table its change tables) other
      by other true same =
          ap (λ o. option_map (seen_table see) (option_map change o)) (sym found ∙ ap (λ n. table_in n tables) (name_is its other same))
          ∙ sym (ap (option_map (seen_table see)) (in_changed its change keeps tables other
          ∙ ap (λ b. if b then option_map change (table_in other tables) else table_in other tables) same))
      by other false same =
          sym (ap (option_map (seen_table see)) (in_changed its change keeps tables other
          ∙ ap (λ b. if b then option_map change (table_in other tables) else table_in other tables) same))

  make_seen : (files : Files Contents) (op : SchemaOperation) (tables : List Table) → Applies op tables
      → schema_op_taken (given see files) op (look_by see tables) ≡ Some (look_by see (make files op tables))
  make_seen files (create d) tables applies =
      ap (λ o. option_map (λ c. set_table d.name (changed_table (given see files) d.name c (option_map (seen_table see) o))
      (look_by see tables))
      (change (create d) (definition_of (option_map (seen_table see) o)))) none
      ∙ ap Some (fun_ext (λ other. by other (same_name d.name other) refl))
    where
      none : table_in d.name tables ≡ None
      none = none_is (table_in d.name tables) applies.1

      by : (other : List ℕ) (b : Bool) → same_name d.name other ≡ b
          → (if b then Some (seen_table see (made_table files d)) else look_by see tables other)
          ≡ look_by see (make files (create d) tables) other
      by other b same = pushed b ∙ sym (ap (option_map (seen_table see)) (in_with_table (made_table files d) tables other none
          ∙ ap (λ b. if b then Some (made_table files d) else table_in other tables) same))
        where
          pushed : (b : Bool) → (if b then Some (seen_table see (made_table files d)) else look_by see tables other)
              ≡ option_map (seen_table see) (if b then Some (made_table files d) else table_in other tables)
          pushed true = refl
          pushed false = refl
  make_seen files (drop_table name) tables applies =
      ap (λ o. option_map (λ c. set_table name (changed_table (given see files) name c (option_map (seen_table see) o))
      (look_by see tables))
      (change (drop_table name) (definition_of (option_map (seen_table see) o)))) (stands name tables applies).is
      ∙ ap Some (fun_ext (λ other. pushed other (same_name name other)
      ∙ sym (ap (option_map (seen_table see)) (in_dropped name tables other))))
    where
      pushed : (other : List ℕ) (b : Bool)
          → (if b then None else look_by see tables other) ≡ option_map (seen_table see) (if b then None else table_in other tables)
      pushed other true = refl
      pushed other false = refl
  make_seen files (add_index name position) tables applies =
      let t = stands_and name tables (LacksIndex position) applies in
      ap (λ o. option_map (λ c. set_table name (changed_table (given see files) name c (option_map (seen_table see) o))
      (look_by see tables))
      (change (add_index name position) (definition_of (option_map (seen_table see) o)))) t.is
      ∙ ap (λ b. option_map (λ c. set_table name (changed_table (given see files) name c (Some (seen_table see t.table)))
      (look_by see tables))
      (if b then Some (changed (reindexed (with_position position t.table.definition.index) t.table.definition)) else None))
      (indexable position t.table t.holds)
      ∙ ap Some (set_at name (indexed position) (λ u called. refl) tables t.table t.is)
  make_seen files (del_index name position) tables applies =
      let t = stands_and name tables (HasIndex position) applies in
      ap (λ o. option_map (λ c. set_table name (changed_table (given see files) name c (option_map (seen_table see) o))
      (look_by see tables))
      (change (del_index name position) (definition_of (option_map (seen_table see) o)))) t.is
      ∙ ap (λ b. option_map (λ c. set_table name (changed_table (given see files) name c (Some (seen_table see t.table)))
      (look_by see tables))
      (if b then Some
      (changed (reindexed (filter (λ other. not (other == position)) t.table.definition.index) t.table.definition)) else None))
      (is_there position t.table.definition.index t.holds)
      ∙ ap Some (set_at name (unindexed position) (λ u called. refl) tables t.table t.is)
  make_seen files (remake d) tables applies =
      let t = stands d.name tables applies.1 in
      ap (λ o. option_map (λ c. set_table d.name (changed_table (given see files) d.name c (option_map (seen_table see) o))
      (look_by see tables))
      (change (remake d) (definition_of (option_map (seen_table see) o)))) t.is
      ∙ ap Some (set_at d.name (λ u. made_table files d) (λ u called. name_is d.name u.definition.name called) tables t.table t.is)

  pub make_all_seen : (files : Files Contents) (ops : List SchemaOperation) (tables : List Table) → AllApplyWith files ops tables
      → schema_ops_taken (given see files) ops (look_by see tables) ≡ Some (look_by see (make_all files ops tables))
  make_all_seen files [] tables applies = refl
  make_all_seen files (op ∷ ops) tables applies =
      ap (option_and_then (λ now. schema_ops_taken (given see files) ops now)) (make_seen files op tables applies.0)
      ∙ make_all_seen files ops (make files op tables) applies.1

  -- ---- commits

  taken_seen : (files : Files Contents) (x : CommitRecord) (db : Database) → CanTakeWith files x db
      → commit_taken put_one (given see files) x (seen_by see db) ≡ Some (seen_by see (taken_with files x db))
  taken_seen files x db can =
      ap (option_map (λ tables. record { version = reached db.version x; tables = ops_taken put_one x.version x.operations tables }))
      (by (x.version == db.version + 1) can.applies)
      ∙ ap (λ tables. Some record { version = reached db.version x; tables = tables })
      (sym (ops_seen x.version x.operations (tables_with files x db)))
    where
      by : (b : Bool) → (b ≡ true → AllApplyWith files x.schema_operations db.tables)
          → (if b then schema_ops_taken (given see files) x.schema_operations (look_by see db.tables) else Some (look_by see db.tables))
          ≡ Some (look_by see (if b then make_all files x.schema_operations db.tables else db.tables))
      by true applies = make_all_seen files x.schema_operations db.tables (applies refl)
      by false applies = refl

  pub all_seen : (files : Files Contents) (commits : List CommitRecord) (db : Database) → CanTakeAllWith files commits db
      → run put_one (given see files) commits (seen_by see db) ≡ Some (seen_by see (all_taken_with files commits db))
  all_seen files [] db can = refl
  all_seen files (x ∷ commits) db can =
      ap (option_and_then (λ now. run put_one (given see files) commits now)) (taken_seen files x db can.0)
      ∙ all_seen files commits (taken_with files x db) can.1

-- ---- a directory

pub has_sees : (kind : Kind) (op : Operation) (rows : Contents) → has (put_op kind op rows) ≡ put kind op (has rows)
has_sees kind op rows = fun_ext (has-put_op kind op rows)

found_made : (files : Files Contents) (definitions : List Definition) (name : List ℕ) (t : Table)
    → table_in name (map (made_table files) definitions) ≡ Some t → t.contents ≡ files name t.definition.kind t.definition.cookie
found_made files [] name t found = cc found
found_made files (d ∷ ds) name t found = by (is_called name (made_table files d)) refl found (found_made files ds name t)
  where
    by : (b : Bool) → is_called name (made_table files d) ≡ b
        → (if b then Some (made_table files d) else table_in name (map (made_table files) ds)) ≡ Some t
        → (table_in name (map (made_table files) ds) ≡ Some t → t.contents ≡ files name t.definition.kind t.definition.cookie)
        → t.contents ≡ files name t.definition.kind t.definition.cookie
    by true called is ih =
        let same : made_table files d ≡ t = cc is in
        subst (λ u. u.contents ≡ files name u.definition.kind u.definition.cookie) same
        (ap (λ n. files n d.kind d.cookie) (sym (name_is name d.name called)))
    by false called is ih = ih is

begun_seen : (d : Directory) → begin (given has d.files) (view_of d).schema ≡ seen (begun d)
begun_seen d = ap (λ tables. record { version = d.version; tables = tables })
    (fun_ext (λ name. by name (table_in name (begun d).tables) (found_made d.files d.definitions name)))
  where
    by : (name : List ℕ) (o : Option Table) → ((t : Table) → o ≡ Some t → t.contents ≡ d.files name t.definition.kind t.definition.cookie)
        → option_map {U = TableOf Rows}
        (λ t. record { definition = t.definition; rows = has (d.files name t.definition.kind t.definition.cookie) })
        (option_map {U = TableOf (Unit {0})} (λ t. record { definition = t.definition; rows = tt }) o)
        ≡ option_map (seen_table has) o
    by name None h = refl
    by name (Some t) h = ap (λ rows. Some record { definition = t.definition; rows = has rows }) (sym (h t refl))

pub meaning_seen : (d : Directory) → HasMeaning d → under (view_of d) ≡ Some (seen (database_of d))
meaning_seen d can =
    ap (run put (given has d.files) (d.previous ++ d.latest)) (begun_seen d)
    ∙ all_seen put has has_sees d.files (d.previous ++ d.latest) (begun d) can
