-- A log alone is taken as the commits of a list are, and a lawful commit is done as the live database does it.
use mathlib.Core.Path.{fun_ext}
use Rattle.std.proofs.Common.{◌≡◌, ◌⊎◌, inl, inr, ℕ, ◌+◌, Bool, true, false, if◌then◌else◌, List, [], ◌∷◌, Option, None, Some, option_map, refl, sym, ap, ◌∙◌, subst}
use Rattle.std.specs.Prelude.{All, ◌↔◌}
use Rattle.std.proofs.lemmas.List.Elements.{recursion_from_All}
use Rattle.db_model.specs.Commits.{SchemaOperation, create, drop_table, add_index, del_index, remake, CommitRecord}
use Rattle.db_model.specs.Database.{Table, Database, same_name, with_op, do_op, do_ops, do_schema_op, do_schema_ops, do_commit}
use Rattle.db_model.specs.Histories.{no_database, all_taken, CanTakeAll}
use Rattle.db_model.specs.Lawful.{table_in, AllApply, HasCookie, IsVersionBehind, IsLawful}
use Rattle.db_model.specs.Ops.{Operation, table_of}
use Rattle.db_model.specs.Taken.{is_next, tables_before_ops, take_ops, taken, MayTakeOp, CanTake}
use Rattle.dump_laws.specs.Contents.{has}
use Rattle.dump_laws.specs.Directory.{TableOf, op_done, ops_done, commit_done, under}
use Rattle.dump_laws.specs.Effects.{Rows, nothing, put}
use Rattle.dump_laws.specs.Lists.{make, make_all, AllApplyWith, tables_with, taken_with, CanTakeWith, all_taken_with, CanTakeAllWith, database_of, HasMeaning, no_files, log_alone, seen_table, seen, view_of}
use Rattle.dump_laws.specs.Order.{IsNext}
use Rattle.dump_laws.proofs.Contents.{has-put_op}
use Rattle.dump_laws.proofs.Listed.{in_changed}
use Rattle.dump_laws.proofs.Meaning.{look, make_all_seen, has_sees, meaning_seen}

-- ---- without table files

make_same : (op : SchemaOperation) (tables : List Table) → make no_files op tables ≡ do_schema_op op tables
make_same (create d) tables = refl
make_same (drop_table name) tables = refl
make_same (add_index name position) tables = refl
make_same (del_index name position) tables = refl
make_same (remake d) tables = refl

pub make_all_same : (ops : List SchemaOperation) (tables : List Table) → make_all no_files ops tables ≡ do_schema_ops ops tables
make_all_same [] tables = refl
make_all_same (op ∷ ops) tables = ap (make_all no_files ops) (make_same op tables) ∙ make_all_same ops (do_schema_op op tables)

pub apply_with : (ops : List SchemaOperation) (tables : List Table) → AllApply ops tables → AllApplyWith no_files ops tables
apply_with [] tables h = tt
apply_with (op ∷ ops) tables h =
    (h.0, subst (AllApplyWith no_files ops) (sym (make_same op tables)) (apply_with ops (do_schema_op op tables) h.1))

apply_without : (ops : List SchemaOperation) (tables : List Table) → AllApplyWith no_files ops tables → AllApply ops tables
apply_without [] tables h = tt
apply_without (op ∷ ops) tables h =
    (h.0, apply_without ops (do_schema_op op tables) (subst (AllApplyWith no_files ops) (make_same op tables) h.1))

tables_same : (x : CommitRecord) (db : Database) → tables_with no_files x db ≡ tables_before_ops x db
tables_same x db = ap (λ tables. if is_next x db then tables else db.tables) (make_all_same x.schema_operations db.tables)

taken_same : (x : CommitRecord) (db : Database) → taken_with no_files x db ≡ taken x db
taken_same x db = ap (λ tables. record {
  version = if is_next x db then x.version else db.version;
  tables = take_ops x.version x.operations tables;
}) (tables_same x db)

can_with : (x : CommitRecord) (db : Database) → CanTake x db → CanTakeWith no_files x db
can_with x db can = record {
  applies = λ next. apply_with x.schema_operations db.tables (can.applies next);
  allowed = subst (λ tables. All (MayTakeOp x.version tables) x.operations) (sym (tables_same x db)) can.allowed;
}

can_without : (x : CommitRecord) (db : Database) → CanTakeWith no_files x db → CanTake x db
can_without x db can = record {
  applies = λ next. apply_without x.schema_operations db.tables (can.applies next);
  allowed = subst (λ tables. All (MayTakeOp x.version tables) x.operations) (tables_same x db) can.allowed;
}

all_same : (xs : List CommitRecord) (db : Database) → all_taken_with no_files xs db ≡ all_taken xs db
all_same [] db = refl
all_same (x ∷ xs) db = ap (all_taken_with no_files xs) (taken_same x db) ∙ all_same xs (taken x db)

all_with : (xs : List CommitRecord) (db : Database) → CanTakeAll xs db → CanTakeAllWith no_files xs db
all_with [] db can = tt
all_with (x ∷ xs) db can = (
  can_with x db can.0,
  subst (CanTakeAllWith no_files xs) (sym (taken_same x db))
      (all_with xs (taken x db) can.1),
)

all_without : (xs : List CommitRecord) (db : Database) → CanTakeAllWith no_files xs db → CanTakeAll xs db
all_without [] db can = tt
all_without (x ∷ xs) db can =
    (can_without x db can.0, all_without xs (taken x db) (subst (CanTakeAllWith no_files xs) (taken_same x db) can.1))

pub log_meaning : (commits : List CommitRecord) → HasMeaning (log_alone commits) ↔ CanTakeAll commits no_database
log_meaning commits = (all_without commits no_database, all_with commits no_database)

pub log_made : (commits : List CommitRecord) → database_of (log_alone commits) ≡ all_taken commits no_database
log_made commits = all_same commits no_database

pub log_seen : (commits : List CommitRecord) → CanTakeAll commits no_database
    → under (view_of (log_alone commits)) ≡ Some (seen (all_taken commits no_database))
log_seen commits can = meaning_seen (log_alone commits) (all_with commits no_database can) ∙ ap (λ db. Some (seen db)) (log_made commits)

-- ---- the live database

op_seen : (op : Operation) (tables : List Table) (name : List ℕ) → look (do_op op tables) name ≡ op_done put op (look tables) name
op_seen op tables name = by (same_name (table_of op) name) refl
  where
    one : (found : Option Table) → option_map (seen_table has) (option_map (with_op op) found)
        ≡ option_map {U = TableOf Rows} (λ t. record { definition = t.definition; rows = put t.definition.kind op t.rows })
        (option_map (seen_table has) found)
    one None = refl
    one (Some t) = ap (λ rows. Some record { definition = t.definition; rows = rows })
        (fun_ext (has-put_op t.definition.kind op t.contents))

    changed : (n : Bool) → same_name (table_of op) name ≡ n
        → look (do_op op tables) name ≡ option_map (seen_table has)
        (if n then option_map (with_op op) (table_in name tables) else table_in name tables)
    changed n is = ap (option_map (seen_table has)) (in_changed (table_of op) (with_op op) (λ t called. refl) tables name
        ∙ ap (λ b. if b then option_map (with_op op) (table_in name tables) else table_in name tables) is)

    by : (n : Bool) → same_name (table_of op) name ≡ n → look (do_op op tables) name
        ≡ (if n then option_map {U = TableOf Rows} (λ t. record { definition = t.definition; rows = put t.definition.kind op t.rows })
        (look tables name) else look tables name)
    by true is = changed true is ∙ one (table_in name tables)
    by false is = changed false is

all_ops_seen : (ops : List Operation) (tables : List Table) → look (do_ops ops tables) ≡ ops_done put ops (look tables)
all_ops_seen [] tables = refl
all_ops_seen (op ∷ ops) tables = all_ops_seen ops (do_op op tables) ∙ ap (ops_done put ops) (fun_ext (op_seen op tables))

pub done_seen : (x : CommitRecord) (db : Database) → IsLawful x db → commit_done put nothing x (seen db) ≡ Some (seen (do_commit x db))
done_seen x db lawful =
    ap (option_map (λ tables. record { version = x.version; tables = ops_done put x.operations tables }))
    (make_all_seen put has has_sees no_files x.schema_operations db.tables (apply_with x.schema_operations db.tables lawful.applies)
    ∙ ap (λ tables. Some (look tables)) (make_all_same x.schema_operations db.tables))
    ∙ ap (λ tables. Some record { version = x.version; tables = tables })
    (sym (all_ops_seen x.operations (do_schema_ops x.schema_operations db.tables)))

pub lawful_next : (x : CommitRecord) (db : Database) → IsLawful x db → IsNext db.version x
lawful_next x db lawful = record {
  which = by x.schema_operations refl lawful.version;
  cookies = recursion_from_All (HasCookie x.version) x.schema_operations lawful.cookies;
}
  where
    by : (ops : List SchemaOperation) → x.schema_operations ≡ ops → IsVersionBehind db.version ops x.version
        → ((x.version ≡ db.version) × (x.schema_operations ≡ [])) ⊎ (x.version ≡ db.version + 1)
    by [] is version = inl (version, is)
    by (op ∷ ops) is version = inr version.0
