-- What leaves the meaning of a directory.
use mathlib.Core.Path.{fun_ext}
use Rattle.std.proofs.Common.{◌≡◌, ℕ, List, [], ◌++◌, Option, None, Some, option_map, option_and_then, refl, sym, ap, ◌∙◌, subst}
use Rattle.term_core.specs.Tree.{Tree}
use Rattle.db_model.specs.Commits.{CommitRecord}
use Rattle.db_model.specs.Ops.{Operation}
use Rattle.db_model.specs.declared.definition.Kind.{Kind}
use Rattle.dump_laws.specs.Effects.{Rows, put, after, Between, AreIdle}
use Rattle.dump_laws.specs.Directory.{Files, TableOf, Schema, reached_after, run, begin, put_unit, no_rows, schema_after, View, commits, under, of_table, filled}
use Rattle.dump_laws.specs.Order.{AreInTurn, AllUpTo, OfEach, AreBetween, First, IsOn}
use Rattle.dump_laws.proofs.Effects.{again}
use Rattle.dump_laws.proofs.Closed.{closed, of_table-append}
use Rattle.dump_laws.proofs.Runs.{run-append, reached_after_still, in_turn_right, in_turn_again, schema_still, version_after, schema_again}

-- two fillings give the same where they do for each table that stands
pub filled_same : (f g : Files Rows) (p q : List CommitRecord) (schema : Option Schema)
    → ((last : Schema) → schema ≡ Some last
    → OfEach last (λ name d. (r : Tree)
    → after put d.kind (of_table name d.cookie p) (f name d.kind d.cookie) r
    ≡ after put d.kind (of_table name d.cookie q) (g name d.kind d.cookie) r))
    → option_map (filled put f p) schema ≡ option_map (filled put g q) schema
filled_same f g p q None h = refl
filled_same f g p q (Some last) h =
    ap (λ tables. Some record { version = last.version; tables = tables })
    (fun_ext (λ name. go name (last.tables name) (λ t is. h last refl name t is)))
  where
    go : (name : List ℕ) (t : Option (TableOf (Unit {0})))
        → ((u : TableOf (Unit {0})) → t ≡ Some u → (r : Tree)
        → after put u.definition.kind (of_table name u.definition.cookie p) (f name u.definition.kind u.definition.cookie) r
        ≡ after put u.definition.kind (of_table name u.definition.cookie q) (g name u.definition.kind u.definition.cookie) r)
        → option_map {U = TableOf Rows}
        (λ u. record {
          definition = u.definition;
          rows =
              after put u.definition.kind (of_table name u.definition.cookie p) (f name u.definition.kind u.definition.cookie);
        }) t
        ≡ option_map
        (λ u. record {
          definition = u.definition;
          rows =
              after put u.definition.kind (of_table name u.definition.cookie q) (g name u.definition.kind u.definition.cookie);
        }) t
    go name None same = refl
    go name (Some u) same = ap (λ rows. Some record { definition = u.definition; rows = rows }) (fun_ext (same u refl))

-- an image is its commits done over the first database
pub image_at : (first : First) (schema : Schema) (p s q : List CommitRecord) (f : Files Rows) → q ≡ p ++ s
    → AreInTurn first.schema.version q → schema_after p first.schema ≡ Some schema
    → ((last : Schema) → schema_after q first.schema ≡ Some last → AreBetween last first.rows q f)
    → run put f q (begin f schema) ≡ run put first.rows q (begin first.rows first.schema)
image_at first schema p s q f whole in_turn is between =
    closed put f q schema here
    ∙ ap (option_map (filled put f q)) same
    ∙ filled_same f first.rows q q (schema_after q first.schema)
    (λ last at name t stands. again t.definition.kind (first.rows name t.definition.kind t.definition.cookie)
    (f name t.definition.kind t.definition.cookie) (of_table name t.definition.cookie q) (between last at name t stands))
    ∙ sym (closed put first.rows q first.schema in_turn)
  where
    here : AreInTurn schema.version q
    here = subst (λ n. AreInTurn n q) (sym (version_after p first.schema schema is))
        (subst (λ all. AreInTurn (reached_after first.schema.version p) all) (sym whole)
        (in_turn_again first.schema.version p s (subst (λ all. AreInTurn first.schema.version all) whole in_turn)))

    same : schema_after q schema ≡ schema_after q first.schema
    same = subst (λ all. schema_after all schema ≡ schema_after all first.schema) (sym whole)
        (schema_again p s first.schema schema (subst (λ all. AreInTurn first.schema.version all) whole in_turn) is)

pub image : (first : First) (v : View) → IsOn first v → AreInTurn first.schema.version (commits v)
    → under v ≡ run put first.rows (commits v) (begin first.rows first.schema)
image first v on in_turn = image_at first v.schema on.front on.rest (commits v) v.files on.is in_turn on.schema on.between

-- table files that are between what they were and what the commits make of them
pub files_moved : (v : View) (f : Files Rows) → AreInTurn v.schema.version (commits v)
    → ((last : Schema) → schema_after (commits v) v.schema ≡ Some last → AreBetween last v.files (commits v) f)
    → under record { schema = v.schema; previous = v.previous; latest = v.latest; files = f } ≡ under v
files_moved v f in_turn between =
    image_at record { schema = v.schema; rows = v.files } v.schema [] (commits v) (commits v) f refl in_turn refl between

still_between : (kind : Kind) (c : Rows) (ops : List Operation) → Between kind c ops c
still_between kind c ops r = record { front = []; short = record { rest = ops; is = refl }; is = refl }

-- the schema file as the schema after a front of the commits
pub schema_moved : (v : View) (p s : List CommitRecord) (schema : Schema) → AreInTurn v.schema.version (commits v) → commits v ≡ p ++ s
    → schema_after p v.schema ≡ Some schema
    → under record { schema = schema; previous = v.previous; latest = v.latest; files = v.files } ≡ under v
schema_moved v p s schema in_turn whole is =
    image_at record { schema = v.schema; rows = v.files } schema p s (commits v) v.files whole in_turn is
    (λ last at name t stands. still_between t.definition.kind (v.files name t.definition.kind t.definition.cookie)
    (of_table name t.definition.cookie (commits v)))

-- PREVIOUS.LOG is dropped
pub previous_dropped : (v : View) → AreInTurn v.schema.version (commits v) → AllUpTo v.schema.version v.previous
    → ((last : Schema) → schema_after (commits v) v.schema ≡ Some last
    → OfEach last (λ name d. AreIdle d.kind (of_table name d.cookie v.previous) (of_table name d.cookie v.latest)
    (v.files name d.kind d.cookie)))
    → under record { schema = v.schema; previous = []; latest = v.latest; files = v.files } ≡ under v
previous_dropped v in_turn old idle =
    closed put v.files v.latest v.schema left
    ∙ filled_same v.files v.files v.latest (commits v) (schema_after v.latest v.schema)
    (λ last at name t stands r.
    idle last (same ∙ at) name t stands r
    ∙ ap (λ ops. after put t.definition.kind ops (v.files name t.definition.kind t.definition.cookie) r)
    (sym (of_table-append name t.definition.cookie v.previous v.latest)))
    ∙ ap (option_map (filled put v.files (commits v))) (sym same)
    ∙ sym (closed put v.files (commits v) v.schema in_turn)
  where
    left : AreInTurn v.schema.version v.latest
    left = subst (λ n. AreInTurn n v.latest) (reached_after_still v.schema.version v.previous old)
        (in_turn_right v.schema.version v.previous v.latest in_turn)

    same : schema_after (commits v) v.schema ≡ schema_after v.latest v.schema
    same = run-append put_unit no_rows v.previous v.latest v.schema
        ∙ ap (option_and_then (λ now. schema_after v.latest now)) (schema_still v.previous v.schema old)
