-- The rule of the dump, a start, and a whole dump.
use mathlib.Core.Path.{fun_ext}
use Rattle.std.proofs.Common.{◌≡◌, ℕ, ◌≤◌, List, [], ◌∷◌, ◌++◌, Option, None, Some, option_map, refl, sym, ap, ◌∙◌, subst, append_assoc, append-nil}
use Rattle.db_model.specs.Commits.{CommitRecord}
use Rattle.db_model.specs.Ops.{Operation}
use Rattle.db_model.specs.declared.definition.Kind.{Kind}
use Rattle.dump_laws.specs.Effects.{Rows, put, after, Between, IsCarried}
use Rattle.dump_laws.specs.Directory.{Files, TableOf, DatabaseOf, Schema, reached_after, schema_after, View, commits, under, of_table, filled, note, none_noted, done_on, by_rule}
use Rattle.dump_laws.specs.Order.{IsInTurn, AreInTurn, OfEach, IsOn, with_files, with_schema, without_previous}
use Rattle.dump_laws.proofs.Closed.{closed, of_table-append, up_to_later}
use Rattle.dump_laws.proofs.Runs.{in_turn_left, in_turn_right, in_turn-append, in_turn_up_to, in_turn_again, version_after, schema_again}
use Rattle.dump_laws.proofs.Carrying.{still, carried_between, carried_idle}
use Rattle.dump_laws.proofs.Views.{files_moved, schema_moved, previous_dropped}

noted : (kind : Kind) (ops before : List Operation) → after note kind ops before ≡ before ++ ops
noted kind [] before = sym (append-nil before)
noted kind (op ∷ ops) before = noted kind ops (before ++ op ∷ []) ∙ append_assoc before (op ∷ []) ops

pub rule : (q : List CommitRecord) (schema : Schema) → AreInTurn schema.version q
    → done_on q schema ≡ option_map (by_rule q) (schema_after q schema)
rule q schema in_turn = closed note none_noted q schema in_turn
    ∙ ap (λ f. option_map f (schema_after q schema))
    (fun_ext (λ last. ap (λ tables. record { version = last.version; tables = tables }) (fun_ext (λ name. go name (last.tables name)))))
  where
    go : (name : List ℕ) (t : Option (TableOf (Unit {0})))
        → option_map {U = TableOf (List Operation)}
        (λ u. record { definition = u.definition; rows = after note u.definition.kind (of_table name u.definition.cookie q) [] }) t
        ≡ option_map (λ u. record { definition = u.definition; rows = of_table name u.definition.cookie q }) t
    go name None = refl
    go name (Some u) = ap (λ rows. Some record { definition = u.definition; rows = rows })
        (noted u.definition.kind (of_table name u.definition.cookie q) [])

pub version_under : (v : View) (db : DatabaseOf Rows) → AreInTurn v.schema.version (commits v) → under v ≡ Some db
    → db.version ≡ reached_after v.schema.version (commits v)
version_under v db in_turn is = go (schema_after (commits v) v.schema) refl (sym (closed put v.files (commits v) v.schema in_turn) ∙ is)
  where
    go : (s : Option Schema) → schema_after (commits v) v.schema ≡ s → option_map (filled put v.files (commits v)) s ≡ Some db
        → db.version ≡ reached_after v.schema.version (commits v)
    go None at none_such = cc none_such
    go (Some s) at same = let here : db ≡ filled put v.files (commits v) s = cc same in ap (λ d. d.version) here
        ∙ version_after (commits v) v.schema s at

pub on_start : (v : View) → IsOn record { schema = v.schema; rows = v.files } v
on_start v = record {
  front = [];
  rest = commits v;
  is = refl;
  schema = refl;
  between =
      λ last at name t stands. still t.definition.kind (v.files name t.definition.kind t.definition.cookie)
      (of_table name t.definition.cookie (commits v));
}

-- all of a dump at once: files that have what PREVIOUS.LOG has, the schema after at least its commits, and no PREVIOUS.LOG
pub dumped : (v : View) (f : Files Rows) (p s : List CommitRecord) (schema : Schema) → AreInTurn v.schema.version (commits v)
    → ((last : Schema) → schema_after (commits v) v.schema ≡ Some last
    → OfEach last (λ name d. IsCarried d.kind (v.files name d.kind d.cookie) (of_table name d.cookie v.previous)
    (of_table name d.cookie v.latest) (f name d.kind d.cookie)))
    → commits v ≡ p ++ s → schema_after p v.schema ≡ Some schema → reached_after v.schema.version v.previous ≤ schema.version
    → under (without_previous (with_schema schema (with_files f v))) ≡ under v
dumped v f p s schema in_turn carried is made enough =
    previous_dropped (with_schema schema (with_files f v)) here
    (up_to_later (reached_after v.schema.version v.previous) schema.version v.previous enough
    (in_turn_up_to v.schema.version v.previous (in_turn_left v.schema.version v.previous v.latest in_turn)))
    (λ last at name t stands. carried_idle t.definition.kind (v.files name t.definition.kind t.definition.cookie)
    (f name t.definition.kind t.definition.cookie) (of_table name t.definition.cookie v.previous)
    (of_table name t.definition.cookie v.latest)
    (carried last (sym same ∙ at) name t stands))
    ∙ schema_moved (with_files f v) p s schema in_turn is made
    ∙ files_moved v f in_turn (λ last at name t stands.
    subst (λ ops. Between t.definition.kind (v.files name t.definition.kind t.definition.cookie) ops
    (f name t.definition.kind t.definition.cookie)) (sym (of_table-append name t.definition.cookie v.previous v.latest))
    (carried_between t.definition.kind (v.files name t.definition.kind t.definition.cookie) (f name t.definition.kind t.definition.cookie)
    (of_table name t.definition.cookie v.previous) (of_table name t.definition.cookie v.latest) (carried last at name t stands)))
  where
    whole : AreInTurn v.schema.version (p ++ s)
    whole = subst (λ all. AreInTurn v.schema.version all) is in_turn

    here : AreInTurn schema.version (commits v)
    here = subst (λ n. AreInTurn n (commits v)) (sym (version_after p v.schema schema made))
        (subst (λ all. AreInTurn (reached_after v.schema.version p) all) (sym is) (in_turn_again v.schema.version p s whole))

    same : schema_after (commits v) schema ≡ schema_after (commits v) v.schema
    same = subst (λ all. schema_after all schema ≡ schema_after all v.schema) (sym is) (schema_again p s v.schema schema whole made)

-- ---- that the commits are in_turn over the first schema stays so

pub in_turn_appended : (version : ℕ) (q : List CommitRecord) (x : CommitRecord) → AreInTurn version q → IsInTurn (reached_after version q) x
    → AreInTurn version (q ++ x ∷ [])
in_turn_appended version q x h in_turn_x = in_turn-append version q (x ∷ []) h (in_turn_x, tt)

pub in_turn_dropped : (first schema : Schema) (previous latest : List CommitRecord) → schema_after previous first ≡ Some schema
    → AreInTurn first.version (previous ++ latest) → AreInTurn schema.version latest
in_turn_dropped first schema previous latest made h =
    subst (λ n. AreInTurn n latest) (sym (version_after previous first schema made)) (in_turn_right first.version previous latest h)
