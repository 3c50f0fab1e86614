-- What the run of a in_turn commit does is what the live database does.
use mathlib.Core.Path.{fun_ext}
use Rattle.std.proofs.Common.{◌≡◌, inl, inr, ℕ, ◌+◌, ◌≤◌, arith, Bool, true, false, if◌then◌else◌, List, [], ◌∷◌, Option, None, Some, option_map, option_and_then, MatchOption, refl, sym, ap, ◌∙◌, subst}
use Rattle.std.proofs.lemmas.Bool.{eq-eqb, ne_eqb, le-leb}
use Rattle.std.specs.List.{AllByRecursion}
use Rattle.db_model.specs.Commits.{SchemaOperation, CommitRecord}
use Rattle.db_model.specs.Database.{same_name}
use Rattle.db_model.specs.Definitions.{Definition}
use Rattle.db_model.specs.Lawful.{HasCookie}
use Rattle.db_model.specs.Ops.{Operation, table_of}
use Rattle.db_model.specs.declared.definition.Kind.{Kind}
use Rattle.dump_laws.specs.Effects.{Rows, nothing, put, after}
use Rattle.dump_laws.specs.Directory.{Files, TableOf, Tables, DatabaseOf, Schema, Change, made, gone, changed, named, change, definition_of, changed_table, set_table, schema_op_taken, schema_ops_taken, touched, op_taken, ops_taken, reached_after, commit_taken, schema_after, View, commits, under, of_table, filled, op_done, ops_done, commit_done}
use Rattle.dump_laws.specs.Order.{IsInTurn, IsStrict, IsNext, with_commit}
use Rattle.dump_laws.proofs.Options.{some_same}
use Rattle.dump_laws.proofs.Closed.{Sound, change_sound, closed}
use Rattle.dump_laws.proofs.Whole.{version_under}
use Rattle.dump_laws.proofs.Acts.{under-append}
use Rattle.dump_laws.proofs.Stricts.{cookies_reached}

-- no table has a cookie above this
abbrev pub CookiesUpTo : {X : Type 0} → ℕ → Tables X → Type 0
CookiesUpTo {X} version tables = (name : List ℕ) (t : TableOf X) → tables name ≡ Some t → t.definition.cookie ≤ version

cookies_op : {X : Type 0} (f : Files X) (version : ℕ) (op : SchemaOperation) (tables now : Tables X) → HasCookie version op
    → CookiesUpTo version tables → schema_op_taken f op tables ≡ Some now → CookiesUpTo version now
cookies_op {X} f version op tables now makes low is name t stands =
    go (change op (definition_of (tables (named op)))) (change_sound version op (definition_of (tables (named op))) makes) is
  where
    kept : (d : Definition) (old : Option (TableOf X)) → tables (named op) ≡ old → Sound version (definition_of old) (changed d)
        → option_map (λ u. record { definition = d; rows = u.rows }) old ≡ Some t → t.definition.cookie ≤ version
    kept d None at sound none_such = cc none_such
    kept d (Some u) at sound same =
        let its : d.cookie ≡ t.definition.cookie =
        ap (λ w. w.definition.cookie) (some_same record { definition = d; rows = u.rows } t same) in
        let le : u.definition.cookie ≤ version = low (named op) u at in omega (arith, its, le, sound.1)

    one : (c : Change) → Sound version (definition_of (tables (named op))) c → changed_table f (named op) c (tables (named op)) ≡ Some t
        → t.definition.cookie ≤ version
    one (made d) sound at = let its : d.cookie
        ≡ t.definition.cookie = ap (λ w. w.definition.cookie)
        (some_same record { definition = d; rows = f (named op) d.kind d.cookie } t at) in omega (arith, its, sound)
    one gone sound at = cc at
    one (changed d) sound at = kept d (tables (named op)) refl sound at

    at_name : (b : Bool) (c : Change) → Sound version (definition_of (tables (named op))) c
        → (if b then changed_table f (named op) c (tables (named op)) else tables name) ≡ Some t → t.definition.cookie ≤ version
    at_name true c sound at = one c sound at
    at_name false c sound at = low name t at

    go : (c : Option Change) → MatchOption c (Unit {0}) (Sound version (definition_of (tables (named op))))
        → option_map (λ c. set_table (named op) (changed_table f (named op) c (tables (named op))) tables) c ≡ Some now
        → t.definition.cookie ≤ version
    go None sound none_such = cc none_such
    go (Some c) sound same = at_name (same_name (named op) name) c sound (ap (λ all. all name) (some_same _ now same) ∙ stands)

cookies_ops : {X : Type 0} (f : Files X) (version : ℕ) (ops : List SchemaOperation) (tables last : Tables X)
    → AllByRecursion (HasCookie version) ops → CookiesUpTo version tables → schema_ops_taken f ops tables ≡ Some last
    → CookiesUpTo version last
cookies_ops {X} f version [] tables last makes low is = subst (CookiesUpTo version) (some_same tables last is) low
cookies_ops {X} f version (op ∷ ops) tables last makes low is =
    go (schema_op_taken f op tables) refl is (λ now h rest. cookies_ops f version ops now last makes.1 h rest)
  where
    go : (now : Option (Tables X)) → schema_op_taken f op tables ≡ now → option_and_then (λ all. schema_ops_taken f ops all) now ≡ Some last
        → ((all : Tables X) → CookiesUpTo version all → schema_ops_taken f ops all ≡ Some last → CookiesUpTo version last)
        → CookiesUpTo version last
    go None first rest ih = cc rest
    go (Some now) first rest ih = ih now (cookies_op f version op tables now makes.0 low first) rest

plain_one : {X : Type 0} (put_one : Kind → Operation → X → X) (version : ℕ) (op : Operation) (tables : Tables X)
    → CookiesUpTo version tables → op_taken put_one version op tables ≡ op_done put_one op tables
plain_one {X} put_one version op tables low = fun_ext (λ other. go (same_name (table_of op) other) (tables other) (low other))
  where
    go : (b : Bool) (t : Option (TableOf X)) → ((u : TableOf X) → t ≡ Some u → u.definition.cookie ≤ version)
        → (if b then option_map (touched put_one version op) t else t)
        ≡ (if b then option_map (λ u. record { definition = u.definition; rows = put_one u.definition.kind op u.rows }) t else t)
    go false t h = refl
    go true None h = refl
    go true (Some u) h =
        ap (λ b. Some record { definition = u.definition; rows = if b then put_one u.definition.kind op u.rows else u.rows })
        (le-leb u.definition.cookie version (h u refl))

plain_low : {X : Type 0} (put_one : Kind → Operation → X → X) (version : ℕ) (op : Operation) (tables : Tables X)
    → CookiesUpTo version tables → CookiesUpTo version (op_done put_one op tables)
plain_low {X} put_one version op tables low name t stands = go (same_name (table_of op) name) (tables name) (low name) stands
  where
    go : (b : Bool) (u : Option (TableOf X)) → ((w : TableOf X) → u ≡ Some w → w.definition.cookie ≤ version)
        → (if b then option_map (λ w. record { definition = w.definition; rows = put_one w.definition.kind op w.rows }) u else u) ≡ Some t
        → t.definition.cookie ≤ version
    go false u h at = h t at
    go true None h at = cc at
    go true (Some w) h at =
        subst (λ c. c ≤ version) (ap (λ a. a.definition.cookie)
        (some_same record { definition = w.definition; rows = put_one w.definition.kind op w.rows } t at)) (h w refl)

plain_all : {X : Type 0} (put_one : Kind → Operation → X → X) (version : ℕ) (ops : List Operation) (tables : Tables X)
    → CookiesUpTo version tables → ops_taken put_one version ops tables ≡ ops_done put_one ops tables
plain_all put_one version [] tables low = refl
plain_all put_one version (op ∷ ops) tables low =
    ap (ops_taken put_one version ops) (plain_one put_one version op tables low)
    ∙ plain_all put_one version ops (op_done put_one op tables) (plain_low put_one version op tables low)

pub does_plain : {X : Type 0} (put_one : Kind → Operation → X → X) (empty : X) (x : CommitRecord) (db : DatabaseOf X) → IsNext db.version x
    → CookiesUpTo db.version db.tables
    → commit_taken put_one (λ name kind cookie. empty) x db ≡ commit_done put_one empty x db
does_plain {X} put_one empty x db next low = elim next.which [
  | inl same ↦
      ap (λ b. option_map {U = DatabaseOf X}
      (λ tables. record { version = if b then x.version else db.version; tables = ops_taken put_one x.version x.operations tables })
      (if b then schema_ops_taken f x.schema_operations db.tables else Some db.tables))
      (ne_eqb x.version (db.version + 1) (λ is. omega (arith, is, same.0)))
      ∙ ap (λ n. Some record { version = n; tables = ops_taken put_one x.version x.operations db.tables }) (sym same.0)
      ∙ ap (λ tables. Some record { version = x.version; tables = tables })
      (plain_all put_one x.version x.operations db.tables (λ name t is. subst (λ n. t.definition.cookie ≤ n) (sym same.0) (low name t is)))
      ∙ ap (λ ops. option_map {U = DatabaseOf X} (λ tables. record { version = x.version; tables = ops_done put_one x.operations tables })
      (schema_ops_taken f ops db.tables)) (sym same.1)
  | inr above ↦
      ap (λ b. option_map {U = DatabaseOf X}
      (λ tables. record { version = if b then x.version else db.version; tables = ops_taken put_one x.version x.operations tables })
      (if b then schema_ops_taken f x.schema_operations db.tables else Some db.tables))
      (eq-eqb x.version (db.version + 1) above)
      ∙ go (schema_ops_taken f x.schema_operations db.tables)
      (λ tables is. cookies_ops f x.version x.schema_operations db.tables tables next.cookies
      (λ name t at. let le : t.definition.cookie ≤ db.version = low name t at in omega (arith, le, above)) is)
]
  where
    f : Files X
    f name kind cookie = empty

    go : (t : Option (Tables X)) → ((tables : Tables X) → t ≡ Some tables → CookiesUpTo x.version tables)
        → option_map {U = DatabaseOf X}
        (λ tables. record { version = x.version; tables = ops_taken put_one x.version x.operations tables }) t
        ≡ option_map (λ tables. record { version = x.version; tables = ops_done put_one x.operations tables }) t
    go None h = refl
    go (Some tables) h = ap (λ all. Some record { version = x.version; tables = all })
        (plain_all put_one x.version x.operations tables (h tables refl))

pub next_in_turn : (version : ℕ) (x : CommitRecord) → IsNext version x → IsInTurn version x
next_in_turn version x next = record {
  within = elim next.which [
    | inl same ↦ subst (λ b. x.version ≤ (if b then x.version else version))
        (sym (ne_eqb x.version (version + 1) (λ is. omega (arith, is, same.0)))) (omega (arith, same.0))
    | inr above ↦ subst (λ b. x.version ≤ (if b then x.version else version)) (sym (eq-eqb x.version (version + 1) above)) (omega arith)
  ];
  cookies = next.cookies;
}

-- a strict directory means, with the commit appended, what the live database is with the commit done
pub live : (v : View) (x : CommitRecord) (db : DatabaseOf Rows) → IsStrict v → under v ≡ Some db → IsNext db.version x
    → under (with_commit x v) ≡ commit_done put nothing x db
live v x db strict is next =
    under-append v x db is strict.in_turn (subst (λ n. IsInTurn n x) version (next_in_turn db.version x next)) strict.old_files
    ∙ does_plain put nothing x db next
    (subst (λ n. CookiesUpTo n db.tables) (sym version)
    (low (schema_after (commits v) v.schema) refl (sym (closed put v.files (commits v) v.schema strict.in_turn) ∙ is)))
  where
    version : db.version ≡ reached_after v.schema.version (commits v)
    version = version_under v db strict.in_turn is

    low : (s : Option Schema) → schema_after (commits v) v.schema ≡ s → option_map (filled put v.files (commits v)) s ≡ Some db
        → CookiesUpTo (reached_after v.schema.version (commits v)) db.tables
    low None at none_such = cc none_such
    low (Some last) at same = λ name t stands. one last at name t (last.tables name) refl
        (ap (λ d. d.tables name) (some_same (filled put v.files (commits v) last) db same) ∙ stands)
      where
        one : (last : Schema) → schema_after (commits v) v.schema ≡ Some last
            → (name : List ℕ) (t : TableOf Rows) (u : Option (TableOf (Unit {0}))) → last.tables name ≡ u
            → option_map
            (λ w. record {
              definition = w.definition;
              rows =
                  after put w.definition.kind (of_table name w.definition.cookie (commits v))
                  (v.files name w.definition.kind w.definition.cookie);
            }) u ≡ Some t
            → t.definition.cookie ≤ reached_after v.schema.version (commits v)
        one last at name t None stood none_such = cc none_such
        one last at name t (Some w) stood same =
            subst (λ c. c ≤ reached_after v.schema.version (commits v)) (ap (λ a. a.definition.cookie) (some_same _ t same))
            (cookies_reached v last name w strict at stood)
