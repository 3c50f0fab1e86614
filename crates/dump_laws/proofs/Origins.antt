-- Where the tables of a schema come from, and that younger files change nothing.
use Rattle.std.proofs.Common.{◌≡◌, ◌⊎◌, inl, inr, ℕ, ◌+◌, ◌<◌, ◌≤◌, arith, Bool, true, false, if◌then◌else◌, ◌==◌, List, [], ◌∷◌, Option, None, Some, option_map, option_and_then, MatchOption, refl, sym, ap, ◌∙◌, subst}
use Rattle.std.proofs.lemmas.Bool.{eqb-true}
use Rattle.std.specs.List.{AllByRecursion}
use Rattle.db_model.specs.Commits.{SchemaOperation, CommitRecord}
use Rattle.db_model.specs.Database.{same_name}
use Rattle.db_model.specs.Definitions.{Definition}
use Rattle.db_model.specs.Lawful.{HasCookie}
use Rattle.db_model.specs.Ops.{Operation}
use Rattle.db_model.specs.declared.definition.Kind.{Kind}
use Rattle.dump_laws.specs.Directory.{Files, TableOf, Tables, DatabaseOf, Schema, Change, made, gone, changed, named, change, definition_of, changed_table, set_table, schema_op_taken, schema_ops_taken, ops_taken, reached, reached_after, tables_made, commit_taken, no_rows, schema_after}
use Rattle.dump_laws.specs.Order.{IsInTurn, AreInTurn}
use Rattle.dump_laws.proofs.Options.{some_same}
use Rattle.dump_laws.proofs.Names.{name_is}
use Rattle.dump_laws.proofs.Closed.{Sound, change_sound, with_ops, reached_later}
use Rattle.dump_laws.proofs.Runs.{unit_ops, version_after, reached_after_later}

-- the table stands in these too, with its kind and its cookie
pub record StoodIn (tables : Tables (Unit {0})) (name : List ℕ) (t : TableOf (Unit {0})) : Type 0 where
  pub old : TableOf (Unit {0})
  pub stood : tables name ≡ Some old
  pub kind : t.definition.kind ≡ old.definition.kind
  pub cookie : t.definition.cookie ≡ old.definition.cookie

schema_op_origin : (version : ℕ) (op : SchemaOperation) (tables now : Tables (Unit {0})) (name : List ℕ) (t : TableOf (Unit {0}))
    → HasCookie version op
    → schema_op_taken no_rows op tables ≡ Some now → now name ≡ Some t → (t.definition.cookie ≡ version) ⊎ StoodIn tables name t
schema_op_origin version op tables now name t makes is stands =
    go (change op (definition_of (tables (named op)))) (change_sound version op (definition_of (tables (named op))) makes) is
  where
    kept : (d : Definition) (old : Option (TableOf (Unit {0}))) → tables name ≡ old → Sound version (definition_of old) (changed d)
        → option_map (λ u. record { definition = d; rows = tt }) old ≡ Some t → StoodIn tables name t
    kept d None at sound none_such = cc none_such
    kept d (Some u) at sound same =
        let here : t ≡ record { definition = d; rows = tt } = cc same in
        record {
          old = u;
          stood = at;
          kind = ap (λ w. w.definition.kind) here ∙ sound.0;
          cookie = ap (λ w. w.definition.cookie) here
              ∙ sound.1;
        }

    one : (c : Change) → named op ≡ name → Sound version (definition_of (tables (named op))) c
        → changed_table no_rows (named op) c (tables (named op)) ≡ Some t → (t.definition.cookie ≡ version) ⊎ StoodIn tables name t
    one (made d) same sound at = let here : t
        ≡ record { definition = d; rows = tt } = cc at in inl (ap (λ w. w.definition.cookie) here ∙ sound)
    one gone same sound at = cc at
    one (changed d) same sound at = inr (kept d (tables (named op)) (ap tables (sym same)) sound at)

    at_name : (b : Bool) (c : Change) → same_name (named op) name ≡ b → Sound version (definition_of (tables (named op))) c
        → (if b then changed_table no_rows (named op) c (tables (named op)) else tables name) ≡ Some t
        → (t.definition.cookie ≡ version) ⊎ StoodIn tables name t
    at_name true c same sound at = one c (name_is (named op) name same) sound at
    at_name false c same sound at = inr record { old = t; stood = at; kind = refl; cookie = refl }

    go : (c : Option Change) → MatchOption c (Unit {0}) (Sound version (definition_of (tables (named op))))
        → option_map (λ c. set_table (named op) (changed_table no_rows (named op) c (tables (named op))) tables) c ≡ Some now
        → (t.definition.cookie ≡ version) ⊎ StoodIn tables name t
    go None sound none_such = cc none_such
    go (Some c) sound same = at_name (same_name (named op) name) c refl sound (ap (λ all. all name) (some_same _ now same) ∙ stands)

schema_ops_origin : (version : ℕ) (ops : List SchemaOperation) (tables last : Tables (Unit {0})) (name : List ℕ) (t : TableOf (Unit {0}))
    → AllByRecursion (HasCookie version) ops
    → schema_ops_taken no_rows ops tables ≡ Some last → last name ≡ Some t → (t.definition.cookie ≡ version) ⊎ StoodIn tables name t
schema_ops_origin version [] tables last name t makes is stands =
    inr record { old = t; stood = ap (λ all. all name) (some_same tables last is) ∙ stands; kind = refl; cookie = refl }
schema_ops_origin version (op ∷ ops) tables last name t makes is stands =
    go (schema_op_taken no_rows op tables) refl is (λ now rest. schema_ops_origin version ops now last name t makes.1 rest stands)
  where
    go : (now : Option (Tables (Unit {0}))) → schema_op_taken no_rows op tables ≡ now
        → option_and_then (λ all. schema_ops_taken no_rows ops all) now ≡ Some last
        → ((all : Tables (Unit {0})) → schema_ops_taken no_rows ops all ≡ Some last → (t.definition.cookie ≡ version) ⊎ StoodIn all name t)
        → (t.definition.cookie ≡ version) ⊎ StoodIn tables name t
    go None first rest ih = cc rest
    go (Some now) first rest ih = elim (ih now rest) [
      | inl new ↦ inl new
      | inr s ↦ elim (schema_op_origin version op tables now name s.old makes.0 first s.stood) [
        | inl new ↦ inl (s.cookie ∙ new)
        | inr u ↦ inr record { old = u.old; stood = u.stood; kind = s.kind ∙ u.kind; cookie = s.cookie ∙ u.cookie }
      ]
    ]

-- a table of the last schema is younger than the first one, or stood in it
pub record IsYoung (low high : ℕ) (t : TableOf (Unit {0})) : Type 0 where
  pub above : low < t.definition.cookie
  pub upto : t.definition.cookie ≤ high

done_origin : (x : CommitRecord) (schema : Schema) (b : Bool) (now : Tables (Unit {0})) (name : List ℕ) (t : TableOf (Unit {0}))
    → (x.version == schema.version + 1) ≡ b → IsInTurn schema.version x
    → (if b then schema_ops_taken no_rows x.schema_operations schema.tables else Some schema.tables) ≡ Some now
    → now name ≡ Some t → IsYoung schema.version (if b then x.version else schema.version) t ⊎ StoodIn schema.tables name t
done_origin x schema true now name t test in_turn is stands =
    let next : x.version ≡ schema.version + 1 = eqb-true x.version (schema.version + 1) test in
    elim (schema_ops_origin x.version x.schema_operations schema.tables now name t in_turn.cookies is stands) [
      | inl new ↦ inl record { above = omega (arith, new, next); upto = omega (arith, new) }
      | inr s ↦ inr s
    ]
done_origin x schema false now name t test in_turn is stands =
    inr record { old = t; stood = ap (λ all. all name) (some_same schema.tables now is) ∙ stands; kind = refl; cookie = refl }

pub origin : (q : List CommitRecord) (schema last : Schema) (name : List ℕ) (t : TableOf (Unit {0})) → AreInTurn schema.version q
    → schema_after q schema ≡ Some last
    → last.tables name ≡ Some t → IsYoung schema.version last.version t ⊎ StoodIn schema.tables name t
origin [] schema last name t in_turn is stands =
    inr record { old = t; stood = ap (λ s. s.tables name) (some_same schema last is) ∙ stands; kind = refl; cookie = refl }
origin (x ∷ q) schema last name t in_turn is stands =
    go (tables_made no_rows x schema) refl is (λ now rest. origin q (with_ops x schema now) last name t in_turn.1 rest stands)
  where
    go : (now : Option (Tables (Unit {0}))) → tables_made no_rows x schema ≡ now
        → option_and_then (λ s. schema_after q s) (option_map (with_ops x schema) now) ≡ Some last
        → ((all : Tables (Unit {0})) → schema_after q (with_ops x schema all) ≡ Some last
        → IsYoung (reached schema.version x) last.version t ⊎ StoodIn (with_ops x schema all).tables name t)
        → IsYoung schema.version last.version t ⊎ StoodIn schema.tables name t
    go None first rest ih = cc rest
    go (Some now) first rest ih =
        let later : last.version ≡ reached_after (reached schema.version x) q = version_after q (with_ops x schema now) last rest in
        elim (ih now rest) [
          | inl y ↦ inl record { above = omega (arith, y.above, reached_later schema.version x); upto = y.upto }
          | inr s ↦ elim (done_origin x schema (x.version == schema.version + 1) now name s.old refl in_turn.0 first
              (ap (λ all. all name) (sym (unit_ops x.version x.operations now)) ∙ s.stood)) [
                | inl y ↦ inl record {
                  above = subst (λ c. schema.version < c) (sym s.cookie) y.above;
                  upto = subst (λ c. c ≤ last.version) (sym s.cookie)
                      (omega (arith, y.upto, later, reached_after_later (reached schema.version x) q));
                }
                | inr u ↦ inr record { old = u.old; stood = u.stood; kind = s.kind ∙ u.kind; cookie = s.cookie ∙ u.cookie }
              ]
        ]

-- ---- contents that begin alike where tables are made

schema_ops_alike : {X : Type 0} (f g : Files X) (version : ℕ) → ((name : List ℕ) (kind : Kind) → f name kind version ≡ g name kind version)
    → (ops : List SchemaOperation) (tables : Tables X) → AllByRecursion (HasCookie version) ops
    → schema_ops_taken f ops tables ≡ schema_ops_taken g ops tables
schema_ops_alike f g version same [] tables cookies = refl
schema_ops_alike {X} f g version same (op ∷ ops) tables makes =
    ap (option_and_then (λ now. schema_ops_taken f ops now))
    (ap2 (change op (definition_of (tables (named op)))) (change_sound version op (definition_of (tables (named op))) makes.0))
    ∙ go (schema_op_taken g op tables) (λ now. schema_ops_alike f g version same ops now makes.1)
  where
    one : (c : Change) (old : Option Definition) → Sound version old c
        → changed_table f (named op) c (tables (named op)) ≡ changed_table g (named op) c (tables (named op))
    one (made d) old sound = ap (λ rows. Some record { definition = d; rows = rows })
        (ap (f (named op) d.kind) sound ∙ same (named op) d.kind ∙ ap (g (named op) d.kind) (sym sound))
    one gone old sound = refl
    one (changed d) old sound = refl

    ap2 : (c : Option Change) → MatchOption c (Unit {0}) (Sound version (definition_of (tables (named op))))
        → option_map (λ c. set_table (named op) (changed_table f (named op) c (tables (named op))) tables) c
        ≡ option_map (λ c. set_table (named op) (changed_table g (named op) c (tables (named op))) tables) c
    ap2 None sound = refl
    ap2 (Some c) sound = ap (λ table. Some (set_table (named op) table tables)) (one c (definition_of (tables (named op))) sound)

    go : (now : Option (Tables X)) → ((all : Tables X) → schema_ops_taken f ops all ≡ schema_ops_taken g ops all)
        → option_and_then (λ all. schema_ops_taken f ops all) now ≡ option_and_then (λ all. schema_ops_taken g ops all) now
    go None ih = refl
    go (Some now) ih = ih now

pub commit_alike : {X : Type 0} (put_one : Kind → Operation → X → X) (f g : Files X) (x : CommitRecord) (db : DatabaseOf X)
    → IsInTurn db.version x
    → ((name : List ℕ) (kind : Kind) (cookie : ℕ) → db.version < cookie → f name kind cookie ≡ g name kind cookie)
    → commit_taken put_one f x db ≡ commit_taken put_one g x db
commit_alike {X} put_one f g x db in_turn same =
    ap (option_map (λ tables. record { version = reached db.version x; tables = ops_taken put_one x.version x.operations tables }))
    (go (x.version == db.version + 1) refl)
  where
    go : (b : Bool) → (x.version == db.version + 1) ≡ b
        → (if b then schema_ops_taken f x.schema_operations db.tables else Some db.tables)
        ≡ (if b then schema_ops_taken g x.schema_operations db.tables else Some db.tables)
    go true is =
        let next : x.version ≡ db.version + 1 = eqb-true x.version (db.version + 1) is in
        schema_ops_alike f g x.version
        (λ name kind. same name kind x.version (omega (arith, next))) x.schema_operations db.tables in_turn.cookies
    go false is = refl
