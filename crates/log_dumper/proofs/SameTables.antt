-- A table that stands behind a commit was made by it, or stood before it with another index at most.
use Rattle.std.proofs.Common.{◌≡◌, ◌⊎◌, inl, inr, ℕ, ◌+◌, ◌<◌, arith, Bool, true, false, not, if◌then◌else◌, ◌==◌, filter, List, [], ◌∷◌, Option, None, Some, option_map, option_and_then, MatchOption, refl, sym, ap, ◌∙◌, subst}
use Rattle.std.specs.Prelude.{⊤}
use Rattle.std.specs.List.{AllByRecursion}
use Rattle.std.proofs.lemmas.Bool.{eqb-true}
use Rattle.db_model.specs.Commits.{SchemaOperation, create, drop_table, add_index, del_index, remake, CommitRecord}
use Rattle.db_model.specs.Database.{same_name, with_position}
use Rattle.db_model.specs.Definitions.{Definition}
use Rattle.db_model.specs.Lawful.{HasCookie}
use Rattle.dump_laws.specs.Directory.{TableOf, Tables, Schema, Change, made, gone, changed, named, can_index, is_indexed, reindexed, change, definition_of, changed_table, set_table, schema_op_taken, schema_ops_taken, tables_made, no_rows, schema_after}
use Rattle.dump_laws.specs.Order.{IsInTurn}
use Rattle.dump_laws.proofs.Closed.{with_ops}
use Rattle.dump_laws.proofs.Names.{name_is}
use Rattle.dump_laws.proofs.Options.{some_same}
use Rattle.dump_laws.proofs.Runs.{unit_ops}

-- the same but for the index
abbrev pub IsReindexed : Definition → Definition → Type 0
IsReindexed d old = d ≡ reindexed d.index old

abbrev IsSound : ℕ → Option Definition → Change → Type 0
IsSound version old (made d) = d.cookie ≡ version
IsSound version old gone = ⊤
IsSound version None (changed d) = ⊤
IsSound version (Some old) (changed d) = IsReindexed d old

change_sound : (version : ℕ) (op : SchemaOperation) (old : Option Definition) → HasCookie version op
    → MatchOption (change op old) (Unit {0}) (IsSound version old)
change_sound version (create table) None h = h
change_sound version (create table) (Some old) h = tt
change_sound version (drop_table table) None h = tt
change_sound version (drop_table table) (Some old) h = tt
change_sound version (add_index table position) None h = tt
change_sound version (add_index table position) (Some old) h = go (can_index position old)
  where
    go : (b : Bool) → MatchOption (if b then Some (changed (reindexed (with_position position old.index) old)) else None) (Unit {0})
        (IsSound version (Some old))
    go true = refl
    go false = tt
change_sound version (del_index table position) None h = tt
change_sound version (del_index table position) (Some old) h = go (is_indexed position old)
  where
    go : (b : Bool)
        → MatchOption (if b then Some (changed (reindexed (filter (λ other. not (other == position)) old.index) old)) else None)
        (Unit {0}) (IsSound version (Some old))
    go true = refl
    go false = tt
change_sound version (remake table) None h = tt
change_sound version (remake table) (Some old) h = h

-- a table of the name stood in these, and is the same now but for its index
pub record StoodSo (tables : Tables (Unit {0})) (name : List ℕ) (d : Definition) : Type 0 where
  pub old : TableOf (Unit {0})
  pub stood : tables name ≡ Some old
  pub same : IsReindexed d old.definition

abbrev Origin : ℕ → Tables (Unit {0}) → List ℕ → Definition → Type 0
Origin version tables name d = (d.cookie ≡ version) ⊎ StoodSo tables name d

stood_now : (tables : Tables (Unit {0})) (name : List ℕ) (t : TableOf (Unit {0})) → tables name ≡ Some t → StoodSo tables name t.definition
stood_now tables name t stands = record { old = t; stood = stands; same = refl }

reindexed_again : (a b c : Definition) → IsReindexed a b → IsReindexed b c → IsReindexed a c
reindexed_again a b c ab bc = ab ∙ ap (reindexed a.index) bc

op_origin : (version : ℕ) (op : SchemaOperation) (tables now : Tables (Unit {0})) (name : List ℕ) (t : TableOf (Unit {0}))
    → HasCookie version op → schema_op_taken no_rows op tables ≡ Some now → now name ≡ Some t → Origin version tables name t.definition
op_origin version op tables now name t makes is stands =
    go (change op (definition_of (tables (named op)))) (change_sound version op (definition_of (tables (named op))) makes) is
  where
    kept : (d : Definition) (old : Option (TableOf (Unit {0}))) → tables name ≡ old → IsSound version (definition_of old) (changed d)
        → option_map (λ u. record { definition = d; rows = tt }) old ≡ Some t → StoodSo tables name t.definition
    kept d None at sound none_such = cc none_such
    kept d (Some u) at sound same =
        let here : record { definition = d; rows = tt } ≡ t = some_same record { definition = d; rows = tt } t same in
        record { old = u; stood = at; same = subst (λ (w : TableOf (Unit {0})). IsReindexed w.definition u.definition) here sound }

    one : (c : Change) → named op ≡ name → IsSound version (definition_of (tables (named op))) c
        → changed_table no_rows (named op) c (tables (named op)) ≡ Some t → Origin version tables name t.definition
    one (made d) same sound at =
        let here : record { definition = d; rows = tt } ≡ t = some_same record { definition = d; rows = tt } t at in
        inl (ap (λ (w : TableOf (Unit {0})). w.definition.cookie) (sym here) ∙ sound)
    one gone same sound at = cc at
    one (changed d) same sound at = inr (kept d (tables (named op)) (ap tables (sym same)) sound at)

    at_name : (b : Bool) (c : Change) → same_name (named op) name ≡ b → IsSound version (definition_of (tables (named op))) c
        → (if b then changed_table no_rows (named op) c (tables (named op)) else tables name) ≡ Some t
        → Origin version tables name t.definition
    at_name true c same sound at = one c (name_is (named op) name same) sound at
    at_name false c same sound at = inr (stood_now tables name t at)

    go : (c : Option Change) → MatchOption c (Unit {0}) (IsSound version (definition_of (tables (named op))))
        → option_map (λ c. set_table (named op) (changed_table no_rows (named op) c (tables (named op))) tables) c ≡ Some now
        → Origin version tables name t.definition
    go None sound none_such = cc none_such
    go (Some c) sound same = at_name (same_name (named op) name) c refl sound (ap (λ all. all name) (some_same _ now same) ∙ stands)

ops_origin : (version : ℕ) (ops : List SchemaOperation) (tables last : Tables (Unit {0})) (name : List ℕ) (t : TableOf (Unit {0}))
    → AllByRecursion (HasCookie version) ops → schema_ops_taken no_rows ops tables ≡ Some last → last name ≡ Some t
    → Origin version tables name t.definition
ops_origin version [] tables last name t makes is stands =
    inr (stood_now tables name t (ap (λ all. all name) (some_same tables last is) ∙ stands))
ops_origin version (op ∷ ops) tables last name t makes is stands =
    go (schema_op_taken no_rows op tables) refl is (λ now rest. ops_origin version ops now last name t makes.1 rest stands)
  where
    go : (now : Option (Tables (Unit {0}))) → schema_op_taken no_rows op tables ≡ now
        → option_and_then (λ all. schema_ops_taken no_rows ops all) now ≡ Some last
        → ((all : Tables (Unit {0})) → schema_ops_taken no_rows ops all ≡ Some last → Origin version all name t.definition)
        → Origin version tables name t.definition
    go None first rest ih = cc rest
    go (Some now) first rest ih = elim (ih now rest) [
      | inl new ↦ inl new
      | inr s ↦ elim (op_origin version op tables now name s.old makes.0 first s.stood) [
        | inl new ↦ inl (ap (λ (d : Definition). d.cookie) s.same ∙ new)
        | inr u ↦ inr record {
          old = u.old;
          stood = u.stood;
          same = reindexed_again t.definition s.old.definition u.old.definition s.same u.same;
        }
      ]
    ]

-- behind one commit that is in turn
pub commit_origin : (commit : CommitRecord) (schema last : Schema) (name : List ℕ) (t : TableOf (Unit {0}))
    → IsInTurn schema.version commit → schema_after (commit ∷ []) schema ≡ Some last → last.tables name ≡ Some t
    → (schema.version < t.definition.cookie) ⊎ StoodSo schema.tables name t.definition
commit_origin commit schema last name t in_turn is stands =
    go (tables_made no_rows commit schema) refl is
  where
    by_turn : (now : Tables (Unit {0})) (b : Bool) → (commit.version == schema.version + 1) ≡ b
        → (if b then schema_ops_taken no_rows commit.schema_operations schema.tables else Some schema.tables) ≡ Some now
        → now name ≡ Some t → (schema.version < t.definition.cookie) ⊎ StoodSo schema.tables name t.definition
    by_turn now true test done_so at = elim (ops_origin commit.version commit.schema_operations schema.tables now name t
        in_turn.cookies done_so at) [
          | inl new ↦ let next : commit.version ≡ schema.version + 1 = eqb-true commit.version (schema.version + 1) test in
              inl (omega (arith, new, next))
          | inr s ↦ inr s
        ]
    by_turn now false test done_so at =
        inr (stood_now schema.tables name t (ap (λ all. all name) (some_same schema.tables now done_so) ∙ at))

    go : (now : Option (Tables (Unit {0}))) → tables_made no_rows commit schema ≡ now
        → option_and_then (λ s. schema_after [] s) (option_map (with_ops commit schema) now) ≡ Some last
        → (schema.version < t.definition.cookie) ⊎ StoodSo schema.tables name t.definition
    go None done_so rest = cc rest
    go (Some now) done_so rest =
        let last_is : with_ops commit schema now ≡ last = some_same (with_ops commit schema now) last rest in
        by_turn now (commit.version == schema.version + 1) refl done_so
        (ap (λ all. all name) (sym (unit_ops commit.version commit.operations now))
        ∙ ap (λ (s : Schema). s.tables name) last_is ∙ stands)
