-- What the run of commits gives, without the run: each table as it begins, with those ops done that name it in commits of at least its
-- cookie.
use mathlib.Core.Path.{fun_ext}
use Rattle.std.proofs.Common.{◌≡◌, ℕ, ◌+◌, ◌<◌, ◌≤◌, arith, Bool, true, false, not, if◌then◌else◌, filter, nat_le, ◌==◌, List, [], ◌∷◌, ◌++◌, Option, None, Some, option_map, option_and_then, MatchOption, refl, sym, ap, ◌∙◌, append_assoc, append-nil}
use Rattle.std.proofs.lemmas.Bool.{eqb-true, lt-leb}
use Rattle.std.specs.List.{AllByRecursion}
use Rattle.db_model.specs.Commits.{SchemaOperation, create, drop_table, add_index, del_index, remake, CommitRecord}
use Rattle.db_model.specs.Database.{same_name, with_position}
use Rattle.db_model.specs.Definitions.{Definition}
use Rattle.db_model.specs.Lawful.{HasCookie}
use Rattle.db_model.specs.Ops.{Operation, table_of}
use Rattle.db_model.specs.declared.definition.Kind.{Kind}
use Rattle.dump_laws.specs.Effects.{after}
use Rattle.dump_laws.specs.Directory.{Files, TableOf, Tables, Schema, Change, made, gone, changed, named, can_index, is_indexed, reindexed, change, definition_of, changed_table, set_table, schema_op_taken, schema_ops_taken, touched, op_taken, ops_taken, reached, tables_made, commit_taken, run, begin, put_unit, no_rows, schema_after, naming, of_table, filled}
use Rattle.dump_laws.specs.Order.{IsInTurn, AreInTurn, AllUpTo}
use Rattle.dump_laws.proofs.Names.{name_is}

-- ---- lists of ops

pub after-append : {X : Type 0} (put_one : Kind → Operation → X → X) (kind : Kind) (a b : List Operation) (x : X)
    → after put_one kind (a ++ b) x ≡ after put_one kind b (after put_one kind a x)
after-append put_one kind [] b x = refl
after-append put_one kind (op ∷ a) b x = after-append put_one kind a b (put_one kind op x)

pub of_table-append : (name : List ℕ) (cookie : ℕ) (p q : List CommitRecord)
    → of_table name cookie (p ++ q) ≡ of_table name cookie p ++ of_table name cookie q
of_table-append name cookie [] q = refl
of_table-append name cookie (x ∷ p) q =
    ap (λ all. (if nat_le cookie x.version then naming name x.operations else []) ++ all) (of_table-append name cookie p q)
    ∙ sym (append_assoc (if nat_le cookie x.version then naming name x.operations else []) (of_table name cookie p)
    (of_table name cookie q))

-- a table that is younger than the commits has none of their ops
pub of_table-young : (name : List ℕ) (cookie version : ℕ) (p : List CommitRecord) → AllUpTo version p → version < cookie
    → of_table name cookie p ≡ []
of_table-young name cookie version [] h lt = refl
of_table-young name cookie version (x ∷ p) h lt =
    ap (λ b. (if b then naming name x.operations else []) ++ of_table name cookie p) (lt-leb cookie x.version (omega (arith, h.0, lt)))
    ∙ of_table-young name cookie version p h.1 lt

-- ---- the ops of one commit, table by table

abbrev pub touched_all : {X : Type 0} → (Kind → Operation → X → X) → ℕ → List Operation → TableOf X → TableOf X
touched_all put_one version ops t =
    record {
      definition = t.definition;
      rows =
          if nat_le t.definition.cookie version then after put_one t.definition.kind ops t.rows else t.rows;
    }

pub ops_taken_at : {X : Type 0} (put_one : Kind → Operation → X → X) (version : ℕ) (ops : List Operation) (tables : Tables X)
    (name : List ℕ)
    → ops_taken put_one version ops tables name ≡ option_map (touched_all put_one version (naming name ops)) (tables name)
ops_taken_at {X} put_one version [] tables name = go (tables name)
  where
    same : (b : Bool) (t : TableOf X) → t ≡ record { definition = t.definition; rows = if b then t.rows else t.rows }
    same true t = refl
    same false t = refl

    go : (t : Option (TableOf X)) → t ≡ option_map (touched_all put_one version []) t
    go None = refl
    go (Some t) = ap Some (same (nat_le t.definition.cookie version) t)
ops_taken_at {X} put_one version (op ∷ ops) tables name =
    ops_taken_at put_one version ops (op_taken put_one version op tables) name ∙ go (same_name (table_of op) name) (tables name)
  where
    both : (b : Bool) (t : TableOf X) (kind : Kind)
        → (if b then after put_one kind (naming name ops) (if b then put_one kind op t.rows else t.rows) else
        (if b then put_one kind op t.rows else t.rows))
        ≡ (if b then after put_one kind (op ∷ naming name ops) t.rows else t.rows)
    both true t kind = refl
    both false t kind = refl

    go : (b : Bool) (t : Option (TableOf X))
        → option_map (touched_all put_one version (naming name ops)) (if b then option_map (touched put_one version op) t else t)
        ≡ option_map (touched_all put_one version (if b then op ∷ naming name ops else naming name ops)) t
    go false t = refl
    go true None = refl
    go true (Some t) = ap (λ rows. Some record { definition = t.definition; rows = rows })
        (both (nat_le t.definition.cookie version) t t.definition.kind)

-- ---- schema ops

-- a table that is made has this cookie, and one that is changed keeps its kind and its cookie
abbrev pub Sound : ℕ → Option Definition → Change → Type 0
Sound version old (made d) = d.cookie ≡ version
Sound version old gone = Unit {0}
Sound version None (changed d) = Unit {0}
Sound version (Some old) (changed d) = (d.kind ≡ old.kind) × (d.cookie ≡ old.cookie)

pub change_sound : (version : ℕ) (op : SchemaOperation) (old : Option Definition) → HasCookie version op
    → MatchOption (change op old) (Unit {0}) (Sound version old)
change_sound version (create table) None h = h
change_sound version (create table) (Some old) h = tt
change_sound version (drop_table table) None h = tt
change_sound version (drop_table table) (Some old) h = tt
change_sound version (add_index table position) None h = tt
change_sound version (add_index table position) (Some old) h = go (can_index position old)
  where
    go : (b : Bool) → MatchOption (if b then Some (changed (reindexed (with_position position old.index) old)) else None) (Unit {0})
        (Sound version (Some old))
    go true = (refl, refl)
    go false = tt
change_sound version (del_index table position) None h = tt
change_sound version (del_index table position) (Some old) h = go (is_indexed position old)
  where
    go : (b : Bool) → MatchOption (if b then Some (changed (reindexed (filter (λ other. not (other == position)) old.index) old)) else None)
        (Unit {0}) (Sound version (Some old))
    go true = (refl, refl)
    go false = tt
change_sound version (remake table) None h = tt
change_sound version (remake table) (Some old) h = h

-- tables filled in by name, kind and cookie
abbrev pub with_rows : {X : Type 0} → (List ℕ → Kind → ℕ → X) → List ℕ → Option (TableOf (Unit {0})) → Option (TableOf X)
with_rows h name table = option_map (λ t. record { definition = t.definition; rows = h name t.definition.kind t.definition.cookie }) table

module _ {X : Type 0} (put_one : Kind → Operation → X → X) (f : Files X) where
  -- what is made is filled in as it begins
  schema_op_filled : (h : List ℕ → Kind → ℕ → X) (version : ℕ) → ((name : List ℕ) (kind : Kind) → f name kind version ≡ h name kind version)
      → (op : SchemaOperation) (tables : Tables (Unit {0})) → HasCookie version op
      → schema_op_taken f op (λ name. with_rows h name (tables name))
      ≡ option_map (λ now name. with_rows h name (now name)) (schema_op_taken no_rows op tables)
  schema_op_filled h version new op tables makes =
      ap (λ d. option_map (λ c. set_table (named op) (changed_table f (named op) c (with_rows h (named op) (tables (named op))))
      (λ name. with_rows h name (tables name))) (change op d)) (same (tables (named op)))
      ∙ go (change op (definition_of (tables (named op)))) (change_sound version op (definition_of (tables (named op))) makes)
    where
      same : (t : Option (TableOf (Unit {0}))) → definition_of (with_rows h (named op) t) ≡ definition_of t
      same None = refl
      same (Some t) = refl

      one : (c : Change) (t : Option (TableOf (Unit {0}))) → Sound version (definition_of t) c
          → changed_table f (named op) c (with_rows h (named op) t) ≡ with_rows h (named op) (changed_table no_rows (named op) c t)
      one (made d) t sound = ap (λ rows. Some record { definition = d; rows = rows })
          (ap (f (named op) d.kind) sound ∙ new (named op) d.kind ∙ ap (h (named op) d.kind) (sym sound))
      one gone t sound = refl
      one (changed d) None sound = refl
      one (changed d) (Some t) sound =
          ap (λ rows. Some record { definition = d; rows = rows })
          (ap (λ k. h (named op) k t.definition.cookie) (sym sound.0) ∙ ap (h (named op) d.kind) (sym sound.1))

      at : (b : Bool) (c : Change) (other : List ℕ) → same_name (named op) other ≡ b → Sound version (definition_of (tables (named op))) c
          → (if b then changed_table f (named op) c (with_rows h (named op) (tables (named op))) else with_rows h other (tables other))
          ≡ with_rows h other (if b then changed_table no_rows (named op) c (tables (named op)) else tables other)
      at true c other is sound = one c (tables (named op)) sound
          ∙ ap (λ n. with_rows h n (changed_table no_rows (named op) c (tables (named op)))) (name_is (named op) other is)
      at false c other is sound = refl

      go : (c : Option Change) → MatchOption c (Unit {0}) (Sound version (definition_of (tables (named op))))
          → option_map (λ c. set_table (named op) (changed_table f (named op) c (with_rows h (named op) (tables (named op))))
          (λ name. with_rows h name (tables name))) c
          ≡ option_map (λ now name. with_rows h name (now name))
          (option_map (λ c. set_table (named op) (changed_table no_rows (named op) c (tables (named op))) tables) c)
      go None sound = refl
      go (Some c) sound = ap Some (fun_ext (λ other. at (same_name (named op) other) c other refl sound))

  schema_ops_filled : (h : List ℕ → Kind → ℕ → X) (version : ℕ)
      → ((name : List ℕ) (kind : Kind) → f name kind version ≡ h name kind version)
      → (ops : List SchemaOperation) (tables : Tables (Unit {0})) → AllByRecursion (HasCookie version) ops
      → schema_ops_taken f ops (λ name. with_rows h name (tables name))
      ≡ option_map (λ now name. with_rows h name (now name)) (schema_ops_taken no_rows ops tables)
  schema_ops_filled h version new [] tables cookies = refl
  schema_ops_filled h version new (op ∷ ops) tables makes =
      ap (option_and_then (λ now. schema_ops_taken f ops now)) (schema_op_filled h version new op tables makes.0)
      ∙ go (schema_op_taken no_rows op tables) (λ t. schema_ops_filled h version new ops t makes.1)
    where
      go : (t : Option (Tables (Unit {0})))
          → ((t : Tables (Unit {0})) → schema_ops_taken f ops (λ name. with_rows h name (t name))
          ≡ option_map (λ now name. with_rows h name (now name)) (schema_ops_taken no_rows ops t))
          → option_and_then (λ now. schema_ops_taken f ops now) (option_map (λ now name. with_rows h name (now name)) t)
          ≡ option_map (λ now name. with_rows h name (now name)) (option_and_then (λ now. schema_ops_taken no_rows ops now) t)
      go None ih = refl
      go (Some t) ih = ih t

  abbrev of_commits : List CommitRecord → List ℕ → Kind → ℕ → X
  of_commits p name kind cookie = after put_one kind (of_table name cookie p) (f name kind cookie)

  rows_on : (p : List CommitRecord) (x : CommitRecord) (name : List ℕ) (kind : Kind) (cookie : ℕ)
      → (if nat_le cookie x.version then after put_one kind (naming name x.operations)
      (of_commits p name kind cookie) else of_commits p name kind cookie)
      ≡ of_commits (p ++ x ∷ []) name kind cookie
  rows_on p x name kind cookie = go (nat_le cookie x.version)
      ∙ ap (λ ops. after put_one kind ops (f name kind cookie)) (sym (of_table-append name cookie p (x ∷ [])))
    where
      go : (b : Bool)
          → (if b then after put_one kind (naming name x.operations) (of_commits p name kind cookie) else of_commits p name kind cookie)
          ≡ after put_one kind (of_table name cookie p ++ ((if b then naming name x.operations else []) ++ [])) (f name kind cookie)
      go true = sym (after-append put_one kind (of_table name cookie p) (naming name x.operations ++ []) (f name kind cookie)
          ∙ ap (λ ops. after put_one kind ops (of_commits p name kind cookie)) (append-nil (naming name x.operations)))
      go false = ap (λ ops. after put_one kind ops (f name kind cookie)) (sym (append-nil (of_table name cookie p)))

  ops_filled : (p : List CommitRecord) (x : CommitRecord) (t : Tables (Unit {0})) (name : List ℕ)
      → ops_taken put_one x.version x.operations (λ n. with_rows (of_commits p) n (t n)) name
      ≡ with_rows (of_commits (p ++ x ∷ [])) name (ops_taken put_unit x.version x.operations t name)
  ops_filled p x t name =
      ops_taken_at put_one x.version x.operations (λ n. with_rows (of_commits p) n (t n)) name
      ∙ go (t name)
      ∙ ap (with_rows (of_commits (p ++ x ∷ [])) name) (sym (ops_taken_at put_unit x.version x.operations t name))
    where
      go : (u : Option (TableOf (Unit {0})))
          → option_map (touched_all put_one x.version (naming name x.operations)) (with_rows (of_commits p) name u)
          ≡ with_rows (of_commits (p ++ x ∷ [])) name (option_map (touched_all put_unit x.version (naming name x.operations)) u)
      go None = refl
      go (Some u) = ap (λ rows. Some record { definition = u.definition; rows = rows })
          (rows_on p x name u.definition.kind u.definition.cookie)

  commit_filled : (p : List CommitRecord) (x : CommitRecord) (schema : Schema) → AllUpTo schema.version p → IsInTurn schema.version x
      → commit_taken put_one f x (filled put_one f p schema)
      ≡ option_map (filled put_one f (p ++ x ∷ [])) (commit_taken put_unit no_rows x schema)
  commit_filled p x schema old in_turn =
      ap (option_map (λ tables. record { version = reached schema.version x; tables = ops_taken put_one x.version x.operations tables }))
      (before (x.version == schema.version + 1) refl)
      ∙ behind (tables_made no_rows x schema)
    where
      before : (b : Bool) → (x.version == schema.version + 1) ≡ b
          → (if b then schema_ops_taken f x.schema_operations (λ n. with_rows (of_commits p) n (schema.tables n)) else Some
          (λ n. with_rows (of_commits p) n (schema.tables n)))
          ≡ option_map (λ now name. with_rows (of_commits p) name (now name))
          (if b then schema_ops_taken no_rows x.schema_operations schema.tables else Some schema.tables)
      before true is =
          let next : x.version ≡ schema.version + 1 = eqb-true x.version (schema.version + 1) is in
          schema_ops_filled (of_commits p) x.version
          (λ name kind. ap (λ ops. after put_one kind ops (f name kind x.version))
          (sym (of_table-young name x.version schema.version p old (omega (arith, next)))))
          x.schema_operations schema.tables in_turn.cookies
      before false is = refl

      behind : (t : Option (Tables (Unit {0})))
          → option_map (λ tables. record { version = reached schema.version x; tables = ops_taken put_one x.version x.operations tables })
          (option_map (λ now name. with_rows (of_commits p) name (now name)) t)
          ≡ option_map (filled put_one f (p ++ x ∷ []))
          (option_map
          (λ tables. record { version = reached schema.version x; tables = ops_taken put_unit x.version x.operations tables }) t)
      behind None = refl
      behind (Some t) = ap (λ tables. Some record { version = reached schema.version x; tables = tables })
          (fun_ext (λ name. ops_filled p x t name))

-- ---- whole runs

pub reached_later : (version : ℕ) (x : CommitRecord) → version ≤ reached version x
reached_later version x = go (x.version == version + 1) refl
  where
    go : (b : Bool) → (x.version == version + 1) ≡ b → version ≤ (if b then x.version else version)
    go true is = let next : x.version ≡ version + 1 = eqb-true x.version (version + 1) is in omega (arith, next)
    go false is = omega arith

pub up_to_later : (low high : ℕ) (p : List CommitRecord) → low ≤ high → AllUpTo low p → AllUpTo high p
up_to_later low high [] le h = tt
up_to_later low high (x ∷ p) le h = (omega (arith, h.0, le), up_to_later low high p le h.1)

pub up_to-append : (version : ℕ) (p q : List CommitRecord) → AllUpTo version p → AllUpTo version q → AllUpTo version (p ++ q)
up_to-append version [] q h g = g
up_to-append version (x ∷ p) q h g = (h.0, up_to-append version p q h.1 g)

abbrev pub with_ops : CommitRecord → Schema → Tables (Unit {0}) → Schema
with_ops x schema now = record { version = reached schema.version x; tables = ops_taken put_unit x.version x.operations now }

module _ {X : Type 0} (put_one : Kind → Operation → X → X) (f : Files X) where
  run_filled : (q p : List CommitRecord) (schema : Schema) → AllUpTo schema.version p → AreInTurn schema.version q
      → run put_one f q (filled put_one f p schema) ≡ option_map (filled put_one f (p ++ q)) (schema_after q schema)
  run_filled [] p schema old in_turn = ap (λ all. Some (filled put_one f all schema)) (sym (append-nil p))
  run_filled (x ∷ q) p schema old in_turn =
      ap (option_and_then (λ now. run put_one f q now)) (commit_filled put_one f p x schema old in_turn.0)
      ∙ go (tables_made no_rows x schema)
      (λ now. run_filled q (p ++ x ∷ []) (with_ops x schema now)
      (up_to-append (reached schema.version x) p (x ∷ [])
      (up_to_later schema.version (reached schema.version x) p (reached_later schema.version x) old) (in_turn.0.within, tt)) in_turn.1)
      ∙ ap (λ all. option_map (filled put_one f all) (schema_after (x ∷ q) schema)) (append_assoc p (x ∷ []) q)
    where
      go : (t : Option (Tables (Unit {0})))
          → ((now : Tables (Unit {0})) → run put_one f q (filled put_one f (p ++ x ∷ []) (with_ops x schema now))
          ≡ option_map (filled put_one f ((p ++ x ∷ []) ++ q)) (schema_after q (with_ops x schema now)))
          → option_and_then (λ now. run put_one f q now) (option_map (filled put_one f (p ++ x ∷ [])) (option_map (with_ops x schema) t))
          ≡ option_map (filled put_one f ((p ++ x ∷ []) ++ q))
          (option_and_then (λ now. schema_after q now) (option_map (with_ops x schema) t))
      go None ih = refl
      go (Some now) ih = ih now

-- the run gives each table as it begins, with its ops done
pub closed : {X : Type 0} (put_one : Kind → Operation → X → X) (f : Files X) (q : List CommitRecord) (schema : Schema)
    → AreInTurn schema.version q
    → run put_one f q (begin f schema) ≡ option_map (filled put_one f q) (schema_after q schema)
closed put_one f q schema in_turn = run_filled put_one f q [] schema tt in_turn
