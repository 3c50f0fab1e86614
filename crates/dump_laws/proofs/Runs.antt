-- Runs in parts, and the versions that they reach.
use mathlib.Core.Path.{fun_ext}
use Rattle.std.proofs.Common.{◌≡◌, ℕ, ◌+◌, ◌≤◌, arith, false, if◌then◌else◌, ◌==◌, List, [], ◌∷◌, ◌++◌, Option, None, Some, option_map, option_and_then, refl, sym, ap, ◌∙◌, subst}
use Rattle.std.proofs.lemmas.Bool.{ne_eqb}
use Rattle.db_model.specs.Commits.{CommitRecord}
use Rattle.db_model.specs.Ops.{Operation}
use Rattle.db_model.specs.declared.definition.Kind.{Kind}
use Rattle.dump_laws.specs.Directory.{Files, TableOf, Tables, DatabaseOf, Schema, ops_taken, schema_ops_taken, reached, reached_after, tables_made, commit_taken, run, put_unit, no_rows, schema_after, naming}
use Rattle.dump_laws.specs.Order.{AreInTurn, AllUpTo}
use Rattle.dump_laws.proofs.Closed.{ops_taken_at, touched_all, with_ops, reached_later}

pub run-append : {X : Type 0} (put_one : Kind → Operation → X → X) (f : Files X) (p q : List CommitRecord) (db : DatabaseOf X)
    → run put_one f (p ++ q) db ≡ option_and_then (λ now. run put_one f q now) (run put_one f p db)
run-append put_one f [] q db = refl
run-append {X} put_one f (x ∷ p) q db = go (commit_taken put_one f x db) (λ now. run-append put_one f p q now)
  where
    go : (t : Option (DatabaseOf X))
        → ((now : DatabaseOf X) → run put_one f (p ++ q) now ≡ option_and_then (λ now. run put_one f q now) (run put_one f p now))
        → option_and_then (λ now. run put_one f (p ++ q) now) t
        ≡ option_and_then (λ now. run put_one f q now) (option_and_then (λ now. run put_one f p now) t)
    go None ih = refl
    go (Some now) ih = ih now

-- ---- versions

pub reached_still : (version : ℕ) (x : CommitRecord) → x.version ≤ version → reached version x ≡ version
reached_still version x le = ap (λ b. if b then x.version else version) (ne_eqb x.version (version + 1) (λ is. omega (arith, is, le)))

pub reached_after_still : (version : ℕ) (q : List CommitRecord) → AllUpTo version q → reached_after version q ≡ version
reached_after_still version [] h = refl
reached_after_still version (x ∷ q) h = ap (λ n. reached_after n q) (reached_still version x h.0) ∙ reached_after_still version q h.1

pub reached_after-append : (version : ℕ) (p q : List CommitRecord)
    → reached_after version (p ++ q) ≡ reached_after (reached_after version p) q
reached_after-append version [] q = refl
reached_after-append version (x ∷ p) q = reached_after-append (reached version x) p q

pub reached_after_later : (version : ℕ) (q : List CommitRecord) → version ≤ reached_after version q
reached_after_later version [] = omega arith
reached_after_later version (x ∷ q) = omega (arith, reached_later version x, reached_after_later (reached version x) q)

pub in_turn_up_to : (version : ℕ) (q : List CommitRecord) → AreInTurn version q → AllUpTo (reached_after version q) q
in_turn_up_to version [] h = tt
in_turn_up_to version (x ∷ q) h =
    (omega (arith, h.0.within, reached_after_later (reached version x) q), in_turn_up_to (reached version x) q h.1)

pub in_turn_left : (version : ℕ) (p q : List CommitRecord) → AreInTurn version (p ++ q) → AreInTurn version p
in_turn_left version [] q h = tt
in_turn_left version (x ∷ p) q h = (h.0, in_turn_left (reached version x) p q h.1)

pub in_turn_right : (version : ℕ) (p q : List CommitRecord) → AreInTurn version (p ++ q) → AreInTurn (reached_after version p) q
in_turn_right version [] q h = h
in_turn_right version (x ∷ p) q h = in_turn_right (reached version x) p q h.1

pub in_turn-append : (version : ℕ) (p q : List CommitRecord) → AreInTurn version p → AreInTurn (reached_after version p) q
    → AreInTurn version (p ++ q)
in_turn-append version [] q h g = g
in_turn-append version (x ∷ p) q h g = (h.0, in_turn-append (reached version x) p q h.1 g)

-- in_turn commits are in_turn where their versions are reached before
pub in_turn_still : (low high : ℕ) (q : List CommitRecord) → AreInTurn low q → AllUpTo high q → AreInTurn high q
in_turn_still low high [] h old = tt
in_turn_still low high (x ∷ q) h old = (
  record { within = subst (λ n. x.version ≤ n) (sym (reached_still high x old.0)) old.0; cookies = h.0.cookies },
  subst (λ n. AreInTurn n q) (sym (reached_still high x old.0)) (in_turn_still (reached low x) high q h.1 old.1),
)

pub in_turn_again : (version : ℕ) (p q : List CommitRecord) → AreInTurn version (p ++ q) → AreInTurn (reached_after version p) (p ++ q)
in_turn_again version p q h =
    let left : AreInTurn version p = in_turn_left version p q h in
    let upto : AllUpTo (reached_after version p) p = in_turn_up_to version p left in
    in_turn-append (reached_after version p) p q (in_turn_still version (reached_after version p) p left upto)
    (subst (λ n. AreInTurn n q) (sym (reached_after_still (reached_after version p) p upto)) (in_turn_right version p q h))

-- ---- schemas

pub unit_ops : (version : ℕ) (ops : List Operation) (tables : Tables (Unit {0})) → ops_taken put_unit version ops tables ≡ tables
unit_ops version ops tables = fun_ext (λ name. ops_taken_at put_unit version ops tables name ∙ go name (tables name))
  where
    go : (name : List ℕ) (t : Option (TableOf (Unit {0}))) → option_map (touched_all put_unit version (naming name ops)) t ≡ t
    go name None = refl
    go name (Some t) = refl

-- commits of versions that are reached leave the schema
pub schema_still : (q : List CommitRecord) (schema : Schema) → AllUpTo schema.version q → schema_after q schema ≡ Some schema
schema_still [] schema h = refl
schema_still (x ∷ q) schema h = ap (option_and_then (λ now. schema_after q now)) one ∙ schema_still q schema h.1
  where
    test : (x.version == schema.version + 1) ≡ false
    test = ne_eqb x.version (schema.version + 1) (λ is. omega (arith, is, h.0))

    one : commit_taken put_unit no_rows x schema ≡ Some schema
    one = ap (λ b. option_map
        (λ tables. record { version = if b then x.version else schema.version; tables = ops_taken put_unit x.version x.operations tables })
        (if b then schema_ops_taken no_rows x.schema_operations schema.tables else Some schema.tables)) test
        ∙ ap (λ tables. Some record { version = schema.version; tables = tables }) (unit_ops x.version x.operations schema.tables)

-- the version that they reach
pub version_after : (q : List CommitRecord) (schema last : Schema) → schema_after q schema ≡ Some last
    → last.version ≡ reached_after schema.version q
version_after [] schema last is = cc is
version_after (x ∷ q) schema last is = go (tables_made no_rows x schema) is (λ now. version_after q (with_ops x schema now) last)
  where
    go : (t : Option (Tables (Unit {0}))) → option_and_then (λ now. schema_after q now) (option_map (with_ops x schema) t) ≡ Some last
        → ((now : Tables (Unit {0})) → schema_after q (with_ops x schema now) ≡ Some last
        → last.version ≡ reached_after (reached schema.version x) q)
        → last.version ≡ reached_after (reached schema.version x) q
    go None no_such ih = cc no_such
    go (Some now) is ih = ih now is

-- a schema after a front of the commits leads to the same
pub schema_again : (p q : List CommitRecord) (first schema : Schema) → AreInTurn first.version (p ++ q) → schema_after p first ≡ Some schema
    → schema_after (p ++ q) schema ≡ schema_after (p ++ q) first
schema_again p q first schema in_turn is =
    run-append put_unit no_rows p q schema
    ∙ ap (option_and_then (λ now. schema_after q now))
    (schema_still p schema (subst (λ n. AllUpTo n p) (sym (version_after p first schema is))
    (in_turn_up_to first.version p (in_turn_left first.version p q in_turn))))
    ∙ ap (option_and_then (λ now. schema_after q now)) (sym is)
    ∙ sym (run-append put_unit no_rows p q first)
