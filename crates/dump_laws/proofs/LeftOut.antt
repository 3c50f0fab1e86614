-- A dump on its way, while commits are appended, files are swapped and the schema file is written.
use Rattle.std.proofs.Common.{◌≡◌, ◌⊎◌, inl, inr, ℕ, ◌+◌, ◌<◌, ◌≤◌, Bool, true, false, ◌&&◌, if◌then◌else◌, nat_eq, ◌==◌, List, [], ◌∷◌, ◌++◌, Option, None, Some, option_map, option_and_then, refl, sym, ap, ◌∙◌, subst, append_assoc}
use Rattle.std.proofs.lemmas.Bool.{eqb-true, and_parts}
use Rattle.std.specs.List.{AllByRecursion}
use Rattle.term_core.specs.Tree.{Tree}
use Rattle.db_model.specs.Commits.{SchemaOperation, CommitRecord}
use Rattle.db_model.specs.Database.{same_name}
use Rattle.db_model.specs.Lawful.{HasCookie}
use Rattle.db_model.specs.Ops.{Operation}
use Rattle.db_model.specs.declared.definition.Kind.{Kind}
use Rattle.dump_laws.specs.Effects.{Rows, put, after, AreIdle}
use Rattle.dump_laws.specs.Directory.{TableOf, Tables, Schema, ops_taken, schema_ops_taken, reached, reached_after, tables_made, put_unit, no_rows, schema_after, View, commits, under, of_table, filled}
use Rattle.dump_laws.specs.Order.{IsInTurn, AreInTurn, AllUpTo, OfEach, with_commit, with_files, with_schema, set_rows}
use Rattle.dump_laws.specs.Left.{IsLeft, SameShape}
use Rattle.dump_laws.proofs.Names.{name_is}
use Rattle.dump_laws.proofs.Effects.{acts, after-append-at}
use Rattle.dump_laws.proofs.Closed.{closed, of_table-append, of_table-young, with_ops}
use Rattle.dump_laws.proofs.Runs.{run-append, unit_ops, in_turn_up_to, version_after, schema_again}
use Rattle.dump_laws.proofs.Origins.{origin}
use Rattle.dump_laws.proofs.Views.{filled_same}
use Rattle.dump_laws.proofs.Acts.{whole, after_some}

-- ---- other ops in the same commits

schema_of_shape : (p q : List CommitRecord) (schema : Schema) → SameShape p q → schema_after p schema ≡ schema_after q schema
schema_of_shape [] [] schema same = refl
schema_of_shape [] (y ∷ q) schema same = absurd same
schema_of_shape (x ∷ p) [] schema same = absurd same
schema_of_shape (x ∷ p) (y ∷ q) schema same =
    first x.version y.version x.schema_operations y.schema_operations same.0 same.1
    ∙ go (tables_made no_rows y schema) (λ now. schema_of_shape p q (with_ops y schema now) same.2)
  where
    -- the commit's ops change no definition
    plain : (version reaches : ℕ) (ops : List Operation) (t : Option (Tables (Unit {0})))
        → option_and_then (λ now. schema_after p now)
        (option_map (λ tables. record { version = reaches; tables = ops_taken put_unit version ops tables }) t)
        ≡ option_and_then (λ now. schema_after p now) (option_map (λ tables. record { version = reaches; tables = tables }) t)
    plain version reaches ops None = refl
    plain version reaches ops (Some tables) =
        ap (λ all. schema_after p record { version = reaches; tables = all }) (unit_ops version ops tables)

    first : (a b : ℕ) (s t : List SchemaOperation) → a ≡ b → s ≡ t
        → option_and_then (λ now. schema_after p now)
        (option_map
        (λ tables. record {
          version = if a == schema.version + 1 then a else schema.version;
          tables = ops_taken put_unit a x.operations tables;
        })
        (if a == schema.version + 1 then schema_ops_taken no_rows s schema.tables else Some schema.tables))
        ≡ option_and_then (λ now. schema_after p now)
        (option_map
        (λ tables. record {
          version = if b == schema.version + 1 then b else schema.version;
          tables = ops_taken put_unit b y.operations tables;
        })
        (if b == schema.version + 1 then schema_ops_taken no_rows t schema.tables else Some schema.tables))
    first a b s t same_version same_ops =
        plain a (if a == schema.version + 1 then a else schema.version) x.operations
        (if a == schema.version + 1 then schema_ops_taken no_rows s schema.tables else Some schema.tables)
        ∙ ap (λ n. option_and_then (λ now. schema_after p now)
        (option_map (λ tables. record { version = if n == schema.version + 1 then n else schema.version; tables = tables })
        (if n == schema.version + 1 then schema_ops_taken no_rows s schema.tables else Some schema.tables))) same_version
        ∙ ap (λ ops. option_and_then (λ now. schema_after p now)
        (option_map (λ tables. record { version = if b == schema.version + 1 then b else schema.version; tables = tables })
        (if b == schema.version + 1 then schema_ops_taken no_rows ops schema.tables else Some schema.tables))) same_ops
        ∙ sym (plain b (if b == schema.version + 1 then b else schema.version) y.operations
        (if b == schema.version + 1 then schema_ops_taken no_rows t schema.tables else Some schema.tables))

    go : (t : Option (Tables (Unit {0})))
        → ((now : Tables (Unit {0})) → schema_after p (with_ops y schema now) ≡ schema_after q (with_ops y schema now))
        → option_and_then (λ now. schema_after p now) (option_map (with_ops y schema) t)
        ≡ option_and_then (λ now. schema_after q now) (option_map (with_ops y schema) t)
    go None ih = refl
    go (Some now) ih = ih now

in_turn_of_shape : (version : ℕ) (p q : List CommitRecord) → SameShape p q → AreInTurn version q → AreInTurn version p
in_turn_of_shape version [] [] same h = tt
in_turn_of_shape version [] (y ∷ q) same h = tt
in_turn_of_shape version (x ∷ p) [] same h = absurd same
in_turn_of_shape version (x ∷ p) (y ∷ q) same h = (
  record {
    within = subst (λ n. n ≤ (if n == version + 1 then n else version)) (sym same.0) h.0.within;
    cookies = subst (λ n. AllByRecursion (HasCookie n) x.schema_operations) (sym same.0)
        (subst (λ ops. AllByRecursion (HasCookie y.version) ops) (sym same.1) h.0.cookies);
  },
  subst (λ n. AreInTurn n p) (sym (ap (λ n. if n == version + 1 then n else version) same.0))
      (in_turn_of_shape (reached version y) p q same.2 h.1),
)

same_shape : (p : List CommitRecord) → SameShape p p
same_shape [] = tt
same_shape (x ∷ p) = (refl, refl, same_shape p)

shape-append : (p q rest : List CommitRecord) → SameShape p q → SameShape (p ++ rest) (q ++ rest)
shape-append [] [] rest same = same_shape rest
shape-append [] (y ∷ q) rest same = absurd same
shape-append (x ∷ p) [] rest same = absurd same
shape-append (x ∷ p) (y ∷ q) rest same = (same.0, same.1, shape-append p q rest same.2)

-- other ops in PREVIOUS.LOG, with which each table has the same contents
pub ops_left_out : (v : View) (previous : List CommitRecord) → AreInTurn v.schema.version (commits v) → SameShape previous v.previous
    → ((last : Schema) → schema_after (commits v) v.schema ≡ Some last → OfEach last (λ name d. (r : Tree)
    → after put d.kind (of_table name d.cookie previous ++ of_table name d.cookie v.latest) (v.files name d.kind d.cookie) r
    ≡ after put d.kind (of_table name d.cookie v.previous ++ of_table name d.cookie v.latest) (v.files name d.kind d.cookie) r))
    → under record { schema = v.schema; previous = previous; latest = v.latest; files = v.files } ≡ under v
ops_left_out v previous in_turn shape same =
    closed put v.files (previous ++ v.latest) v.schema (in_turn_of_shape v.schema.version (previous ++ v.latest) (commits v) all in_turn)
    ∙ ap (option_map (filled put v.files (previous ++ v.latest))) (schema_of_shape (previous ++ v.latest) (commits v) v.schema all)
    ∙ filled_same v.files v.files (previous ++ v.latest) (commits v) (schema_after (commits v) v.schema) (λ last at name t stands r.
    ap (λ ops. after put t.definition.kind ops (v.files name t.definition.kind t.definition.cookie) r)
    (of_table-append name t.definition.cookie previous v.latest)
    ∙ same last at name t stands r
    ∙ ap (λ ops. after put t.definition.kind ops (v.files name t.definition.kind t.definition.cookie) r)
    (sym (of_table-append name t.definition.cookie v.previous v.latest)))
    ∙ sym (closed put v.files (commits v) v.schema in_turn)
  where
    all : SameShape (previous ++ v.latest) (commits v)
    all = shape-append previous v.previous v.latest shape

-- so the ops that were carried can be left out of PREVIOUS.LOG
pub left_under : (v : View) (left previous : List CommitRecord) → AreInTurn v.schema.version (commits v) → SameShape previous v.previous
    → ((name : List ℕ) (cookie : ℕ) → of_table name cookie previous ≡ of_table name cookie left) → IsLeft left v
    → under record { schema = v.schema; previous = previous; latest = v.latest; files = v.files } ≡ under v
left_under v left previous in_turn shape ops h = ops_left_out v previous in_turn shape (λ last at name t stands r.
    ap (λ all. after put t.definition.kind (all ++ of_table name t.definition.cookie v.latest)
    (v.files name t.definition.kind t.definition.cookie) r) (ops name t.definition.cookie) ∙ h.same last at name t stands r)

-- ---- a commit is appended

nothing_behind : (a b : List Operation) → a ++ b ≡ [] → b ≡ []
nothing_behind [] b is = is
nothing_behind (x ∷ a) b is = cc is

pub left-append : (v : View) (left : List CommitRecord) (x : CommitRecord) → AreInTurn v.schema.version (commits v)
    → IsInTurn (reached_after v.schema.version (commits v)) x
    → IsLeft left v → IsLeft left (with_commit x v)
left-append v left x in_turn in_turn_x h = record {
  rest = h.rest;
  same = λ last at name t stands.
      let parts : (s : Schema) × (schema_after (commits v) v.schema ≡ Some s) × (schema_after (x ∷ []) s ≡ Some last)
      = after_some (x ∷ []) (schema_after (commits v) v.schema) last
      (sym (run-append put_unit no_rows (commits v) (x ∷ []) v.schema) ∙ ap (λ all. schema_after all v.schema) (sym (whole x v))
      ∙ at) in
      let version : parts.0.version ≡ reached_after v.schema.version (commits v) = version_after (commits v) v.schema parts.0 parts.1 in
      both name t (elim (origin (x ∷ []) parts.0 last name t (subst (λ n. IsInTurn n x) (sym version) in_turn_x, tt) parts.2 stands) [
        | inl y ↦ inl (subst (λ n. n < t.definition.cookie) version y.above)
        | inr s ↦ inr (λ r. subst (λ c. Same name t.definition.kind c (of_table name c v.latest) r) (sym s.cookie)
            (subst (λ k. Same name k s.old.definition.cookie (of_table name s.old.definition.cookie v.latest) r) (sym s.kind)
            (h.same parts.0 parts.1 name s.old s.stood r)))
      ]);
}
  where
    Same : List ℕ → Kind → ℕ → List Operation → Tree → Type 0
    Same name kind cookie latest r = after put kind (of_table name cookie left ++ latest) (v.files name kind cookie) r
        ≡ after put kind (of_table name cookie v.previous ++ latest) (v.files name kind cookie) r

    both : (name : List ℕ) (t : TableOf (Unit {0}))
        → (reached_after v.schema.version (commits v) < t.definition.cookie)
        ⊎ ((r : Tree) → Same name t.definition.kind t.definition.cookie (of_table name t.definition.cookie v.latest) r)
        → (r : Tree) → Same name t.definition.kind t.definition.cookie (of_table name t.definition.cookie (v.latest ++ x ∷ [])) r
    both name t (inl high) r =
        let none : of_table name t.definition.cookie v.previous ≡ [] = no_ops name t.definition.cookie high in
        ap (λ ops. after put t.definition.kind (ops ++ of_table name t.definition.cookie (v.latest ++ x ∷ []))
        (v.files name t.definition.kind t.definition.cookie) r)
        (nothing_behind (h.rest name t.definition.cookie).gone (of_table name t.definition.cookie left)
        ((h.rest name t.definition.cookie).is ∙ none) ∙ sym none)
      where
        left_up_to : (n : ℕ) (a b : List CommitRecord) → AllUpTo n (a ++ b) → AllUpTo n a
        left_up_to n [] b h = tt
        left_up_to n (y ∷ a) b h = (h.0, left_up_to n a b h.1)

        no_ops : (name : List ℕ) (cookie : ℕ) → reached_after v.schema.version (commits v) < cookie → of_table name cookie v.previous ≡ []
        no_ops name cookie high = of_table-young name cookie (reached_after v.schema.version (commits v)) v.previous
            (left_up_to (reached_after v.schema.version (commits v)) v.previous v.latest
            (in_turn_up_to v.schema.version (commits v) in_turn)) high
    both name t (inr same) r = more (of_table name t.definition.cookie left) (of_table name t.definition.cookie v.previous)
        (of_table name t.definition.cookie v.latest) (of_table name t.definition.cookie (v.latest ++ x ∷ []))
        (of_table name t.definition.cookie (x ∷ []))
        t.definition.kind (v.files name t.definition.kind t.definition.cookie) r
        (of_table-append name t.definition.cookie v.latest (x ∷ [])) (same r)
      where
        more : (a b latest longer last : List Operation) (kind : Kind) (f : Rows) (r : Tree) → longer ≡ latest ++ last
            → after put kind (a ++ latest) f r ≡ after put kind (b ++ latest) f r
            → after put kind (a ++ longer) f r ≡ after put kind (b ++ longer) f r
        more a b latest longer last kind f r is same =
            ap (λ ops. after put kind ops f r) (ap (λ all. a ++ all) is ∙ sym (append_assoc a latest last))
            ∙ after-append-at kind (a ++ latest) last f r
            ∙ ap (acts kind r last) same ∙ sym (after-append-at kind (b ++ latest) last f r)
            ∙ ap (λ ops. after put kind ops f r) (append_assoc b latest last ∙ ap (λ all. b ++ all) (sym is))

-- ---- the files of one table and cookie, when none is left to carry

pub left_files : (v : View) (name : List ℕ) (cookie : ℕ) (rows : Kind → Rows)
    → ((last : Schema) (t : TableOf (Unit {0})) → schema_after (commits v) v.schema ≡ Some last → last.tables name ≡ Some t
    → t.definition.cookie ≡ cookie
    → AreIdle t.definition.kind (of_table name cookie v.previous) (of_table name cookie v.latest) (rows t.definition.kind))
    → IsLeft [] v → IsLeft [] (with_files (set_rows name cookie rows v.files) v)
left_files v name cookie rows new h = record {
  rest = h.rest;
  same = λ last at other t stands r. go last at other t stands r (same_name name other && nat_eq cookie t.definition.cookie) refl;
}
  where
    go : (last : Schema) → schema_after (commits v) v.schema ≡ Some last → (other : List ℕ) (t : TableOf (Unit {0}))
        → last.tables other ≡ Some t → (r : Tree)
        → (b : Bool) → (same_name name other && nat_eq cookie t.definition.cookie) ≡ b
        → after put t.definition.kind (of_table other t.definition.cookie v.latest)
        (if b then rows t.definition.kind else v.files other t.definition.kind t.definition.cookie) r
        ≡ after put t.definition.kind (of_table other t.definition.cookie v.previous ++ of_table other t.definition.cookie v.latest)
        (if b then rows t.definition.kind else v.files other t.definition.kind t.definition.cookie) r
    go last at other t stands r true is =
        let parts : (same_name name other ≡ true)
        × (nat_eq cookie t.definition.cookie ≡ true) = and_parts (same_name name other) (nat_eq cookie t.definition.cookie) is in
        let this_name : name ≡ other = name_is name other parts.0 in
        let same_cookie : cookie ≡ t.definition.cookie = eqb-true cookie t.definition.cookie parts.1 in
        subst (λ n. after put t.definition.kind (of_table n t.definition.cookie v.latest) (rows t.definition.kind) r
        ≡ after put t.definition.kind (of_table n t.definition.cookie v.previous ++ of_table n t.definition.cookie v.latest)
        (rows t.definition.kind) r) this_name
        (subst (λ c. after put t.definition.kind (of_table name c v.latest) (rows t.definition.kind) r
        ≡ after put t.definition.kind (of_table name c v.previous ++ of_table name c v.latest) (rows t.definition.kind) r) same_cookie
        (new last t at (ap last.tables this_name ∙ stands) (sym same_cookie) r))
    go last at other t stands r false is = h.same last at other t stands r

-- ---- the schema file is written

pub left_schema : (v : View) (left p s : List CommitRecord) (schema : Schema) → AreInTurn v.schema.version (commits v) → commits v ≡ p ++ s
    → schema_after p v.schema ≡ Some schema
    → IsLeft left v → IsLeft left (with_schema schema v)
left_schema v left p s schema in_turn is made h = record { rest = h.rest; same = λ last at. h.same last (sym again ∙ at) }
  where
    again : schema_after (commits v) schema ≡ schema_after (commits v) v.schema
    again = subst (λ all. schema_after all schema ≡ schema_after all v.schema) (sym is)
        (schema_again p s v.schema schema (subst (λ all. AreInTurn v.schema.version all) is in_turn) made)
