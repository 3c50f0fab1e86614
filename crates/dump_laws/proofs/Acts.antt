-- How an image stays on the first database, and strict, while the acts of a dump are made.
use Rattle.std.proofs.Common.{◌≡◌, ◌⊎◌, inl, inr, ℕ, ◌<◌, ◌≤◌, Bool, true, false, ◌&&◌, if◌then◌else◌, nat_eq, List, [], ◌∷◌, ◌++◌, Option, None, Some, option_map, option_and_then, refl, sym, ap, ◌∙◌, subst, append_assoc}
use Rattle.std.proofs.lemmas.Bool.{eqb-true, and_parts}
use Rattle.db_model.specs.Commits.{CommitRecord}
use Rattle.db_model.specs.Database.{same_name}
use Rattle.db_model.specs.declared.definition.Kind.{Kind}
use Rattle.dump_laws.specs.Effects.{Rows, nothing, put, Between, IsCarried}
use Rattle.dump_laws.specs.Directory.{TableOf, DatabaseOf, Schema, reached_after, commit_taken, run, begin, put_unit, no_rows, schema_after, View, commits, under, of_table, filled}
use Rattle.dump_laws.specs.Order.{IsInTurn, AreInTurn, AllUpTo, NoneAbove, OfEach, AreBetween, First, IsOn, IsCutOf, with_commit, with_files, with_schema, without_previous, set_rows, first_after}
use Rattle.dump_laws.proofs.Names.{name_is}
use Rattle.dump_laws.proofs.Closed.{closed, of_table-append, up_to_later}
use Rattle.dump_laws.proofs.Runs.{run-append, in_turn_left, in_turn_up_to, schema_still, version_after}
use Rattle.dump_laws.proofs.Carrying.{appended, still}
use Rattle.dump_laws.proofs.Origins.{origin, commit_alike}
use Rattle.dump_laws.proofs.Views.{image}

-- ---- fronts of one list

pub record Longer (a b rest_a rest_b : List CommitRecord) : Type 0 where
  pub more : List CommitRecord
  pub front : a ≡ b ++ more
  pub rest : rest_b ≡ more ++ rest_a

pub two_fronts : (a b rest_a rest_b : List CommitRecord) → a ++ rest_a ≡ b ++ rest_b → Longer a b rest_a rest_b ⊎ Longer b a rest_b rest_a
two_fronts a [] rest_a rest_b is = inl record { more = a; front = refl; rest = sym is }
two_fronts [] (y ∷ b) rest_a rest_b is = inr record { more = y ∷ b; front = refl; rest = is }
two_fronts (x ∷ a) (y ∷ b) rest_a rest_b is = elim (two_fronts a b rest_a rest_b (tails x y (a ++ rest_a) (b ++ rest_b) is)) [
  | inl l ↦ inl record {
    more = l.more;
    front = ap (λ h. h ∷ a) (heads x y (a ++ rest_a) (b ++ rest_b) is)
        ∙ ap (λ t. y ∷ t) l.front;
    rest = l.rest;
  }
  | inr l ↦ inr record {
    more = l.more;
    front = ap (λ h. h ∷ b) (sym (heads x y (a ++ rest_a) (b ++ rest_b) is))
        ∙ ap (λ t. x ∷ t) l.front;
    rest = l.rest;
  }
]
  where
    heads : (x y : CommitRecord) (s t : List CommitRecord) → x ∷ s ≡ y ∷ t → x ≡ y
    heads x y s t h = cc h

    tails : (x y : CommitRecord) (s t : List CommitRecord) → x ∷ s ≡ y ∷ t → s ≡ t
    tails x y s t h = cc h

-- ---- the meaning of an image

pub image_cut : (first : First) (now v : View) → IsOn first v → AreInTurn first.schema.version (commits now) → IsCutOf now v
    → under v ≡ run put first.rows (commits v) (begin first.rows first.schema)
image_cut first now v on in_turn cut =
    image first v on (in_turn_left first.schema.version (commits v) cut.lost
    (subst (λ all. AreInTurn first.schema.version all) (sym cut.logs) in_turn))

-- ---- a commit is appended

pub whole : (x : CommitRecord) (v : View) → commits (with_commit x v) ≡ commits v ++ x ∷ []
whole x v = sym (append_assoc v.previous v.latest (x ∷ []))

-- what is made of a value that is there
pub after_some : (q : List CommitRecord) (mid : Option Schema) (last : Schema) → option_and_then (λ now. schema_after q now) mid ≡ Some last
    → (s : Schema) × (mid ≡ Some s) × (schema_after q s ≡ Some last)
after_some q None last is = cc is
after_some q (Some s) last is = (s, refl, is)

pub on-append : (first : First) (v : View) (x : CommitRecord) → AreInTurn first.schema.version (commits v)
    → IsInTurn (reached_after first.schema.version (commits v)) x
    → NoneAbove (reached_after first.schema.version (commits v)) v.files
    → NoneAbove (reached_after first.schema.version (commits v)) first.rows
    → IsOn first v → IsOn first (with_commit x v)
on-append first v x in_turn in_turn_x young_f young_g on = record {
  front = on.front;
  rest = on.rest ++ x ∷ [];
  is = whole x v ∙ ap (λ all. all ++ x ∷ []) on.is ∙ append_assoc on.front on.rest (x ∷ []);
  schema = on.schema;
  between = λ last at name t stands.
      let parts : (s : Schema) × (schema_after (commits v) first.schema ≡ Some s) × (schema_after (x ∷ []) s ≡ Some last)
      = after_some (x ∷ []) (schema_after (commits v) first.schema) last
      (sym (run-append put_unit no_rows (commits v) (x ∷ []) first.schema) ∙ ap (λ all. schema_after all first.schema) (sym (whole x v))
      ∙ at) in
      let version : parts.0.version ≡ reached_after first.schema.version (commits v) =
      version_after (commits v) first.schema parts.0 parts.1 in
      subst (λ ops. Between t.definition.kind (first.rows name t.definition.kind t.definition.cookie) ops
      (v.files name t.definition.kind t.definition.cookie))
      (sym (ap (of_table name t.definition.cookie) (whole x v) ∙ of_table-append name t.definition.cookie (commits v) (x ∷ [])))
      (appended t.definition.kind (first.rows name t.definition.kind t.definition.cookie)
      (v.files name t.definition.kind t.definition.cookie) (of_table name t.definition.cookie (commits v))
      (of_table name t.definition.cookie (x ∷ []))
      (elim (origin (x ∷ []) parts.0 last name t (subst (λ n. IsInTurn n x) (sym version) in_turn_x, tt) parts.2 stands) [
        | inl y ↦
            let high : reached_after first.schema.version (commits v) < t.definition.cookie =
            subst (λ n. n < t.definition.cookie) version y.above in
            subst (λ rows. Between t.definition.kind (first.rows name t.definition.kind t.definition.cookie)
            (of_table name t.definition.cookie (commits v)) rows)
            (young_g name t.definition.kind t.definition.cookie high ∙ sym (young_f name t.definition.kind t.definition.cookie high))
            (still t.definition.kind (first.rows name t.definition.kind t.definition.cookie)
            (of_table name t.definition.cookie (commits v)))
        | inr s ↦
            subst (λ c. Between t.definition.kind (first.rows name t.definition.kind c) (of_table name c (commits v))
            (v.files name t.definition.kind c)) (sym s.cookie)
            (subst (λ k. Between k (first.rows name k s.old.definition.cookie) (of_table name s.old.definition.cookie (commits v))
            (v.files name k s.old.definition.cookie)) (sym s.kind)
            (on.between parts.0 parts.1 name s.old s.stood))
      ]));
}

-- the meaning goes on as the live database does, where what is made is empty
pub under-append : (v : View) (x : CommitRecord) (db : DatabaseOf Rows) → under v ≡ Some db → AreInTurn v.schema.version (commits v)
    → IsInTurn (reached_after v.schema.version (commits v)) x
    → NoneAbove (reached_after v.schema.version (commits v)) v.files
    → under (with_commit x v) ≡ commit_taken put (λ name kind cookie. nothing) x db
under-append v x db is in_turn in_turn_x young =
    ap (λ all. run put v.files all (begin v.files v.schema)) (whole x v)
    ∙ run-append put v.files (commits v) (x ∷ []) (begin v.files v.schema)
    ∙ ap (option_and_then (λ now. run put v.files (x ∷ []) now)) is
    ∙ only (commit_taken put v.files x db)
    ∙ commit_alike put v.files (λ name kind cookie. nothing) x db (subst (λ n. IsInTurn n x) (sym version) in_turn_x)
    (λ name kind cookie lt. young name kind cookie (subst (λ n. n < cookie) version lt))
  where
    only : (t : Option (DatabaseOf Rows)) → option_and_then (λ now. Some now) t ≡ t
    only None = refl
    only (Some now) = refl

    of_filled : (t : Option Schema) → option_map (filled put v.files (commits v)) t ≡ Some db
        → (s : Schema) × (t ≡ Some s) × (db.version ≡ s.version)
    of_filled None h = cc h
    of_filled (Some s) h = let same : db ≡ filled put v.files (commits v) s = cc h in (s, refl, ap (λ d. d.version) same)

    version : db.version ≡ reached_after v.schema.version (commits v)
    version =
        let s : (s : Schema) × (schema_after (commits v) v.schema ≡ Some s)
        × (db.version ≡ s.version) = of_filled (schema_after (commits v) v.schema)
        (sym (closed put v.files (commits v) v.schema in_turn) ∙ is) in
        s.2 ∙ version_after (commits v) v.schema s.0 s.1

-- ---- a table file changes

pub on_files : (first : First) (v : View) (name : List ℕ) (cookie : ℕ) (rows : Kind → Rows)
    → ((last : Schema) (t : TableOf (Unit {0})) → schema_after (commits v) first.schema ≡ Some last → last.tables name ≡ Some t
    → t.definition.cookie ≡ cookie
    → Between t.definition.kind (first.rows name t.definition.kind cookie) (of_table name cookie (commits v)) (rows t.definition.kind))
    → IsOn first v → IsOn first (with_files (set_rows name cookie rows v.files) v)
on_files first v name cookie rows new on = record {
  front = on.front;
  rest = on.rest;
  is = on.is;
  schema = on.schema;
  between = λ last at other t stands. go last at other t stands (same_name name other && nat_eq cookie t.definition.cookie) refl;
}
  where
    go : (last : Schema) → schema_after (commits v) first.schema ≡ Some last → (other : List ℕ) (t : TableOf (Unit {0}))
        → last.tables other ≡ Some t → (b : Bool) → (same_name name other && nat_eq cookie t.definition.cookie) ≡ b
        → Between t.definition.kind (first.rows other t.definition.kind t.definition.cookie)
        (of_table other t.definition.cookie (commits v))
        (if b then rows t.definition.kind else v.files other t.definition.kind t.definition.cookie)
    go last at other t stands true is =
        let parts : (same_name name other ≡ true)
        × (nat_eq cookie t.definition.cookie ≡ true) = and_parts (same_name name other) (nat_eq cookie t.definition.cookie) is in
        let this_name : name ≡ other = name_is name other parts.0 in
        let same_cookie : cookie ≡ t.definition.cookie = eqb-true cookie t.definition.cookie parts.1 in
        subst (λ n. Between t.definition.kind (first.rows n t.definition.kind t.definition.cookie)
        (of_table n t.definition.cookie (commits v)) (rows t.definition.kind)) this_name
        (subst (λ c. Between t.definition.kind (first.rows name t.definition.kind c) (of_table name c (commits v))
        (rows t.definition.kind)) same_cookie
        (new last t at (ap last.tables this_name ∙ stands) (sym same_cookie)))
    go last at other t stands false is = on.between last at other t stands

-- ---- the schema file is written

pub on_schema : (first : First) (v : View) (p s : List CommitRecord) (schema : Schema) → commits v ≡ p ++ s
    → schema_after p first.schema ≡ Some schema
    → IsOn first v → IsOn first (with_schema schema v)
on_schema first v p s schema is made on = record { front = p; rest = s; is = is; schema = made; between = on.between }

-- ---- PREVIOUS.LOG is dropped

pub on_dropped : (first : First) (v : View) (schema : Schema) → AreInTurn first.schema.version (commits v)
    → schema_after v.previous first.schema ≡ Some schema → schema.version ≤ v.schema.version
    → ((last : Schema) → schema_after (commits v) first.schema ≡ Some last
    → OfEach last (λ name d. IsCarried d.kind (first.rows name d.kind d.cookie) (of_table name d.cookie v.previous)
    (of_table name d.cookie v.latest) (v.files name d.kind d.cookie)))
    → IsOn first v → IsOn (first_after v.previous schema first) (without_previous v)
on_dropped first v schema in_turn made enough carried on = elim (two_fronts on.front v.previous on.rest v.latest (sym on.is)) [
  | inl l ↦ record {
    front = l.more;
    rest = on.rest;
    is = l.rest;
    schema = sym (ap (option_and_then (λ now. schema_after l.more now)) made)
        ∙ sym (run-append put_unit no_rows v.previous l.more first.schema) ∙ ap (λ all. schema_after all first.schema) (sym l.front)
        ∙ on.schema;
    between = between;
  }
  | inr l ↦ record {
    front = [];
    rest = v.latest;
    is = refl;
    schema = sym made ∙ ap (λ all. schema_after all first.schema) l.front ∙ run-append put_unit no_rows on.front l.more first.schema
        ∙ ap (option_and_then (λ now. schema_after l.more now)) on.schema
        ∙ schema_still l.more v.schema (later_up_to l.more on.front l.front);
    between = between;
  }
]
  where
    version : schema.version ≡ reached_after first.schema.version v.previous
    version = version_after v.previous first.schema schema made

    old : AllUpTo schema.version v.previous
    old = subst (λ n. AllUpTo n v.previous) (sym version)
        (in_turn_up_to first.schema.version v.previous (in_turn_left first.schema.version v.previous v.latest in_turn))

    right_up_to : (n : ℕ) (a b : List CommitRecord) → AllUpTo n (a ++ b) → AllUpTo n b
    right_up_to n [] b h = h
    right_up_to n (x ∷ a) b h = right_up_to n a b h.1

    later_up_to : (more front : List CommitRecord) → v.previous ≡ front ++ more → AllUpTo v.schema.version more
    later_up_to more front is = right_up_to v.schema.version front more
        (subst (λ all. AllUpTo v.schema.version all) is (up_to_later schema.version v.schema.version v.previous enough old))

    between : (last : Schema) → schema_after v.latest schema ≡ Some last
        → AreBetween last (first_after v.previous schema first).rows v.latest v.files
    between last at name t stands =
        let whole_at : schema_after (commits v) first.schema ≡ Some last = run-append put_unit no_rows v.previous v.latest first.schema
        ∙ ap (option_and_then (λ now. schema_after v.latest now)) made ∙ at in
        carried last whole_at name t stands

-- ---- the logs cut elsewhere

pub rotated : (v : View) (previous latest : List CommitRecord) → previous ++ latest ≡ commits v
    → under record { schema = v.schema; previous = previous; latest = latest; files = v.files } ≡ under v
rotated v previous latest is = ap (λ q. run put v.files q (begin v.files v.schema)) is

pub on_rotated : (first : First) (v : View) (previous latest : List CommitRecord) → previous ++ latest ≡ commits v → IsOn first v
    → IsOn first record { schema = v.schema; previous = previous; latest = latest; files = v.files }
on_rotated first v previous latest is on = record {
  front = on.front;
  rest = on.rest;
  is = is ∙ on.is;
  schema = on.schema;
  between = λ last at. subst (λ q. AreBetween last first.rows q v.files) (sym is)
      (on.between last (ap (λ q. schema_after q first.schema) (sym is) ∙ at));
}
