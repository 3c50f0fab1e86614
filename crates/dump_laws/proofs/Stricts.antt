-- How an image stays strict.
use Rattle.std.proofs.Common.{◌≡◌, inl, inr, ℕ, ◌<◌, ◌≤◌, arith, Bool, true, false, ◌&&◌, if◌then◌else◌, nat_eq, List, [], ◌∷◌, ◌++◌, Some, IsSome, is_some, refl, sym, ap, ◌∙◌, subst}
use Rattle.std.proofs.lemmas.Bool.{eqb-true, and_parts}
use Rattle.db_model.specs.Commits.{CommitRecord}
use Rattle.db_model.specs.Database.{same_name}
use Rattle.db_model.specs.declared.definition.Kind.{Kind}
use Rattle.dump_laws.specs.Effects.{Rows, nothing, put, after, AreIdle}
use Rattle.dump_laws.specs.Directory.{Files, TableOf, Schema, reached_after, schema_after, View, commits, under, of_table}
use Rattle.dump_laws.specs.Order.{IsInTurn, AreInTurn, AllUpTo, NoneAbove, IsStrict, OfEach, AreBetween, First, with_commit, with_files, with_schema, without_previous, set_rows, first_after}
use Rattle.dump_laws.proofs.Closed.{of_table-young, reached_later}
use Rattle.dump_laws.proofs.Runs.{reached_after_still, reached_after-append, reached_after_later, in_turn_left, in_turn_right, in_turn-append, in_turn_up_to, in_turn_again, version_after}
use Rattle.dump_laws.proofs.Origins.{origin}
use Rattle.dump_laws.proofs.Views.{files_moved, schema_moved, previous_dropped}
use Rattle.dump_laws.proofs.Acts.{whole}

pub strict_files : (v : View) (f : Files Rows)
    → ((last : Schema) → schema_after (commits v) v.schema ≡ Some last → AreBetween last v.files (commits v) f)
    → NoneAbove (reached_after v.schema.version (commits v)) f → IsStrict v → IsStrict (with_files f v)
strict_files v f between young h = record {
  defined = ap is_some (files_moved v f h.in_turn between) ∙ h.defined;
  in_turn = h.in_turn;
  old_tables = h.old_tables;
  old_files = young;
}

-- a file that is set at a cookie that is reached
pub young_set : (version : ℕ) (name : List ℕ) (cookie : ℕ) (rows : Kind → Rows) (f : Files Rows) → cookie ≤ version → NoneAbove version f
    → NoneAbove version (set_rows name cookie rows f)
young_set version name cookie rows f le h other kind other_cookie lt = go (same_name name other && nat_eq cookie other_cookie) refl
  where
    go : (b : Bool) → (same_name name other && nat_eq cookie other_cookie) ≡ b
        → (if b then rows kind else f other kind other_cookie) ≡ nothing
    go true is =
        let same : cookie ≡ other_cookie =
        eqb-true cookie other_cookie (and_parts (same_name name other) (nat_eq cookie other_cookie) is).1 in
        absurd (omega (arith, same, le, lt))
    go false is = h other kind other_cookie lt

reached_again : (version : ℕ) (p s : List CommitRecord) → AreInTurn version (p ++ s)
    → reached_after (reached_after version p) (p ++ s) ≡ reached_after version (p ++ s)
reached_again version p s in_turn =
    reached_after-append (reached_after version p) p s
    ∙ ap (λ n. reached_after n s) (reached_after_still (reached_after version p) p
    (in_turn_up_to version p (in_turn_left version p s in_turn)))
    ∙ sym (reached_after-append version p s)

pub strict_schema : (v : View) (p s : List CommitRecord) (schema : Schema) → commits v ≡ p ++ s → schema_after p v.schema ≡ Some schema
    → IsStrict v → IsStrict (with_schema schema v)
strict_schema v p s schema is made h = record {
  defined = ap is_some (schema_moved v p s schema h.in_turn is made) ∙ h.defined;
  in_turn = subst (λ n. AreInTurn n (commits v)) (sym version)
      (subst (λ all. AreInTurn (reached_after v.schema.version p) all) (sym is) (in_turn_again v.schema.version p s in_turn));
  old_tables = λ name t stands. subst (λ n. t.definition.cookie ≤ n) (sym same)
      (elim (origin p v.schema schema name t (in_turn_left v.schema.version p s in_turn) made stands) [
        | inl y ↦ omega (
          arith,
          y.upto,
          version,
          ap
              (reached_after v.schema.version) is,
          reached_after-append v.schema.version p s,
          reached_after_later
              (reached_after v.schema.version p) s,
        )
        | inr u ↦ subst (λ c. c ≤ reached_after v.schema.version (commits v)) (sym u.cookie) (h.old_tables name u.old u.stood)
      ]);
  old_files = subst (λ n. NoneAbove n v.files) (sym same) h.old_files;
}
  where
    in_turn : AreInTurn v.schema.version (p ++ s)
    in_turn = subst (λ all. AreInTurn v.schema.version all) is h.in_turn

    version : schema.version ≡ reached_after v.schema.version p
    version = version_after p v.schema schema made

    same : reached_after schema.version (commits v) ≡ reached_after v.schema.version (commits v)
    same = ap (λ n. reached_after n (commits v)) version ∙ ap (reached_after (reached_after v.schema.version p)) is
        ∙ reached_again v.schema.version p s in_turn ∙ ap (reached_after v.schema.version) (sym is)

pub strict_dropped : (v : View) → AllUpTo v.schema.version v.previous
    → ((last : Schema) → schema_after (commits v) v.schema ≡ Some last
    → OfEach last (λ name d. AreIdle d.kind (of_table name d.cookie v.previous) (of_table name d.cookie v.latest)
    (v.files name d.kind d.cookie)))
    → IsStrict v → IsStrict (without_previous v)
strict_dropped v old idle h = record {
  defined = ap is_some (previous_dropped v h.in_turn old idle) ∙ h.defined;
  in_turn = subst (λ n. AreInTurn n v.latest) still (in_turn_right v.schema.version v.previous v.latest h.in_turn);
  old_tables = λ name t stands. subst (λ n. t.definition.cookie ≤ n) same (h.old_tables name t stands);
  old_files = subst (λ n. NoneAbove n v.files) same h.old_files;
}
  where
    still : reached_after v.schema.version v.previous ≡ v.schema.version
    still = reached_after_still v.schema.version v.previous old

    same : reached_after v.schema.version (commits v) ≡ reached_after v.schema.version v.latest
    same = reached_after-append v.schema.version v.previous v.latest ∙ ap (λ n. reached_after n v.latest) still

pub strict-append : (v : View) (x : CommitRecord) → IsInTurn (reached_after v.schema.version (commits v)) x
    → IsSome (under (with_commit x v)) → IsStrict v → IsStrict (with_commit x v)
strict-append v x in_turn_x defined h = record {
  defined = defined;
  in_turn = subst (λ all. AreInTurn v.schema.version all) (sym (whole x v))
      (in_turn-append v.schema.version (commits v) (x ∷ []) h.in_turn (in_turn_x, tt));
  old_tables = λ name t stands. let le : t.definition.cookie ≤ reached_after v.schema.version (commits v) =
      h.old_tables name t stands in omega (arith, le, later);
  old_files = λ name kind cookie lt. h.old_files name kind cookie (omega (arith, lt, later));
}
  where
    later : reached_after v.schema.version (commits v) ≤ reached_after v.schema.version (commits (with_commit x v))
    later = subst (λ all. reached_after v.schema.version (commits v) ≤ reached_after v.schema.version all) (sym (whole x v))
        (subst (λ n. reached_after v.schema.version (commits v) ≤ n) (sym (reached_after-append v.schema.version (commits v) (x ∷ [])))
        (reached_later (reached_after v.schema.version (commits v)) x))

-- every table that stands has a cookie that is reached
pub cookies_reached : (v : View) (last : Schema) (name : List ℕ) (t : TableOf (Unit {0})) → IsStrict v
    → schema_after (commits v) v.schema ≡ Some last → last.tables name ≡ Some t
    → t.definition.cookie ≤ reached_after v.schema.version (commits v)
cookies_reached v last name t h at stands = elim (origin (commits v) v.schema last name t h.in_turn at stands) [
  | inl y ↦ subst (λ n. t.definition.cookie ≤ n) (version_after (commits v) v.schema last at) y.upto
  | inr u ↦ subst (λ c. c ≤ reached_after v.schema.version (commits v)) (sym u.cookie) (h.old_tables name u.old u.stood)
]

-- the contents of the new first database are nothing where the old ones were, above the version reached
pub first_young : (first : First) (previous latest : List CommitRecord) (schema : Schema)
    → AreInTurn first.schema.version (previous ++ latest) → schema_after previous first.schema ≡ Some schema
    → NoneAbove (reached_after first.schema.version (previous ++ latest)) first.rows
    → NoneAbove (reached_after schema.version latest) (first_after previous schema first).rows
first_young first previous latest schema in_turn made young name kind cookie lt =
    ap (λ ops. after put kind ops (first.rows name kind cookie))
    (of_table-young name cookie (reached_after first.schema.version previous) previous
    (in_turn_up_to first.schema.version previous (in_turn_left first.schema.version previous latest in_turn)) above)
    ∙ young name kind cookie (subst (λ n. n < cookie) same lt)
  where
    version : schema.version ≡ reached_after first.schema.version previous
    version = version_after previous first.schema schema made

    same : reached_after schema.version latest ≡ reached_after first.schema.version (previous ++ latest)
    same = ap (λ n. reached_after n latest) version ∙ sym (reached_after-append first.schema.version previous latest)

    above : reached_after first.schema.version previous < cookie
    above = omega (arith, lt, reached_after_later schema.version latest, version)
