-- A dump carries the ops of PREVIOUS.LOG one by one.
use Rattle.std.proofs.Common.{◌≡◌, ℕ, ◌<◌, ◌≤◌, arith, Bool, true, false, ◌&&◌, if◌then◌else◌, nat_eq, nat_le, List, [], ◌∷◌, ◌++◌, Some, refl, sym, ap, ◌∙◌, subst, append_assoc, true≢false}
use Rattle.std.proofs.lemmas.Bool.{eqb-true, eq-eqb, le-leb, lt-leb, and_parts, and_from}
use Rattle.term_core.specs.Tree.{Tree}
use Rattle.db_model.specs.Commits.{CommitRecord}
use Rattle.db_model.specs.Database.{same_name}
use Rattle.db_model.specs.Ops.{Operation, table_of}
use Rattle.db_model.specs.declared.definition.Kind.{Kind}
use Rattle.dump_laws.specs.Effects.{Rows, put, after, AreIdle}
use Rattle.dump_laws.specs.Directory.{TableOf, Schema, schema_after, View, commits, naming, of_table}
use Rattle.dump_laws.specs.Order.{OfEach, with_files, set_rows}
use Rattle.dump_laws.specs.Left.{IsRest, IsLeft, with_ops_left}
use Rattle.dump_laws.proofs.Names.{name_is, is_name}
use Rattle.dump_laws.proofs.Effects.{again}
use Rattle.dump_laws.proofs.Carrying.{carried, still}

-- the op is done on this table of this cookie, by the rule
abbrev pub is_its : Operation → ℕ → List ℕ → ℕ → Bool
is_its op version name cookie = same_name (table_of op) name && nat_le cookie version

first_op : (op : Operation) (ops : List Operation) (x : CommitRecord) (behind : List CommitRecord) (name : List ℕ) (cookie : ℕ)
    → of_table name cookie (with_ops_left (op ∷ ops) x ∷ behind)
    ≡ (if is_its op x.version name cookie then op ∷ of_table name cookie (with_ops_left ops x ∷ behind) else of_table name cookie
    (with_ops_left ops x ∷ behind))
first_op op ops x behind name cookie = go (same_name (table_of op) name) (nat_le cookie x.version)
  where
    go : (n c : Bool) → (if c then (if n then op ∷ naming name ops else naming name ops) else []) ++ of_table name cookie behind
        ≡ (if n && c then op ∷ ((if c then naming name ops else []) ++ of_table name cookie behind) else
        (if c then naming name ops else []) ++ of_table name cookie behind)
    go true true = refl
    go true false = refl
    go false true = refl
    go false false = refl

pub left_begun : (v : View) → IsLeft v.previous v
left_begun v = record { rest = λ name cookie. record { gone = []; is = refl }; same = λ last at name t stands r. refl }

-- a commit with no op left
pub left_next : (v : View) (x : CommitRecord) (behind : List CommitRecord) → IsLeft (with_ops_left [] x ∷ behind) v → IsLeft behind v
left_next v x behind h = record {
  rest = λ name cookie. record {
    gone = (h.rest name cookie).gone;
    is =
        ap (λ ops. (h.rest name cookie).gone ++ ops) (sym (none name cookie)) ∙ (h.rest name cookie).is;
  };
  same = λ last at name t stands r.
      ap (λ ops. after put t.definition.kind (ops ++ of_table name t.definition.cookie v.latest)
      (v.files name t.definition.kind t.definition.cookie) r) (sym (none name t.definition.cookie)) ∙ h.same last at name t stands r;
}
  where
    none : (name : List ℕ) (cookie : ℕ) → of_table name cookie (with_ops_left [] x ∷ behind) ≡ of_table name cookie behind
    none name cookie = go (nat_le cookie x.version)
      where
        go : (b : Bool) → (if b then [] else []) ++ of_table name cookie behind ≡ of_table name cookie behind
        go true = refl
        go false = refl

rest_next : (v : View) (op : Operation) (ops : List Operation) (x : CommitRecord) (behind : List CommitRecord) (name : List ℕ) (cookie : ℕ)
    → IsRest (with_ops_left (op ∷ ops) x ∷ behind) v.previous name cookie → IsRest (with_ops_left ops x ∷ behind) v.previous name cookie
rest_next v op ops x behind name cookie h = go (is_its op x.version name cookie) (first_op op ops x behind name cookie)
  where
    go : (b : Bool) → of_table name cookie (with_ops_left (op ∷ ops) x ∷ behind)
        ≡ (if b then op ∷ of_table name cookie (with_ops_left ops x ∷ behind) else of_table name cookie (with_ops_left ops x ∷ behind))
        → IsRest (with_ops_left ops x ∷ behind) v.previous name cookie
    go true is = record {
      gone = h.gone ++ op ∷ [];
      is = append_assoc h.gone (op ∷ []) (of_table name cookie (with_ops_left ops x ∷ behind))
          ∙ ap (λ all. h.gone ++ all) (sym is) ∙ h.is;
    }
    go false is = record { gone = h.gone; is = ap (λ all. h.gone ++ all) (sym is) ∙ h.is }

-- an op that is done on no table that stands
pub left_passed : (v : View) (op : Operation) (ops : List Operation) (x : CommitRecord) (behind : List CommitRecord)
    → ((last : Schema) (t : TableOf (Unit {0})) → schema_after (commits v) v.schema ≡ Some last → last.tables (table_of op) ≡ Some t
    → x.version < t.definition.cookie)
    → IsLeft (with_ops_left (op ∷ ops) x ∷ behind) v → IsLeft (with_ops_left ops x ∷ behind) v
left_passed v op ops x behind none h = record {
  rest = λ name cookie. rest_next v op ops x behind name cookie (h.rest name cookie);
  same = λ last at name t stands r.
      ap (λ all. after put t.definition.kind (all ++ of_table name t.definition.cookie v.latest)
      (v.files name t.definition.kind t.definition.cookie) r)
      (sym (first_op op ops x behind name t.definition.cookie
      ∙ ap (λ b. if b then op ∷ of_table name t.definition.cookie (with_ops_left ops x ∷ behind) else of_table name t.definition.cookie
      (with_ops_left ops x ∷ behind)) (not_its last at name t stands (same_name (table_of op) name) refl)))
      ∙ h.same last at name t stands r;
}
  where
    not_its : (last : Schema) → schema_after (commits v) v.schema ≡ Some last → (name : List ℕ) (t : TableOf (Unit {0}))
        → last.tables name ≡ Some t
        → (b : Bool) → same_name (table_of op) name ≡ b → (b && nat_le t.definition.cookie x.version) ≡ false
    not_its last at name t stands true is =
        lt-leb t.definition.cookie x.version (none last t at (ap last.tables (name_is (table_of op) name is) ∙ stands))
    not_its last at name t stands false is = refl

-- an op that is done on a table that stands: it is done on the files of that table
pub left_carried : (v : View) (op : Operation) (ops : List Operation) (x : CommitRecord) (behind : List CommitRecord) (cookie : ℕ)
    → cookie ≤ x.version
    → ((last : Schema) (t : TableOf (Unit {0})) → schema_after (commits v) v.schema ≡ Some last → last.tables (table_of op) ≡ Some t
    → t.definition.cookie ≡ cookie)
    → IsLeft (with_ops_left (op ∷ ops) x ∷ behind) v
    → IsLeft (with_ops_left ops x ∷ behind)
    (with_files (set_rows (table_of op) cookie (λ kind. put kind op (v.files (table_of op) kind cookie)) v.files) v)
left_carried v op ops x behind cookie le its h = record {
  rest = λ name other. rest_next v op ops x behind name other (h.rest name other);
  same = λ last at name t stands r. go last at name t stands r (same_name (table_of op) name && nat_eq cookie t.definition.cookie) refl;
}
  where
    on_it : (name : List ℕ) (c : ℕ) → table_of op ≡ name → cookie ≡ c → is_its op x.version name c ≡ true
    on_it name c this_name same_cookie =
        and_from (same_name (table_of op) name) (nat_le c x.version) (is_name (table_of op) name this_name)
        (le-leb c x.version (omega (arith, le, same_cookie)))

    step : (name : List ℕ) (c : ℕ) (kind : Kind) (f : Rows) (r : Tree) → is_its op x.version name c ≡ true
        → after put kind (of_table name c (with_ops_left (op ∷ ops) x ∷ behind) ++ of_table name c v.latest) f r
        ≡ after put kind (of_table name c v.previous ++ of_table name c v.latest) f r
        → after put kind (of_table name c (with_ops_left ops x ∷ behind) ++ of_table name c v.latest) (put kind op f) r
        ≡ after put kind (of_table name c v.previous ++ of_table name c v.latest) (put kind op f) r
    step name c kind f r mine same =
        ap (λ all. after put kind (all ++ of_table name c v.latest) f r) (sym first) ∙ same
        ∙ sym (again kind f (put kind op f) (of_table name c v.previous ++ of_table name c v.latest)
        (carried kind f f (of_table name c v.previous ++ of_table name c v.latest) op
        record {
          before = (h.rest name c).gone;
          behind = of_table name c (with_ops_left ops x ∷ behind) ++ of_table name c v.latest;
          is = sym (append_assoc (h.rest name c).gone (op ∷ of_table name c (with_ops_left ops x ∷ behind)) (of_table name c v.latest))
              ∙ ap (λ all. ((h.rest name c).gone ++ all) ++ of_table name c v.latest) (sym first)
              ∙ ap (λ all. all ++ of_table name c v.latest) (h.rest name c).is;
        }
        (still kind f (of_table name c v.previous ++ of_table name c v.latest))) r)
      where
        first : of_table name c (with_ops_left (op ∷ ops) x ∷ behind) ≡ op ∷ of_table name c (with_ops_left ops x ∷ behind)
        first = first_op op ops x behind name c
            ∙ ap (λ b. if b then op ∷ of_table name c (with_ops_left ops x ∷ behind) else of_table name c
            (with_ops_left ops x ∷ behind)) mine

    go : (last : Schema) → schema_after (commits v) v.schema ≡ Some last → (name : List ℕ) (t : TableOf (Unit {0}))
        → last.tables name ≡ Some t → (r : Tree)
        → (b : Bool) → (same_name (table_of op) name && nat_eq cookie t.definition.cookie) ≡ b
        → after put t.definition.kind (of_table name t.definition.cookie
        (with_ops_left ops x ∷ behind) ++ of_table name t.definition.cookie v.latest)
        (if b then put t.definition.kind op
        (v.files (table_of op) t.definition.kind cookie) else v.files name t.definition.kind t.definition.cookie) r
        ≡ after put t.definition.kind (of_table name t.definition.cookie v.previous ++ of_table name t.definition.cookie v.latest)
        (if b then put t.definition.kind op
        (v.files (table_of op) t.definition.kind cookie) else v.files name t.definition.kind t.definition.cookie) r
    go last at name t stands r true is =
        let parts : (same_name (table_of op) name ≡ true)
        × (nat_eq cookie t.definition.cookie ≡ true) = and_parts (same_name (table_of op) name) (nat_eq cookie t.definition.cookie) is in
        let this_name : table_of op ≡ name = name_is (table_of op) name parts.0 in
        let same_cookie : cookie ≡ t.definition.cookie = eqb-true cookie t.definition.cookie parts.1 in
        subst (λ n. after put t.definition.kind
        (of_table name t.definition.cookie (with_ops_left ops x ∷ behind) ++ of_table name t.definition.cookie v.latest)
        (put t.definition.kind op (v.files n t.definition.kind cookie)) r
        ≡ after put t.definition.kind (of_table name t.definition.cookie v.previous ++ of_table name t.definition.cookie v.latest)
        (put t.definition.kind op (v.files n t.definition.kind cookie)) r) (sym this_name)
        (subst (λ c. after put t.definition.kind
        (of_table name t.definition.cookie (with_ops_left ops x ∷ behind) ++ of_table name t.definition.cookie v.latest)
        (put t.definition.kind op (v.files name t.definition.kind c)) r
        ≡ after put t.definition.kind (of_table name t.definition.cookie v.previous ++ of_table name t.definition.cookie v.latest)
        (put t.definition.kind op (v.files name t.definition.kind c)) r) (sym same_cookie)
        (step name t.definition.cookie t.definition.kind (v.files name t.definition.kind t.definition.cookie) r
        (on_it name t.definition.cookie this_name same_cookie) (h.same last at name t stands r)))
    go last at name t stands r false is =
        ap (λ all. after put t.definition.kind (all ++ of_table name t.definition.cookie v.latest)
        (v.files name t.definition.kind t.definition.cookie) r)
        (sym (first_op op ops x behind name t.definition.cookie
        ∙ ap (λ b. if b then op ∷ of_table name t.definition.cookie (with_ops_left ops x ∷ behind) else of_table name t.definition.cookie
        (with_ops_left ops x ∷ behind)) (not_its (same_name (table_of op) name) refl)))
        ∙ h.same last at name t stands r
      where
        not_its : (b : Bool) → same_name (table_of op) name ≡ b → (b && nat_le t.definition.cookie x.version) ≡ false
        not_its true same = absurd (true≢false
            (sym (and_from (same_name (table_of op) name) (nat_eq cookie t.definition.cookie) same
            (eq-eqb cookie t.definition.cookie (sym (its last t at (ap last.tables (name_is (table_of op) name same) ∙ stands))))) ∙ is))
        not_its false same = refl

-- with none left, PREVIOUS.LOG can be left out
pub left_none : (v : View) → IsLeft [] v → (last : Schema) → schema_after (commits v) v.schema ≡ Some last
    → OfEach last (λ name d. AreIdle d.kind (of_table name d.cookie v.previous) (of_table name d.cookie v.latest)
    (v.files name d.kind d.cookie))
left_none v h last at name t stands r = h.same last at name t stands r
