-- What commits make of sound databases, and how they are taken.
use Rattle.std.proofs.Common.{◌≡◌, ℕ, ◌+◌, ◌<◌, ◌≤◌, Bool, true, false, not, if◌then◌else◌, List, [], ◌∷◌, filter, map, get_or, length, refl, sym, ap, subst, ◌∙◌, arith, inl, inr, ◌⊎◌, Option, Some, None}
use Rattle.std.specs.Prelude.{All, IsTrue, nat_le, ◌==◌}
use Rattle.std.specs.Ordering.{nat_cmp, is_lt}
use Rattle.std.specs.Cmp.Lexicographic.{slice_cmp}
use Rattle.std.proofs.lemmas.Bool.{le-leb, eq-eqb, eqb-true}
use Rattle.std.proofs.lemmas.List.Elements.{All-nil, All-cons, All-head, All-tail, All-filter}
use Rattle.db_model.specs.Commits.{SchemaOperation, create, drop_table, add_index, del_index, remake, CommitRecord}
use Rattle.db_model.specs.Database.{Table, is_called, Database, change_table, do_op, do_ops, with_table, empty_table, indexed, unindexed, with_op, do_schema_op, do_schema_ops, do_commit, put_op}
use Rattle.db_model.specs.Definitions.{Definition}
use Rattle.db_model.specs.Ops.{Operation, table_of}
use Rattle.db_model.specs.Lawful.{table_in, AllApply, IsAllowedIn, HasCookie, IsVersionBehind, IsLawful, IsNoNewer, IsSound}
use Rattle.db_model.specs.Taken.{is_next, tables_before_ops, is_due, take_op, take_ops, taken, MayTakeOp, CanTake, Takes}

-- ---- no table is newer

changed_or_not : (version : ℕ) (b : Bool) (changed table : Table) → IsNoNewer version changed → IsNoNewer version table
    → IsNoNewer version (if b then changed else table)
changed_or_not version true changed table new old = new
changed_or_not version false changed table new old = old

changed : (version : ℕ) (name : List ℕ) (change : Table → Table) → ((table : Table) → IsNoNewer version table
    → IsNoNewer version (change table))
    → (tables : List Table) → All (IsNoNewer version) tables → All (IsNoNewer version) (change_table name change tables)
changed version name change keeps [] old = All-nil (IsNoNewer version)
changed version name change keeps (t ∷ ts) old =
    let first = All-head (IsNoNewer version) t ts old in
    All-cons (IsNoNewer version) _ _ (changed_or_not version (is_called name t) (change t) t (keeps t first) first)
    (changed version name change keeps ts (All-tail (IsNoNewer version) t ts old))

placed : (version : ℕ) (b : Bool) (front back : List Table) → All (IsNoNewer version) front → All (IsNoNewer version) back
    → All (IsNoNewer version) (if b then front else back)
placed version true front back one other = one
placed version false front back one other = other

added : (version : ℕ) (table : Table) → IsNoNewer version table → (tables : List Table) → All (IsNoNewer version) tables
    → All (IsNoNewer version) (with_table table tables)
added version table new [] old = All-cons (IsNoNewer version) table [] new old
added version table new (t ∷ ts) old =
    placed version (is_lt (slice_cmp nat_cmp table.definition.name t.definition.name)) (table ∷ t ∷ ts) (t ∷ with_table table ts)
    (All-cons (IsNoNewer version) table (t ∷ ts) new old)
    (All-cons (IsNoNewer version) t (with_table table ts) (All-head (IsNoNewer version) t ts old)
    (added version table new ts (All-tail (IsNoNewer version) t ts old)))

of_version : (version cookie : ℕ) → cookie ≡ version → cookie ≤ version
of_version version cookie is = omega arith

schema_op_done : (version : ℕ) (op : SchemaOperation) → HasCookie version op → (tables : List Table) → All (IsNoNewer version) tables
    → All (IsNoNewer version) (do_schema_op op tables)
schema_op_done version (create definition) cookie tables old = added version (empty_table definition)
    (of_version version definition.cookie cookie) tables old
schema_op_done version (drop_table name) cookie tables old = All-filter (λ table. not (is_called name table)) (IsNoNewer version) tables old
schema_op_done version (add_index name position) cookie tables old =
    changed version name (indexed position) (λ table no_newer. no_newer) tables old
schema_op_done version (del_index name position) cookie tables old =
    changed version name (unindexed position) (λ table no_newer. no_newer) tables old
schema_op_done version (remake definition) cookie tables old =
    changed version definition.name (λ table. empty_table definition) (λ table no_newer. of_version version definition.cookie cookie) tables
    old

schema_ops_done : (version : ℕ) (ops : List SchemaOperation) → All (HasCookie version) ops → (tables : List Table)
    → All (IsNoNewer version) tables → All (IsNoNewer version) (do_schema_ops ops tables)
schema_ops_done version [] cookies tables old = old
schema_ops_done version (op ∷ ops) cookies tables old =
    schema_ops_done version ops (All-tail (HasCookie version) op ops cookies) (do_schema_op op tables)
    (schema_op_done version op (All-head (HasCookie version) op ops cookies) tables old)

op_done : (version : ℕ) (op : Operation) (tables : List Table) → All (IsNoNewer version) tables → All (IsNoNewer version) (do_op op tables)
op_done version op tables old = changed version (table_of op) (with_op op) (λ table no_newer. no_newer) tables old

ops_done : (version : ℕ) (ops : List Operation) (tables : List Table) → All (IsNoNewer version) tables
    → All (IsNoNewer version) (do_ops ops tables)
ops_done version [] tables old = old
ops_done version (op ∷ ops) tables old = ops_done version ops (do_op op tables) (op_done version op tables old)

later : (version more : ℕ) → version ≤ more → (tables : List Table) → All (IsNoNewer version) tables → All (IsNoNewer more) tables
later version more le tables old k d within = let h = old k d within in omega (arith, h)

not_before : (before : ℕ) (ops : List SchemaOperation) (version : ℕ) → IsVersionBehind before ops version → before ≤ version
not_before before [] version is = omega arith
not_before before (op ∷ ops) version is = omega arith

made_sound : (commit : CommitRecord) (database : Database) → IsSound database → IsLawful commit database
    → All (IsNoNewer commit.version) (do_schema_ops commit.schema_operations database.tables)
made_sound commit database sound lawful =
    schema_ops_done commit.version commit.schema_operations lawful.cookies database.tables
    (later database.version commit.version (not_before database.version commit.schema_operations commit.version lawful.version)
    database.tables sound)

pub stays_sound : (commit : CommitRecord) (database : Database) → IsSound database → IsLawful commit database
    → IsSound (do_commit commit database)
stays_sound commit database sound lawful =
    ops_done commit.version commit.operations (do_schema_ops commit.schema_operations database.tables)
    (made_sound commit database sound lawful)

-- ---- how it is taken

-- the first table of the name is due, or there is none, and then a change changes nothing
due_or_none : (version : ℕ) (name : List ℕ) (change : Table → Table) (tables : List Table) → All (IsNoNewer version) tables
    → (is_due version (table_in name tables) ≡ true) ⊎ (change_table name change tables ≡ tables)
due_or_none version name change [] old = inr refl
due_or_none version name change (t ∷ ts) old =
    by (is_called name t) (due_or_none version name change ts (All-tail (IsNoNewer version) t ts old))
  where
    by : (b : Bool) → (is_due version (table_in name ts) ≡ true) ⊎ (change_table name change ts ≡ ts)
        → (is_due version (if b then Some t else table_in name ts) ≡ true)
        ⊎ ((if b then change t else t) ∷ change_table name change ts ≡ t ∷ ts)
    by true rest = inl (le-leb t.definition.cookie version (All-head (IsNoNewer version) t ts old))
    by false (inl due) = inl due
    by false (inr same) = inr (ap (λ us. t ∷ us) same)

-- so an op is taken as it is done
op_taken : (version : ℕ) (op : Operation) (tables : List Table) → All (IsNoNewer version) tables
    → take_op version op tables ≡ do_op op tables
op_taken version op tables old =
    by (is_due version (table_in (table_of op) tables)) (due_or_none version (table_of op)
    (with_op op) tables old)
  where
    by : (b : Bool) → (b ≡ true) ⊎ (do_op op tables ≡ tables) → (if b then do_op op tables else tables) ≡ do_op op tables
    by true either = refl
    by false (inl due) = absurd cc
    by false (inr same) = sym same

ops_taken : (version : ℕ) (ops : List Operation) (tables : List Table) → All (IsNoNewer version) tables
    → take_ops version ops tables ≡ do_ops ops tables
ops_taken version [] tables old = refl
ops_taken version (op ∷ ops) tables old =
    ap (take_ops version ops) (op_taken version op tables old) ∙ ops_taken version ops (do_op op tables) (op_done version op tables old)

-- where there are schema ops, the commit is of the next version, and else of the same one
tables_made : (ops : List SchemaOperation) (before version : ℕ) (tables : List Table) → IsVersionBehind before ops version
    → (if version == before + 1 then do_schema_ops ops tables else tables) ≡ do_schema_ops ops tables
tables_made [] before version tables is = by (version == before + 1)
  where
    by : (b : Bool) → (if b then tables else tables) ≡ tables
    by true = refl
    by false = refl
tables_made (op ∷ ops) before version tables is =
    ap (λ b. if b then do_schema_ops (op ∷ ops) tables else tables) (eq-eqb version (before + 1) is.0)

version_made : (ops : List SchemaOperation) (before version : ℕ) → IsVersionBehind before ops version
    → (if version == before + 1 then version else before) ≡ version
version_made [] before version is = by (version == before + 1)
  where
    by : (b : Bool) → (if b then version else before) ≡ version
    by true = refl
    by false = sym is
version_made (op ∷ ops) before version is = ap (λ b. if b then version else before) (eq-eqb version (before + 1) is.0)

pub lawful_taken : (commit : CommitRecord) (database : Database) → IsSound database → IsLawful commit database
    → Takes commit database (Some (do_commit commit database))
lawful_taken commit database sound lawful =
    let tables = tables_made commit.schema_operations database.version commit.version database.tables lawful.version in
    let version = version_made commit.schema_operations database.version commit.version lawful.version in
    let ops : take_ops commit.version commit.operations (tables_before_ops commit database) ≡ do_ops commit.operations
    (do_schema_ops commit.schema_operations database.tables) =
    ap (take_ops commit.version commit.operations) tables
    ∙ ops_taken commit.version commit.operations (do_schema_ops commit.schema_operations database.tables)
    (made_sound commit database sound lawful) in (
      record {
        applies = λ next. lawful.applies;
        allowed = λ k d within due. subst (λ ts. IsAllowedIn ts (get_or commit.operations k d)) (sym tables) (lawful.allowed k d within);
      },
      λ i. record { version = sym version i; tables = sym ops i },
    )

pub taken_once : (commit : CommitRecord) (database : Database) (one other : Option Database) → Takes commit database one
    → Takes commit database other → one ≡ other
taken_once commit database None None x y = refl
taken_once commit database None (Some other) x y = absurd (x y.0)
taken_once commit database (Some one) None x y = absurd (y x.0)
taken_once commit database (Some one) (Some other) x y = ap Some (x.1 ∙ sym y.1)
