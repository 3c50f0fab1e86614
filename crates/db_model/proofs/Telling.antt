-- Whether a start can take a commit can be told, where its schema ops are well formed.
use Rattle.std.proofs.Common.{◌≡◌, ◌⊎◌, ℕ, zero, suc, ◌+◌, ◌≤◌, ◌<◌, Bool, true, false, IsTrue, List, [], ◌∷◌, length, Option, None, Some, refl, ap, inl, inr, arith}
use Rattle.std.specs.Prelude.{All, Contains, IsSome, IsNone, IsSomeAnd, ◌^◌}
use Rattle.std.proofs.lemmas.Bool.{cases_Bool, cases_lt}
use Rattle.std.proofs.lemmas.List.Elements.{All-cons, All-nil, All-head, All-tail}
use Rattle.term_core.specs.Tree.{Tree, int, atom, tuple, list, bin, Trees, no_trees, tree, text, count, depth}
use Rattle.term_core.specs.Order.{same_tree, same_tree_is}
use Rattle.term_core.specs.Written.{canon}
use Rattle.db_model.specs.Commits.{SchemaOperation, create, drop_table, add_index, del_index, remake, CommitRecord}
use Rattle.db_model.specs.Database.{Table, Database, do_schema_op}
use Rattle.db_model.specs.Definitions.{Definition, IsPosition}
use Rattle.db_model.specs.Lawful.{table_in, LacksIndex, HasIndex, Applies, AllApply, IsAllowedIn}
use Rattle.db_model.specs.Ops.{Operation, write, delete, delete_object, clear, table_of}
use Rattle.db_model.specs.Records.{HasElements, IsStorable, Fits, Allows}
use Rattle.db_model.specs.SchemaTerms.{IsWellFormed}
use Rattle.db_model.specs.Taken.{is_next, tables_before_ops, is_due, MayTakeOp, CanTake}

abbrev Told : Type 0 → Type 0
Told P = P ⊎ (P → ⊥)

both_told : {P Q : Type 0} → Told P → Told Q → Told (P × Q)
both_told (inr fails) q = inr (λ h. fails h.0)
both_told (inl p) (inr fails) = inr (λ h. fails h.1)
both_told (inl p) (inl q) = inl (p, q)

all_three_told : {P Q R : Type 0} → Told P → Told Q → Told R → Told (P × Q × R)
all_three_told (inr fails) q r = inr (λ h. fails h.0)
all_three_told (inl p) (inr fails) r = inr (λ h. fails h.1)
all_three_told (inl p) (inl q) (inr fails) = inr (λ h. fails h.2)
all_three_told (inl p) (inl q) (inl r) = inl (p, q, r)

most_told : (n most : ℕ) → Told (n ≤ most)
most_told n most = elim (cases_lt most n) [ inl over ↦ inr (λ h. omega (arith, h, over)) | inr within ↦ inl within ]

fewer_told : (n most : ℕ) → Told (n < most)
fewer_told n most = elim (cases_lt n most) [ inl within ↦ inl within | inr over ↦ inr (λ h. omega (arith, h, over)) ]

same_told : (n m : ℕ) → Told (n ≡ m)
same_told n m = elim (cases_lt n m) [
  | inl under ↦ inr (λ h. omega (arith, h, under))
  | inr least ↦ elim (cases_lt m n) [ inl over ↦ inr (λ h. omega (arith, h, over)) | inr most ↦ inl (omega (arith, least, most)) ]
]

name_told : (name other : List ℕ) → Told (name ≡ other)
name_told name other = elim (cases_Bool (same_tree (atom name) (atom other))) [
  | inl same ↦ inl (ap text ((same_tree_is (atom name) (atom other)).0 same))
  | inr fails ↦ inr (λ same. cc ((same_tree_is (atom name) (atom other)).1 (ap atom same), fails))
]

all_told : {X : Type 0} (P : X → Type 0) → ((x : X) → Told (P x)) → (xs : List X) → Told (All P xs)
all_told P told [] = inl (All-nil P)
all_told P told (x ∷ xs) = elim (told x) [
  | inr fails ↦ inr (λ h. fails (All-head P x xs h))
  | inl is ↦ elim (all_told P told xs) [
    | inr fails ↦ inr (λ h. fails (All-tail P x xs h))
    | inl rest ↦ inl (All-cons P x xs is rest)
  ]
]

-- ---- records and ops

elements_told : (definition : Definition) (row : Tree) → Told (HasElements definition row)
elements_told definition (int n) = inr (λ h. h)
elements_told definition (atom name) = inr (λ h. h)
elements_told definition (list ts) = inr (λ h. h)
elements_told definition (bin bytes) = inr (λ h. h)
elements_told definition (tuple no_trees) = inr (λ h. h)
elements_told definition (tuple (tree (int n) ts)) = inr (λ h. h)
elements_told definition (tuple (tree (tuple us) ts)) = inr (λ h. h)
elements_told definition (tuple (tree (list us) ts)) = inr (λ h. h)
elements_told definition (tuple (tree (bin bytes) ts)) = inr (λ h. h)
elements_told definition (tuple (tree (atom name) ts)) =
    both_told (name_told name definition.record_name) (same_told (count ts) (length definition.attributes))

storable_told : (item : Tree) → Told (IsStorable item)
storable_told item = elim (most_told (depth item) 100) [
  | inr fails ↦ inr (λ h. fails h.levels)
  | inl levels ↦ elim (most_told (length (canon item)) (2 ^ 26)) [
    | inr fails ↦ inr (λ h. fails h.short)
    | inl short ↦ inl (record { levels = levels; short = short })
  ]
]

allowed_told : (definition : Definition) (op : Operation) → Told (Allows definition op)
allowed_told definition (write table row) = both_told (elements_told definition row) (storable_told row)
allowed_told definition (delete table key) = storable_told key
allowed_told definition (delete_object table row) = both_told (elements_told definition row) (storable_told row)
allowed_told definition (clear table) = inl tt

op_told : (tables : List Table) (op : Operation) → Told (IsAllowedIn tables op)
op_told tables op = by (table_in (table_of op) tables)
  where
    by : (found : Option Table) → Told (IsSomeAnd found (λ table. Allows table.definition op))
    by None = inr (λ h. h)
    by (Some table) = allowed_told table.definition op

may_told : (version : ℕ) (tables : List Table) (op : Operation) → Told (MayTakeOp version tables op)
may_told version tables op = elim (cases_Bool (is_due version (table_in (table_of op) tables))) [
  | inr fails ↦ inl (λ due. absurd (cc (due, fails)))
  | inl due ↦ elim (op_told tables op) [ inl is ↦ inl (λ again. is) | inr fails ↦ inr (λ h. fails (h due)) ]
]

-- ---- schema ops

some_told : (found : Option Table) (P : Table → Type 0) → ((table : Table) → Told (P table)) → Told (IsSomeAnd found P)
some_told None P told = inr (λ h. h)
some_told (Some table) P told = told table

bool_told : (b : Bool) → Told (b ≡ true)
bool_told b = elim (cases_Bool b) [ inl is ↦ inl is | inr fails ↦ inr (λ h. cc (h, fails)) ]

not_told : {P : Type 0} → Told P → Told (P → ⊥)
not_told (inl p) = inr (λ fails. fails p)
not_told (inr fails) = inl fails

none_told : (found : Option Table) → Told (IsNone found)
none_told None = inl refl
none_told (Some table) = inr (λ h. cc h)

has_first : (y : ℕ) (ys : List ℕ) (x : ℕ) → (y ≡ x → ⊥) → (Contains ys x → ⊥) → Contains (y ∷ ys) x → ⊥
has_first y ys x other fails (zero, lt, at) = other at
has_first y ys x other fails (suc k, lt, at) = fails (k, omega (arith, lt), at)

contains_told : (xs : List ℕ) (x : ℕ) → Told (Contains xs x)
contains_told [] x = inr (λ h. omega (arith, h.1))
contains_told (y ∷ ys) x = elim (same_told y x) [
  | inl same ↦ inl (0, omega arith, same)
  | inr other ↦ elim (contains_told ys x) [
    | inl has ↦ inl (suc has.0, omega (arith, has.1), has.2)
    | inr fails ↦ inr (has_first y ys x other fails)
  ]
]

applies_told : (op : SchemaOperation) (tables : List Table) → IsWellFormed op → Told (Applies op tables)
applies_told (create definition) tables formed =
    all_three_told (inl formed) (none_told (table_in definition.name tables)) (fewer_told (length tables) 1000)
applies_told (drop_table name) tables formed = bool_told _
applies_told (add_index name position) tables formed = some_told (table_in name tables) (LacksIndex position)
    (λ table. both_told (both_told (most_told 3 position) (most_told position (length table.definition.attributes + 1)))
    (not_told (contains_told table.definition.index position)))
applies_told (del_index name position) tables formed = some_told (table_in name tables) (HasIndex position)
    (λ table. contains_told table.definition.index position)
applies_told (remake definition) tables formed = both_told (inl formed) (bool_told _)

apply_told : (ops : List SchemaOperation) (tables : List Table) → All IsWellFormed ops → Told (AllApply ops tables)
apply_told [] tables formed = inl tt
apply_told (op ∷ ops) tables formed =
    both_told (applies_told op tables (All-head IsWellFormed op ops formed))
    (apply_told ops (do_schema_op op tables) (All-tail IsWellFormed op ops formed))

done_told : (next : Bool) (ops : List SchemaOperation) (tables : List Table) → All IsWellFormed ops
    → Told (IsTrue next → AllApply ops tables)
done_told next ops tables formed = elim (cases_Bool next) [
  | inr fails ↦ inl (λ is. absurd (cc (is, fails)))
  | inl is ↦ elim (apply_told ops tables formed) [ inl good ↦ inl (λ again. good) | inr fails ↦ inr (λ h. fails (h is)) ]
]

pub can_told : (commit : CommitRecord) (database : Database) → All IsWellFormed commit.schema_operations
    → Told (CanTake commit database)
can_told commit database formed =
    elim (done_told (is_next commit database) commit.schema_operations database.tables formed) [
      | inr fails ↦ inr (λ h. fails h.applies)
      | inl applies ↦ elim (all_told (MayTakeOp commit.version (tables_before_ops commit database))
          (may_told commit.version (tables_before_ops commit database)) commit.operations) [
            | inr fails ↦ inr (λ h. fails h.allowed)
            | inl allowed ↦ inl (record { applies = applies; allowed = allowed })
          ]
    ]
