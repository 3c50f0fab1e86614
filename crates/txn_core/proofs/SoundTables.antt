-- What stays where the tables change and no part that a lock covers does.
use Rattle.std.proofs.Common.{◌≡◌, ℕ, ◌<◌, Bool, true, false, not, ◌&&◌, cond, List, [], ◌∷◌, filter, length, Option, None, Some}
use Rattle.std.proofs.Common.{option_map, refl, sym, ap, ◌∙◌, subst, inl, inr}
use Rattle.std.specs.Prelude.{IsSomeAnd}
use Rattle.std.specs.List.{AllByRecursion}
use Rattle.std.specs.Ordering.{nat_cmp, is_lt}
use Rattle.std.specs.Cmp.Lexicographic.{slice_cmp}
use Rattle.std.proofs.lemmas.Bool.{cases_Bool, false_from_ne_true}
use Rattle.term_core.specs.Tree.{Tree}
use Rattle.db_model.specs.Commits.{create, drop_table}
use Rattle.db_model.specs.Database.{Table, same_name, is_called, with_table, empty_table, do_schema_op}
use Rattle.db_model.specs.Definitions.{Definition}
use Rattle.db_model.specs.Lawful.{table_in}
use Rattle.db_state.specs.Live.{IsKeyedTable}
use Rattle.ram_table.specs.Contents.{IsInOrder}
use Rattle.txn_core.specs.Calls.{Call, table_called, after, view}
use Rattle.txn_core.specs.Locks.{lock_of, whole_table, conflict}
use Rattle.txn_core.specs.Machine.{State, AreOrderly}
use Rattle.txn_core.specs.Pending.{Txn, calls_of, holds}
use Rattle.txn_core.specs.Refusals.{may_call}
use Rattle.txn_core.specs.Sound.{IsFree, AreApart, MayCall, MayCallAll, GotAlone, Sound}
use Rattle.txn_core.proofs.Each.{each_both, each_then, each_filter, each_fails}
use Rattle.txn_core.proofs.LockFacts.{conflict_sym}
use Rattle.txn_core.proofs.NameFacts.{one_name, same_name_sym}
use Rattle.txn_core.proofs.LockParts.{covered, part, part_spared, part_view, SameFor, alone_same, lock_of_table}

-- no part that a lock of the transaction covers has changed
abbrev pub Spares : List Table → List Table → Txn → Type 0
Spares new old txn = AllByRecursion (SameFor new old) (calls_of txn.kept)

-- ---- what may be called

abbrev Allows : Call → Option Table → Type 0
Allows call o = IsSomeAnd o (λ table. may_call table.definition call ≡ true)

allows_covered : (key : Option Tree) (call : Call) (o : Option Table) → Allows call o
    → Allows call (option_map (covered key) o)
allows_covered key call None h = h
allows_covered None call (Some table) h = h
allows_covered (Some key) call (Some table) h = h

allows_uncovered : (key : Option Tree) (call : Call) (o : Option Table) → Allows call (option_map (covered key) o)
    → Allows call o
allows_uncovered key call None h = h
allows_uncovered None call (Some table) h = h
allows_uncovered (Some key) call (Some table) h = h

may_kept : (new old : List Table) (call : Call) → SameFor new old call → MayCall old call → MayCall new call
may_kept new old call same may =
    let there : Allows call (table_in (lock_of call).table old) =
    subst (λ name. Allows call (table_in name old)) (sym (lock_of_table call)) may in
    let kept : Allows call (part (lock_of call) new) =
    subst (Allows call) (sym same) (allows_covered (lock_of call).key call (table_in (lock_of call).table old) there) in
    subst (λ name. Allows call (table_in name new)) (lock_of_table call)
    (allows_uncovered (lock_of call).key call (table_in (lock_of call).table new) kept)

pub sound_tables : (new : List Table) (old : State) → AreOrderly new
    → AllByRecursion (Spares new old.tables) old.pending → Sound old
    → Sound record { tables = new; pending = old.pending }
sound_tables new old orderly spares h = record {
  orderly = orderly;
  apart = h.apart;
  allowed = each_both (Spares new old.tables) (MayCallAll old.tables) (MayCallAll new)
      (λ txn s may. each_both (SameFor new old.tables) (MayCall old.tables) (MayCall new) (may_kept new old.tables)
      (calls_of txn.kept) s may)
      old.pending spares h.allowed;
  replies = each_both (Spares new old.tables) (GotAlone old.tables) (GotAlone new)
      (λ txn s got. got ∙ sym (alone_same (calls_of txn.kept) new old.tables orderly h.orderly s)) old.pending spares h.replies;
  few = h.few;
  few_pending = h.few_pending;
}

-- ---- calls

pub spares_commit : (tables : List Table) (one txn : Txn) → AreOrderly tables → AreApart one txn
    → Spares (view (calls_of txn.kept) tables) tables one
spares_commit tables one txn a h =
    each_then (IsFree (calls_of txn.kept)) (SameFor (view (calls_of txn.kept) tables) tables)
    (λ call free. part_view (calls_of txn.kept) (lock_of call) tables a free) (calls_of one.kept) h.locks

pub spares_single : (tables : List Table) (call : Call) (txn : Txn) → AreOrderly tables
    → holds (lock_of call) txn ≡ false
    → Spares (after call tables) tables txn
spares_single tables call txn a h =
    each_then (λ other. conflict (lock_of call) (lock_of other) ≡ false) (SameFor (after call tables) tables)
    (λ other free. part_spared (lock_of other) call tables a.ordered (conflict_sym (lock_of other) (lock_of call) ∙ free))
    (calls_of txn.kept) (each_fails (λ other. conflict (lock_of call) (lock_of other)) (calls_of txn.kept) h)

-- ---- a table that is taken away

table_in-dropped : (name other : List ℕ) (tables : List Table) → same_name name other ≡ false
    → table_in other (filter (λ table. not (is_called name table)) tables) ≡ table_in other tables
table_in-dropped name other [] h = refl
table_in-dropped name other (table ∷ tables) h =
    let ih : table_in other (filter (λ t. not (is_called name t)) tables) ≡ table_in other tables = table_in-dropped name other tables h in
    elim (cases_Bool (is_called name table)) [
      | inl k ↦ (
          let differs : is_called other table ≡ false =
          ap (same_name other) (sym (one_name name table.definition.name k)) ∙ same_name_sym other name ∙ h in
          simp (k, differs, ih))
      | inr k ↦ simp (k, ih)
    ]

and_true : (a : Bool) → (a && true) ≡ false → a ≡ false
and_true true h = h
and_true false h = refl

pub spares_drop : (tables : List Table) (name : List ℕ) (txn : Txn) → holds (whole_table name) txn ≡ false
    → Spares (do_schema_op (drop_table name) tables) tables txn
spares_drop tables name txn h =
    each_then (λ other. conflict (whole_table name) (lock_of other) ≡ false) (SameFor (do_schema_op (drop_table name) tables) tables)
    (λ other free. ap (option_map (covered (lock_of other).key))
    (table_in-dropped name (lock_of other).table tables (and_true (same_name name (lock_of other).table) free)))
    (calls_of txn.kept) (each_fails (λ other. conflict (whole_table name) (lock_of other)) (calls_of txn.kept) h)

pub orderly_drop : (name : List ℕ) (tables : List Table) → AreOrderly tables
    → AreOrderly (do_schema_op (drop_table name) tables)
orderly_drop name tables h = record {
  ordered = each_filter (λ table. IsInOrder table.contents) (λ table. not (is_called name table)) tables h.ordered;
  keyed = each_filter IsKeyedTable (λ table. not (is_called name table)) tables h.keyed;
}

-- ---- a table that is made

each_with_table : (P : Table → Type 0) (table : Table) (tables : List Table) → P table → AllByRecursion P tables
    → AllByRecursion P (with_table table tables)
each_with_table P table [] p h = (p, tt)
each_with_table P table (other ∷ others) p h =
    elim (is_lt (slice_cmp nat_cmp table.definition.name other.definition.name))
    as (λ b. AllByRecursion P (cond b (table ∷ other ∷ others) (other ∷ with_table table others))) [
      | true ↦ (p, h)
      | false ↦ (h.0, each_with_table P table others p h.1)
    ]

pub orderly_make : (definition : Definition) (tables : List Table) → 0 < length definition.attributes
    → AreOrderly tables
    → AreOrderly (do_schema_op (create definition) tables)
orderly_make definition tables keyed h = record {
  ordered = each_with_table (λ table. IsInOrder table.contents) (empty_table definition) tables tt h.ordered;
  keyed = each_with_table IsKeyedTable (empty_table definition) tables keyed h.keyed;
}

table_in-made : (table : Table) (other : List ℕ) (tables : List Table) → same_name other table.definition.name ≡ false
    → table_in other (with_table table tables) ≡ table_in other tables
table_in-made table other [] h = simp (h)
table_in-made table other (first ∷ tables) h =
    let ih : table_in other (with_table table tables) ≡ table_in other tables = table_in-made table other tables h in
    elim (cases_Bool (is_lt (slice_cmp nat_cmp table.definition.name first.definition.name))) [
      | inl k ↦ simp (k, h)
      | inr k ↦ simp (k, ih)
    ]

-- what may be called has another table than one that does not stand
made_apart : (tables : List Table) (name : List ℕ) (call : Call) → table_in name tables ≡ None → MayCall tables call
    → same_name (table_called call) name ≡ false
made_apart tables name call none may =
    false_from_ne_true (same_name (table_called call) name) (λ same. subst (Allows call)
    (ap (λ n. table_in n tables) (one_name (table_called call) name same) ∙ none) may)

pub spares_make : (tables : List Table) (definition : Definition) (txn : Txn) → table_in definition.name tables ≡ None
    → MayCallAll tables txn → Spares (do_schema_op (create definition) tables) tables txn
spares_make tables definition txn none all =
    each_then (MayCall tables) (SameFor (do_schema_op (create definition) tables) tables)
    (λ call may. ap (option_map (covered (lock_of call).key)) (table_in-made (empty_table definition) (lock_of call).table tables
    (ap (λ name. same_name name definition.name) (lock_of_table call) ∙ made_apart tables definition.name call none may)))
    (calls_of txn.kept) all
