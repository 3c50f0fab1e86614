-- What a start takes, by definitions.
use Rattle.std.proofs.Common.{◌≡◌, ℕ, zero, suc, ◌+◌, ◌<◌, ◌≤◌, Bool, true, false, if◌then◌else◌, List, [], ◌∷◌, length, get_or, drop, map}
use Rattle.std.proofs.Common.{refl, sym, ap, ◌∙◌, subst, arith, Option, None, Some, Result, Ok, Err, IfOk}
use Rattle.std.specs.Prelude.{All, IsTrue, IsSomeAnd, IfSome, MatchOption, nat_le, ◌↔◌}
use Rattle.std.specs.List.{AllByRecursion as Each}
use Rattle.std.specs.Option.{option_map}
use Rattle.std.proofs.lemmas.List.{drop_more, drop_all, length-map}
use Rattle.std.proofs.lemmas.List.Elements.{All-head, All-tail, All-nil, All-cons}
use Rattle.db_model.specs.Commits.{SchemaOperation, create, drop_table, add_index, del_index, remake, CommitRecord}
use Rattle.db_model.specs.Database.{Contents, Table, do_op, do_schema_op}
use Rattle.db_model.specs.Lawful.{table_in, Applies, AllApply}
use Rattle.db_model.specs.Ops.{Operation, table_of}
use Rattle.db_model.specs.Records.{Allows}
use Rattle.db_model.specs.Taken.{is_next, tables_before_ops, is_due, take_ops, MayTakeOp, Takes}
use Rattle.db_model.specs.View.{definition, operation, schema_operation}
use Rattle.db_model.specs.declared.commit.SchemaOp.{SchemaOp}
use Rattle.db_model.specs.declared.definition.TableDef.{TableDef}
use Rattle.db_model.specs.declared.op.Op.{Op}
use Rattle.ram_table.specs.Contents.{TableRecords, contents, IsKeyed}
use Rattle.db_state.specs.Live.{LiveTables, database, with_contents, AreTables, is_named, definition_of}
use Rattle.db_state.specs.Inside.Parts.{contents_after}
use Rattle.db_state.specs.Inside.Slots.{HasKeys, AreLeft, slot_tables}
use Rattle.db_state.specs.Inside.Taking.{first_def, is_due_by, MayTakeBy, TakesOps}
use Rattle.db_state.specs.Plans.{planned, IsMadeFor}
use Rattle.db_state.specs.declared.plan.Plan.{Plan}
use Rattle.db_state.specs.declared.parts.Part.{Part}
use Rattle.db_state.specs.declared.slots.Slot.{Slot}
use Rattle.db_state.proofs.OpLists.{found_keyed}
use Rattle.db_state.proofs.Shown.{as_many}

-- ---- the first definition of a name

pub def_seen : (name : List ℕ) (defs : List TableDef) (rows : List Contents) → length rows ≡ length defs
    → option_map definition (first_def name defs) ≡ option_map definition_of (table_in name (with_contents defs rows))
def_seen name [] rows many = refl
def_seen name (d ∷ ds) [] many = absurd (omega arith)
def_seen name (d ∷ ds) (r ∷ rs) many = by (is_named name d) (def_seen name ds rs (omega arith))
  where
    by : (b : Bool) → option_map definition (first_def name ds) ≡ option_map definition_of (table_in name (with_contents ds rs))
        → option_map definition (if b then Some d else first_def name ds)
        ≡ option_map definition_of (if b then Some (record { definition = definition d; contents = r }) else table_in name (with_contents ds rs))
    by true e = refl
    by false e = e

first_at : (name : List ℕ) (defs : List TableDef) (i : ℕ) (d : TableDef) → i < length defs → d ≡ get_or defs i d
    → first_def name (drop i defs) ≡ (if is_named name d then Some d else first_def name (drop (i + 1) defs))
first_at name defs i d lt is =
    ap (first_def name) (drop_more defs i d lt) ∙ ap (λ (e : TableDef). first_def name (e ∷ drop (i + 1) defs)) (sym is)

pub first_hit : (name : List ℕ) (defs : List TableDef) (i : ℕ) (d : TableDef) (r : Option TableDef) → i < length defs
    → d ≡ get_or defs i d → is_named name d ≡ true → first_def name (drop i defs) ≡ r → Some d ≡ r
first_hit name defs i d r lt is named e =
    sym (first_at name defs i d lt is ∙ ap (λ b. if b then Some d else first_def name (drop (i + 1) defs)) named) ∙ e

pub first_passed : (name : List ℕ) (defs : List TableDef) (i : ℕ) (d : TableDef) (r : Option TableDef) → i < length defs
    → d ≡ get_or defs i d → is_named name d ≡ false → first_def name (drop i defs) ≡ r → first_def name (drop (i + 1) defs) ≡ r
first_passed name defs i d r lt is named e =
    sym (first_at name defs i d lt is ∙ ap (λ b. if b then Some d else first_def name (drop (i + 1) defs)) named) ∙ e

pub first_missed : (name : List ℕ) (defs : List TableDef) (i : ℕ) (r : Option TableDef) → length defs ≤ i
    → first_def name (drop i defs) ≡ r → None ≡ r
first_missed name defs i r le e = sym (ap (first_def name) (drop_all i defs le)) ∙ e

-- ---- what is due

due_seen : (version : ℕ) (o : Option TableDef) (t : Option Table) → option_map definition o ≡ option_map definition_of t
    → is_due version t ≡ is_due_by version o
due_seen version None None e = refl
due_seen version None (Some t) e = absurd cc
due_seen version (Some d) None e = absurd cc
due_seen version (Some d) (Some t) e =
    let same : definition d ≡ t.definition = cc in ap (λ definition. nat_le definition.cookie version) (sym same)

pub due_by : (version : ℕ) (name : List ℕ) (defs : List TableDef) (rows : List Contents) → length rows ≡ length defs
    → is_due version (table_in name (with_contents defs rows)) ≡ is_due_by version (first_def name defs)
due_by version name defs rows many =
    due_seen version (first_def name defs) (table_in name (with_contents defs rows)) (def_seen name defs rows many)

take_seen : (version : ℕ) (op : Operation) (o : Option TableDef) (t : Option Table) → option_map definition o ≡ option_map definition_of t
    → (IfSome o (λ d. IsTrue (nat_le d.cookie version) → Allows (definition d) op))
    ↔ (IsTrue (is_due version t) → IsSomeAnd t (λ table. Allows table.definition op))
take_seen version op None None e = (λ may due. absurd cc, λ may. tt)
take_seen version op None (Some t) e = absurd cc
take_seen version op (Some d) None e = absurd cc
take_seen version op (Some d) (Some t) e =
    let same : definition d ≡ t.definition = cc in (
      λ may. subst (λ definition. IsTrue (nat_le definition.cookie version) → Allows definition op) same may,
      λ may. subst (λ definition. IsTrue (nat_le definition.cookie version) → Allows definition op) (sym same) may,
    )

pub may_take_by : (version : ℕ) (defs : List TableDef) (rows : List Contents) (op : Operation) → length rows ≡ length defs
    → MayTakeBy version defs op ↔ MayTakeOp version (with_contents defs rows) op
may_take_by version defs rows op many =
    take_seen version op (first_def (table_of op) defs) (table_in (table_of op) (with_contents defs rows))
    (def_seen (table_of op) defs rows many)

pub all_may : (version : ℕ) (defs : List TableDef) (rows : List Contents) (ops : List Operation) → length rows ≡ length defs
    → Each (MayTakeBy version defs) ops → All (MayTakeOp version (with_contents defs rows)) ops
all_may version defs rows [] many e = All-nil (MayTakeOp version (with_contents defs rows))
all_may version defs rows (op ∷ ops) many e =
    All-cons (MayTakeOp version (with_contents defs rows)) op ops ((may_take_by version defs rows op many).0 e.0)
    (all_may version defs rows ops many e.1)

pub all_may_by : (version : ℕ) (defs : List TableDef) (rows : List Contents) (ops : List Operation) → length rows ≡ length defs
    → All (MayTakeOp version (with_contents defs rows)) ops → Each (MayTakeBy version defs) ops
all_may_by version defs rows [] many a = tt
all_may_by version defs rows (op ∷ ops) many a = (
  (may_take_by version defs rows op many).1 (All-head (MayTakeOp version (with_contents defs rows)) op ops a),
  all_may_by version defs rows ops many (All-tail (MayTakeOp version (with_contents defs rows)) op ops a),
)

-- ---- ops one after another

pub each_at : {X Y : Type 0} (P : Y → Type 0) (f : X → Y) (xs : List X) (i : ℕ) (x : X) → i < length xs → x ≡ get_or xs i x
    → Each P (map f xs) → P (f x)
each_at P f [] i x lt is a = absurd (omega arith)
each_at {X} P f (y ∷ ys) zero x lt is a = subst (λ (z : X). P (f z)) (sym is) a.0
each_at P f (y ∷ ys) (suc i) x lt is a = each_at P f ys i x (omega arith) is a.1

pub due_keyed : (version : ℕ) (op : Operation) (defs : List TableDef) (tables : List TableRecords) → AreTables defs tables
    → MayTakeBy version defs op → is_due_by version (first_def (table_of op) defs) ≡ true → IsKeyed op
due_keyed version op defs tables fit may due =
    let many = length-map tables contents ∙ as_many defs tables fit in
    found_keyed (table_of op) op defs tables fit
    ((may_take_by version defs (map contents tables) op many).0 may (due_by version (table_of op) defs (map contents tables) many ∙ due))

pub taken_more : (version : ℕ) (ops : List Op) (i : ℕ) (op : Op) (before after r : List Table) (b : Bool) → i < length ops
    → op ≡ get_or ops i op → is_due version (table_in (table_of (operation op)) before) ≡ b
    → after ≡ (if b then do_op (operation op) before else before) → take_ops version (map operation (drop i ops)) before ≡ r
    → take_ops version (map operation (drop (i + 1) ops)) after ≡ r
taken_more version ops i op before after r b lt is due done e =
    ap (take_ops version (map operation (drop (i + 1) ops)))
    (done ∙ sym (ap (λ c. if c then do_op (operation op) before else before) due))
    ∙ ap (λ (os : List Op). take_ops version (map operation os) before)
    (ap (λ (o : Op). o ∷ drop (i + 1) ops) is ∙ sym (drop_more ops i op lt))
    ∙ e

rows_after : (k : ℕ) (parts : List Part) (tables : List TableRecords) → length (contents_after k parts tables) ≡ length tables
rows_after k parts [] = refl
rows_after k parts (t ∷ ts) = ap suc (rows_after (suc k) parts ts)

pub due_now : (version : ℕ) (name : List ℕ) (defs : List TableDef) (tables : List TableRecords) (parts : List Part) → AreTables defs tables
    → is_due version (table_in name (with_contents defs (contents_after 0 parts tables))) ≡ is_due_by version (first_def name defs)
due_now version name defs tables parts fit =
    due_by version name defs (contents_after 0 parts tables) (rows_after 0 parts tables ∙ as_many defs tables fit)

-- ---- a commit taken

pub taken_by : (live : LiveTables) (commit : CommitRecord) (version : ℕ) (tables : List Table)
    → tables ≡ tables_before_ops commit (database live)
    → version ≡ (if is_next commit (database live) then commit.version else (database live).version)
    → (IsTrue (is_next commit (database live)) → AllApply commit.schema_operations (database live).tables)
    → (found : Option Plan)
    → MatchOption found (All (MayTakeOp commit.version tables) commit.operations → ⊥) (TakesOps live commit version tables)
    → MatchOption found (Takes commit (database live) None)
    (λ plan. IsMadeFor live plan × Takes commit (database live) (Some (planned live plan)))
taken_by live commit version tables same at applies None none = λ can.
    none (subst (λ (ts : List Table). All (MayTakeOp commit.version ts) commit.operations) (sym same) can.allowed)
taken_by live commit version tables same at applies (Some plan) takes = (
  takes.made_for,
  (
    record {
      applies = applies;
      allowed = subst (λ (ts : List Table). All (MayTakeOp commit.version ts) commit.operations) same takes.may;
    },
    takes.done ∙ (λ i. record { version = at i; tables = take_ops commit.version commit.operations (same i) }),
  ),
)

pub taken_or_not : {E : Type 0} (live : LiveTables) (commit : CommitRecord) (version : ℕ) (tables : List Table)
    → tables ≡ tables_before_ops commit (database live)
    → version ≡ (if is_next commit (database live) then commit.version else (database live).version)
    → (IsTrue (is_next commit (database live)) → AllApply commit.schema_operations (database live).tables)
    → (r : Result (Option Plan) E)
    → IfOk r (λ found. MatchOption found (All (MayTakeOp commit.version tables) commit.operations → ⊥) (TakesOps live commit version tables))
    → IfOk r (λ found. MatchOption found (Takes commit (database live) None)
    (λ plan. IsMadeFor live plan × Takes commit (database live) (Some (planned live plan))))
taken_or_not live commit version tables same at applies (Ok found) takes = taken_by live commit version tables same at applies found takes
taken_or_not live commit version tables same at applies (Err e) takes = tt

-- ---- schema ops one after another

pub keys_of : (op : SchemaOperation) (tables : List Table) → Applies op tables → HasKeys op
keys_of (create definition) tables a = let some = a.0.attributes.some in omega arith
keys_of (drop_table name) tables a = tt
keys_of (add_index name position) tables a = tt
keys_of (del_index name position) tables a = tt
keys_of (remake definition) tables a = let some = a.0.attributes.some in omega arith

apply_on : (ops : List SchemaOp) (i : ℕ) (op : SchemaOp) (tables : List Table) → i < length ops → op ≡ get_or ops i op
    → AllApply (map schema_operation (drop i ops)) tables
    ≡ (Applies (schema_operation op) tables
    × AllApply (map schema_operation (drop (i + 1) ops)) (do_schema_op (schema_operation op) tables))
apply_on ops i op tables lt is =
    ap (λ (os : List SchemaOp). AllApply (map schema_operation os) tables)
    (drop_more ops i op lt ∙ ap (λ (o : SchemaOp). o ∷ drop (i + 1) ops) (sym is))

pub one_applies : (ops : List SchemaOp) (i : ℕ) (op : SchemaOp) (old : List TableRecords) (before after : List Slot) (Whole : Type 0)
    → i < length ops → op ≡ get_or ops i op → Applies (schema_operation op) (slot_tables old before)
    → AreLeft (schema_operation op) old before after
    → AllApply (map schema_operation (drop i ops)) (slot_tables old before) ↔ Whole
    → AllApply (map schema_operation (drop (i + 1) ops)) (slot_tables old after) ↔ Whole
one_applies ops i op old before after Whole lt is applies left both =
    let rest = map schema_operation (drop (i + 1) ops) in
    let on = apply_on ops i op (slot_tables old before) lt is in (
      λ a. both.0 (subst (λ (T : Type 0). T) (sym on) (applies, subst (AllApply rest) left.shown a)),
      λ all. subst (AllApply rest) (sym left.shown) (subst (λ (T : Type 0). T) on (both.1 all)).1,
    )

pub one_fails : (ops : List SchemaOp) (i : ℕ) (op : SchemaOp) (tables : List Table) (Whole : Type 0) → i < length ops
    → op ≡ get_or ops i op → (Applies (schema_operation op) tables → ⊥)
    → AllApply (map schema_operation (drop i ops)) tables ↔ Whole → Whole → ⊥
one_fails ops i op tables Whole lt is fails both all =
    fails (subst (λ (T : Type 0). T) (apply_on ops i op tables lt is) (both.1 all)).0

pub none_fails : (ops : List SchemaOp) (i : ℕ) (tables : List Table) (Whole : Type 0) → length ops ≤ i
    → AllApply (map schema_operation (drop i ops)) tables ↔ Whole → Whole
none_fails ops i tables Whole le both =
    both.0 (subst (λ (os : List SchemaOp). AllApply (map schema_operation os) tables) (sym (drop_all i ops le)) tt)
