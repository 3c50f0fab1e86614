-- Schema ops on slots.
use Rattle.std.proofs.Common.{◌≡◌, ℕ, zero, suc, ◌+◌, ◌<◌, ◌≤◌, true, false, not, cond, if◌then◌else◌, List, [], ◌∷◌, ◌++◌}
use Rattle.std.proofs.Common.{length, take, drop, map, refl, sym, ap, ◌∙◌, subst, arith, Option, None, Some, append_assoc, append-nil}
use Rattle.std.specs.Prelude.{filter, ◌==◌, slice_get}
use Rattle.std.proofs.Common.{get_or, vec_len, vec_capacity}
use Rattle.std.specs.List.{insert, position_or_len, AllByRecursion as Each}
use Rattle.std.specs.Option.{option_to_list, unwrap_or}
use Rattle.std.specs.Ordering.{nat_cmp, is_lt}
use Rattle.std.specs.Cmp.Lexicographic.{slice_cmp}
use Rattle.std.proofs.lemmas.List.{map-append, length-map, drop_more, drop_all}
use Rattle.term_core.specs.View.{tree_of}
use Rattle.db_model.specs.Commits.{SchemaOperation, create, drop_table, add_index, del_index, remake}
use Rattle.db_model.specs.Database.{Table, is_called, do_schema_op, do_schema_ops, indexed, unindexed, empty_table, with_position}
use Rattle.db_model.specs.View.{definition, schema_operation}
use Rattle.db_model.specs.declared.commit.SchemaOp.{SchemaOp}
use Rattle.db_model.specs.declared.definition.TableDef.{TableDef}
use Rattle.ram_table.specs.Contents.{TableRecords, contents}
use Rattle.db_state.specs.Live.{HasKey, AreTables, IsTableOf, with_contents}
use Rattle.db_state.specs.Inside.Sources.{no_records, table_from, AreFrom}
use Rattle.db_state.specs.Inside.Slots.{def_of, source_of, slots_from, IsArrangedBy, slot_table, slot_tables, IsSlot, AreSlots, op_name, IsChange, HasKeys, IsLeft, AreLeft}
use Rattle.db_state.specs.declared.arrangement.Arrangement.{Arrangement}
use Rattle.db_state.specs.declared.arrangement.Source.{Source}
use Rattle.db_state.specs.declared.arrangement.Source.TheVariants.{Kept, Made}
use Rattle.db_state.specs.declared.slots.Slot.{Slot}
use Rattle.db_state.proofs.Inserted.{table_placed}
use Rattle.db_state.proofs.Moved.{from_least}
use Rattle.db_state.proofs.Shown.{as_many}

-- ---- lists in parts

each_join : {X : Type 0} (P : X → Type 0) (xs ys : List X) → Each P xs → Each P ys → Each P (xs ++ ys)
each_join P [] ys a b = b
each_join P (x ∷ xs) ys a b = (a.0, each_join P xs ys a.1 b)

each_front : {X : Type 0} (P : X → Type 0) (xs ys : List X) → Each P (xs ++ ys) → Each P xs
each_front P [] ys a = tt
each_front P (x ∷ xs) ys a = (a.0, each_front P xs ys a.1)

each_back : {X : Type 0} (P : X → Type 0) (xs ys : List X) → Each P (xs ++ ys) → Each P ys
each_back P [] ys a = a
each_back P (x ∷ xs) ys a = each_back P xs ys a.1

-- what may stand for the rest may stand for it behind others
from_behind : (count least : ℕ) (front one two : List Source) → ((from : ℕ) → AreFrom count from one → AreFrom count from two)
    → AreFrom count least (front ++ one) → AreFrom count least (front ++ two)
from_behind count least [] one two f a = f least a
from_behind count least (Kept place ∷ front) one two f a = (a.0, a.1, from_behind count (suc place) front one two f a.2)
from_behind count least (Made table ∷ front) one two f a = from_behind count least front one two f a

-- ---- one slot after another

pub slots_left : (op : SchemaOperation) (old : List TableRecords) (front : List Slot) (slot : Slot) (left : Option Slot) (rest : List Slot)
    → IsLeft op old slot left → AreSlots old (front ++ slot ∷ rest) → AreSlots old ((front ++ option_to_list left) ++ rest)
slots_left op old front slot left rest is are =
    let all = each_back (IsSlot old) front (slot ∷ rest) are.fit in
    let ours = option_to_list left in
    subst (AreSlots old) (sym (append_assoc front ours rest)) (record {
      once = subst (AreFrom (length old) 0) (sym (map-append source_of front (ours ++ rest)
          ∙ ap (λ (s : List Source). map source_of front ++ s) (map-append source_of ours rest)))
          (from_behind (length old) 0 (map source_of front) (slot.source ∷ map source_of rest) (map source_of ours ++ map source_of rest)
          (λ from a. is.once (length old) from (map source_of rest) a)
          (subst (AreFrom (length old) 0) (map-append source_of front (slot ∷ rest)) are.once));
      fit = each_join (IsSlot old) front (ours ++ rest) (each_front (IsSlot old) front (slot ∷ rest) are.fit)
          (each_join (IsSlot old) ours rest (is.fit all.0) all.1);
    })

pub shown_left : (op : SchemaOperation) (old : List TableRecords) (front : List Slot) (slot : Slot) (left : Option Slot) (rest : List Slot)
    (r : List Table) → IsLeft op old slot left
    → slot_tables old front ++ do_schema_op op (slot_tables old (slot ∷ rest)) ≡ r
    → slot_tables old (front ++ option_to_list left) ++ do_schema_op op (slot_tables old rest) ≡ r
shown_left op old front slot left rest r is e =
    ap (λ (ts : List Table). ts ++ do_schema_op op (slot_tables old rest)) (map-append (slot_table old) front (option_to_list left))
    ∙ append_assoc (slot_tables old front) (slot_tables old (option_to_list left)) (do_schema_op op (slot_tables old rest))
    ∙ ap (λ (ts : List Table). slot_tables old front ++ ts) (is.shown (slot_tables old rest))
    ∙ e

-- ---- a new slot at its place

from_insert : (count least : ℕ) (table : TableRecords) (i : ℕ) (sources : List Source) → AreFrom count least sources
    → AreFrom count least (take i sources ++ Made table ∷ drop i sources)
from_insert count least table zero sources a = a
from_insert count least table (suc i) [] a = tt
from_insert count least table (suc i) (Kept place ∷ sources) a = (a.0, a.1, from_insert count (suc place) table i sources a.2)
from_insert count least table (suc i) (Made other ∷ sources) a = from_insert count least table i sources a

map_insert : (i : ℕ) (slots : List Slot) (new : Slot)
    → map source_of (insert slots i new) ≡ take i (map source_of slots) ++ new.source ∷ drop i (map source_of slots)
map_insert zero slots new = refl
map_insert (suc i) [] new = refl
map_insert (suc i) (s ∷ slots) new = ap (λ rest. s.source ∷ rest) (map_insert i slots new)

each_insert : {X : Type 0} (P : X → Type 0) (i : ℕ) (xs : List X) (new : X) → P new → Each P xs → Each P (insert xs i new)
each_insert P zero xs new p a = (p, a)
each_insert P (suc i) [] new p a = (p, tt)
each_insert P (suc i) (x ∷ xs) new p a = (a.0, each_insert P i xs new p a.1)

abbrev pub made_slot : TableDef → Slot
made_slot def = record { def = def; source = Made (record { kind = def.kind; records = [] }) }

pub slots_inserted : (old : List TableRecords) (def : TableDef) (i : ℕ) (slots : List Slot) → HasKey def → AreSlots old slots
    → AreSlots old (insert slots i (made_slot def))
slots_inserted old def i slots keyed are = record {
  once = subst (AreFrom (length old) 0) (sym (map_insert i slots (made_slot def)))
      (from_insert (length old) 0 (record { kind = def.kind; records = [] }) i (map source_of slots) are.once);
  fit = each_insert (IsSlot old) i slots (made_slot def) (record { kind = refl; keyed = keyed }) are.fit;
}

-- ---- what an op leaves of one slot

kept_table : (op : SchemaOperation) (table : Table) (rest : List Table) → IsChange op → is_called (op_name op) table ≡ false
    → table ∷ do_schema_op op rest ≡ do_schema_op op (table ∷ rest)
kept_table (create definition) table rest is e = absurd is
kept_table (drop_table name) table rest is e =
    sym (ap (λ b. cond (not b) (table ∷ do_schema_op (drop_table name) rest) (do_schema_op (drop_table name) rest)) e)
kept_table (add_index name position) table rest is e =
    sym (ap (λ b. (if b then indexed position table else table) ∷ do_schema_op (add_index name position) rest) e)
kept_table (del_index name position) table rest is e =
    sym (ap (λ b. (if b then unindexed position table else table) ∷ do_schema_op (del_index name position) rest) e)
kept_table (remake definition) table rest is e =
    sym (ap (λ b. (if b then empty_table definition else table) ∷ do_schema_op (remake definition) rest) e)

pub left_as_it_is : (op : SchemaOperation) (old : List TableRecords) (slot : Slot) → IsChange op
    → is_called (op_name op) (slot_table old slot) ≡ false → IsLeft op old slot (Some slot)
left_as_it_is op old slot is e = record {
  shown = λ rest. kept_table op (slot_table old slot) rest is e;
  fit = λ fit. (fit, tt);
  once = λ count least sources a. a;
}

from_rest : (count least : ℕ) (source : Source) (sources : List Source) → AreFrom count least (source ∷ sources) → AreFrom count least sources
from_rest count least (Kept place) sources a =
    let above = a.0 in from_least count least (suc place) sources (omega arith) a.2
from_rest count least (Made table) sources a = a

pub dropped : (name : List ℕ) (old : List TableRecords) (slot : Slot) → is_called name (slot_table old slot) ≡ true
    → IsLeft (drop_table name) old slot None
dropped name old slot e = record {
  shown = λ rest. sym (ap (λ b. cond (not b) (slot_table old slot ∷ do_schema_op (drop_table name) rest)
      (do_schema_op (drop_table name) rest)) e);
  fit = λ fit. tt;
  once = λ count least sources a. from_rest count least slot.source sources a;
}

pub index_added : (name : List ℕ) (position : ℕ) (old : List TableRecords) (slot : Slot) (index : List ℕ)
    → is_called name (slot_table old slot) ≡ true → index ≡ with_position position slot.def.index
    → IsLeft (add_index name position) old slot (Some (record { def = record slot.def { index = index }; source = slot.source }))
index_added name position old slot index e is = record {
  shown = λ rest. sym (ap (λ b. (if b then indexed position (slot_table old slot) else slot_table old slot)
      ∷ do_schema_op (add_index name position) rest) e
      ∙ ap (λ (i : List ℕ). record { definition = record (definition slot.def) { index = i }; contents = (slot_table old slot).contents }
      ∷ do_schema_op (add_index name position) rest) (sym is));
  fit = λ fit. (record { kind = fit.kind; keyed = fit.keyed }, tt);
  once = λ count least sources a. a;
}

pub index_deleted : (name : List ℕ) (position : ℕ) (old : List TableRecords) (slot : Slot) (index : List ℕ)
    → is_called name (slot_table old slot) ≡ true → index ≡ filter (λ other. not (other == position)) slot.def.index
    → IsLeft (del_index name position) old slot (Some (record { def = record slot.def { index = index }; source = slot.source }))
index_deleted name position old slot index e is = record {
  shown = λ rest. sym (ap (λ b. (if b then unindexed position (slot_table old slot) else slot_table old slot)
      ∷ do_schema_op (del_index name position) rest) e
      ∙ ap (λ (i : List ℕ). record { definition = record (definition slot.def) { index = i }; contents = (slot_table old slot).contents }
      ∷ do_schema_op (del_index name position) rest) (sym is));
  fit = λ fit. (record { kind = fit.kind; keyed = fit.keyed }, tt);
  once = λ count least sources a. a;
}

pub remade : (def : TableDef) (old : List TableRecords) (slot : Slot) → is_called def.name (slot_table old slot) ≡ true
    → HasKey def → IsLeft (remake (definition def)) old slot (Some (made_slot def))
remade def old slot e keyed = record {
  shown = λ rest. sym (ap (λ b. (if b then empty_table (definition def) else slot_table old slot)
      ∷ do_schema_op (remake (definition def)) rest) e);
  fit = λ fit. (record { kind = refl; keyed = keyed }, tt);
  once = λ count least sources a. from_rest count least slot.source sources a;
}

pub keyed_def : (def : TableDef) → 0 < length (definition def).attributes → HasKey def
keyed_def def keyed = let many = length-map def.attributes tree_of in omega arith

pub created : (old : List TableRecords) (def : TableDef) (slots : List Slot) (i : ℕ) (after : List Slot) → HasKey def
    → i ≡ position_or_len (λ (slot : Slot). is_lt (slice_cmp nat_cmp def.name slot.def.name)) slots
    → after ≡ insert slots i (made_slot def) → AreLeft (create (definition def)) old slots after
created old def slots i after keyed at is = record {
  shown = ap (slot_tables old) (is ∙ ap (λ (n : ℕ). insert slots n (made_slot def)) at)
      ∙ sym (table_placed (slot_table old) (made_slot def) slots);
  still = λ are. subst (AreSlots old) (sym is) (slots_inserted old def i slots keyed are);
}

pub nothing_left : (op : SchemaOperation) → IsChange op → do_schema_op op [] ≡ []
nothing_left (create definition) is = absurd is
nothing_left (drop_table name) is = refl
nothing_left (add_index name position) is = refl
nothing_left (del_index name position) is = refl
nothing_left (remake definition) is = refl

pub all_left : (op : SchemaOperation) (old : List TableRecords) (before after rest : List Slot) → IsChange op → rest ≡ []
    → slot_tables old after ++ do_schema_op op (slot_tables old rest) ≡ do_schema_op op (slot_tables old before)
    → (AreSlots old before → AreSlots old (after ++ rest)) → AreLeft op old before after
all_left op old before after rest change is shown still =
    let none_left : do_schema_op op (slot_tables old rest) ≡ [] =
    ap (λ (ss : List Slot). do_schema_op op (slot_tables old ss)) is ∙ nothing_left op change in
    record {
      shown = sym (append-nil (slot_tables old after)) ∙ ap (λ (ts : List Table). slot_tables old after ++ ts) (sym none_left) ∙ shown;
      still = λ are. subst (AreSlots old) (ap (λ (ss : List Slot). after ++ ss) is ∙ append-nil after) (still are);
    }

-- ---- slots for tables that stand

module _ (old : List TableRecords) where
  tail_of : (k : ℕ) (t : TableRecords) (ts : List TableRecords) → ((n : ℕ) → slice_get old (k + n) ≡ slice_get (t ∷ ts) n)
      → (n : ℕ) → slice_get old (suc k + n) ≡ slice_get ts n
  tail_of k t ts tail n =
      let same : suc k + n ≡ k + suc n = omega arith in
      ap (slice_get old) same ∙ tail (suc n)

  head_of : (k : ℕ) (t : TableRecords) (ts : List TableRecords) → ((n : ℕ) → slice_get old (k + n) ≡ slice_get (t ∷ ts) n)
      → table_from old (Kept k) ≡ t
  head_of k t ts tail =
      let same : k ≡ k + 0 = omega arith in
      ap (λ (o : Option TableRecords). unwrap_or o no_records) (ap (slice_get old) same ∙ tail 0)

  kept_shown : (k : ℕ) (defs : List TableDef) (tables : List TableRecords) → ((n : ℕ) → slice_get old (k + n) ≡ slice_get tables n)
      → AreTables defs tables → slot_tables old (slots_from k defs) ≡ with_contents defs (map contents tables)
  kept_shown k [] tables tail a = refl
  kept_shown k (d ∷ ds) [] tail a = absurd a
  kept_shown k (d ∷ ds) (t ∷ ts) tail a =
      λ i. record { definition = definition d; contents = contents (head_of k t ts tail i) }
      ∷ kept_shown (suc k) ds ts (tail_of k t ts tail) a.1 i

  kept_fit : (k : ℕ) (defs : List TableDef) (tables : List TableRecords) → ((n : ℕ) → slice_get old (k + n) ≡ slice_get tables n)
      → AreTables defs tables → Each (IsSlot old) (slots_from k defs)
  kept_fit k [] tables tail a = tt
  kept_fit k (d ∷ ds) [] tail a = absurd a
  kept_fit k (d ∷ ds) (t ∷ ts) tail a =
      (subst (λ (u : TableRecords). IsTableOf d u) (sym (head_of k t ts tail)) a.0, kept_fit (suc k) ds ts (tail_of k t ts tail) a.1)

  kept_once : (count k : ℕ) (defs : List TableDef) → k + length defs ≤ count → AreFrom count k (map source_of (slots_from k defs))
  kept_once count k [] le = tt
  kept_once count k (d ∷ ds) le = (omega arith, omega arith, kept_once count (suc k) ds (omega arith))

front_of : (old : List TableRecords) (n : ℕ) → slice_get old (0 + n) ≡ slice_get old n
front_of old n = let same : 0 + n ≡ n = omega arith in ap (slice_get old) same

pub slots_shown : (old : List TableRecords) (defs : List TableDef) → AreTables defs old
    → slot_tables old (slots_from 0 defs) ≡ with_contents defs (map contents old)
slots_shown old defs a = kept_shown old 0 defs old (front_of old) a

pub slots_kept : (old : List TableRecords) (defs : List TableDef) → AreTables defs old → AreSlots old (slots_from 0 defs)
slots_kept old defs a =
    let many = as_many defs old a in
    record { once = kept_once old (length old) 0 defs (omega arith); fit = kept_fit old 0 defs old (front_of old) a }

pub one_kept : (front : List Slot) (defs : List TableDef) (i : ℕ) (def : TableDef) (r : List Slot) → i < length defs → def ≡ get_or defs i def
    → front ++ slots_from i (drop i defs) ≡ r
    → (front ++ record { def = def; source = Kept i } ∷ []) ++ slots_from (i + 1) (drop (i + 1) defs) ≡ r
one_kept front defs i def r lt is e =
    let next : i + 1 ≡ suc i = omega arith in
    append_assoc front (record { def = def; source = Kept i } ∷ []) (slots_from (i + 1) (drop (i + 1) defs))
    ∙ ap (λ (n : ℕ). front ++ record { def = def; source = Kept i } ∷ slots_from n (drop (i + 1) defs)) next
    ∙ ap (λ (ds : List TableDef). front ++ slots_from i ds)
    (ap (λ (d : TableDef). d ∷ drop (i + 1) defs) is ∙ sym (drop_more defs i def lt))
    ∙ e

pub all_kept : (slots : List Slot) (defs : List TableDef) (i : ℕ) (r : List Slot) → length defs ≤ i
    → slots ++ slots_from i (drop i defs) ≡ r → slots ≡ r
all_kept slots defs i r le e =
    sym (append-nil slots) ∙ ap (λ (ds : List TableDef). slots ++ slots_from i ds) (sym (drop_all i defs le)) ∙ e

-- ---- the arrangement of slots

slots_fit : (old : List TableRecords) (slots : List Slot) → Each (IsSlot old) slots
    → AreTables (map def_of slots) (map (table_from old) (map source_of slots))
slots_fit old [] a = tt
slots_fit old (s ∷ ss) a = (a.0, slots_fit old ss a.1)

slots_seen : (old : List TableRecords) (slots : List Slot)
    → with_contents (map def_of slots) (map contents (map (table_from old) (map source_of slots))) ≡ slot_tables old slots
slots_seen old [] = refl
slots_seen old (s ∷ ss) = ap (λ rest. slot_table old s ∷ rest) (slots_seen old ss)

pub arranged_by : (ops : List SchemaOperation) (defs : List TableDef) (old : List TableRecords) (slots : List Slot) (new : Arrangement)
    → new.defs ≡ map def_of slots → new.sources.items ≡ map source_of slots → new.room.items ≡ []
    → vec_len new.sources ≤ vec_capacity new.room → AreSlots old slots
    → slot_tables old slots ≡ do_schema_ops ops (with_contents defs (map contents old)) → IsArrangedBy ops defs old (Some new)
arranged_by ops defs old slots new own sources empty roomy are shown = record {
  arranged = record {
    once = subst (AreFrom (length old) 0) (sym sources) are.once;
    fit = subst (λ (ds : List TableDef). AreTables ds (map (table_from old) new.sources.items)) (sym own)
        (subst (λ (ss : List Source). AreTables (map def_of slots) (map (table_from old) ss)) (sym sources) (slots_fit old slots are.fit));
    empty = empty;
    roomy = roomy;
  };
  shown = (λ i. with_contents (own i) (map contents (map (table_from old) (sources i)))) ∙ slots_seen old slots ∙ shown;
}

-- ---- ops one after another

pub op_done : (ops : List SchemaOp) (i : ℕ) (op : SchemaOp) (old : List TableRecords) (before after : List Slot) (r : List Table)
    → i < length ops → op ≡ get_or ops i op → AreLeft (schema_operation op) old before after
    → do_schema_ops (map schema_operation (drop i ops)) (slot_tables old before) ≡ r
    → do_schema_ops (map schema_operation (drop (i + 1) ops)) (slot_tables old after) ≡ r
op_done ops i op old before after r lt is left e =
    ap (do_schema_ops (map schema_operation (drop (i + 1) ops))) left.shown
    ∙ ap (λ (os : List SchemaOp). do_schema_ops (map schema_operation os) (slot_tables old before))
    (ap (λ (o : SchemaOp). o ∷ drop (i + 1) ops) is ∙ sym (drop_more ops i op lt))
    ∙ e

pub ops_done : (ops : List SchemaOp) (i : ℕ) (tables r : List Table) → length ops ≤ i
    → do_schema_ops (map schema_operation (drop i ops)) tables ≡ r → tables ≡ r
ops_done ops i tables r le e =
    ap (λ (os : List SchemaOp). do_schema_ops (map schema_operation os) tables) (sym (drop_all i ops le)) ∙ e

pub keys_at : (ops : List SchemaOp) (i : ℕ) (op : SchemaOp) → i < length ops → op ≡ get_or ops i op
    → Each HasKeys (map schema_operation ops) → HasKeys (schema_operation op)
keys_at [] i op lt is a = absurd (omega arith)
keys_at (o ∷ os) zero op lt is a = subst (λ (p : SchemaOp). HasKeys (schema_operation p)) (sym is) a.0
keys_at (o ∷ os) (suc i) op lt is a = keys_at os i op (omega arith) is a.1

pub nothing_done : (ops : List SchemaOp) (defs : List TableDef) (old : List TableRecords) → ops ≡ []
    → IsArrangedBy (map schema_operation ops) defs old None
nothing_done ops defs old is = record {
  arranged = tt;
  shown = ap (λ (os : List SchemaOp). do_schema_ops (map schema_operation os) (with_contents defs (map contents old))) (sym is);
}
