-- Ops one after another.
use Rattle.std.proofs.Common.{◌≡◌, ℕ, zero, suc, ◌+◌, ◌<◌, ◌≤◌, Bool, true, false, if◌then◌else◌, List, [], ◌∷◌, length, get_or, drop, map}
use Rattle.std.proofs.Common.{refl, sym, ap, ◌∙◌, subst, arith, Some}
use Rattle.std.specs.Prelude.{All, IsSome, IsSomeAnd}
use Rattle.std.specs.List.{AllByRecursion as Each}
use Rattle.std.proofs.lemmas.List.{drop_more, drop_all, length-map}
use Rattle.std.proofs.lemmas.List.Elements.{All-head, All-tail}
use Rattle.term_core.specs.Tree.{Tree, int, atom, tuple, list, bin, no_trees, tree, key_of}
use Rattle.term_core.specs.View.{tree_of}
use Rattle.db_model.specs.Commits.{SchemaOperation, create, drop_table, add_index, del_index, remake}
use Rattle.db_model.specs.Database.{Table, do_op, do_ops, do_schema_op}
use Rattle.db_model.specs.Lawful.{table_in, AllApply, IsAllowedIn}
use Rattle.db_model.specs.Ops.{Operation, write, delete, delete_object, clear, table_of}
use Rattle.db_model.specs.Records.{HasElements, Allows}
use Rattle.db_model.specs.View.{definition, operation}
use Rattle.db_model.specs.declared.definition.TableDef.{TableDef}
use Rattle.db_model.specs.declared.op.Op.{Op}
use Rattle.ram_table.specs.Contents.{TableRecords, contents, IsKeyed}
use Rattle.db_state.specs.Live.{with_contents, AreTables, HasKey, is_named}
use Rattle.db_state.specs.Inside.Slots.{HasKeys}

pub op_planned : (ops : List Op) (i : ℕ) (op : Op) (before after r : List Table) → i < length ops → op ≡ get_or ops i op
    → after ≡ do_op (operation op) before → do_ops (map operation (drop i ops)) before ≡ r
    → do_ops (map operation (drop (i + 1) ops)) after ≡ r
op_planned ops i op before after r lt is done e =
    ap (do_ops (map operation (drop (i + 1) ops))) done
    ∙ ap (λ (os : List Op). do_ops (map operation os) before)
    (ap (λ (o : Op). o ∷ drop (i + 1) ops) is ∙ sym (drop_more ops i op lt))
    ∙ e

pub all_planned : (ops : List Op) (i : ℕ) (tables r : List Table) → length ops ≤ i → do_ops (map operation (drop i ops)) tables ≡ r
    → tables ≡ r
all_planned ops i tables r le e = ap (λ (os : List Op). do_ops (map operation os) tables) (sym (drop_all i ops le)) ∙ e

pub keyed_at : (ops : List Op) (i : ℕ) (op : Op) → i < length ops → op ≡ get_or ops i op → Each IsKeyed (map operation ops)
    → IsKeyed (operation op)
keyed_at [] i op lt is a = absurd (omega arith)
keyed_at (o ∷ os) zero op lt is a = subst (λ (p : Op). IsKeyed (operation p)) (sym is) a.0
keyed_at (o ∷ os) (suc i) op lt is a = keyed_at os i op (omega arith) is a.1

-- ---- what a table allows has a key

key_of_record : (def : TableDef) (row : Tree) → HasKey def → HasElements (definition def) row → IsSome (key_of row)
key_of_record def (int n) k h = absurd h
key_of_record def (atom a) k h = absurd h
key_of_record def (list ts) k h = absurd h
key_of_record def (bin b) k h = absurd h
key_of_record def (tuple no_trees) k h = absurd h
key_of_record def (tuple (tree (int n) ts)) k h = absurd h
key_of_record def (tuple (tree (tuple us) ts)) k h = absurd h
key_of_record def (tuple (tree (list us) ts)) k h = absurd h
key_of_record def (tuple (tree (bin b) ts)) k h = absurd h
key_of_record def (tuple (tree (atom a) no_trees)) k h =
    let many = length-map def.attributes tree_of in let same = h.1 in absurd (omega arith)
key_of_record def (tuple (tree (atom a) (tree key ts))) k h = refl

allowed_keyed : (def : TableDef) (op : Operation) → HasKey def → Allows (definition def) op → IsKeyed op
allowed_keyed def (write table row) k a = key_of_record def row k a.0
allowed_keyed def (delete table key) k a = tt
allowed_keyed def (delete_object table row) k a = tt
allowed_keyed def (clear table) k a = tt

pub found_keyed : (name : List ℕ) (op : Operation) (defs : List TableDef) (tables : List TableRecords) → AreTables defs tables
    → IsSomeAnd (table_in name (with_contents defs (map contents tables))) (λ table. Allows table.definition op) → IsKeyed op
found_keyed name op [] tables fit a = absurd a
found_keyed name op (d ∷ ds) [] fit a = absurd fit
found_keyed name op (d ∷ ds) (t ∷ ts) fit a = by (is_named name d) a (found_keyed name op ds ts fit.1)
  where
    by : (b : Bool)
        → IsSomeAnd (if b then Some (record { definition = definition d; contents = contents t })
        else table_in name (with_contents ds (map contents ts))) (λ (table : Table). Allows table.definition op)
        → (IsSomeAnd (table_in name (with_contents ds (map contents ts))) (λ (table : Table). Allows table.definition op) → IsKeyed op)
        → IsKeyed op
    by true allowed later = allowed_keyed d op fit.0.keyed allowed
    by false allowed later = later allowed

pub all_keyed : (ops : List Operation) (after : List Table) (defs : List TableDef) (tables : List TableRecords) → AreTables defs tables
    → with_contents defs (map contents tables) ≡ after → All (IsAllowedIn after) ops → Each IsKeyed ops
all_keyed [] after defs tables fit e a = tt
all_keyed (op ∷ ops) after defs tables fit e a = (
  found_keyed (table_of op) op defs tables fit
      (subst (λ (ts : List Table). IsAllowedIn ts op) (sym e) (All-head (IsAllowedIn after) op ops a)),
  all_keyed ops after defs tables fit e (All-tail (IsAllowedIn after) op ops a),
)

pub all_keys : (ops : List SchemaOperation) (tables : List Table) → AllApply ops tables → Each HasKeys ops
all_keys [] tables a = tt
all_keys (create definition ∷ ops) tables a =
    let some = a.0.0.attributes.some in (omega arith, all_keys ops (do_schema_op (create definition) tables) a.1)
all_keys (drop_table name ∷ ops) tables a = (tt, all_keys ops (do_schema_op (drop_table name) tables) a.1)
all_keys (add_index name position ∷ ops) tables a = (tt, all_keys ops (do_schema_op (add_index name position) tables) a.1)
all_keys (del_index name position ∷ ops) tables a = (tt, all_keys ops (do_schema_op (del_index name position) tables) a.1)
all_keys (remake definition ∷ ops) tables a =
    let some = a.0.0.attributes.some in (omega arith, all_keys ops (do_schema_op (remake definition) tables) a.1)
