-- What steps make of records, as ops on trees.
use Rattle.std.proofs.Common.{◌≡◌, ℕ, ◌+◌, ◌<◌, not, List, [], ◌∷◌, ◌++◌, length, map, take, get_or}
use Rattle.std.proofs.Common.{refl, sym, ap, ◌∙◌, subst, Result, Ok, Err, OnOk, OnErr}
use Rattle.std.proofs.lemmas.List.{map_push, take_more}
use Rattle.std.specs.List.{AllByRecursion as Each}
use Rattle.std.specs.Ordering.{is_eq}
use Rattle.term_core.specs.Order.{same_tree}
use Rattle.term_core.specs.View.{tree_of}
use Rattle.term_core.specs.declared.term.Term.{Term}
use Rattle.db_model.specs.Database.{Contents, put_op}
use Rattle.db_model.specs.Ops.{Operation, write, delete, delete_object, clear}
use Rattle.db_model.specs.View.{operation}
use Rattle.db_model.specs.declared.definition.Kind.{Kind}
use Rattle.db_model.specs.declared.op.Op.{Op}
use Rattle.ram_table.specs.Contents.{TableRecords, put_ops, IsKeyed}
use Rattle.ram_table.specs.Plans.{PlanSteps, operation_of, unnamed, planned, IsMadeFor}
use Rattle.ram_table.specs.Inside.Rows.{key_cmp, AreKeyed, IsIncreasing}
use Rattle.ram_table.specs.Inside.Steps.{done, all_done, HasRoomBehind}
use Rattle.ram_table.specs.declared.step.Step.{Step}
use Rattle.ram_table.specs.declared.step.Step.TheVariants.{Write, Delete, DeleteObject, Clear}
use Rattle.ram_table.proofs.Increasing.{each_filter}
use Rattle.ram_table.proofs.Paged.{each_put}
use Rattle.ram_table.proofs.Rooms.{increasing_done, room_push}
use Rattle.ram_table.proofs.Trees.{HasKey, without_trees, without_row_trees, put_trees}

abbrev pub AreKeyedSteps : List Step → Type 0
AreKeyedSteps steps = Each (λ step. IsKeyed (operation_of step)) steps

done_trees : (kind : Kind) (rows : List Term) (step : Step) → IsIncreasing kind rows → AreKeyed rows → IsKeyed (operation_of step)
    → map tree_of (done kind rows step) ≡ put_op kind (operation_of step) (map tree_of rows)
done_trees kind rows (Write put) r a k = put_trees kind put.row rows r a k
done_trees kind rows (Delete key) r a k = without_trees (tree_of key) rows a
done_trees kind rows (DeleteObject row) r a k = without_row_trees row rows
done_trees kind rows Clear r a k = refl

keyed_done : (kind : Kind) (rows : List Term) (step : Step) → AreKeyed rows → IsKeyed (operation_of step)
    → AreKeyed (done kind rows step)
keyed_done kind rows (Write put) a k = each_put HasKey kind rows put.row a k
keyed_done kind rows (Delete key) a k = each_filter HasKey (λ row. not (is_eq (key_cmp (tree_of key) row))) rows a
keyed_done kind rows (DeleteObject row) a k = each_filter HasKey (λ x. not (same_tree (tree_of x) (tree_of row))) rows a
keyed_done kind rows Clear a k = tt

pub keyed_all_done : (kind : Kind) (rows : List Term) (steps : List Step) → AreKeyed rows → AreKeyedSteps steps
    → AreKeyed (all_done kind rows steps)
keyed_all_done kind rows [] a k = a
keyed_all_done kind rows (step ∷ steps) a k =
    keyed_all_done kind (done kind rows step) steps (keyed_done kind rows step a k.0) k.1

pub all_done_trees : (kind : Kind) (rows : List Term) (steps : List Step) → IsIncreasing kind rows → AreKeyed rows
    → AreKeyedSteps steps → map tree_of (all_done kind rows steps) ≡ put_ops kind (map operation_of steps) (map tree_of rows)
all_done_trees kind rows [] r a k = refl
all_done_trees kind rows (step ∷ steps) r a k =
    all_done_trees kind (done kind rows step) steps (increasing_done kind rows step r) (keyed_done kind rows step a k.0) k.1
    ∙ ap (put_ops kind (map operation_of steps)) (done_trees kind rows step r a k.0)

-- ---- one op more

unnamed_op : (kind : Kind) (op : Operation) (rows : Contents) → put_op kind (unnamed op) rows ≡ put_op kind op rows
unnamed_op kind (write table row) rows = refl
unnamed_op kind (delete table key) rows = refl
unnamed_op kind (delete_object table row) rows = refl
unnamed_op kind (clear table) rows = refl

unnamed_keyed : (op : Operation) → IsKeyed op → IsKeyed (unnamed op)
unnamed_keyed (write table row) k = k
unnamed_keyed (delete table key) k = tt
unnamed_keyed (delete_object table row) k = tt
unnamed_keyed (clear table) k = tt

pub put_ops_push : (kind : Kind) (ops : List Operation) (op : Operation) (rows : Contents)
    → put_ops kind (ops ++ op ∷ []) rows ≡ put_op kind op (put_ops kind ops rows)
put_ops_push kind [] op rows = refl
put_ops_push kind (first ∷ ops) op rows = put_ops_push kind ops op (put_op kind first rows)

pub planned_push : (kind : Kind) (steps : List Step) (step : Step) (op : Operation) (rows : Contents)
    → operation_of step ≡ unnamed op
    → put_ops kind (map operation_of (steps ++ step ∷ [])) rows ≡ put_op kind op (put_ops kind (map operation_of steps) rows)
planned_push kind steps step op rows e =
    ap (λ ops. put_ops kind ops rows) (map_push operation_of steps step)
    ∙ put_ops_push kind (map operation_of steps) (operation_of step) rows
    ∙ ap (λ o. put_op kind o (put_ops kind (map operation_of steps) rows)) e
    ∙ unnamed_op kind op (put_ops kind (map operation_of steps) rows)

keyed_as : (step : Step) (op : Operation) → operation_of step ≡ unnamed op → IsKeyed op → IsKeyed (operation_of step)
keyed_as step op e k = subst IsKeyed (sym e) (unnamed_keyed op k)

keyed_push : (steps : List Step) (step : Step) → IsKeyed (operation_of step) → AreKeyedSteps steps → AreKeyedSteps (steps ++ step ∷ [])
keyed_push [] step k a = (k, tt)
keyed_push (first ∷ steps) step k a = (a.0, keyed_push steps step k a.1)

made_push : (table : TableRecords) (plan : PlanSteps) (step : Step) (op : Operation) → IsIncreasing table.kind table.records
    → IsMadeFor table plan → HasRoomBehind table.kind table.records (length plan.steps) step → operation_of step ≡ unnamed op
    → IsKeyed op → IsMadeFor table (record { steps = plan.steps ++ step ∷ []; count = plan.count })
made_push table plan step op r made room e k = record {
  count = made.count;
  room = room_push table.kind table.records plan.steps step r made.room room;
  keyed = keyed_push plan.steps step (keyed_as step op e k) made.keyed;
}

-- whether or not the step was added
pub made_after : {T E : Type 0} (table : TableRecords) (plan now : PlanSteps) (step : Step) (op : Operation) (r : Result T E)
    → IsIncreasing table.kind table.records → IsMadeFor table plan → HasRoomBehind table.kind table.records (length plan.steps) step
    → operation_of step ≡ unnamed op → IsKeyed op
    → OnOk r (now ≡ record { steps = plan.steps ++ step ∷ []; count = plan.count }) → OnErr r (now ≡ plan) → IsMadeFor table now
made_after table plan now step op (Ok x) i made room e k ok err =
    subst (IsMadeFor table) (sym ok) (made_push table plan step op i made room e k)
made_after table plan now step op (Err x) i made room e k ok err = subst (IsMadeFor table) (sym err) made

-- ---- a plan done

pub applied : (table : TableRecords) (plan : PlanSteps) (rows : List Term) → IsIncreasing table.kind table.records
    → AreKeyed table.records → AreKeyedSteps plan.steps → rows ≡ all_done table.kind table.records plan.steps
    → map tree_of rows ≡ planned table plan
applied table plan rows r a k e =
    ap (map tree_of) e ∙ all_done_trees table.kind table.records plan.steps r a k

-- ---- ops one after another

pub put_ops_more : (kind : Kind) (ops : List Op) (i : ℕ) (op : Op) (rows : Contents) → i < length ops → op ≡ get_or ops i op
    → put_op kind (operation op) (put_ops kind (map operation (take i ops)) rows) ≡ put_ops kind (map operation (take (i + 1) ops)) rows
put_ops_more kind ops i op rows lt e =
    sym (put_ops_push kind (map operation (take i ops)) (operation op) rows)
    ∙ ap (λ all. put_ops kind all rows) (sym (map_push operation (take i ops) op))
    ∙ ap (λ (all : List Op). put_ops kind (map operation all) rows)
    (ap (λ (o : Op). take i ops ++ o ∷ []) e ∙ sym (take_more ops i op lt))
