-- Room for the steps of a plan.
use Rattle.std.proofs.Common.{cond, ◌≡◌, ℕ, ◌+◌, ◌<◌, ◌≤◌, Bool, true, false, not, List, [], ◌∷◌, ◌++◌, length}
use Rattle.std.proofs.Common.{refl, sym, ap, ◌∙◌, inl, inr, arith, length-append}
use Rattle.std.proofs.lemmas.Bool.{cases_lt}
use Rattle.std.specs.List.{filter, AllByRecursion as Each}
use Rattle.std.specs.Ordering.{is_lt, is_eq, is_gt}
use Rattle.std.specs.declared.cmp.Ordering.{Ordering}
use Rattle.std.specs.declared.cmp.Ordering.TheVariants.{Less, Equal, Greater}
use Rattle.std.proofs.lemmas.List.Elements.{filter-append}
use Rattle.term_core.specs.Tree.{Tree}
use Rattle.term_core.specs.Order.{tree_total, same_tree}
use Rattle.term_core.specs.View.{tree_of}
use Rattle.term_core.specs.declared.term.Term.{Term}
use Rattle.db_model.specs.declared.definition.Kind.{Kind}
use Rattle.db_model.specs.declared.definition.Kind.TheVariants.{Set, OrderedSet, Bag}
use Rattle.ram_table.specs.Inside.Rows.{row_key, key_cmp, row_cmp, at, put, IsKeyLess, IsIncreasing}
use Rattle.ram_table.specs.Inside.Pages.{room_for}
use Rattle.ram_table.specs.Inside.Steps.{done, all_done, most_of_key, HasRoomBehind, HasRoom, HaveRoom}
use Rattle.ram_table.specs.declared.step.Step.{Step}
use Rattle.ram_table.specs.declared.step.Step.TheVariants.{Write, Delete, DeleteObject, Clear}
use Rattle.ram_table.proofs.Increasing.{Lt, each_map, each_tested, keeps_none, reversed, increasing_put, increasing_filter}

-- a filter keeps no more of a key
fewer : (k : Tree) (f : Term → Bool) (rows : List Term) → length (at k (filter f rows)) ≤ length (at k rows)
fewer k f [] = omega arith
fewer k f (x ∷ rows) = by (f x) (is_eq (key_cmp k x)) (filter f rows) refl (fewer k f rows)
  where
    by : (b c : Bool) (ys : List Term) → is_eq (key_cmp k x) ≡ c → length (at k ys) ≤ length (at k rows)
        → length (at k (cond b (x ∷ ys) ys)) ≤ length (cond c (x ∷ at k rows) (at k rows))
    by true true ys e h = rw e (omega arith)
    by true false ys e h = rw e h
    by false true ys e h = omega arith
    by false false ys e h = h

-- nor do two that keep nothing in common
disjoint : (k : Tree) (s : Term → Ordering) (rows : List Term)
    → length (at k (filter (λ x. is_lt (s x)) rows)) + length (at k (filter (λ x. is_gt (s x)) rows)) ≤ length (at k rows)
disjoint k s [] = omega arith
disjoint k s (x ∷ rows) = by (s x) (is_eq (key_cmp k x)) (filter (λ y. is_lt (s y)) rows) (filter (λ y. is_gt (s y)) rows) refl
    (disjoint k s rows)
  where
    by : (o : Ordering) (c : Bool) (ys zs : List Term) → is_eq (key_cmp k x) ≡ c → length (at k ys) + length (at k zs) ≤ length (at k rows)
        → length (at k (cond (is_lt o) (x ∷ ys) ys)) + length (at k (cond (is_gt o) (x ∷ zs) zs)) ≤ length
        (cond c (x ∷ at k rows) (at k rows))
    by Less true ys zs e h = rw e (omega arith)
    by Less false ys zs e h = rw e h
    by Equal true ys zs e h = omega arith
    by Equal false ys zs e h = h
    by Greater true ys zs e h = rw e (omega arith)
    by Greater false ys zs e h = rw e h

one_more_at : (k : Tree) (row : Term) (zs : List Term) → length (at k (row ∷ zs)) ≤ length (at k zs) + 1
one_more_at k row zs = by (is_eq (key_cmp k row)) (at k zs)
  where
    by : (c : Bool) (ys : List Term) → length (cond c (row ∷ ys) ys) ≤ length ys + 1
    by true ys = omega arith
    by false ys = omega arith

at_put : (kind : Kind) (k : Tree) (rows : List Term) (row : Term) → length (at k (put kind rows row)) ≤ length (at k rows) + 1
at_put kind k rows row =
    let low = filter (λ x. is_lt (row_cmp kind x row)) rows in
    let high = filter (λ x. is_gt (row_cmp kind x row)) rows in
    omega (
      arith,
      ap (length {A = Term}) (filter-append (λ x. is_eq (key_cmp k x)) low (row ∷ high)),
      length-append (at k low)
          (at k (row ∷ high)),
      one_more_at k row high,
      disjoint k (λ x. row_cmp kind x row) rows,
    )

-- a step makes at most one record more of a key
at_done : (kind : Kind) (k : Tree) (rows : List Term) (step : Step) → length (at k (done kind rows step)) ≤ length (at k rows) + 1
at_done kind k rows (Write write) = at_put kind k rows write.row
at_done kind k rows (Delete key) = omega (arith, fewer k (λ row. not (is_eq (key_cmp (tree_of key) row))) rows)
at_done kind k rows (DeleteObject row) = omega (arith, fewer k (λ x. not (same_tree (tree_of x) (tree_of row))) rows)
at_done kind k rows Clear = omega arith

at_all_done : (kind : Kind) (k : Tree) (rows : List Term) (steps : List Step)
    → length (at k (all_done kind rows steps)) ≤ length (at k rows) + length steps
at_all_done kind k rows [] = omega arith
at_all_done kind k rows (step ∷ steps) =
    omega (arith, at_all_done kind k (done kind rows step) steps, at_done kind k rows step)

-- steps keep the order
pub increasing_done : (kind : Kind) (rows : List Term) (step : Step) → IsIncreasing kind rows → IsIncreasing kind (done kind rows step)
increasing_done kind rows (Write write) r = increasing_put kind rows write.row r
increasing_done kind rows (Delete key) r = increasing_filter kind (λ row. not (is_eq (key_cmp (tree_of key) row))) rows r
increasing_done kind rows (DeleteObject row) r =
    increasing_filter kind (λ x. not (same_tree (tree_of x) (tree_of row))) rows r
increasing_done kind rows Clear r = tt

increasing_all_done : (kind : Kind) (rows : List Term) (steps : List Step)
    → IsIncreasing kind rows → IsIncreasing kind (all_done kind rows steps)
increasing_all_done kind rows [] r = r
increasing_all_done kind rows (step ∷ steps) r =
    increasing_all_done kind (done kind rows step) steps (increasing_done kind rows step r)

-- what comes after a record with the key is above the key
later_above : (k : Tree) (x y : Term) → key_cmp k x ≡ Equal → IsKeyLess x y → key_cmp k y ≡ Greater
later_above k x y e l = reversed tree_total k (row_key y) Less (sym (tree_total.congr (row_key x) k (row_key y) e) ∙ l)

-- where keys are less, one after another, a key has at most one record
once : (kind : Kind) → ((x y : Term) → Lt kind x y → IsKeyLess x y) → (k : Tree) (rows : List Term)
    → IsIncreasing kind rows → length (at k rows) ≤ 1
once kind less k [] r = omega arith
once kind less k (x ∷ rows) r = by (key_cmp k x) refl (once kind less k rows r.1)
  where
    by : (o : Ordering) → key_cmp k x ≡ o → length (at k rows) ≤ 1 → length (cond (is_eq o) (x ∷ at k rows) (at k rows)) ≤ 1
    by Less e h = h
    by Equal e h =
        let later : Each (λ y. key_cmp k y ≡ Greater) rows =
        each_map (Lt kind x) (λ y. key_cmp k y ≡ Greater) (λ y l. later_above k x y e (less x y l)) rows r.0 in
        let none : at k rows ≡ [] =
        keeps_none (λ y. is_eq (key_cmp k y)) rows (each_tested (key_cmp k) Greater is_eq false refl rows later) in
        omega (arith, ap (length {A = Term}) none)
    by Greater e h = h

-- how many records a key has behind the steps
most_behind : (kind : Kind) (k : Tree) (rows : List Term) (steps : List Step)
    → IsIncreasing kind rows → length (at k (all_done kind rows steps)) ≤ most_of_key kind k rows (length steps)
most_behind Set k rows steps r = once Set (λ x y l. l) k (all_done Set rows steps) (increasing_all_done Set rows steps r)
most_behind OrderedSet k rows steps r =
    once OrderedSet (λ x y l. l) k (all_done OrderedSet rows steps) (increasing_all_done OrderedSet rows steps r)
most_behind Bag k rows steps r = at_all_done Bag k rows steps

has_room : (kind : Kind) (rows : List Term) (steps : List Step) (step : Step)
    → IsIncreasing kind rows → HasRoomBehind kind rows (length steps) step → HasRoom (all_done kind rows steps) step
has_room kind rows steps (Write write) r h = omega (arith, most_behind kind (row_key write.row) rows steps r, h)
has_room kind rows steps (Delete key) r h = tt
has_room kind rows steps (DeleteObject row) r h = tt
has_room kind rows steps Clear r h = tt

have_room : (kind : Kind) (rows : List Term) (steps : List Step) (step : Step)
    → HaveRoom kind rows steps → HasRoom (all_done kind rows steps) step → HaveRoom kind rows (steps ++ step ∷ [])
have_room kind rows [] step h p = (p, tt)
have_room kind rows (first ∷ steps) step h p = (h.0, have_room kind (done kind rows first) steps step h.1 p)

-- one more step has room
pub room_push : (kind : Kind) (rows : List Term) (steps : List Step) (step : Step)
    → IsIncreasing kind rows → HaveRoom kind rows steps → HasRoomBehind kind rows (length steps) step
    → HaveRoom kind rows (steps ++ step ∷ [])
room_push kind rows steps step r h p = have_room kind rows steps step h (has_room kind rows steps step r p)

-- the room that a plan brings serves the records that there are behind it
pub roomy_after : (count steps result own list now : ℕ) → result ≤ count + steps → room_for count ≤ own
    → (room_for count < room_for (count + steps) → room_for (count + steps) ≤ list) → own ≤ now → list ≤ now → room_for result ≤ now
roomy_after count steps result own list now le first more a b =
    elim (cases_lt (room_for count) (room_for (count + steps))) [
      | inl lt ↦ (let enough : room_for (count + steps) ≤ list = more lt in omega arith)
      | inr ge ↦ omega arith
    ]
