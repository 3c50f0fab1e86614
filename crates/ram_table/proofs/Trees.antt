-- Records of terms and of trees.
use Rattle.std.proofs.Common.{cond, ◌≡◌, Bool, true, false, not, ◌||◌, if◌then◌else◌, List, [], ◌∷◌, ◌++◌, map}
use Rattle.std.proofs.Common.{refl, sym, ap, ◌∙◌, subst, Option, Some, None}
use Rattle.std.specs.Option.{unwrap_or, IsSome}
use Rattle.std.specs.List.{filter, list_any, AllByRecursion as Each}
use Rattle.std.specs.Ordering.{is_lt, is_eq, is_gt, ordering_then, ordering_reverse}
use Rattle.std.specs.declared.cmp.Ordering.{Ordering}
use Rattle.std.specs.declared.cmp.Ordering.TheVariants.{Less, Equal, Greater}
use Rattle.std.specs.Cmp.{tied_itself}
use Rattle.term_core.specs.Tree.{Tree, tree_cmp, key_of}
use Rattle.term_core.specs.Order.{tree_total, same_tree, same_tree_true}
use Rattle.term_core.specs.View.{tree_of}
use Rattle.term_core.specs.declared.term.Term.{Term}
use Rattle.db_model.specs.Database.{is_key, has_key, has_key_of, records_of, without_key}
use Rattle.db_model.specs.Database.{is_key_below, comes_before, with_record, put_record}
use Rattle.db_model.specs.declared.definition.Kind.{Kind}
use Rattle.db_model.specs.declared.definition.Kind.TheVariants.{Set, OrderedSet, Bag}
use Rattle.ram_table.specs.Contents.{IsInOrder, records_above, first_key, IsLeastKey}
use Rattle.ram_table.specs.Inside.Rows.{row_key, key_cmp, row_cmp, at, above, put, without, without_row, first_row_key}
use Rattle.ram_table.specs.Inside.Rows.{AreKeyed, IsIncreasing}
use Rattle.ram_table.proofs.Increasing.{Lt, each_map, each_filter, each_tested, key_below, key_above, not_above, tied_above}
use Rattle.ram_table.proofs.Increasing.{row_monotone, all_above, keeps_all, keeps_none, lows_are_low, highs_are_high}
use Rattle.ram_table.proofs.Increasing.{increasing_filter}
use Rattle.ram_table.proofs.Paged.{same_ties}

abbrev pub HasKey : Term → Type 0
HasKey row = IsSome (key_of (tree_of row))

-- what a filter keeps, term by term and tree by tree
pub filter_map : (f : Term → Bool) (g : Tree → Bool) (rows : List Term) → Each (λ x. f x ≡ g (tree_of x)) rows
    → map tree_of (filter f rows) ≡ filter g (map tree_of rows)
filter_map f g [] e = refl
filter_map f g (x ∷ rows) e = by (f x) (g (tree_of x)) e.0 (filter_map f g rows e.1)
  where
    by : (b c : Bool) → b ≡ c → map tree_of (filter f rows) ≡ filter g (map tree_of rows)
        → map tree_of (cond b (x ∷ filter f rows) (filter f rows))
        ≡ cond c (tree_of x ∷ filter g (map tree_of rows)) (filter g (map tree_of rows))
    by true true e h = ap (λ trees. tree_of x ∷ trees) h
    by true false e h = absurd cc
    by false true e h = absurd cc
    by false false e h = h

-- ---- orders turned round

lt_turned : (o : Ordering) → is_lt (ordering_reverse o) ≡ is_gt o
lt_turned Less = refl
lt_turned Equal = refl
lt_turned Greater = refl

eq_turned : (o : Ordering) → is_eq (ordering_reverse o) ≡ is_eq o
eq_turned Less = refl
eq_turned Equal = refl
eq_turned Greater = refl

turned : (a b : Tree) → tree_cmp a b ≡ ordering_reverse (tree_cmp b a)
turned = tree_total.antisymm

below_turned : (a b : Tree) → is_lt (tree_cmp a b) ≡ is_gt (tree_cmp b a)
below_turned a b = ap is_lt (turned a b) ∙ lt_turned (tree_cmp b a)

same_turned : (a b : Tree) → same_tree a b ≡ same_tree b a
same_turned a b = ap is_eq (turned a b) ∙ eq_turned (tree_cmp b a)

-- ---- keys

key_is : (k : Tree) (x : Term) → HasKey x → is_eq (key_cmp k x) ≡ has_key k (tree_of x)
key_is k x h = by (key_of (tree_of x)) h
  where
    by : (o : Option Tree) → IsSome o → is_eq (tree_cmp (unwrap_or o (tree_of x)) k) ≡ is_key k o
    by None h = absurd cc
    by (Some own) h = refl

key_is_above : (k : Tree) (x : Term) → HasKey x → is_gt (key_cmp k x) ≡ is_key_below (Some k) (key_of (tree_of x))
key_is_above k x h = by (key_of (tree_of x)) h
  where
    by : (o : Option Tree) → IsSome o → is_gt (tree_cmp (unwrap_or o (tree_of x)) k) ≡ is_key_below (Some k) o
    by None h = absurd cc
    by (Some own) h = sym (below_turned k own)

own_key : (x : Term) → HasKey x → key_of (tree_of x) ≡ Some (row_key x)
own_key x h = by (key_of (tree_of x)) h
  where
    by : (o : Option Tree) → IsSome o → o ≡ Some (unwrap_or o (tree_of x))
    by None h = absurd cc
    by (Some own) h = refl

pub keyed_trees : (rows : List Term) → AreKeyed rows → Each (λ row. IsSome (key_of row)) (map tree_of rows)
keyed_trees [] a = tt
keyed_trees (x ∷ rows) a = (a.0, keyed_trees rows a.1)

-- ---- reads

pub read_trees : (k : Tree) (rows : List Term) → AreKeyed rows → map tree_of (at k rows) ≡ records_of k (map tree_of rows)
read_trees k rows a =
    filter_map (λ x. is_eq (key_cmp k x)) (has_key k) rows
    (each_map HasKey (λ x. is_eq (key_cmp k x) ≡ has_key k (tree_of x)) (key_is k) rows a)

pub above_trees : (k : Tree) (rows : List Term) → AreKeyed rows
    → map tree_of (above k rows) ≡ records_above (Some k) (map tree_of rows)
above_trees k rows a =
    filter_map (λ x. is_gt (key_cmp k x)) (λ t. is_key_below (Some k) (key_of t)) rows
    (each_map HasKey (λ x. is_gt (key_cmp k x) ≡ is_key_below (Some k) (key_of (tree_of x))) (key_is_above k) rows a)

pub first_trees : (rows : List Term) → AreKeyed rows → first_row_key rows ≡ first_key (map tree_of rows)
first_trees [] a = refl
first_trees (x ∷ rows) a = sym (own_key x a.0)

-- ---- the least key

below_own : (k : Tree) (x : Term) → HasKey x → is_key_below (key_of (tree_of x)) (Some k) ≡ is_lt (key_cmp k x)
below_own k x h = by (key_of (tree_of x)) h
  where
    by : (o : Option Tree) → IsSome o → is_key_below o (Some k) ≡ is_lt (tree_cmp (unwrap_or o (tree_of x)) k)
    by None h = absurd cc
    by (Some own) h = refl

-- a later key is not below
later_not_below : (kind : Kind) (x y : Term) → Lt kind x y → is_lt (key_cmp (row_key x) y) ≡ false
later_not_below kind x y l = below_turned (row_key y) (row_key x) ∙ by (tree_cmp (row_key x) (row_key y)) refl
  where
    by : (o : Ordering) → tree_cmp (row_key x) (row_key y) ≡ o → is_gt o ≡ false
    by Less e = refl
    by Equal e = refl
    by Greater e = absurd (not_above kind x y l e)

not_below_all : (kind : Kind) (x : Term) (rows : List Term) → Each (Lt kind x) rows → AreKeyed rows
    → Each (λ row. is_key_below (key_of row) (Some (row_key x)) ≡ false) (map tree_of rows)
not_below_all kind x [] l a = tt
not_below_all kind x (y ∷ rows) l a =
    (below_own (row_key x) y a.0 ∙ later_not_below kind x y l.0, not_below_all kind x rows l.1 a.1)

own_is_key : (x : Term) (rest : Bool) → HasKey x → has_key (row_key x) (tree_of x) || rest ≡ true
own_is_key x rest h = ap (λ b. b || rest) (sym (key_is (row_key x) x h) ∙ ap is_eq (tied_itself tree_total (row_key x)))

pub least_first : (kind : Kind) (rows : List Term) → IsIncreasing kind rows → AreKeyed rows
    → IsLeastKey (first_row_key rows) (map tree_of rows)
least_first kind [] r a = refl
least_first kind (x ∷ rows) r a = (
  own_is_key x (list_any (has_key (row_key x)) (map tree_of rows)) a.0,
  (below_own (row_key x) x a.0 ∙ ap is_lt (tied_itself tree_total (row_key x)), not_below_all kind x rows r.0 a.1),
)

pub least_above : (kind : Kind) (k : Tree) (rows : List Term) → IsIncreasing kind rows → AreKeyed rows
    → IsLeastKey (first_row_key (above k rows)) (records_above (Some k) (map tree_of rows))
least_above kind k rows r a =
    subst (IsLeastKey (first_row_key (above k rows))) (above_trees k rows a)
    (least_first kind (above k rows) (increasing_filter kind (λ x. is_gt (key_cmp k x)) rows r)
    (each_filter HasKey (λ x. is_gt (key_cmp k x)) rows a))

pub first_above_trees : (k : Tree) (rows : List Term) → AreKeyed rows
    → first_row_key (above k rows) ≡ first_key (records_above (Some k) (map tree_of rows))
first_above_trees k rows a =
    first_trees (above k rows) (each_filter HasKey (λ x. is_gt (key_cmp k x)) rows a) ∙ ap first_key (above_trees k rows a)

-- an increasing list is in the order of its keys
pub in_order : (kind : Kind) (rows : List Term) → IsIncreasing kind rows → AreKeyed rows → IsInOrder (map tree_of rows)
in_order kind [] r a = tt
in_order kind (x ∷ rows) r a = (
  subst (λ k. Each (λ row. is_key_below (key_of row) k ≡ false) (map tree_of rows)) (sym (own_key x a.0)) (not_below_all kind x rows r.0 a.1),
  in_order kind rows r.1 a.1,
)

-- ---- deletes

other_key : (k : Tree) (x : Term) → HasKey x → not (is_eq (key_cmp k x)) ≡ not (has_key_of (Some k) (tree_of x))
other_key k x h = ap not (key_is k x h)

pub without_trees : (k : Tree) (rows : List Term) → AreKeyed rows
    → map tree_of (without rows k) ≡ without_key (Some k) (map tree_of rows)
without_trees k rows a =
    filter_map (λ x. not (is_eq (key_cmp k x))) (λ t. not (has_key_of (Some k) t)) rows
    (each_map HasKey (λ x. not (is_eq (key_cmp k x)) ≡ not (has_key_of (Some k) (tree_of x))) (other_key k) rows a)

pub without_row_trees : (row : Term) (rows : List Term)
    → map tree_of (without_row rows row) ≡ filter (λ other. not (same_tree (tree_of row) other)) (map tree_of rows)
without_row_trees row rows =
    filter_map (λ x. not (same_tree (tree_of x) (tree_of row))) (λ other. not (same_tree (tree_of row) other)) rows (each rows)
  where
    each : (xs : List Term) → Each (λ x. not (same_tree (tree_of x) (tree_of row)) ≡ not (same_tree (tree_of row) (tree_of x))) xs
    each [] = tt
    each (x ∷ xs) = (ap not (same_turned (tree_of x) (tree_of row)), each xs)

-- ---- writes

-- an increasing list without what ties is what is below, and then what is above
parted : (kind : Kind) (row : Term) (rows : List Term) → IsIncreasing kind rows
    → filter (λ x. not (is_eq (row_cmp kind x row))) rows
    ≡ filter (λ x. is_lt (row_cmp kind x row)) rows ++ filter (λ x. is_gt (row_cmp kind x row)) rows
parted kind row [] r = refl
parted kind row (x ∷ rows) r = by (row_cmp kind x row) refl (parted kind row rows r.1)
  where
    by : (o : Ordering) → row_cmp kind x row ≡ o
        → filter (λ y. not (is_eq (row_cmp kind y row))) rows
        ≡ filter (λ y. is_lt (row_cmp kind y row)) rows ++ filter (λ y. is_gt (row_cmp kind y row)) rows
        → cond (not (is_eq o)) (x ∷ filter (λ y. not (is_eq (row_cmp kind y row))) rows)
        (filter (λ y. not (is_eq (row_cmp kind y row))) rows)
        ≡ cond (is_lt o) (x ∷ filter (λ y. is_lt (row_cmp kind y row)) rows) (filter (λ y. is_lt (row_cmp kind y row)) rows)
        ++ cond (is_gt o) (x ∷ filter (λ y. is_gt (row_cmp kind y row)) rows) (filter (λ y. is_gt (row_cmp kind y row)) rows)
    by Less e h = ap (λ (t : List Term). x ∷ t) h
    by Equal e h = h
    by Greater e h =
        let all : Each (λ y. row_cmp kind y row ≡ Greater) rows =
        (all_above kind (λ y. row_cmp kind y row) (row_monotone kind row) x rows r e).1 in
        let none : filter (λ y. is_lt (row_cmp kind y row)) rows ≡ [] =
        keeps_none (λ y. is_lt (row_cmp kind y row)) rows
        (each_tested (λ y. row_cmp kind y row) Greater is_lt false refl rows all) in
        ap (λ (t : List Term). x ∷ t) h ∙ rw none refl

-- the test of with_record
then_turned : (a b c d : Ordering) → b ≡ ordering_reverse a → d ≡ ordering_reverse c
    → (if is_eq a then is_lt d else is_lt b) ≡ is_gt (ordering_then a c)
then_turned Less b c d e f = ap is_lt e
then_turned Equal b c d e f = ap is_lt f ∙ lt_turned c
then_turned Greater b c d e f = ap is_lt e

comes_before_is : (row x : Term) → HasKey row → HasKey x → comes_before (tree_of row) (tree_of x) ≡ is_gt (row_cmp Bag x row)
comes_before_is row x h g = by (key_of (tree_of row)) h
  where
    own : Tree
    own = tree_of row

    other : Tree
    other = tree_of x

    by_both : (k : Tree) (p : Option Tree) → IsSome p
        → (if is_key k p then is_lt (tree_cmp own other) else is_key_below (Some k) p)
        ≡ is_gt (ordering_then (tree_cmp (unwrap_or p other) k) (tree_cmp other own))
    by_both k None g = absurd cc
    by_both k (Some l) g =
        then_turned (tree_cmp l k) (tree_cmp k l) (tree_cmp other own) (tree_cmp own other) (turned k l) (turned own other)

    by : (o : Option Tree) → IsSome o
        → (if has_key_of o other then is_lt (tree_cmp own other) else is_key_below o (key_of other))
        ≡ is_gt (ordering_then (tree_cmp (row_key x) (unwrap_or o own)) (tree_cmp other own))
    by None h = absurd cc
    by (Some k) h = by_both k (key_of (tree_of x)) g

-- a record is inserted behind all that it does not come before
insert_trees : (row : Term) (xs ys : List Term) → Each (λ x. comes_before (tree_of row) (tree_of x) ≡ false) xs
    → Each (λ y. comes_before (tree_of row) (tree_of y) ≡ true) ys
    → with_record (tree_of row) (map tree_of (xs ++ ys)) ≡ map tree_of (xs ++ row ∷ ys)
insert_trees row [] [] a b = refl
insert_trees row [] (y ∷ ys) a b = rw b.0 refl
insert_trees row (x ∷ xs) ys a b = rw a.0 (ap (λ trees. tree_of x ∷ trees) (insert_trees row xs ys a.1 b))

lows_stay : (row : Term) (xs : List Term) → HasKey row → AreKeyed xs → Each (λ x. row_cmp Bag x row ≡ Less) xs
    → Each (λ x. comes_before (tree_of row) (tree_of x) ≡ false) xs
lows_stay row [] h a l = tt
lows_stay row (x ∷ xs) h a l = (comes_before_is row x h a.0 ∙ ap is_gt l.0, lows_stay row xs h a.1 l.1)

highs_follow : (row : Term) (xs : List Term) → HasKey row → AreKeyed xs → Each (λ x. row_cmp Bag x row ≡ Greater) xs
    → Each (λ x. comes_before (tree_of row) (tree_of x) ≡ true) xs
highs_follow row [] h a l = tt
highs_follow row (x ∷ xs) h a l = (comes_before_is row x h a.0 ∙ ap is_gt l.0, highs_follow row xs h a.1 l.1)

-- the order of a kind says what the order of keys and records does
abbrev IsAsBag : Kind → Term → Ordering → Type 0
IsAsBag kind row o = (x : Term) → row_cmp kind x row ≡ o → row_cmp Bag x row ≡ o

insert_parted : (kind : Kind) (row : Term) (rows : List Term) → IsAsBag kind row Less → IsAsBag kind row Greater
    → AreKeyed rows → HasKey row
    → with_record (tree_of row) (map tree_of (filter (λ x. is_lt (row_cmp kind x row)) rows ++ filter (λ x. is_gt (row_cmp kind x row))
    rows))
    ≡ map tree_of (put kind rows row)
insert_parted kind row rows low high a h =
    let lows = filter (λ x. is_lt (row_cmp kind x row)) rows in
    let highs = filter (λ x. is_gt (row_cmp kind x row)) rows in
    insert_trees row lows highs
    (lows_stay row lows h (each_filter HasKey (λ x. is_lt (row_cmp kind x row)) rows a)
    (each_map (λ x. row_cmp kind x row ≡ Less) (λ x. row_cmp Bag x row ≡ Less) low lows (lows_are_low (λ x. row_cmp kind x row) rows)))
    (highs_follow row highs h (each_filter HasKey (λ x. is_gt (row_cmp kind x row)) rows a)
    (each_map (λ x. row_cmp kind x row ≡ Greater) (λ x. row_cmp Bag x row ≡ Greater) high highs
    (highs_are_high (λ x. row_cmp kind x row) rows)))

-- where a key has one record
put_by_key : (kind : Kind) (row : Term) (rows : List Term)
    → (λ (x : Term). row_cmp kind x row) ≡ key_cmp (row_key row) → IsAsBag kind row Less → IsAsBag kind row Greater
    → IsIncreasing kind rows → AreKeyed rows → HasKey row
    → with_record (tree_of row) (without_key (key_of (tree_of row)) (map tree_of rows)) ≡ map tree_of (put kind rows row)
put_by_key kind row rows same low high r a h =
    ap (λ o. with_record (tree_of row) (without_key o (map tree_of rows))) (own_key row h)
    ∙ ap (with_record (tree_of row)) (sym (without_trees (row_key row) rows a))
    ∙ ap (λ (s : Term → Ordering). with_record (tree_of row) (map tree_of (filter (λ x. not (is_eq (s x))) rows))) (sym same)
    ∙ ap (λ (t : List Term). with_record (tree_of row) (map tree_of t)) (parted kind row rows r)
    ∙ insert_parted kind row rows low high a h

-- in a bag, what ties is the same
then_eq : (a b : Ordering) → is_eq (ordering_then a b) ≡ true → is_eq b ≡ true
then_eq Less b h = absurd cc
then_eq Equal b h = h
then_eq Greater b h = absurd cc

tied_is_same : (row x : Term) → is_eq (row_cmp Bag x row) ≡ true → same_tree (tree_of row) (tree_of x) ≡ true
tied_is_same row x h =
    same_turned (tree_of row) (tree_of x) ∙ then_eq (tree_cmp (row_key x) (row_key row)) (tree_cmp (tree_of x) (tree_of row)) h

other_is_untied : (row x : Term) (o : Ordering) → row_cmp Bag x row ≡ o → is_eq o ≡ false → same_tree (tree_of row) (tree_of x) ≡ false
other_is_untied row x o e n = by (same_tree (tree_of row) (tree_of x)) refl
  where
    by : (b : Bool) → same_tree (tree_of row) (tree_of x) ≡ b → b ≡ false
    by true s =
        let tie : row_cmp Bag x row ≡ Equal = same_ties Bag x row (sym (same_tree_true (tree_of row) (tree_of x) s)) in
        absurd (let wrong : true ≡ false = ap is_eq (sym tie ∙ e) ∙ n in cc)
    by false s = refl

none_same : (row : Term) (rows : List Term) → list_any (same_tree (tree_of row)) (map tree_of rows) ≡ false
    → filter (λ x. not (is_eq (row_cmp Bag x row))) rows ≡ rows
none_same row [] e = refl
none_same row (x ∷ rows) e =
    by (same_tree (tree_of row) (tree_of x)) (is_eq (row_cmp Bag x row)) e (tied_is_same row x) (none_same row rows)
  where
    by : (b c : Bool) → b || list_any (same_tree (tree_of row)) (map tree_of rows) ≡ false → (c ≡ true → b ≡ true)
        → (list_any (same_tree (tree_of row)) (map tree_of rows) ≡ false → filter (λ y. not (is_eq (row_cmp Bag y row))) rows ≡ rows)
        → cond (not c) (x ∷ filter (λ y. not (is_eq (row_cmp Bag y row))) rows) (filter (λ y. not (is_eq (row_cmp Bag y row))) rows)
        ≡ x ∷ rows
    by true c e t h = absurd (let wrong : true ≡ false = e in cc)
    by false true e t h = absurd (let wrong : false ≡ true = t refl in cc)
    by false false e t h = ap (λ (t : List Term). x ∷ t) (h e)

none_among : (row : Term) (xs : List Term) → Each (λ x. row_cmp Bag x row ≡ Greater) xs
    → list_any (same_tree (tree_of row)) (map tree_of xs) ≡ false
none_among row [] g = refl
none_among row (x ∷ xs) g = rw (other_is_untied row x Greater g.0 refl) (none_among row xs g.1)

one_same : (row : Term) (rows : List Term) → IsIncreasing Bag rows
    → list_any (same_tree (tree_of row)) (map tree_of rows) ≡ true → map tree_of rows ≡ map tree_of (put Bag rows row)
one_same row [] r e = absurd (let wrong : false ≡ true = e in cc)
one_same row (x ∷ rows) r e = by (row_cmp Bag x row) refl (one_same row rows r.1)
  where
    by : (o : Ordering) → row_cmp Bag x row ≡ o
        → (list_any (same_tree (tree_of row)) (map tree_of rows) ≡ true → map tree_of rows ≡ map tree_of (put Bag rows row))
        → tree_of x ∷ map tree_of rows
        ≡ map tree_of (cond (is_lt o) (x ∷ filter (λ y. is_lt (row_cmp Bag y row)) rows) (filter (λ y. is_lt (row_cmp Bag y row)) rows)
        ++ row ∷ cond (is_gt o) (x ∷ filter (λ y. is_gt (row_cmp Bag y row)) rows) (filter (λ y. is_gt (row_cmp Bag y row)) rows))
    by Less o h = ap (λ trees. tree_of x ∷ trees) (h (rw (other_is_untied row x Less o refl) at e))
    by Equal o h =
        let all : Each (λ y. row_cmp Bag y row ≡ Greater) rows =
        each_map (Lt Bag x) (λ y. row_cmp Bag y row ≡ Greater) (λ y l. tied_above Bag row x y o l) rows r.0 in
        let none : filter (λ y. is_lt (row_cmp Bag y row)) rows ≡ [] =
        keeps_none (λ y. is_lt (row_cmp Bag y row)) rows (each_tested (λ y. row_cmp Bag y row) Greater is_lt false refl rows all) in
        let rest : filter (λ y. is_gt (row_cmp Bag y row)) rows ≡ rows =
        keeps_all (λ y. is_gt (row_cmp Bag y row)) rows (each_tested (λ y. row_cmp Bag y row) Greater is_gt true refl rows all) in
        let same : tree_of row ≡ tree_of x = same_tree_true (tree_of row) (tree_of x) (tied_is_same row x (ap is_eq o)) in
        ap (λ (t : Tree). t ∷ map tree_of rows) (sym same) ∙ rw (none, rest) refl
    by Greater o h =
        let all : Each (λ y. row_cmp Bag y row ≡ Greater) (x ∷ rows) =
        all_above Bag (λ y. row_cmp Bag y row) (row_monotone Bag row) x rows r o in
        absurd (let wrong : false ≡ true = sym (none_among row (x ∷ rows) all) ∙ e in cc)

put_in_bag : (row : Term) (rows : List Term) → IsIncreasing Bag rows → AreKeyed rows → HasKey row
    → put_record Bag (tree_of row) (map tree_of rows) ≡ map tree_of (put Bag rows row)
put_in_bag row rows r a h = by (list_any (same_tree (tree_of row)) (map tree_of rows)) refl
  where
    by : (b : Bool) → list_any (same_tree (tree_of row)) (map tree_of rows) ≡ b
        → (if b then map tree_of rows else with_record (tree_of row) (map tree_of rows)) ≡ map tree_of (put Bag rows row)
    by true e = one_same row rows r e
    by false e =
        ap (λ (t : List Term). with_record (tree_of row) (map tree_of t)) (sym (none_same row rows e) ∙ parted Bag row rows r)
        ∙ insert_parted Bag row rows (λ x l. l) (λ x l. l) a h

pub put_trees : (kind : Kind) (row : Term) (rows : List Term) → IsIncreasing kind rows → AreKeyed rows → HasKey row
    → map tree_of (put kind rows row) ≡ put_record kind (tree_of row) (map tree_of rows)
put_trees Set row rows r a h =
    sym (put_by_key Set row rows refl (λ x l. key_below Bag x row l) (λ x l. key_above Bag x row l) r a h)
put_trees OrderedSet row rows r a h =
    sym (put_by_key OrderedSet row rows refl (λ x l. key_below Bag x row l) (λ x l. key_above Bag x row l) r a h)
put_trees Bag row rows r a h = sym (put_in_bag row rows r a h)
