-- The records of one key under ops.
use Rattle.std.proofs.Common.{◌≡◌, ℕ, zero, suc, Bool, true, false, not, ◌&&◌, ◌||◌, cond, List, [], ◌∷◌, filter, map, drop, Option}
use Rattle.std.proofs.Common.{None, Some, IsSome, refl, sym, ap, subst, ◌∙◌}
use Rattle.std.specs.List.{list_any, slice_get, AllByRecursion as Each}
use Rattle.std.specs.Ordering.{is_lt}
use Rattle.std.specs.declared.cmp.Ordering.{Ordering}
use Rattle.std.specs.declared.cmp.Ordering.TheVariants.{Less, Equal, Greater}
use Rattle.std.specs.Cmp.{tied_itself}
use Rattle.term_core.specs.Tree.{Tree, key_of, tree_cmp}
use Rattle.term_core.specs.Order.{tree_total, same_tree, same_tree_true}
use Rattle.db_model.specs.Database.{Contents, is_key, has_key, has_key_of, records_of, without_key, is_key_below}
use Rattle.db_model.specs.Database.{comes_before, with_record, put_op}
use Rattle.db_model.specs.Ops.{Operation, write, delete, delete_object, clear}
use Rattle.db_model.specs.View.{operation}
use Rattle.db_model.specs.declared.definition.Kind.{Kind}
use Rattle.db_model.specs.declared.definition.Kind.TheVariants.{Set, OrderedSet, Bag}
use Rattle.db_model.specs.declared.op.Op.{Op}
use Rattle.ram_table.specs.Contents.{put_ops, IsInOrder}
use Rattle.txn_writes.specs.Seen.{key_changed, is_on, changes}
use Rattle.txn_writes.specs.Places.{ops_at, places_at, HasKey, AreWrites}
use Rattle.txn_writes.specs.declared.places.Places.{Places}
use Rattle.txn_writes.specs.Replays.{with_found, ops_of, is_fresh, starts_fresh, HaveKey, ChangeKey}

-- ---- filters

filters_swap : (p q : Tree → Bool) (rows : Contents) → filter p (filter q rows) ≡ filter q (filter p rows)
filters_swap p q [] = refl
filters_swap p q (x ∷ rows) = by (p x) (q x) refl refl (filters_swap p q rows)
  where
    by : (b c : Bool) → p x ≡ b → q x ≡ c → filter p (filter q rows) ≡ filter q (filter p rows)
        → filter p (cond c (x ∷ filter q rows) (filter q rows)) ≡ filter q (cond b (x ∷ filter p rows) (filter p rows))
    by true true px qx ih = rw (px, qx) (ap (λ (t : Contents). x ∷ t) ih)
    by true false px qx ih = rw qx ih
    by false true px qx ih = rw px ih
    by false false px qx ih = ih

-- a filter that keeps all that the other one keeps
pub spared : (p q : Tree → Bool) → ((x : Tree) → p x ≡ true → q x ≡ true) → (rows : Contents) → filter p (filter q rows) ≡ filter p rows
spared p q f [] = refl
spared p q f (x ∷ rows) = by (p x) (q x) refl refl (f x) (spared p q f rows)
  where
    by : (b c : Bool) → p x ≡ b → q x ≡ c → (p x ≡ true → q x ≡ true) → filter p (filter q rows) ≡ filter p rows
        → filter p (cond c (x ∷ filter q rows) (filter q rows)) ≡ cond b (x ∷ filter p rows) (filter p rows)
    by true true px qx f ih = rw px (ap (λ (t : Contents). x ∷ t) ih)
    by true false px qx f ih = absurd (let wrong : false ≡ true = sym qx ∙ f px in cc)
    by false true px qx f ih = rw px ih
    by false false px qx f ih = ih

any_within : (row : Tree) (p : Tree → Bool) → p row ≡ true → (rows : Contents)
    → list_any (same_tree row) rows ≡ list_any (same_tree row) (filter p rows)
any_within row p own [] = refl
any_within row p own (x ∷ rows) = by (same_tree row x) (p x) refl refl (any_within row p own rows)
  where
    by : (b c : Bool) → same_tree row x ≡ b → p x ≡ c
        → list_any (same_tree row) rows ≡ list_any (same_tree row) (filter p rows)
        → b || list_any (same_tree row) rows ≡ list_any (same_tree row) (cond c (x ∷ filter p rows) (filter p rows))
    by true true same px ih = rw same refl
    by true false same px ih =
        absurd (let wrong : false ≡ true = sym px ∙ ap p (sym (same_tree_true row x same)) ∙ own in cc)
    by false true same px ih = rw same ih
    by false false same px ih = ih

pub each_filter : (P : Tree → Type 0) (f : Tree → Bool) (rows : Contents) → Each P rows → Each P (filter f rows)
each_filter P f [] a = tt
each_filter P f (x ∷ rows) a = by (f x) (each_filter P f rows a.1)
  where
    by : (b : Bool) → Each P (filter f rows) → Each P (cond b (x ∷ filter f rows) (filter f rows))
    by true h = (a.0, h)
    by false h = h

each_map : (P Q : Tree → Type 0) → ((x : Tree) → P x → Q x) → (rows : Contents) → Each P rows → Each Q rows
each_map P Q f [] a = tt
each_map P Q f (x ∷ rows) a = (f x a.0, each_map P Q f rows a.1)

pub each_kept : (f : Tree → Bool) (rows : Contents) → Each (λ x. f x ≡ true) (filter f rows)
each_kept f [] = tt
each_kept f (x ∷ rows) = by (f x) refl (each_kept f rows)
  where
    by : (b : Bool) → f x ≡ b → Each (λ y. f y ≡ true) (filter f rows) → Each (λ y. f y ≡ true) (cond b (x ∷ filter f rows) (filter f rows))
    by true fx h = (fx, h)
    by false fx h = h

none_kept : (f : Tree → Bool) (rows : Contents) → Each (λ x. f x ≡ false) rows → filter f rows ≡ []
none_kept f [] a = refl
none_kept f (x ∷ rows) a = rw a.0 (none_kept f rows a.1)

-- ---- keys

less_is : (o : Ordering) → is_lt o ≡ true → o ≡ Less
less_is Less e = refl
less_is Equal e = absurd (let wrong : false ≡ true = e in cc)
less_is Greater e = absurd (let wrong : false ≡ true = e in cc)

pub false_or : (b : Bool) → (b ≡ true → ⊥) → b ≡ false
false_or true never = absurd (never refl)
false_or false never = refl

pub below_trans : (x y z : Option Tree) → is_key_below x y ≡ true → is_key_below y z ≡ true → is_key_below x z ≡ true
below_trans None y z p q = absurd (let wrong : false ≡ true = p in cc)
below_trans (Some x) None z p q = absurd (let wrong : false ≡ true = p in cc)
below_trans (Some x) (Some y) None p q = absurd (let wrong : false ≡ true = q in cc)
below_trans (Some x) (Some y) (Some z) p q = ap is_lt (tree_total.trans x y z (less_is (tree_cmp x y) p) (less_is (tree_cmp y z) q))

-- two that have the key
pub key_is : (key : Tree) (found : Option Tree) → is_key key found ≡ true → found ≡ Some key
key_is key None h = absurd (let wrong : false ≡ true = h in cc)
key_is key (Some own) h = ap Some (same_tree_true own key h)

pub own_key : (key : Tree) (row : Tree) → has_key key row ≡ true → key_of row ≡ Some key
own_key key row h = key_is key (key_of row) h

has_key_of_is : (found : Option Tree) (other : Tree) → has_key_of found other ≡ true → key_of other ≡ found
has_key_of_is None other h = absurd (let wrong : false ≡ true = h in cc)
has_key_of_is (Some key) other h = own_key key other h

-- ---- a record at its place

-- what comes before another is below it, or has its key
before_is : (row other : Tree) → comes_before row other ≡ true → has_key_of (key_of row) other ≡ false
    → is_key_below (key_of row) (key_of other) ≡ true
before_is row other h apart = sym (ap (λ b. cond b (is_lt (tree_cmp row other)) (is_key_below (key_of row) (key_of other))) apart) ∙ h

not_before : (row other : Tree) → comes_before row other ≡ false → has_key_of (key_of row) other ≡ false
    → is_key_below (key_of row) (key_of other) ≡ false
not_before row other h apart = sym (ap (λ b. cond b (is_lt (tree_cmp row other)) (is_key_below (key_of row) (key_of other))) apart) ∙ h

other_key : (key row : Tree) → has_key key row ≡ false → (rows : Contents) → records_of key (with_record row rows) ≡ records_of key rows
other_key key row apart [] = rw apart refl
other_key key row apart (x ∷ rows) = by (comes_before row x) (other_key key row apart rows)
  where
    by : (b : Bool) → records_of key (with_record row rows) ≡ records_of key rows
        → records_of key (cond b (row ∷ x ∷ rows) (x ∷ with_record row rows)) ≡ records_of key (x ∷ rows)
    by true ih = rw apart refl
    by false ih = ap (λ (t : Contents). cond (has_key key x) (x ∷ t) t) ih

-- behind a record that is above the key none has it
pub none_behind : (key : Tree) (other : Tree) (rows : Contents) → is_key_below (Some key) (key_of other) ≡ true
    → Each (λ later. is_key_below (key_of later) (key_of other) ≡ false) rows → records_of key rows ≡ []
none_behind key other rows below order =
    none_kept (has_key key) rows
    (each_map (λ later. is_key_below (key_of later) (key_of other) ≡ false) (λ later. has_key key later ≡ false)
    (λ later above. false_or (has_key key later) (λ same.
    let wrong : true ≡ false = sym below ∙ ap (λ k. is_key_below k (key_of other)) (sym (own_key key later same)) ∙ above in cc))
    rows order)

same_key : (key row : Tree) → has_key key row ≡ true → (rows : Contents) → IsInOrder rows
    → records_of key (with_record row rows) ≡ with_record row (records_of key rows)
same_key key row own [] order = rw own refl
same_key key row own (x ∷ rows) order =
    by (comes_before row x) (has_key key x) refl refl (same_key key row own rows order.1)
  where
    mine : key_of row ≡ Some key
    mine = own_key key row own

    by : (b c : Bool) → comes_before row x ≡ b → has_key key x ≡ c
        → records_of key (with_record row rows) ≡ with_record row (records_of key rows)
        → records_of key (cond b (row ∷ x ∷ rows) (x ∷ with_record row rows))
        ≡ with_record row (cond c (x ∷ records_of key rows) (records_of key rows))
    by true true first same ih = rw (own, same, first) refl
    by true false first apart ih =
        let off : has_key_of (key_of row) x ≡ false = ap (λ k. has_key_of k x) mine ∙ apart in
        let below : is_key_below (Some key) (key_of x) ≡ true =
        ap (λ k. is_key_below k (key_of x)) (sym mine) ∙ before_is row x first off in
        let nothing : records_of key rows ≡ [] = none_behind key x rows below order.0 in
        rw (own, apart, nothing) refl
    by false true later same ih = rw (same, later) (ap (λ (t : Contents). x ∷ t) ih)
    by false false later apart ih = rw apart ih

-- ---- order

pub irreflexive : (k : Option Tree) → is_key_below k k ≡ false
irreflexive None = refl
irreflexive (Some key) = ap is_lt (tied_itself tree_total key)

abbrev NotBelow : Tree → Tree → Type 0
NotBelow other later = is_key_below (key_of later) (key_of other) ≡ false

not_below : (row x later : Tree) → comes_before row x ≡ true → NotBelow x later → NotBelow row later
not_below row x later first above = by (has_key_of (key_of row) x) refl
  where
    by : (b : Bool) → has_key_of (key_of row) x ≡ b → NotBelow row later
    by true same = ap (is_key_below (key_of later)) (sym (has_key_of_is (key_of row) x same)) ∙ above
    by false apart = false_or (is_key_below (key_of later) (key_of row)) (λ below.
        let wrong : true ≡ false =
        sym (below_trans (key_of later) (key_of row) (key_of x) below (before_is row x first apart)) ∙ above in cc)

first_not_below : (row x : Tree) → comes_before row x ≡ false → NotBelow x row
first_not_below row x later = by (has_key_of (key_of row) x) refl
  where
    by : (b : Bool) → has_key_of (key_of row) x ≡ b → NotBelow x row
    by true same = ap (is_key_below (key_of row)) (has_key_of_is (key_of row) x same) ∙ irreflexive (key_of row)
    by false apart = not_before row x later apart

pub each_with : (P : Tree → Type 0) (row : Tree) (rows : Contents) → P row → Each P rows → Each P (with_record row rows)
each_with P row [] own all = (own, tt)
each_with P row (x ∷ rows) own all = by (comes_before row x) (each_with P row rows own all.1)
  where
    by : (b : Bool) → Each P (with_record row rows) → Each P (cond b (row ∷ x ∷ rows) (x ∷ with_record row rows))
    by true ih = (own, all)
    by false ih = (all.0, ih)

order_with : (row : Tree) (rows : Contents) → IsInOrder rows → IsInOrder (with_record row rows)
order_with row [] order = (tt, tt)
order_with row (x ∷ rows) order = by (comes_before row x) refl (order_with row rows order.1)
  where
    by : (b : Bool) → comes_before row x ≡ b → IsInOrder (with_record row rows)
        → IsInOrder (cond b (row ∷ x ∷ rows) (x ∷ with_record row rows))
    by true first ih = (
      (not_below row x x first (irreflexive (key_of x)), each_map (NotBelow x) (NotBelow row) (λ y. not_below row x y first) rows order.0),
      order,
    )
    by false later ih = (each_with (NotBelow x) row rows (first_not_below row x later) order.0, ih)

order_filter : (f : Tree → Bool) (rows : Contents) → IsInOrder rows → IsInOrder (filter f rows)
order_filter f [] order = tt
order_filter f (x ∷ rows) order = by (f x) (order_filter f rows order.1)
  where
    by : (b : Bool) → IsInOrder (filter f rows) → IsInOrder (cond b (x ∷ filter f rows) (filter f rows))
    by true ih = (each_filter (NotBelow x) f rows order.0, ih)
    by false ih = ih

pub order_put : (kind : Kind) (op : Operation) (rows : Contents) → IsInOrder rows → IsInOrder (put_op kind op rows)
order_put Bag (write table row) rows order = by (list_any (same_tree row) rows)
  where
    by : (b : Bool) → IsInOrder (cond b rows (with_record row rows))
    by true = order
    by false = order_with row rows order
order_put Set (write table row) rows order = order_with row (without_key (key_of row) rows)
    (order_filter (λ other. not (has_key_of (key_of row) other)) rows order)
order_put OrderedSet (write table row) rows order = order_with row (without_key (key_of row) rows)
    (order_filter (λ other. not (has_key_of (key_of row) other)) rows order)
order_put kind (delete table key) rows order = order_filter (λ other. not (has_key_of (Some key) other)) rows order
order_put kind (delete_object table row) rows order = order_filter (λ other. not (same_tree row other)) rows order
order_put kind (clear table) rows order = tt

-- ---- one op

module _ (key : Tree) where
  own_written : (row : Tree) (rows : Contents) → has_key key row ≡ true → IsInOrder rows
      → records_of key (with_record row (without_key (key_of row) rows))
      ≡ with_record row (without_key (key_of row) (records_of key rows))
  own_written row rows own order =
      same_key key row own (without_key (key_of row) rows) (order_filter (λ other. not (has_key_of (key_of row) other)) rows order)
      ∙ ap (with_record row) (filters_swap (has_key key) (λ other. not (has_key_of (key_of row) other)) rows)

  own_put : (kind : Kind) (op : Operation) → is_key key (key_changed op) ≡ true → (rows : Contents) → IsInOrder rows
      → records_of key (put_op kind op rows) ≡ put_op kind op (records_of key rows)
  own_put Bag (write table row) own rows order =
      by (list_any (same_tree row) rows) ∙ ap (λ b. cond b (records_of key rows) (with_record row (records_of key rows)))
      (any_within row (has_key key) own rows)
    where
      by : (b : Bool) → records_of key (cond b rows (with_record row rows))
          ≡ cond b (records_of key rows) (with_record row (records_of key rows))
      by true = refl
      by false = same_key key row own rows order
  own_put Set (write table row) own rows order = own_written row rows own order
  own_put OrderedSet (write table row) own rows order = own_written row rows own order
  own_put kind (delete table k) own rows order = filters_swap (has_key key) (λ other. not (has_key_of (Some k) other)) rows
  own_put kind (delete_object table row) own rows order = filters_swap (has_key key) (λ other. not (same_tree row other)) rows
  own_put kind (clear table) own rows order = absurd (let wrong : false ≡ true = own in cc)

  other_kept : (found : Option Tree) → is_key key found ≡ false → (x : Tree) → has_key key x ≡ true → not (has_key_of found x) ≡ true
  other_kept found apart x own = ap not (false_or (has_key_of found x) (λ same.
      let wrong : true ≡ false = sym own ∙ ap (is_key key) (has_key_of_is found x same) ∙ apart in cc))

  other_written : (row : Tree) (rows : Contents) → has_key key row ≡ false
      → records_of key (with_record row (without_key (key_of row) rows)) ≡ records_of key rows
  other_written row rows apart =
      other_key key row apart (without_key (key_of row) rows)
      ∙ spared (has_key key) (λ other. not (has_key_of (key_of row) other)) (other_kept (key_of row) apart) rows

  other_put : (kind : Kind) (op : Operation) → IsSome (key_changed op) → is_key key (key_changed op) ≡ false → (rows : Contents)
      → records_of key (put_op kind op rows) ≡ records_of key rows
  other_put Bag (write table row) some apart rows = by (list_any (same_tree row) rows)
    where
      by : (b : Bool) → records_of key (cond b rows (with_record row rows)) ≡ records_of key rows
      by true = refl
      by false = other_key key row apart rows
  other_put Set (write table row) some apart rows = other_written row rows apart
  other_put OrderedSet (write table row) some apart rows = other_written row rows apart
  other_put kind (delete table k) some apart rows =
      spared (has_key key) (λ other. not (has_key_of (Some k) other)) (other_kept (Some k) apart) rows
  other_put kind (delete_object table row) some apart rows =
      spared (has_key key) (λ other. not (same_tree row other)) (λ x own. ap not (false_or (same_tree row x) (λ same.
      let wrong : true ≡ false = sym own ∙ ap (has_key key) (sym (same_tree_true row x same)) ∙ apart in cc))) rows
  other_put kind (clear table) some apart rows = absurd cc

  -- ---- all ops

  pub records_of_seen : (kind : Kind) (name : List ℕ) (ops : List Op) (rows : Contents) → Each HasKey ops → IsInOrder rows
      → records_of key (put_ops kind (filter (is_on name) (map operation ops)) rows)
      ≡ put_ops kind (map operation (filter (changes name key) ops)) (records_of key rows)
  records_of_seen kind name [] rows keyed order = refl
  records_of_seen kind name (op ∷ ops) rows keyed order =
      by (is_on name (operation op)) (is_key key (key_changed (operation op))) refl
      (λ others. records_of_seen kind name ops others keyed.1)
    where
      by : (b c : Bool) → is_key key (key_changed (operation op)) ≡ c
          → ((others : Contents) → IsInOrder others → records_of key (put_ops kind (filter (is_on name) (map operation ops)) others)
          ≡ put_ops kind (map operation (filter (changes name key) ops)) (records_of key others))
          → records_of key (put_ops kind (cond b (operation op ∷ filter (is_on name) (map operation ops))
          (filter (is_on name) (map operation ops))) rows)
          ≡ put_ops kind (map operation (cond (b && c) (op ∷ filter (changes name key) ops) (filter (changes name key) ops)))
          (records_of key rows)
      by true true own ih =
          ih (put_op kind (operation op) rows) (order_put kind (operation op) rows order)
          ∙ ap (put_ops kind (map operation (filter (changes name key) ops))) (own_put kind (operation op) own rows order)
      by true false apart ih =
          ih (put_op kind (operation op) rows) (order_put kind (operation op) rows order)
          ∙ ap (put_ops kind (map operation (filter (changes name key) ops))) (other_put kind (operation op) keyed.0 apart rows)
      by false c is ih = ih rows order

  -- ---- replays

  pub change_key : (name : List ℕ) (ops : List Op) → ChangeKey key (map operation (filter (changes name key) ops))
  change_key name [] = tt
  change_key name (op ∷ ops) = by (is_on name (operation op)) (is_key key (key_changed (operation op))) refl (change_key name ops)
    where
      by : (b c : Bool) → is_key key (key_changed (operation op)) ≡ c → ChangeKey key (map operation (filter (changes name key) ops))
          → ChangeKey key (map operation (cond (b && c) (op ∷ filter (changes name key) ops) (filter (changes name key) ops)))
      by true true own ih = (own, ih)
      by true false own ih = ih
      by false c own ih = ih

  each_put : (kind : Kind) (op : Operation) → is_key key (key_changed op) ≡ true → (rows : Contents) → HaveKey key rows
      → HaveKey key (put_op kind op rows)
  each_put Bag (write table row) own rows all = by (list_any (same_tree row) rows)
    where
      by : (b : Bool) → HaveKey key (cond b rows (with_record row rows))
      by true = all
      by false = each_with (λ x. has_key key x ≡ true) row rows own all
  each_put Set (write table row) own rows all = each_with (λ x. has_key key x ≡ true) row (without_key (key_of row) rows) own
      (each_filter (λ x. has_key key x ≡ true) (λ other. not (has_key_of (key_of row) other)) rows all)
  each_put OrderedSet (write table row) own rows all = each_with (λ x. has_key key x ≡ true) row (without_key (key_of row) rows) own
      (each_filter (λ x. has_key key x ≡ true) (λ other. not (has_key_of (key_of row) other)) rows all)
  each_put kind (delete table k) own rows all =
      each_filter (λ x. has_key key x ≡ true) (λ other. not (has_key_of (Some k) other)) rows all
  each_put kind (delete_object table row) own rows all =
      each_filter (λ x. has_key key x ≡ true) (λ other. not (same_tree row other)) rows all
  each_put kind (clear table) own rows all = tt

  -- all have the key, so none is left without it
  none_left : (found : Option Tree) → is_key key found ≡ true → (rows : Contents) → HaveKey key rows → without_key found rows ≡ []
  none_left found own rows all =
      ap (λ f. without_key f rows) (key_is key found own)
      ∙ none_kept (λ other. not (has_key key other)) rows
      (each_map (λ x. has_key key x ≡ true) (λ x. not (has_key key x) ≡ false) (λ x h. ap not h) rows all)

  fresh_put : (kind : Kind) (op : Operation) → is_key key (key_changed op) ≡ true → is_fresh kind op ≡ true → (rows : Contents)
      → HaveKey key rows → put_op kind op [] ≡ put_op kind op rows
  fresh_put Bag (write table row) own fresh rows all = absurd (let wrong : false ≡ true = fresh in cc)
  fresh_put Set (write table row) own fresh rows all = ap (with_record row) (sym (none_left (key_of row) own rows all))
  fresh_put OrderedSet (write table row) own fresh rows all = ap (with_record row) (sym (none_left (key_of row) own rows all))
  fresh_put kind (delete table k) own fresh rows all = sym (none_left (Some k) own rows all)
  fresh_put kind (delete_object table row) own fresh rows all = absurd (let wrong : false ≡ true = fresh in cc)
  fresh_put kind (clear table) own fresh rows all = refl

  at_once : (kind : Kind) (ops : List Operation) (rows : Contents) → HaveKey key rows → ChangeKey key ops → starts_fresh kind ops ≡ true
      → put_ops kind ops [] ≡ put_ops kind ops rows
  at_once kind [] rows all change fresh = absurd (let wrong : false ≡ true = fresh in cc)
  at_once kind (op ∷ ops) rows all change fresh = ap (put_ops kind ops) (fresh_put kind op change.0 fresh rows all)

  pub from_fresh : (kind : Kind) (ops : List Op) (start : ℕ) (places : List ℕ) (rows : Contents) → HaveKey key rows
      → ChangeKey key (ops_of ops places) → starts_fresh kind (ops_of ops (drop start places)) ≡ true
      → put_ops kind (ops_of ops (drop start places)) [] ≡ put_ops kind (ops_of ops places) rows
  from_fresh kind ops zero places rows all change fresh = at_once kind (ops_of ops places) rows all change fresh
  from_fresh kind ops (suc start) [] rows all change fresh = absurd (let wrong : false ≡ true = fresh in cc)
  from_fresh kind ops (suc start) (place ∷ places) rows all change fresh =
      by (slice_get ops place) change (λ others have more. from_fresh kind ops start places others have more fresh)
    where
      by : (found : Option Op) → ChangeKey key (with_found found (ops_of ops places))
          → ((others : Contents) → HaveKey key others → ChangeKey key (ops_of ops places)
          → put_ops kind (ops_of ops (drop start places)) [] ≡ put_ops kind (ops_of ops places) others)
          → put_ops kind (ops_of ops (drop start places)) [] ≡ put_ops kind (with_found found (ops_of ops places)) rows
      by None change ih = ih rows all change
      by (Some op) change ih =
          ih (put_op kind (operation op) rows) (each_put kind (operation op) change.0 rows all) change.1

pub ops_found : (ops : List Op) (places : List ℕ) (found : List Op) → ops_at ops places ≡ map Some found
    → ops_of ops places ≡ map operation found
ops_found ops [] [] h = refl
ops_found ops [] (op ∷ found) h = absurd cc
ops_found ops (place ∷ places) [] h = absurd cc
ops_found ops (place ∷ places) (op ∷ found) h =
    let first : slice_get ops place ≡ Some op = cc in
    let rest : ops_at ops places ≡ map Some found = cc in
    ap (λ one. with_found one (ops_of ops places)) first
    ∙ ap (λ (others : List Operation). operation op ∷ others) (ops_found ops places found rest)

pub live_has_key : (key : Tree) (rows live : Contents) → live ≡ records_of key rows → HaveKey key live
live_has_key key rows live is = subst (HaveKey key) (sym is) (each_kept (has_key key) rows)

-- the ops that are found at the places of a key
pub own_ops : (ops shown : List Op) (all : Places) (places : List ℕ) (name : List ℕ) (key : Tree) → AreWrites ops all → shown ≡ ops
    → places ≡ places_at name key all → ops_of shown places ≡ map operation (filter (changes name key) ops)
own_ops ops shown all places name key h same at =
    (λ i. ops_of (same i) (at i)) ∙ ops_found ops (places_at name key all) (filter (changes name key) ops) (h.placed name key)

pub own_change : (ops shown : List Op) (all : Places) (places : List ℕ) (name : List ℕ) (key : Tree) → AreWrites ops all → shown ≡ ops
    → places ≡ places_at name key all → ChangeKey key (ops_of shown places)
own_change ops shown all places name key h same at =
    subst (ChangeKey key) (sym (own_ops ops shown all places name key h same at)) (change_key key name ops)
