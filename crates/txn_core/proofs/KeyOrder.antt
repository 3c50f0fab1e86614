-- Contents in the order of keys, and what an op does to the records of one key.
use Rattle.std.proofs.Common.{◌≡◌, Bool, true, false, not, cond, if◌then◌else◌, [], ◌∷◌, filter, Option, None, Some}
use Rattle.std.proofs.Common.{refl, sym, ap, ◌∙◌, subst, inl, inr}
use Rattle.std.specs.List.{list_any, AllByRecursion}
use Rattle.std.specs.Ordering.{is_lt}
use Rattle.std.proofs.lemmas.Bool.{cases_Bool, both_ways, false_from_ne_true, not_from_false}
use Rattle.term_core.specs.Tree.{Tree, key_of, tree_cmp}
use Rattle.term_core.specs.Order.{same_tree, same_tree_true, same_tree_refl}
use Rattle.db_model.specs.Database.{Contents, is_key, has_key, has_key_of, records_of, without_key, is_key_below, comes_before, with_record, put_record, put_op}
use Rattle.db_model.specs.Ops.{Operation, write, delete, delete_object, clear}
use Rattle.db_model.specs.declared.definition.Kind.{Kind}
use Rattle.db_model.specs.declared.definition.Kind.TheVariants.{Bag}
use Rattle.ram_table.specs.Contents.{IsInOrder}
use Rattle.txn_core.proofs.Each.{each_then, each_filter, some_is}
use Rattle.txn_core.proofs.Filters.{swapped, within, passes_none}
use Rattle.txn_core.proofs.NameFacts.{same_tree_sym, less_never, not_less_down}

-- ---- keys

key_is : (key : Tree) (o : Option Tree) → is_key key o ≡ true → o ≡ Some key
key_is key None h = absurd cc
key_is key (Some own) h = ap Some (same_tree_true own key h)

pub own_key : (key row : Tree) → has_key key row ≡ true → key_of row ≡ Some key
own_key key row h = key_is key (key_of row) h

below_itself : (o : Option Tree) → is_key_below o o ≡ false
below_itself None = refl
below_itself (Some key) = less_never key

not_below_down : (later : Option Tree) (key other : Tree) → is_lt (tree_cmp key other) ≡ true
    → is_key_below later (Some other) ≡ false → is_key_below later (Some key) ≡ false
not_below_down None key other h k = refl
not_below_down (Some own) key other h k = not_less_down own key other h k

-- a record that comes before another has no key above that one's
before_not_above : (row other : Tree) (later : Option Tree) → comes_before row other ≡ true
    → is_key_below later (key_of other) ≡ false → is_key_below later (key_of row) ≡ false
before_not_above row other later = by (key_of row)
  where
    by_both : (key : Tree) (o : Option Tree)
        → (if is_key key o then is_lt (tree_cmp row other) else is_key_below (Some key) o) ≡ true
        → is_key_below later o ≡ false → is_key_below later (Some key) ≡ false
    by_both key None h k = absurd cc
    by_both key (Some own) h k =
        elim (cases_Bool (same_tree own key)) [
          | inl e ↦ subst (λ t. is_key_below later (Some t) ≡ false) (same_tree_true own key e) k
          | inr e ↦ not_below_down later key own (ap (λ b. cond b (is_lt (tree_cmp row other)) (is_lt (tree_cmp key own))) (sym e) ∙ h) k
        ]

    by : (o : Option Tree)
        → (if has_key_of o other then is_lt (tree_cmp row other) else is_key_below o (key_of other)) ≡ true
        → is_key_below later (key_of other) ≡ false → is_key_below later o ≡ false
    by None h k = absurd cc
    by (Some key) h k = by_both key (key_of other) h k

-- a record that does not come before another has no key below that one's
behind_not_below : (row other : Tree) → comes_before row other ≡ false
    → is_key_below (key_of row) (key_of other) ≡ false
behind_not_below row other = by (key_of row)
  where
    by_both : (key : Tree) (o : Option Tree)
        → (if is_key key o then is_lt (tree_cmp row other) else is_key_below (Some key) o) ≡ false
        → is_key_below (Some key) o ≡ false
    by_both key None h = refl
    by_both key (Some own) h =
        elim (cases_Bool (same_tree own key)) [
          | inl e ↦ subst (λ t. is_lt (tree_cmp key t) ≡ false) (sym (same_tree_true own key e)) (less_never key)
          | inr e ↦ ap (λ b. cond b (is_lt (tree_cmp row other)) (is_lt (tree_cmp key own))) (sym e) ∙ h
        ]

    by : (o : Option Tree)
        → (if has_key_of o other then is_lt (tree_cmp row other) else is_key_below o (key_of other)) ≡ false
        → is_key_below o (key_of other) ≡ false
    by None h = refl
    by (Some key) h = by_both key (key_of other) h

-- ---- ops keep the order

in_order_filter : (test : Tree → Bool) (rows : Contents) → IsInOrder rows → IsInOrder (filter test rows)
in_order_filter test [] h = tt
in_order_filter test (row ∷ rows) h =
    elim (test row) as (λ b. IsInOrder (cond b (row ∷ filter test rows) (filter test rows))) [
      | true ↦ (
        each_filter (λ later. is_key_below (key_of later) (key_of row) ≡ false) test rows h.0,
        in_order_filter test rows h.1,
      )
      | false ↦ in_order_filter test rows h.1
    ]

-- what holds of a record and of all the others holds of all when it stands among them
each_with_record : (P : Tree → Type 0) (row : Tree) (rows : Contents) → P row → AllByRecursion P rows
    → AllByRecursion P (with_record row rows)
each_with_record P row [] p h = (p, tt)
each_with_record P row (other ∷ others) p h =
    elim (comes_before row other) as (λ b. AllByRecursion P (cond b (row ∷ other ∷ others) (other ∷ with_record row others))) [
      | true ↦ (p, h)
      | false ↦ (h.0, each_with_record P row others p h.1)
    ]

in_order_with_record : (row : Tree) (rows : Contents) → IsInOrder rows → IsInOrder (with_record row rows)
in_order_with_record row [] h = (tt, tt)
in_order_with_record row (other ∷ others) h = by (in_order_with_record row others h.1) (comes_before row other) refl
  where
    by : IsInOrder (with_record row others) → (b : Bool) → comes_before row other ≡ b
        → IsInOrder (cond b (row ∷ other ∷ others) (other ∷ with_record row others))
    by rest true e = (
      (
        before_not_above row other (key_of other) e (below_itself (key_of other)),
        each_then (λ later. is_key_below (key_of later) (key_of other) ≡ false) (λ later. is_key_below (key_of later) (key_of row) ≡ false)
            (λ later k. before_not_above row other (key_of later) e k) others h.0,
      ),
      h,
    )
    by rest false e = (
      each_with_record (λ later. is_key_below (key_of later) (key_of other) ≡ false) row others (behind_not_below row other e) h.0,
      rest,
    )

in_order_put : (kind : Kind) (row : Tree) (rows : Contents) → IsInOrder rows → IsInOrder (put_record kind row rows)
in_order_put Bag row rows h =
    elim (list_any (same_tree row) rows) as (λ b. IsInOrder (cond b rows (with_record row rows))) [
      | true ↦ h
      | false ↦ in_order_with_record row rows h
    ]
in_order_put other row rows h =
    in_order_with_record row (without_key (key_of row) rows) (in_order_filter (λ o. not (has_key_of (key_of row) o)) rows h)

pub in_order_op : (kind : Kind) (op : Operation) (rows : Contents) → IsInOrder rows → IsInOrder (put_op kind op rows)
in_order_op kind (write table row) rows h = in_order_put kind row rows h
in_order_op kind (delete table key) rows h = in_order_filter (λ row. not (has_key_of (Some key) row)) rows h
in_order_op kind (delete_object table row) rows h = in_order_filter (λ other. not (same_tree row other)) rows h
in_order_op kind (clear table) rows h = tt

-- ---- the records of one key after a record was inserted

-- where a record of the key comes before one of another key, that one's key is above
key_before : (key row other : Tree) → has_key key row ≡ true → has_key key other ≡ false → comes_before row other ≡ true
    → is_key_below (Some key) (key_of other) ≡ true
key_before key row other own differs h =
    ap (λ b. cond b (is_lt (tree_cmp row other)) (is_key_below (Some key) (key_of other))) (sym differs)
    ∙ ap (λ o. if has_key_of o other then is_lt (tree_cmp row other) else is_key_below o (key_of other)) (sym (own_key key row own)) ∙ h

later_lacks : (key other later : Tree) → is_key_below (Some key) (key_of other) ≡ true
    → is_key_below (key_of later) (key_of other) ≡ false → has_key key later ≡ false
later_lacks key other later h k =
    false_from_ne_true (has_key key later)
    (λ own. both_ways (is_key_below (key_of later) (key_of other)) k (ap (λ o. is_key_below o (key_of other)) (own_key key later own) ∙ h))

inserted_own : (key row : Tree) (rows : Contents) → has_key key row ≡ true → IsInOrder rows
    → records_of key (with_record row rows) ≡ with_record row (records_of key rows)
inserted_own key row [] own h = simp (own)
inserted_own key row (other ∷ others) own h =
    let ih : records_of key (with_record row others) ≡ with_record row (records_of key others) = inserted_own key row others own h.1 in
    elim (cases_Bool (comes_before row other)) [
      | inl c ↦ elim (cases_Bool (has_key key other)) [
        | inl k ↦ simp (c, k, own)
        | inr k ↦ (
            let above : is_key_below (Some key) (key_of other) ≡ true = key_before key row other own k c in
            let none : records_of key others ≡ [] = passes_none (has_key key) others
            (each_then (λ later. is_key_below (key_of later) (key_of other) ≡ false) (λ later. has_key key later ≡ false)
            (λ later b. later_lacks key other later above b) others h.0) in
            simp (c, k, own, none))
      ]
      | inr c ↦ elim (cases_Bool (has_key key other)) [ inl k ↦ simp (c, k, ih) | inr k ↦ simp (c, k, ih) ]
    ]

inserted_other : (key row : Tree) (rows : Contents) → has_key key row ≡ false
    → records_of key (with_record row rows) ≡ records_of key rows
inserted_other key row [] differs = simp (differs)
inserted_other key row (other ∷ others) differs =
    let ih : records_of key (with_record row others) ≡ records_of key others = inserted_other key row others differs in
    elim (cases_Bool (comes_before row other)) [ inl c ↦ simp (c, differs) | inr c ↦ simp (c, ih) ]

-- ---- the records of one key after an op

-- the op changes records of the key
abbrev pub touches : Tree → Operation → Bool
touches key (write table row) = has_key key row
touches key (delete table gone) = same_tree key gone
touches key (delete_object table row) = has_key key row
touches key (clear table) = true

another_key : (key : Tree) (gone : Option Tree) (row : Tree) → is_key key gone ≡ false → has_key key row ≡ true
    → has_key_of gone row ≡ false
another_key key None row differs own = refl
another_key key (Some other) row differs own =
    false_from_ne_true (has_key other row)
    (λ also. both_ways (same_tree other key) differs
    (ap (λ t. same_tree t key) (some_is other key (sym (own_key other row also) ∙ own_key key row own)) ∙ same_tree_refl key))

another_row : (key gone row : Tree) → has_key key gone ≡ false → has_key key row ≡ true → same_tree gone row ≡ false
another_row key gone row differs own =
    false_from_ne_true (same_tree gone row)
    (λ same. both_ways (has_key key gone) differs (ap (has_key key) (same_tree_true gone row same) ∙ own))

without_other : (key : Tree) (gone : Option Tree) (rows : Contents) → is_key key gone ≡ false
    → records_of key (without_key gone rows) ≡ records_of key rows
without_other key gone rows differs =
    swapped (has_key key) (λ row. not (has_key_of gone row)) rows
    ∙ within (λ row. not (has_key_of gone row)) (has_key key)
    (λ row own. not_from_false (has_key_of gone row) (another_key key gone row differs own)) rows

any_own : (key row : Tree) (rows : Contents) → has_key key row ≡ true
    → list_any (same_tree row) (records_of key rows) ≡ list_any (same_tree row) rows
any_own key row [] own = refl
any_own key row (other ∷ others) own =
    let ih : list_any (same_tree row) (records_of key others) ≡ list_any (same_tree row) others = any_own key row others own in
    elim (cases_Bool (has_key key other)) [
      | inl k ↦ simp (k, ih)
      | inr k ↦ (
          let differs : same_tree row other ≡ false = false_from_ne_true (same_tree row other)
          (λ same. both_ways (has_key key other) k (ap (has_key key) (sym (same_tree_true row other same)) ∙ own)) in
          simp (k, differs, ih))
    ]

put_own : (kind : Kind) (key row : Tree) (rows : Contents) → has_key key row ≡ true → IsInOrder rows
    → records_of key (put_record kind row rows) ≡ put_record kind row (records_of key rows)
put_own Bag key row rows own h =
    let mine : Contents = records_of key rows in
    elim (cases_Bool (list_any (same_tree row) rows)) [
      | inl a ↦ ap (λ b. records_of key (cond b rows (with_record row rows))) a
          ∙ sym (ap (λ b. cond b mine (with_record row mine)) (any_own key row rows own ∙ a))
      | inr a ↦ ap (λ b. records_of key (cond b rows (with_record row rows))) a ∙ inserted_own key row rows own h
          ∙ sym (ap (λ b. cond b mine (with_record row mine)) (any_own key row rows own ∙ a))
    ]
put_own other key row rows own h =
    inserted_own key row (without_key (key_of row) rows) own (in_order_filter (λ o. not (has_key_of (key_of row) o)) rows h)
    ∙ ap (with_record row) (swapped (has_key key) (λ o. not (has_key_of (key_of row) o)) rows)

put_other : (kind : Kind) (key row : Tree) (rows : Contents) → has_key key row ≡ false
    → records_of key (put_record kind row rows) ≡ records_of key rows
put_other Bag key row rows differs =
    elim (list_any (same_tree row) rows) as (λ b. records_of key (cond b rows (with_record row rows)) ≡ records_of key rows) [
      | true ↦ refl
      | false ↦ inserted_other key row rows differs
    ]
put_other other key row rows differs =
    inserted_other key row (without_key (key_of row) rows) differs ∙ without_other key (key_of row) rows differs

pub op_touches : (kind : Kind) (key : Tree) (op : Operation) (rows : Contents) → touches key op ≡ true → IsInOrder rows
    → records_of key (put_op kind op rows) ≡ put_op kind op (records_of key rows)
op_touches kind key (write table row) rows own h = put_own kind key row rows own h
op_touches kind key (delete table gone) rows own h = swapped (has_key key) (λ row. not (has_key_of (Some gone) row)) rows
op_touches kind key (delete_object table row) rows own h = swapped (has_key key) (λ other. not (same_tree row other)) rows
op_touches kind key (clear table) rows own h = refl

pub op_spares : (kind : Kind) (key : Tree) (op : Operation) (rows : Contents) → touches key op ≡ false
    → records_of key (put_op kind op rows) ≡ records_of key rows
op_spares kind key (write table row) rows differs = put_other kind key row rows differs
op_spares kind key (delete table gone) rows differs = without_other key (Some gone) rows (same_tree_sym gone key ∙ differs)
op_spares kind key (delete_object table gone) rows differs =
    swapped (has_key key) (λ row. not (same_tree gone row)) rows
    ∙ within (λ row. not (same_tree gone row)) (has_key key)
    (λ row own. not_from_false (same_tree gone row) (another_row key gone row differs own)) rows
op_spares kind key (clear table) rows differs = absurd cc
