-- Contents as lists, and what an op does to the presence of each record.
use mathlib.Core.Path.{fun_ext}
use Rattle.std.proofs.Common.{◌≡◌, ◌⊎◌, inl, inr, ◌≤◌, arith, length, Bool, true, false, not, ◌||◌, if◌then◌else◌, cond, List, [], ◌∷◌, filter, Option, None, Some, IsSome, refl, sym, ap, ◌∙◌, subst, true≢false}
use Rattle.std.specs.List.{list_any, AllByRecursion}
use Rattle.std.specs.Ordering.{is_lt}
use Rattle.std.proofs.lemmas.Bool.{cases_Bool, both_ways, false_from_ne_true, or_parts}
use Rattle.term_core.specs.Tree.{Tree, int, atom, tuple, list, bin, no_trees, tree, key_of, tree_cmp}
use Rattle.term_core.specs.Order.{tree_total, tree_cmp-IsAntisymmetric, same_tree, same_tree_true, same_tree_refl}
use Rattle.db_model.specs.Database.{Contents, is_key, has_key, has_key_of, without_key, is_key_below, comes_before, with_record, put_op}
use Rattle.db_model.specs.Definitions.{Definition, IsDefinition}
use Rattle.db_model.specs.Ops.{Operation, write, delete, delete_object, clear}
use Rattle.db_model.specs.Records.{HasElements, Allows}
use Rattle.db_model.specs.declared.definition.Kind.{Kind}
use Rattle.db_model.specs.declared.definition.Kind.TheVariants.{Bag}
use Rattle.dump_laws.specs.Effects.{leaves, settles, act, put, after, Between}
use Rattle.dump_laws.specs.Contents.{has, AreOrdered, IsKeyed}
use Rattle.dump_laws.proofs.Effects.{again}
use Rattle.dump_laws.proofs.Orders as orders

-- ---- presence after one op

-- what a filter keeps of a record that it does not keep is not there, and of any other what was
has-filter : (keep : Tree → Bool) (rows : Contents) (r : Tree) → has (filter keep rows) r ≡ (if keep r then has rows r else false)
has-filter keep [] r = by (keep r)
  where
    by : (b : Bool) → false ≡ (if b then false else false)
    by true = refl
    by false = refl
has-filter keep (x ∷ xs) r = by (keep x) (same_tree r x) (keep r) refl refl refl (has-filter keep xs r)
  where
    by : (b s k : Bool) → keep x ≡ b → same_tree r x ≡ s → keep r ≡ k → has (filter keep xs) r ≡ (if keep r then has xs r else false)
        → has (cond b (x ∷ filter keep xs) (filter keep xs)) r ≡ (if k then s || has xs r else false)
    by true true true bs ss ks ih = ap (λ t. t || has (filter keep xs) r) ss
    by true true false bs ss ks ih = absurd (true≢false (sym bs ∙ ap keep (sym (same_tree_true r x ss)) ∙ ks))
    by true false k bs ss ks ih = ap (λ t. t || has (filter keep xs) r) ss ∙ ih ∙ ap (λ t. if t then has xs r else false) ks
    by false true true bs ss ks ih = absurd (true≢false (sym ks ∙ ap keep (same_tree_true r x ss) ∙ bs))
    by false true false bs ss ks ih = ih ∙ ap (λ t. if t then has xs r else false) ks
    by false false k bs ss ks ih = ih ∙ ap (λ t. if t then has xs r else false) ks

has-with_record : (row : Tree) (rows : Contents) (r : Tree) → has (with_record row rows) r ≡ (same_tree r row || has rows r)
has-with_record row [] r = refl
has-with_record row (x ∷ xs) r = by (comes_before row x) (has-with_record row xs r)
  where
    swapped : (a b c : Bool) → (a || (b || c)) ≡ (b || (a || c))
    swapped true true c = refl
    swapped true false c = refl
    swapped false true c = refl
    swapped false false c = refl

    by : (b : Bool) → has (with_record row xs) r ≡ (same_tree r row || has xs r)
        → has (if b then row ∷ x ∷ xs else x ∷ with_record row xs) r ≡ (same_tree r row || (same_tree r x || has xs r))
    by true ih = refl
    by false ih = ap (λ t. same_tree r x || t) ih ∙ swapped (same_tree r x) (same_tree r row) (has xs r)

-- a record that is there already is there
there_already : (row : Tree) (rows : Contents) (r : Tree) → list_any (same_tree row) rows ≡ true
    → has rows r ≡ (same_tree r row || has rows r)
there_already row rows r there = by (same_tree r row) refl
  where
    by : (b : Bool) → same_tree r row ≡ b → has rows r ≡ (b || has rows r)
    by true same = ap (has rows) (same_tree_true r row same) ∙ there
    by false apart = refl

written : (s k there : Bool) → (s || (if not k then there else false))
    ≡ act (if s then settles true else if k then settles false else leaves) there
written true k there = refl
written false true there = refl
written false false there = refl

taken_away : (k there : Bool) → (if not k then there else false) ≡ act (if k then settles false else leaves) there
taken_away true there = refl
taken_away false there = refl

-- one op has on each record just its effect
pub has-put_op : (kind : Kind) (op : Operation) (rows : Contents) (r : Tree) → has (put_op kind op rows) r ≡ put kind op (has rows) r
has-put_op Bag (write table row) rows r = by (list_any (same_tree row) rows) refl ∙ written (same_tree r row) false (has rows r)
  where
    by : (b : Bool) → list_any (same_tree row) rows ≡ b → has (if b then rows else with_record row rows) r ≡ (same_tree r row || has rows r)
    by true there = there_already row rows r there
    by false lacks = has-with_record row rows r
has-put_op other (write table row) rows r =
    has-with_record row (without_key (key_of row) rows) r
    ∙ ap (λ t. same_tree r row || t) (has-filter (λ o. not (has_key_of (key_of row) o)) rows r)
    ∙ written (same_tree r row) (has_key_of (key_of row) r) (has rows r)
has-put_op kind (delete table key) rows r =
    has-filter (λ o. not (has_key_of (Some key) o)) rows r ∙ taken_away (has_key key r) (has rows r)
has-put_op kind (delete_object table row) rows r =
    has-filter (λ o. not (same_tree row o)) rows r ∙ taken_away (same_tree row r) (has rows r)
has-put_op kind (clear table) rows r = refl

pub has-after : (kind : Kind) (ops : List Operation) (rows : Contents) → has (after put_op kind ops rows) ≡ after put kind ops (has rows)
has-after kind [] rows = refl
has-after kind (op ∷ ops) rows = has-after kind ops (put_op kind op rows) ∙ ap (after put kind ops) (fun_ext (has-put_op kind op rows))

-- ---- the order of records

less_through : (a b c : Tree) → is_lt (tree_cmp a b) ≡ true → is_lt (tree_cmp b c) ≡ true → is_lt (tree_cmp a c) ≡ true
less_through = orders.less_through tree_cmp tree_total tree_cmp-IsAntisymmetric

less_never : (a : Tree) → is_lt (tree_cmp a a) ≡ false
less_never = orders.less_never tree_cmp tree_total tree_cmp-IsAntisymmetric

tree_order : (a b : Tree) → (a ≡ b) ⊎ (is_lt (tree_cmp a b) ≡ true) ⊎ (is_lt (tree_cmp b a) ≡ true)
tree_order = orders.which tree_cmp tree_total tree_cmp-IsAntisymmetric

-- the one key is below the other, or the keys are one and this holds
abbrev Precedes : Tree → Tree → Bool → Type 0
Precedes key other b = (is_lt (tree_cmp key other) ≡ true) ⊎ ((key ≡ other) × (b ≡ true))

abbrev by_keys : Tree → Tree → Bool → Bool
by_keys key other b = if same_tree other key then b else is_lt (tree_cmp key other)

precedes : (key other : Tree) (b : Bool) → by_keys key other b ≡ true → Precedes key other b
precedes key other b = by (same_tree other key) refl
  where
    by : (same : Bool) → same_tree other key ≡ same → (if same then b else is_lt (tree_cmp key other)) ≡ true → Precedes key other b
    by true same h = inr (sym (same_tree_true other key same), h)
    by false same h = inl h

by_keys_from : (key other : Tree) (b : Bool) → Precedes key other b → by_keys key other b ≡ true
by_keys_from key other b (inl less) = ap (λ same. if same then b else is_lt (tree_cmp key other)) apart ∙ less
  where
    apart : same_tree other key ≡ false
    apart = false_from_ne_true (same_tree other key)
        (λ same. both_ways (is_lt (tree_cmp key key)) (less_never key)
        (ap (λ t. is_lt (tree_cmp key t)) (sym (same_tree_true other key same)) ∙ less))
by_keys_from key other b (inr one) =
    ap (λ same. if same then b else is_lt (tree_cmp key other)) (ap (same_tree other) one.0 ∙ same_tree_refl other) ∙ one.1

-- a record with its key
record HasKey (row : Tree) : Type 0 where
  key : Tree
  is : key_of row ≡ Some key

keyed : (row : Tree) → IsSome (key_of row) → HasKey row
keyed row some = by (key_of row) refl some
  where
    by : (o : Option Tree) → key_of row ≡ o → IsSome o → HasKey row
    by None is some = absurd (cc)
    by (Some key) is some = record { key = key; is = is }

comes_is : (row other : Tree) (a : HasKey row) (b : HasKey other)
    → comes_before row other ≡ by_keys a.key b.key (is_lt (tree_cmp row other))
comes_is row other a b =
    ap (λ o. if has_key_of o other then is_lt (tree_cmp row other) else is_key_below o (key_of other)) a.is
    ∙ ap (λ o. if is_key a.key o then is_lt (tree_cmp row other) else is_key_below (Some a.key) o) b.is

comes : (row other : Tree) (a : HasKey row) (b : HasKey other) → comes_before row other ≡ true
    → Precedes a.key b.key (is_lt (tree_cmp row other))
comes row other a b h = precedes a.key b.key (is_lt (tree_cmp row other)) (sym (comes_is row other a b) ∙ h)

comes_from : (row other : Tree) (a : HasKey row) (b : HasKey other) → Precedes a.key b.key (is_lt (tree_cmp row other))
    → comes_before row other ≡ true
comes_from row other a b h = comes_is row other a b ∙ by_keys_from a.key b.key (is_lt (tree_cmp row other)) h

comes_through : (a b c : Tree) → IsSome (key_of a) → IsSome (key_of b) → IsSome (key_of c)
    → comes_before a b ≡ true → comes_before b c ≡ true → comes_before a c ≡ true
comes_through a b c some_a some_b some_c h g =
    comes_from a c (keyed a some_a) (keyed c some_c)
    (by (keyed a some_a).key (keyed b some_b).key (keyed c some_c).key
    (comes a b (keyed a some_a) (keyed b some_b) h) (comes b c (keyed b some_b) (keyed c some_c) g))
  where
    by : (k l m : Tree) → Precedes k l (is_lt (tree_cmp a b)) → Precedes l m (is_lt (tree_cmp b c)) → Precedes k m (is_lt (tree_cmp a c))
    by k l m (inl x) (inl y) = inl (less_through k l m x y)
    by k l m (inl x) (inr y) = inl (ap (λ t. is_lt (tree_cmp k t)) (sym y.0) ∙ x)
    by k l m (inr x) (inl y) = inl (ap (λ t. is_lt (tree_cmp t m)) x.0 ∙ y)
    by k l m (inr x) (inr y) = inr (x.0 ∙ y.0, less_through a b c x.1 y.1)

comes_never : (a : Tree) → IsSome (key_of a) → comes_before a a ≡ true → ⊥
comes_never a some h = elim (comes a a (keyed a some) (keyed a some) h) [
  | inl x ↦ both_ways (is_lt (tree_cmp (keyed a some).key (keyed a some).key)) (less_never (keyed a some).key) x
  | inr x ↦ both_ways (is_lt (tree_cmp a a)) (less_never a) x.1
]

row_order : (a b : Tree) → IsSome (key_of a) → IsSome (key_of b) → (a ≡ b) ⊎ (comes_before a b ≡ true) ⊎ (comes_before b a ≡ true)
row_order a b some_a some_b = elim (tree_order (keyed a some_a).key (keyed b some_b).key) [
  | inr (inl lt) ↦ inr (inl (comes_from a b (keyed a some_a) (keyed b some_b) (inl lt)))
  | inr (inr gt) ↦ inr (inr (comes_from b a (keyed b some_b) (keyed a some_a) (inl gt)))
  | inl same ↦ elim (tree_order a b) [
    | inl is ↦ inl is
    | inr (inl lt) ↦ inr (inl (comes_from a b (keyed a some_a) (keyed b some_b) (inr (same, lt))))
    | inr (inr gt) ↦ inr (inr (comes_from b a (keyed b some_b) (keyed a some_a) (inr (sym same, gt))))
  ]
]

-- ---- lists in order

-- the record comes before all of these
abbrev Leads : Tree → Contents → Type 0
Leads row rows = AllByRecursion (λ later. comes_before row later ≡ true) rows

leads-filter : (keep : Tree → Bool) (row : Tree) (rows : Contents) → Leads row rows → Leads row (filter keep rows)
leads-filter keep row [] h = tt
leads-filter keep row (x ∷ xs) h = by (keep x) (leads-filter keep row xs h.1)
  where
    by : (b : Bool) → Leads row (filter keep xs) → Leads row (cond b (x ∷ filter keep xs) (filter keep xs))
    by true ih = (h.0, ih)
    by false ih = ih

ordered-filter : (keep : Tree → Bool) (rows : Contents) → AreOrdered rows → AreOrdered (filter keep rows)
ordered-filter keep [] h = tt
ordered-filter keep (x ∷ xs) h = by (keep x) (ordered-filter keep xs h.2)
  where
    by : (b : Bool) → AreOrdered (filter keep xs) → AreOrdered (cond b (x ∷ filter keep xs) (filter keep xs))
    by true ih = (h.0, leads-filter keep x xs h.1, ih)
    by false ih = ih

leads_through : (a b : Tree) (rows : Contents) → IsSome (key_of a) → IsSome (key_of b) → comes_before a b ≡ true → AreOrdered rows
    → Leads b rows → Leads a rows
leads_through a b [] some_a some_b before h l = tt
leads_through a b (x ∷ xs) some_a some_b before h l =
    (comes_through a b x some_a some_b h.0 before l.0, leads_through a b xs some_a some_b before h.2 l.1)

leads_with : (x row : Tree) (rows : Contents) → comes_before x row ≡ true → Leads x rows → Leads x (with_record row rows)
leads_with x row [] before h = (before, tt)
leads_with x row (y ∷ ys) before h = by (comes_before row y) (leads_with x row ys before h.1)
  where
    by : (b : Bool) → Leads x (with_record row ys) → Leads x (if b then row ∷ y ∷ ys else y ∷ with_record row ys)
    by true ih = (before, h)
    by false ih = (h.0, ih)

ordered_with : (row : Tree) (rows : Contents) → IsSome (key_of row) → has rows row ≡ false → AreOrdered rows
    → AreOrdered (with_record row rows)
ordered_with row [] some lacks h = (some, tt, tt)
ordered_with row (x ∷ xs) some lacks h =
    by (comes_before row x) refl (ordered_with row xs some (or_parts (same_tree row x) (has xs row) lacks).1 h.2)
  where
    past : comes_before row x ≡ false → comes_before x row ≡ true
    past behind = elim (row_order row x some h.0) [
      | inl same ↦ absurd (both_ways (same_tree row x) (or_parts (same_tree row x) (has xs row) lacks).0
          (ap (same_tree row) (sym same) ∙ same_tree_refl row))
      | inr (inl before) ↦ absurd (both_ways (comes_before row x) behind before)
      | inr (inr after) ↦ after
    ]

    by : (b : Bool) → comes_before row x ≡ b → AreOrdered (with_record row xs)
        → AreOrdered (if b then row ∷ x ∷ xs else x ∷ with_record row xs)
    by true is ih = (some, (is, leads_through row x xs some h.0 is h.2 h.1), h)
    by false is ih = (h.0, leads_with x row xs (past is) h.1, ih)

-- what a record's key takes away, the record is among
lacks_own : (row : Tree) (rows : Contents) → IsSome (key_of row) → has (without_key (key_of row) rows) row ≡ false
lacks_own row rows some =
    has-filter (λ o. not (has_key_of (key_of row) o)) rows row
    ∙ ap (λ b. if not b then has rows row else false) own
  where
    own : has_key_of (key_of row) row ≡ true
    own = ap (λ o. has_key_of o row) (keyed row some).is ∙ ap (is_key (keyed row some).key) (keyed row some).is
        ∙ same_tree_refl (keyed row some).key

pub ordered-put_op : (kind : Kind) (op : Operation) (rows : Contents) → IsKeyed op → AreOrdered rows → AreOrdered (put_op kind op rows)
ordered-put_op Bag (write table row) rows some h = by (list_any (same_tree row) rows) refl
  where
    by : (b : Bool) → list_any (same_tree row) rows ≡ b → AreOrdered (if b then rows else with_record row rows)
    by true there = h
    by false lacks = ordered_with row rows some lacks h
ordered-put_op other (write table row) rows some h =
    ordered_with row (without_key (key_of row) rows) some (lacks_own row rows some)
    (ordered-filter (λ o. not (has_key_of (key_of row) o)) rows h)
ordered-put_op kind (delete table key) rows some h = ordered-filter (λ o. not (has_key_of (Some key) o)) rows h
ordered-put_op kind (delete_object table row) rows some h = ordered-filter (λ o. not (same_tree row o)) rows h
ordered-put_op kind (clear table) rows some h = tt

pub ordered-after : (kind : Kind) (ops : List Operation) (rows : Contents) → AllByRecursion IsKeyed ops → AreOrdered rows
    → AreOrdered (after put_op kind ops rows)
ordered-after kind [] rows keyed h = h
ordered-after kind (op ∷ ops) rows keyed h = ordered-after kind ops (put_op kind op rows) keyed.1 (ordered-put_op kind op rows keyed.0 h)

leads_lacks : (x : Tree) (rows : Contents) → IsSome (key_of x) → Leads x rows → has rows x ≡ false
leads_lacks x [] some h = refl
leads_lacks x (y ∷ ys) some h = elim (cases_Bool (same_tree x y)) [
  | inl same ↦ absurd (comes_never x some (ap (comes_before x) (same_tree_true x y same) ∙ h.0))
  | inr apart ↦ ap (λ b. b || has ys x) apart ∙ leads_lacks x ys some h.1
]

has_first : (x : Tree) (rows : Contents) → has (x ∷ rows) x ≡ true
has_first x rows = ap (λ b. b || has rows x) (same_tree_refl x)

-- lists in order with the same members are one
pub same_contents : (a b : Contents) → AreOrdered a → AreOrdered b → ((r : Tree) → has a r ≡ has b r) → a ≡ b
same_contents [] [] h g same = refl
same_contents [] (y ∷ ys) h g same = absurd (true≢false (sym (has_first y ys) ∙ sym (same y)))
same_contents (x ∷ xs) [] h g same = absurd (true≢false (sym (has_first x xs) ∙ same x))
same_contents (x ∷ xs) (y ∷ ys) h g same = ap (λ u. u ∷ xs) head ∙ ap (λ us. y ∷ us) (same_contents xs ys h.2 g.2 tails)
  where
    head : x ≡ y
    head = elim (row_order x y h.0 g.0) [
      | inl is ↦ is
      | inr (inl lt) ↦ absurd (true≢false (sym (has_first x xs) ∙ same x
          ∙ leads_lacks x (y ∷ ys) h.0 (lt, leads_through x y ys h.0 g.0 lt g.2 g.1)))
      | inr (inr gt) ↦ absurd (true≢false (sym (has_first y ys) ∙ sym (same y)
          ∙ leads_lacks y (x ∷ xs) g.0 (gt, leads_through y x xs g.0 h.0 gt h.2 h.1)))
    ]

    tails : (r : Tree) → has xs r ≡ has ys r
    tails r = elim (cases_Bool (same_tree r x)) [
      | inl is ↦
          let at : r ≡ x = same_tree_true r x is in
          subst (λ u. has xs u ≡ has ys u) (sym at) (leads_lacks x xs h.0 h.1 ∙ sym (ap (has ys) head ∙ leads_lacks y ys g.0 g.1))
      | inr apart ↦
          sym (ap (λ b. b || has xs r) apart) ∙ same r ∙ ap (λ b. b || has ys r) (ap (same_tree r) (sym head) ∙ apart)
    ]

-- ---- the law on lists

pub lists_again : (kind : Kind) (first rows : Contents) (ops : List Operation) → AllByRecursion IsKeyed ops → AreOrdered first
    → AreOrdered rows
    → Between kind (has first) ops (has rows) → after put_op kind ops rows ≡ after put_op kind ops first
lists_again kind first rows ops keyed h g between =
    same_contents (after put_op kind ops rows) (after put_op kind ops first) (ordered-after kind ops rows keyed g)
    (ordered-after kind ops first keyed h)
    (λ r. ap (λ there. there r) (has-after kind ops rows) ∙ again kind (has first) (has rows) ops between r
    ∙ ap (λ there. there r) (sym (has-after kind ops first)))

-- ---- what a table allows has a key

fits_keyed : (d : Definition) (row : Tree) → 2 ≤ length d.attributes → HasElements d row → IsSome (key_of row)
fits_keyed d (int n) many h = absurd h
fits_keyed d (atom a) many h = absurd h
fits_keyed d (list ts) many h = absurd h
fits_keyed d (bin b) many h = absurd h
fits_keyed d (tuple no_trees) many h = absurd h
fits_keyed d (tuple (tree (int n) ts)) many h = absurd h
fits_keyed d (tuple (tree (tuple us) ts)) many h = absurd h
fits_keyed d (tuple (tree (list us) ts)) many h = absurd h
fits_keyed d (tuple (tree (bin b) ts)) many h = absurd h
fits_keyed d (tuple (tree (atom a) no_trees)) many h = let same = h.1 in absurd (omega (arith, many, same))
fits_keyed d (tuple (tree (atom a) (tree key ts))) many h = refl

pub allowed_keyed : (d : Definition) (op : Operation) → IsDefinition d → Allows d op → IsKeyed op
allowed_keyed d (write table row) is allowed = fits_keyed d row is.attributes.some allowed.0
allowed_keyed d (delete table key) is allowed = tt
allowed_keyed d (delete_object table row) is allowed = tt
allowed_keyed d (clear table) is allowed = tt
