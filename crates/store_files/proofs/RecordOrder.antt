-- Records in the order of contents.
use Rattle.std.proofs.Common.{◌≡◌, ◌⊎◌, Bool, true, false, not, [], ◌∷◌, ◌++◌, Option, Some, None, refl, sym, ap, ◌∙◌, subst, inl, inr}
use Rattle.std.specs.Prelude.{if◌then◌else◌, ◌||◌}
use Rattle.std.specs.List.{AllByRecursion as Each, list_any}
use Rattle.std.specs.Cmp.{tied_itself}
use Rattle.std.specs.Ordering.{is_lt, is_eq, ordering_reverse}
use Rattle.std.specs.declared.cmp.Ordering.{Ordering}
use Rattle.std.specs.declared.cmp.Ordering.TheVariants.{Less, Equal, Greater}
use Rattle.term_core.specs.Tree.{Tree, key_of, tree_cmp}
use Rattle.term_core.specs.Order.{same_tree, same_tree_true, tree_total, tree_cmp-IsAntisymmetric}
use Rattle.db_model.specs.Database.{Contents, is_key, has_key_of, is_key_below, comes_before, without_key, with_record, put_record}
use Rattle.db_model.specs.declared.definition.Kind.{Kind}
use Rattle.db_model.specs.declared.definition.Kind.TheVariants.{Set, OrderedSet, Bag}
use Rattle.store_files.specs.Forms.{AreIncreasing}
use Rattle.store_files.specs.Tables.{is_before, IsBefore}
use Rattle.store_files.proofs.Increasing.{is_less, increasing_behind}

-- ---- by keys

-- whether a record comes before another, by their keys and then by themselves
abbrev in_bag : Option Tree → Option Tree → Bool → Bool
in_bag None other itself = false
in_bag (Some key) None itself = false
in_bag (Some key) (Some next) itself = if is_eq (tree_cmp next key) then itself else is_lt (tree_cmp key next)

in_bag_is : (row other : Tree) → comes_before row other ≡ in_bag (key_of row) (key_of other) (is_lt (tree_cmp row other))
in_bag_is row other = by (key_of row)
  where
    inner : (key : Tree) (o : Option Tree)
        → (if is_key key o then is_lt (tree_cmp row other) else is_key_below (Some key) o)
        ≡ in_bag (Some key) o (is_lt (tree_cmp row other))
    inner key None = refl
    inner key (Some next) = refl

    by : (o : Option Tree) → (if has_key_of o other then is_lt (tree_cmp row other) else is_key_below o (key_of other))
        ≡ in_bag o (key_of other) (is_lt (tree_cmp row other))
    by None = refl
    by (Some key) = inner key (key_of other)

turned : (x y : Tree) → tree_cmp y x ≡ ordering_reverse (tree_cmp x y)
turned x y = tree_total.antisymm y x

below_bag : (o p : Option Tree) (itself : Bool) → is_key_below o p ≡ true → in_bag o p itself ≡ true
below_bag None p itself h = absurd (cc)
below_bag (Some key) None itself h = absurd (cc)
below_bag (Some key) (Some next) itself h =
    let less = is_less (tree_cmp key next) h in
    let greater : tree_cmp next key ≡ Greater = turned key next ∙ ap ordering_reverse less in
    subst (λ o. (if is_eq o then itself else is_lt (tree_cmp key next)) ≡ true) (sym greater) h

-- in every kind a record that comes before does so by the order of contents
pub before_in_contents : (kind : Kind) (row other : Tree) → IsBefore kind row other → comes_before row other ≡ true
before_in_contents Set row other h =
    in_bag_is row other ∙ below_bag (key_of row) (key_of other) (is_lt (tree_cmp row other)) h
before_in_contents OrderedSet row other h =
    in_bag_is row other ∙ below_bag (key_of row) (key_of other) (is_lt (tree_cmp row other)) h
before_in_contents Bag row other h = h

-- ---- and then not the other way round

flip : (o p : Ordering) → (if is_eq (ordering_reverse o) then is_lt p else is_lt o) ≡ true
    → (if is_eq o then is_lt (ordering_reverse p) else is_lt (ordering_reverse o)) ≡ false
flip Less p h = refl
flip Equal Less h = refl
flip Equal Equal h = refl
flip Equal Greater h = absurd (cc)
flip Greater p h = absurd (cc)

flipped : (o back p turn : Ordering) → back ≡ ordering_reverse o → turn ≡ ordering_reverse p
    → (if is_eq back then is_lt p else is_lt o) ≡ true → (if is_eq o then is_lt turn else is_lt back) ≡ false
flipped o back p turn e f h =
    let first = subst (λ x. (if is_eq x then is_lt p else is_lt o) ≡ true) e h in
    subst (λ x. (if is_eq o then is_lt turn else is_lt x) ≡ false) (sym e)
    (subst (λ y. (if is_eq o then is_lt y else is_lt (ordering_reverse o)) ≡ false) (sym f) (flip o p first))

bag_back : (o p : Option Tree) (row other : Tree) → in_bag o p (is_lt (tree_cmp row other)) ≡ true
    → in_bag p o (is_lt (tree_cmp other row)) ≡ false
bag_back None p row other h = absurd (cc)
bag_back (Some key) None row other h = absurd (cc)
bag_back (Some key) (Some next) row other h =
    flipped (tree_cmp key next) (tree_cmp next key) (tree_cmp row other) (tree_cmp other row) (turned key next) (turned row other) h

pub not_back : (row other : Tree) → comes_before row other ≡ true → comes_before other row ≡ false
not_back row other h =
    in_bag_is other row ∙ bag_back (key_of row) (key_of other) row other (sym (in_bag_is row other) ∙ h)

-- it is another record
differs : (row other : Tree) → comes_before row other ≡ true → same_tree other row ≡ false
differs row other h = by (same_tree other row) refl
  where
    by : (b : Bool) → same_tree other row ≡ b → b ≡ false
    by false e = refl
    by true e =
        let same = same_tree_true other row e in
        let again : comes_before other row ≡ true =
        subst (λ t. comes_before t row ≡ true) (sym same) (subst (λ t. comes_before row t ≡ true) same h) in
        absurd (cc (again, not_back row other h))

-- and of another key where its key does
key_differs : (row other : Tree) → is_key_below (key_of row) (key_of other) ≡ true → has_key_of (key_of other) row ≡ false
key_differs row other = by (key_of other)
  where
    inner : (key : Tree) (o : Option Tree) → is_key_below o (Some key) ≡ true → is_key key o ≡ false
    inner key None h = refl
    inner key (Some own) h = ap is_eq (is_less (tree_cmp own key) h)

    by : (p : Option Tree) → is_key_below (key_of row) p ≡ true → has_key_of p row ≡ false
    by None h = refl
    by (Some key) h = inner key (key_of row) h

-- ---- three records

-- by their keys, or by themselves where they have one key
abbrev Lower : Tree → Tree → Tree → Tree → Type 0
Lower key next row other = (tree_cmp key next ≡ Less) ⊎ ((key ≡ next) × (tree_cmp row other ≡ Less))

split : (key next row other : Tree) → in_bag (Some key) (Some next) (is_lt (tree_cmp row other)) ≡ true → Lower key next row other
split key next row other = by (tree_cmp next key) refl
  where
    by : (o : Ordering) → tree_cmp next key ≡ o → (if is_eq o then is_lt (tree_cmp row other) else is_lt (tree_cmp key next)) ≡ true
        → Lower key next row other
    by Less e h = inl (is_less (tree_cmp key next) h)
    by Equal e h = inr (sym (tree_cmp-IsAntisymmetric next key e), is_less (tree_cmp row other) h)
    by Greater e h = inl (is_less (tree_cmp key next) h)

join : (key next row other : Tree) → Lower key next row other → in_bag (Some key) (Some next) (is_lt (tree_cmp row other)) ≡ true
join key next row other (inl less) = below_bag (Some key) (Some next) (is_lt (tree_cmp row other)) (ap is_lt less)
join key next row other (inr (same, less)) =
    let tied : tree_cmp next key ≡ Equal = ap (tree_cmp next) same ∙ tied_itself tree_total next in
    subst (λ o. (if is_eq o then is_lt (tree_cmp row other) else is_lt (tree_cmp key next)) ≡ true) (sym tied) (ap is_lt less)

lower_trans : (k l m x y z : Tree) → Lower k l x y → Lower l m y z → Lower k m x z
lower_trans k l m x y z (inl a) (inl b) = inl (tree_total.trans k l m a b)
lower_trans k l m x y z (inl a) (inr (f, q)) = inl (subst (λ t. tree_cmp k t ≡ Less) f a)
lower_trans k l m x y z (inr (e, p)) (inl b) = inl (subst (λ t. tree_cmp t m ≡ Less) (sym e) b)
lower_trans k l m x y z (inr (e, p)) (inr (f, q)) = inr (e ∙ f, tree_total.trans x y z p q)

bag_trans : (o p q : Option Tree) (x y z : Tree) → in_bag o p (is_lt (tree_cmp x y)) ≡ true → in_bag p q (is_lt (tree_cmp y z)) ≡ true
    → in_bag o q (is_lt (tree_cmp x z)) ≡ true
bag_trans None p q x y z g h = absurd (cc)
bag_trans (Some k) None q x y z g h = absurd (cc)
bag_trans (Some k) (Some l) None x y z g h = absurd (cc)
bag_trans (Some k) (Some l) (Some m) x y z g h = join k m x z (lower_trans k l m x y z (split k l x y g) (split l m y z h))

below_trans : (o p q : Option Tree) → is_key_below o p ≡ true → is_key_below p q ≡ true → is_key_below o q ≡ true
below_trans None p q g h = absurd (cc)
below_trans (Some k) None q g h = absurd (cc)
below_trans (Some k) (Some l) None g h = absurd (cc)
below_trans (Some k) (Some l) (Some m) g h =
    ap is_lt (tree_total.trans k l m (is_less (tree_cmp k l) g) (is_less (tree_cmp l m) h))

pub before_trans : (kind : Kind) (x y z : Tree) → IsBefore kind x y → IsBefore kind y z → IsBefore kind x z
before_trans Set x y z g h = below_trans (key_of x) (key_of y) (key_of z) g h
before_trans OrderedSet x y z g h = below_trans (key_of x) (key_of y) (key_of z) g h
before_trans Bag x y z g h =
    in_bag_is x z ∙ bag_trans (key_of x) (key_of y) (key_of z) x y z (sym (in_bag_is x y) ∙ g) (sym (in_bag_is y z) ∙ h)

-- ---- a record that is written behind all

abbrev AllBefore : Kind → Contents → Tree → Type 0
AllBefore kind rows row = Each (λ other. IsBefore kind other row) rows

at_end : (kind : Kind) (rows : Contents) (row : Tree) → AllBefore kind rows row → with_record row rows ≡ rows ++ row ∷ []
at_end kind [] row h = refl
at_end kind (other ∷ rows) row h =
    let later = not_back other row (before_in_contents kind other row h.0) in
    ap (λ b. if b then row ∷ other ∷ rows else other ∷ with_record row rows) later
    ∙ ap (λ xs. other ∷ xs) (at_end kind rows row h.1)

none_same : (kind : Kind) (rows : Contents) (row : Tree) → AllBefore kind rows row → list_any (same_tree row) rows ≡ false
none_same kind [] row h = refl
none_same kind (other ∷ rows) row h =
    ap (λ b. b || list_any (same_tree row) rows) (differs other row (before_in_contents kind other row h.0))
    ∙ none_same kind rows row h.1

all_left : (rows : Contents) (row : Tree) → Each (λ other. is_key_below (key_of other) (key_of row) ≡ true) rows
    → without_key (key_of row) rows ≡ rows
all_left [] row h = refl
all_left (other ∷ rows) row h =
    ap (λ b. if not b then other ∷ without_key (key_of row) rows else without_key (key_of row) rows) (key_differs other row h.0)
    ∙ ap (λ xs. other ∷ xs) (all_left rows row h.1)

put_end : (kind : Kind) (rows : Contents) (row : Tree) → AllBefore kind rows row → put_record kind row rows ≡ rows ++ row ∷ []
put_end Set rows row h = ap (with_record row) (all_left rows row h) ∙ at_end Set rows row h
put_end OrderedSet rows row h = ap (with_record row) (all_left rows row h) ∙ at_end OrderedSet rows row h
put_end Bag rows row h = ap (λ b. if b then rows else with_record row rows) (none_same Bag rows row h) ∙ at_end Bag rows row h

pub put_behind : (kind : Kind) (rows : Contents) (row : Tree) → AreIncreasing (IsBefore kind) (rows ++ row ∷ [])
    → put_record kind row rows ≡ rows ++ row ∷ []
put_behind kind rows row h = put_end kind rows row (increasing_behind (IsBefore kind) rows row h)

-- ---- how it is told

pub lower_key : (kind : Kind) (row other key next : Tree) → Some key ≡ key_of row → Some next ≡ key_of other → tree_cmp key next ≡ Less
    → true ≡ is_before kind row other
lower_key kind row other key next k l less = by kind
  where
    below : is_key_below (key_of row) (key_of other) ≡ true
    below = (λ i. is_key_below (sym k i) (sym l i)) ∙ ap is_lt less

    by : (kind : Kind) → true ≡ is_before kind row other
    by Set = sym below
    by OrderedSet = sym below
    by Bag = sym (in_bag_is row other ∙ below_bag (key_of row) (key_of other) (is_lt (tree_cmp row other)) below)

pub higher_key : (kind : Kind) (row other key next : Tree) → Some key ≡ key_of row → Some next ≡ key_of other → tree_cmp key next ≡ Greater
    → false ≡ is_before kind row other
higher_key kind row other key next k l greater = by kind
  where
    below : is_key_below (key_of row) (key_of other) ≡ false
    below = (λ i. is_key_below (sym k i) (sym l i)) ∙ ap is_lt greater

    lower : tree_cmp next key ≡ Less
    lower = turned key next ∙ ap ordering_reverse greater

    by : (kind : Kind) → false ≡ is_before kind row other
    by Set = sym below
    by OrderedSet = sym below
    by Bag = sym (
        in_bag_is row other
        ∙ (λ i. in_bag (sym k i) (sym l i) (is_lt (tree_cmp row other)))
        ∙ ap (λ o. if is_eq o then is_lt (tree_cmp row other) else is_lt (tree_cmp key next)) lower
        ∙ ap is_lt greater
        )

pub tied_key : (row other key next : Tree) (b : Bool) → Some key ≡ key_of row → Some next ≡ key_of other → tree_cmp key next ≡ Equal
    → b ≡ is_lt (tree_cmp row other) → b ≡ is_before Bag row other
tied_key row other key next b k l tied is =
    let back : tree_cmp next key ≡ Equal = turned key next ∙ ap ordering_reverse tied in
    is
    ∙ sym (
    in_bag_is row other
    ∙ (λ i. in_bag (sym k i) (sym l i) (is_lt (tree_cmp row other)))
    ∙ ap (λ o. if is_eq o then is_lt (tree_cmp row other) else is_lt (tree_cmp key next)) back
    )
