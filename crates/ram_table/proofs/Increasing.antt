-- Lists of records in increasing order.
use Rattle.std.proofs.Common.{cond, ◌≡◌, ℕ, zero, suc, ◌<◌, Bool, true, false, List, [], ◌∷◌, ◌++◌, length, get_or}
use Rattle.std.proofs.Common.{drop, refl, sym, ap, ◌∙◌, arith}
use Rattle.std.specs.List.{filter, AllByRecursion as Each}
use Rattle.std.specs.Ordering.{is_lt, is_eq, is_gt, ordering_reverse, ordering_then}
use Rattle.std.specs.declared.cmp.Ordering.{Ordering}
use Rattle.std.specs.declared.cmp.Ordering.TheVariants.{Less, Equal, Greater}
use Rattle.std.specs.Cmp.{IsTotalOrder, on_total, then_total}
use Rattle.term_core.specs.Tree.{Tree, tree_cmp}
use Rattle.term_core.specs.Order.{tree_total}
use Rattle.term_core.specs.View.{tree_of}
use Rattle.term_core.specs.declared.term.Term.{Term}
use Rattle.db_model.specs.declared.definition.Kind.{Kind}
use Rattle.db_model.specs.declared.definition.Kind.TheVariants.{Bag}
use Rattle.ram_table.specs.Inside.Rows.{row_key, key_cmp, row_cmp, put, IsIncreasing}

abbrev pub Lt : Kind → Term → Term → Type 0
Lt kind x y = row_cmp kind x y ≡ Less

pub row_total : (kind : Kind) → IsTotalOrder (row_cmp kind)
row_total Bag = then_total (on_total row_key tree_total) (on_total tree_of tree_total)
row_total other = on_total row_key tree_total

pub each_append : (P : Term → Type 0) (xs ys : List Term) → Each P xs → Each P ys → Each P (xs ++ ys)
each_append P [] ys a b = b
each_append P (x ∷ xs) ys a b = (a.0, each_append P xs ys a.1 b)

pub each_front : (P : Term → Type 0) (xs ys : List Term) → Each P (xs ++ ys) → Each P xs
each_front P [] ys a = tt
each_front P (x ∷ xs) ys a = (a.0, each_front P xs ys a.1)

pub each_back : (P : Term → Type 0) (xs ys : List Term) → Each P (xs ++ ys) → Each P ys
each_back P [] ys a = a
each_back P (x ∷ xs) ys a = each_back P xs ys a.1

pub each_map : (P Q : Term → Type 0) → ((x : Term) → P x → Q x) → (xs : List Term) → Each P xs → Each Q xs
each_map P Q f [] a = tt
each_map P Q f (x ∷ xs) a = (f x a.0, each_map P Q f xs a.1)

pub each_filter : (P : Term → Type 0) (f : Term → Bool) (xs : List Term) → Each P xs → Each P (filter f xs)
each_filter P f [] a = tt
each_filter P f (x ∷ xs) a = by (f x) (filter f xs) (each_filter P f xs a.1)
  where
    by : (b : Bool) (ys : List Term) → Each P ys → Each P (cond b (x ∷ ys) ys)
    by true ys h = (a.0, h)
    by false ys h = h

pub each_get : (P : Term → Type 0) (xs : List Term) (j : ℕ) (d : Term) → j < length xs → Each P xs → P (get_or xs j d)
each_get P [] j d lt a = absurd (omega arith)
each_get P (x ∷ xs) zero d lt a = a.0
each_get P (x ∷ xs) (suc j) d lt a = each_get P xs j d (omega arith) a.1

pub less_is : (o : Ordering) → is_lt o ≡ true → o ≡ Less
less_is Less e = refl
less_is Equal e = absurd (let wrong : false ≡ true = e in cc)
less_is Greater e = absurd (let wrong : false ≡ true = e in cc)

pub equal_is : (o : Ordering) → is_eq o ≡ true → o ≡ Equal
equal_is Less e = absurd (let wrong : false ≡ true = e in cc)
equal_is Equal e = refl
equal_is Greater e = absurd (let wrong : false ≡ true = e in cc)

pub greater_is : (o : Ordering) → is_gt o ≡ true → o ≡ Greater
greater_is Less e = absurd (let wrong : false ≡ true = e in cc)
greater_is Equal e = absurd (let wrong : false ≡ true = e in cc)
greater_is Greater e = refl

pub between_is : (o : Ordering) → is_lt o ≡ false → is_gt o ≡ false → o ≡ Equal
between_is Less e f = absurd (let wrong : true ≡ false = e in cc)
between_is Equal e f = refl
between_is Greater e f = absurd (let wrong : true ≡ false = f in cc)

pub rest_is : (o : Ordering) → is_lt o ≡ false → is_eq o ≡ false → o ≡ Greater
rest_is Less e f = absurd (let wrong : true ≡ false = e in cc)
rest_is Equal e f = absurd (let wrong : true ≡ false = f in cc)
rest_is Greater e f = refl

pub reversed : {K : Type 0} {R : K → K → Ordering} → IsTotalOrder R → (a b : K) (o : Ordering) → R a b ≡ o → R b a ≡ ordering_reverse o
reversed {K} {R} t a b o e = t.antisymm b a ∙ ap ordering_reverse e

-- a comparison that respects the order: what comes before one below is below, and what comes after one above is above
pub record IsMonotone (kind : Kind) (s : Term → Ordering) : Type 0 where
  pub low : (x y : Term) → Lt kind x y → s y ≡ Less → s x ≡ Less
  pub high : (x y : Term) → Lt kind x y → s x ≡ Greater → s y ≡ Greater

-- the keys are in order too, where they may tie
pub not_above : (kind : Kind) (x y : Term) → Lt kind x y → tree_cmp (row_key x) (row_key y) ≡ Greater → ⊥
not_above Bag x y l e =
    let wrong : Greater ≡ Less = sym (ap (λ o. ordering_then o (tree_cmp (tree_of x) (tree_of y))) e) ∙ l in cc
not_above other x y l e = let wrong : Less ≡ Greater = sym l ∙ e in cc

pub key_monotone : (kind : Kind) (k : Tree) → IsMonotone kind (key_cmp k)
key_monotone kind k = record {
  low = λ x y l b. low x y (tree_cmp (row_key x) (row_key y)) refl l b;
  high = λ x y l a. high x y (tree_cmp (row_key x) (row_key y)) refl l a;
}
  where
    low : (x y : Term) (o : Ordering) → tree_cmp (row_key x) (row_key y) ≡ o → Lt kind x y → key_cmp k y ≡ Less → key_cmp k x ≡ Less
    low x y Less e l b = tree_total.trans (row_key x) (row_key y) k e b
    low x y Equal e l b = tree_total.congr (row_key x) (row_key y) k e ∙ b
    low x y Greater e l b = absurd (not_above kind x y l e)

    high : (x y : Term) (o : Ordering) → tree_cmp (row_key x) (row_key y) ≡ o → Lt kind x y → key_cmp k x ≡ Greater → key_cmp k y ≡ Greater
    high x y Less e l a = reversed tree_total k (row_key y) Less
        (tree_total.trans k (row_key x) (row_key y) (reversed tree_total (row_key x) k Greater a) e)
    high x y Equal e l a = sym (tree_total.congr (row_key x) (row_key y) k e) ∙ a
    high x y Greater e l a = absurd (not_above kind x y l e)

pub row_monotone : (kind : Kind) (row : Term) → IsMonotone kind (λ x. row_cmp kind x row)
row_monotone kind row = record {
  low = λ x y l b. (row_total kind).trans x y row l b;
  high = λ x y l a. reversed (row_total kind) row y Less ((row_total kind).trans row x y (reversed (row_total kind) x row Greater a) l);
}

-- what comes after one that ties with a record is above it
pub tied_above : (kind : Kind) (row x y : Term) → row_cmp kind x row ≡ Equal → Lt kind x y → row_cmp kind y row ≡ Greater
tied_above kind row x y e l = reversed (row_total kind) row y Less (sym ((row_total kind).congr x row y e) ∙ l)

-- what is below a record's key is below the record, and so above
pub key_below : (kind : Kind) (x row : Term) → key_cmp (row_key row) x ≡ Less → row_cmp kind x row ≡ Less
key_below Bag x row e = ap (λ o. ordering_then o (tree_cmp (tree_of x) (tree_of row))) e
key_below other x row e = e

pub key_above : (kind : Kind) (x row : Term) → key_cmp (row_key row) x ≡ Greater → row_cmp kind x row ≡ Greater
key_above Bag x row e = ap (λ o. ordering_then o (tree_cmp (tree_of x) (tree_of row))) e
key_above other x row e = e

-- parts of a list in increasing order
pub increasing_front : (kind : Kind) (xs ys : List Term) → IsIncreasing kind (xs ++ ys) → IsIncreasing kind xs
increasing_front kind [] ys r = tt
increasing_front kind (x ∷ xs) ys r = (each_front (Lt kind x) xs ys r.0, increasing_front kind xs ys r.1)

pub increasing_back : (kind : Kind) (xs ys : List Term) → IsIncreasing kind (xs ++ ys) → IsIncreasing kind ys
increasing_back kind [] ys r = r
increasing_back kind (x ∷ xs) ys r = increasing_back kind xs ys r.1

pub increasing_drop : (kind : Kind) (i : ℕ) (rows : List Term) → IsIncreasing kind rows → IsIncreasing kind (drop i rows)
increasing_drop kind zero rows r = r
increasing_drop kind (suc i) [] r = tt
increasing_drop kind (suc i) (x ∷ rows) r = increasing_drop kind i rows r.1

pub increasing_filter : (kind : Kind) (f : Term → Bool) (xs : List Term) → IsIncreasing kind xs → IsIncreasing kind (filter f xs)
increasing_filter kind f [] r = tt
increasing_filter kind f (x ∷ xs) r = by (f x) (filter f xs) (each_filter (Lt kind x) f xs r.0) (increasing_filter kind f xs r.1)
  where
    by : (b : Bool) (ys : List Term) → Each (Lt kind x) ys → IsIncreasing kind ys → IsIncreasing kind (cond b (x ∷ ys) ys)
    by true ys a h = (a, h)
    by false ys a h = h

-- from one above on all are above
pub all_above : (kind : Kind) (s : Term → Ordering) → IsMonotone kind s → (x : Term) (xs : List Term) → IsIncreasing kind (x ∷ xs)
    → s x ≡ Greater → Each (λ y. s y ≡ Greater) (x ∷ xs)
all_above kind s p x xs r g = (g, each_map (Lt kind x) (λ y. s y ≡ Greater) (λ y l. p.high x y l g) xs r.0)

-- what filters keep of them
pub keeps_all : (f : Term → Bool) (xs : List Term) → Each (λ x. f x ≡ true) xs → filter f xs ≡ xs
keeps_all f [] a = refl
keeps_all f (x ∷ xs) a = rw a.0 (ap (λ (t : List Term). x ∷ t) (keeps_all f xs a.1))

pub keeps_none : (f : Term → Bool) (xs : List Term) → Each (λ x. f x ≡ false) xs → filter f xs ≡ []
keeps_none f [] a = refl
keeps_none f (x ∷ xs) a = rw a.0 (keeps_none f xs a.1)

pub each_tested : (s : Term → Ordering) (o : Ordering) (t : Ordering → Bool) (b : Bool) → t o ≡ b → (xs : List Term)
    → Each (λ x. s x ≡ o) xs → Each (λ x. t (s x) ≡ b) xs
each_tested s o t b e xs a = each_map (λ x. s x ≡ o) (λ x. t (s x) ≡ b) (λ x h. ap t h ∙ e) xs a

pub lows_are_low : (s : Term → Ordering) (xs : List Term) → Each (λ x. s x ≡ Less) (filter (λ x. is_lt (s x)) xs)
lows_are_low s [] = tt
lows_are_low s (x ∷ xs) = by (s x) refl (filter (λ y. is_lt (s y)) xs) (lows_are_low s xs)
  where
    by : (o : Ordering) → s x ≡ o → (ys : List Term) → Each (λ y. s y ≡ Less) ys → Each (λ y. s y ≡ Less) (cond (is_lt o) (x ∷ ys) ys)
    by Less e ys h = (e, h)
    by Equal e ys h = h
    by Greater e ys h = h

pub highs_are_high : (s : Term → Ordering) (xs : List Term) → Each (λ x. s x ≡ Greater) (filter (λ x. is_gt (s x)) xs)
highs_are_high s [] = tt
highs_are_high s (x ∷ xs) = by (s x) refl (filter (λ y. is_gt (s y)) xs) (highs_are_high s xs)
  where
    by : (o : Ordering) → s x ≡ o → (ys : List Term) → Each (λ y. s y ≡ Greater) ys → Each (λ y. s y ≡ Greater) (cond (is_gt o) (x ∷ ys) ys)
    by Less e ys h = h
    by Equal e ys h = h
    by Greater e ys h = (e, h)

-- what is below a record, the record, and what is above it
pub increasing_joined : (kind : Kind) (row : Term) (xs ys : List Term) → IsIncreasing kind xs → IsIncreasing kind ys
    → Each (λ x. row_cmp kind x row ≡ Less) xs → Each (λ y. row_cmp kind y row ≡ Greater) ys → IsIncreasing kind (xs ++ row ∷ ys)
increasing_joined kind row [] ys p q a b = (
  each_map (λ y. row_cmp kind y row ≡ Greater) (Lt kind row)
      (λ y h. reversed (row_total kind) y row Greater h) ys b,
  q,
)
increasing_joined kind row (x ∷ xs) ys p q a b = (
  each_append (Lt kind x) xs (row ∷ ys) p.0 (
    a.0,
    each_map (λ y. row_cmp kind y row ≡ Greater) (Lt kind x)
        (λ y h. (row_total kind).trans x row y a.0 (reversed (row_total kind) y row Greater h)) ys b,
  ),
  increasing_joined kind row xs ys p.1 q a.1 b,
)

-- an op keeps the order
pub increasing_put : (kind : Kind) (rows : List Term) (row : Term) → IsIncreasing kind rows → IsIncreasing kind (put kind rows row)
increasing_put kind rows row r =
    let s = λ (x : Term). row_cmp kind x row in
    increasing_joined kind row (filter (λ x. is_lt (s x)) rows) (filter (λ x. is_gt (s x)) rows)
    (increasing_filter kind (λ x. is_lt (s x)) rows r) (increasing_filter kind (λ x. is_gt (s x)) rows r) (lows_are_low s rows)
    (highs_are_high s rows)
