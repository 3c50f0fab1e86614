-- What is known of a place in a page.
use Rattle.std.proofs.Common.{◌≡◌, ℕ, zero, suc, ◌+◌, ◌-◌, ◌<◌, true, false, not, List, [], ◌∷◌, ◌++◌, length, get_or, set}
use Rattle.std.proofs.Common.{take, drop, refl, sym, ap, ◌∙◌, subst, arith}
use Rattle.std.specs.List.{filter, insert, remove, AllByRecursion as Each}
use Rattle.std.specs.Ordering.{is_lt, is_eq, is_gt}
use Rattle.std.specs.declared.cmp.Ordering.{Ordering}
use Rattle.std.specs.declared.cmp.Ordering.TheVariants.{Less, Equal, Greater}
use Rattle.term_core.specs.Order.{same_tree}
use Rattle.term_core.specs.View.{tree_of}
use Rattle.term_core.specs.declared.term.Term.{Term}
use Rattle.db_model.specs.declared.definition.Kind.{Kind}
use Rattle.ram_table.specs.Inside.Rows.{row_cmp, put, without_row, IsIncreasing}
use Rattle.ram_table.specs.Inside.Pages.{IsLowerBound, IsUpperBound, starts_tied, starts_same}
use Rattle.ram_table.proofs.Increasing.{Lt, IsMonotone, row_monotone, tied_above, each_map, each_get, keeps_all, less_is, equal_is}
use Rattle.ram_table.proofs.Increasing.{greater_is, between_is, rest_is, increasing_drop, all_above}
use Rattle.ram_table.proofs.Paged.{other_stays}
use Rattle.ram_table.proofs.Parts.{filter_parts, tied_parts, high_parts, other_parts, put_parts}

pub take_drop : (i : ℕ) (rows : List Term) → rows ≡ take i rows ++ drop i rows
take_drop zero rows = refl
take_drop (suc i) [] = refl
take_drop (suc i) (x ∷ rows) = ap (λ (t : List Term). x ∷ t) (take_drop i rows)

pub each_take : (P : Term → Type 0) (i : ℕ) (rows : List Term) → Each P rows → Each P (take i rows)
each_take P zero rows e = tt
each_take P (suc i) [] e = tt
each_take P (suc i) (x ∷ rows) e = (e.0, each_take P i rows e.1)

record IsHead (i : ℕ) (rows : List Term) (x : Term) (rest : List Term) : Type 0 where
  within : i < length rows
  behind : drop (suc i) rows ≡ rest
  is : (d : Term) → get_or rows i d ≡ x

head_at : (i : ℕ) (rows : List Term) (x : Term) (rest : List Term) → drop i rows ≡ x ∷ rest → IsHead i rows x rest
head_at zero [] x rest e = absurd (cc)
head_at zero (y ∷ rows) x rest e = record { within = omega arith; behind = cc; is = λ d. cc }
head_at (suc i) [] x rest e = absurd (cc)
head_at (suc i) (y ∷ rows) x rest e = let h = head_at i rows x rest e in
    record { within = omega (arith, h.within); behind = h.behind; is = h.is }

-- a test of an ordering, by cases
not_less : (o : Ordering) → (o ≡ Less → ⊥) → is_lt o ≡ false
not_less Less n = absurd (n refl)
not_less Equal n = refl
not_less Greater n = refl

not_greater : (o : Ordering) → (o ≡ Greater → ⊥) → is_gt o ≡ false
not_greater Less n = refl
not_greater Equal n = refl
not_greater Greater n = absurd (n refl)

module _ (kind : Kind) (s : Term → Ordering) (p : IsMonotone kind s) where
  below_upto : (rows : List Term) (j : ℕ) → j < length rows → IsIncreasing kind rows → ((d : Term) → is_lt (s (get_or rows j d)) ≡ true)
      → Each (λ x. s x ≡ Less) (take (suc j) rows)
  below_upto [] j lt r h = tt
  below_upto (x ∷ rows) zero lt r h = (less_is (s x) (h x), tt)
  below_upto (x ∷ rows) (suc j) lt r h = (
    p.low x (get_or rows j x) (each_get (Lt kind x) rows j x (omega arith) r.0)
        (less_is (s (get_or rows j x)) (h x)),
    below_upto rows j (omega arith) r.1 h,
  )

  -- what stands before the place is below
  pub lower_before : (rows : List Term) (i : ℕ) → IsIncreasing kind rows → IsLowerBound s rows i → Each (λ x. s x ≡ Less) (take i rows)
  lower_before rows zero r place = tt
  lower_before rows (suc j) r place =
      let same : suc j - 1 ≡ j = omega arith in
      below_upto rows j (omega (arith, place.within)) r
      (λ d. subst (λ n. is_lt (s (get_or rows n d)) ≡ true) same (place.before d (omega arith)))

  -- what stands from it on is not
  pub lower_behind : (rows : List Term) (i : ℕ) → IsIncreasing kind rows → IsLowerBound s rows i
      → Each (λ x. is_lt (s x) ≡ false) (drop i rows)
  lower_behind rows i r place = by (drop i rows) refl (increasing_drop kind i rows r)
    where
      by : (rest : List Term) → drop i rows ≡ rest → IsIncreasing kind rest → Each (λ x. is_lt (s x) ≡ false) rest
      by [] e q = tt
      by (x ∷ rest) e q =
          let h = head_at i rows x rest e in
          let first : is_lt (s x) ≡ false = subst (λ y. is_lt (s y) ≡ false) (h.is x) (place.behind x h.within) in (
            first,
            each_map (Lt kind x) (λ y. is_lt (s y) ≡ false)
                (λ y l. not_less (s y) (λ low. let wrong : true ≡ false = sym (ap is_lt (p.low x y l low)) ∙ first in cc)) rest q.0,
          )

  not_above_upto : (rows : List Term) (j : ℕ) → j < length rows → IsIncreasing kind rows
      → ((d : Term) → is_gt (s (get_or rows j d)) ≡ false) → Each (λ x. is_gt (s x) ≡ false) (take (suc j) rows)
  not_above_upto [] j lt r h = tt
  not_above_upto (x ∷ rows) zero lt r h = (h x, tt)
  not_above_upto (x ∷ rows) (suc j) lt r h = (
    not_greater (s x)
        (λ high. let less : Lt kind x (get_or rows j x) = each_get (Lt kind x) rows j x (omega arith) r.0 in
        let wrong : true ≡ false = sym (ap is_gt (p.high x (get_or rows j x) less high)) ∙ h x in cc),
    not_above_upto rows j (omega arith) r.1 h,
  )

  -- what stands before the end is not above, and what stands from it on is
  pub upper_before : (rows : List Term) (i : ℕ) → IsIncreasing kind rows → IsUpperBound s rows i
      → Each (λ x. is_gt (s x) ≡ false) (take i rows)
  upper_before rows zero r place = tt
  upper_before rows (suc j) r place =
      let same : suc j - 1 ≡ j = omega arith in
      not_above_upto rows j (omega (arith, place.within)) r
      (λ d. subst (λ n. is_gt (s (get_or rows n d)) ≡ false) same (place.before d (omega arith)))

  pub upper_behind : (rows : List Term) (i : ℕ) → IsIncreasing kind rows → IsUpperBound s rows i → Each (λ x. s x ≡ Greater) (drop i rows)
  upper_behind rows i r place = by (drop i rows) refl (increasing_drop kind i rows r)
    where
      by : (rest : List Term) → drop i rows ≡ rest → IsIncreasing kind rest → Each (λ x. s x ≡ Greater) rest
      by [] e q = tt
      by (x ∷ rest) e q =
          let h = head_at i rows x rest e in
          all_above kind s p x rest q (greater_is (s x) (subst (λ y. is_gt (s y) ≡ true) (h.is x) (place.behind x h.within)))

-- two tests of one record
both_tests : (s : Term → Ordering) (xs : List Term) → Each (λ x. is_lt (s x) ≡ false) xs → Each (λ x. is_gt (s x) ≡ false) xs
    → Each (λ x. s x ≡ Equal) xs
both_tests s [] a b = tt
both_tests s (x ∷ xs) a b = (between_is (s x) a.0 b.0, both_tests s xs a.1 b.1)

pub all_tied : (s : Term → Ordering) (xs : List Term) → Each (λ x. s x ≡ Equal) xs → filter (λ x. is_eq (s x)) xs ≡ xs
all_tied s [] a = refl
all_tied s (x ∷ xs) a = rw a.0 (ap (λ (t : List Term). x ∷ t) (all_tied s xs a.1))

none_high : (s : Term → Ordering) (xs : List Term) → Each (λ x. s x ≡ Equal) xs → filter (λ x. is_gt (s x)) xs ≡ []
none_high s [] a = refl
none_high s (x ∷ xs) a = rw a.0 (none_high s xs a.1)

none_other : (s : Term → Ordering) (xs : List Term) → Each (λ x. s x ≡ Equal) xs → filter (λ x. not (is_eq (s x))) xs ≡ []
none_other s [] a = refl
none_other s (x ∷ xs) a = rw a.0 (none_other s xs a.1)

-- the run of what ties: from the place on, n records
module _ (kind : Kind) (s : Term → Ordering) (p : IsMonotone kind s) (rows : List Term) (i n : ℕ) (r : IsIncreasing kind rows)
    (from : IsLowerBound s rows i) (to : IsUpperBound s (drop i rows) n) where
  parts : rows ≡ take i rows ++ (take n (drop i rows) ++ drop n (drop i rows))
  parts = take_drop i rows ∙ ap (λ (t : List Term). take i rows ++ t) (take_drop n (drop i rows))

  lows : Each (λ x. s x ≡ Less) (take i rows)
  lows = lower_before kind s p rows i r from

  pub run : Each (λ x. s x ≡ Equal) (take n (drop i rows))
  run = both_tests s (take n (drop i rows)) (each_take (λ x. is_lt (s x) ≡ false) n (drop i rows) (lower_behind kind s p rows i r from))
      (upper_before kind s p (drop i rows) n (increasing_drop kind i rows r) to)

  highs : Each (λ x. s x ≡ Greater) (drop n (drop i rows))
  highs = upper_behind kind s p (drop i rows) n (increasing_drop kind i rows r) to

  pub tied_is : filter (λ x. is_eq (s x)) rows ≡ take n (drop i rows)
  tied_is = ap (filter (λ x. is_eq (s x))) parts ∙ tied_parts s (take i rows) (take n (drop i rows)) (drop n (drop i rows)) lows highs
      ∙ all_tied s (take n (drop i rows)) run

  pub above_is : filter (λ x. is_gt (s x)) rows ≡ drop n (drop i rows)
  above_is = ap (filter (λ x. is_gt (s x))) parts ∙ high_parts s (take i rows) (take n (drop i rows)) (drop n (drop i rows)) lows highs
      ∙ rw (none_high s (take n (drop i rows)) run) refl

  pub others_are : filter (λ x. not (is_eq (s x))) rows ≡ take i rows ++ drop n (drop i rows)
  others_are = ap (filter (λ x. not (is_eq (s x)))) parts
      ∙ other_parts s (take i rows) (take n (drop i rows)) (drop n (drop i rows)) lows highs
      ∙ rw (none_other s (take n (drop i rows)) run) refl

pub set_is : (rows : List Term) (i : ℕ) (row : Term) → i < length rows → set rows i row ≡ take i rows ++ row ∷ drop (suc i) rows
set_is [] i row lt = absurd (omega arith)
set_is (x ∷ rows) zero row lt = refl
set_is (x ∷ rows) (suc i) row lt = ap (λ (t : List Term). x ∷ t) (set_is rows i row (omega arith))

-- a record is put at its place
module _ (kind : Kind) (row : Term) (rows : List Term) (i : ℕ) (r : IsIncreasing kind rows)
    (place : IsLowerBound (λ x. row_cmp kind x row) rows i) where
  pub put_hit : starts_tied (λ x. row_cmp kind x row) (drop i rows) ≡ true → put kind rows row ≡ set rows i row
  put_hit e = by (drop i rows) refl (increasing_drop kind i rows r) e
    where
      by : (rest : List Term) → drop i rows ≡ rest → IsIncreasing kind rest → starts_tied (λ x. row_cmp kind x row) rest ≡ true
          → put kind rows row ≡ set rows i row
      by [] d q t = absurd (let wrong : false ≡ true = t in cc)
      by (x ∷ rest) d q t =
          let h = head_at i rows x rest d in
          let own : row_cmp kind x row ≡ Equal = equal_is (row_cmp kind x row) t in
          let whole : rows ≡ take i rows ++ ((x ∷ []) ++ rest) = take_drop i rows ∙ ap (λ (t : List Term). take i rows ++ t) d in
          let over = each_map (Lt kind x) (λ y. row_cmp kind y row ≡ Greater) (λ y l. tied_above kind row x y own l) rest q.0 in
          ap (λ (t : List Term). put kind t row) whole
          ∙ put_parts kind row (take i rows) (x ∷ []) rest
          (lower_before kind (λ x. row_cmp kind x row) (row_monotone kind row) rows i r place) over
          ∙ rw own (sym (set_is rows i row h.within ∙ ap (λ (t : List Term). take i rows ++ row ∷ t) h.behind))

  pub put_miss : starts_tied (λ x. row_cmp kind x row) (drop i rows) ≡ false → put kind rows row ≡ insert rows i row
  put_miss e = by (drop i rows) refl (increasing_drop kind i rows r) e
    where
      by : (rest : List Term) → drop i rows ≡ rest → IsIncreasing kind rest → starts_tied (λ x. row_cmp kind x row) rest ≡ false
          → put kind rows row ≡ take i rows ++ row ∷ rest
      by [] d q t =
          let whole : rows ≡ take i rows ++ ([] ++ []) = take_drop i rows ∙ ap (λ (t : List Term). take i rows ++ t) d in
          ap (λ (t : List Term). put kind t row) whole
          ∙ put_parts kind row (take i rows) [] [] (lower_before kind (λ x. row_cmp kind x row) (row_monotone kind row) rows i r place)
          tt
      by (x ∷ rest) d q t =
          let h = head_at i rows x rest d in
          let high : row_cmp kind x row ≡ Greater =
          rest_is (row_cmp kind x row) (subst (λ y. is_lt (row_cmp kind y row) ≡ false) (h.is x) (place.behind x h.within)) t in
          let over = all_above kind (λ x. row_cmp kind x row) (row_monotone kind row) x rest q high in
          let whole : rows ≡ take i rows ++ ([] ++ x ∷ rest) = take_drop i rows ∙ ap (λ (t : List Term). take i rows ++ t) d in
          ap (λ (t : List Term). put kind t row) whole
          ∙ put_parts kind row (take i rows) [] (x ∷ rest)
          (lower_before kind (λ x. row_cmp kind x row) (row_monotone kind row) rows i r place) over

drop_nil : (n : ℕ) → drop {A = Term} n [] ≡ []
drop_nil zero = refl
drop_nil (suc n) = refl

pub drop_sum : (i n m : ℕ) (rows : List Term) → m ≡ i + n → drop m rows ≡ drop n (drop i rows)
drop_sum zero n m rows e = ap (λ (q : ℕ). drop q rows) (omega arith)
drop_sum (suc i) n zero rows e = absurd (omega arith)
drop_sum (suc i) n (suc m) [] e = sym (drop_nil n)
drop_sum (suc i) n (suc m) (x ∷ rows) e = drop_sum i n m rows (omega arith)

-- a record leaves, or is not there
module _ (kind : Kind) (row : Term) (rows : List Term) (i : ℕ) (r : IsIncreasing kind rows)
    (place : IsLowerBound (λ x. row_cmp kind x row) rows i) where
  stay : (ys : List Term) (o : Ordering) → is_eq o ≡ false → Each (λ y. row_cmp kind y row ≡ o) ys
      → filter (λ x. not (same_tree (tree_of x) (tree_of row))) ys ≡ ys
  stay ys o n a = keeps_all (λ x. not (same_tree (tree_of x) (tree_of row))) ys
      (each_map (λ x. row_cmp kind x row ≡ o) (λ x. not (same_tree (tree_of x) (tree_of row)) ≡ true)
      (λ x h. other_stays kind x row (ap is_eq h ∙ n)) ys a)

  firsts : filter (λ x. not (same_tree (tree_of x) (tree_of row))) (take i rows) ≡ take i rows
  firsts = stay (take i rows) Less refl (lower_before kind (λ x. row_cmp kind x row) (row_monotone kind row) rows i r place)

  later : (y : Term) (rest : List Term) → IsIncreasing kind (y ∷ rest) → is_lt (row_cmp kind y row) ≡ false
      → Each (λ z. row_cmp kind z row ≡ Greater) rest
  later y rest q n = by (row_cmp kind y row) refl
    where
      by : (o : Ordering) → row_cmp kind y row ≡ o → Each (λ z. row_cmp kind z row ≡ Greater) rest
      by Less e = absurd (let wrong : true ≡ false = ap is_lt (sym e) ∙ n in cc)
      by Equal e = each_map (Lt kind y) (λ z. row_cmp kind z row ≡ Greater) (λ z l. tied_above kind row y z e l) rest q.0
      by Greater e = (all_above kind (λ x. row_cmp kind x row) (row_monotone kind row) y rest q e).1

  behind : (y : Term) (rest : List Term) → drop i rows ≡ y ∷ rest → IsIncreasing kind (y ∷ rest)
      → Each (λ z. row_cmp kind z row ≡ Greater) rest
  behind y rest d q = let h = head_at i rows y rest d in
      later y rest q (subst (λ x. is_lt (row_cmp kind x row) ≡ false) (h.is y) (place.behind y h.within))

  pub row_hit : starts_same (tree_of row) (drop i rows) ≡ true → without_row rows row ≡ remove rows i
  row_hit e = by (drop i rows) refl (increasing_drop kind i rows r) e
    where
      by : (rest : List Term) → drop i rows ≡ rest → IsIncreasing kind rest → starts_same (tree_of row) rest ≡ true
          → without_row rows row ≡ remove rows i
      by [] d q t = absurd (let wrong : false ≡ true = t in cc)
      by (y ∷ rest) d q t =
          let h = head_at i rows y rest d in
          let whole : rows ≡ take i rows ++ ((y ∷ []) ++ rest) = take_drop i rows ∙ ap (λ (t : List Term). take i rows ++ t) d in
          let last = stay rest Greater refl (behind y rest d q) in
          ap (λ (t : List Term). without_row t row) whole
          ∙ filter_parts (λ z. not (same_tree (tree_of z) (tree_of row))) (take i rows) (y ∷ []) rest
          ∙ rw (firsts, t, last) (ap (λ (t : List Term). take i rows ++ t) (sym h.behind))

  pub row_within : starts_same (tree_of row) (drop i rows) ≡ true → i < length rows
  row_within e = by (drop i rows) refl e
    where
      by : (rest : List Term) → drop i rows ≡ rest → starts_same (tree_of row) rest ≡ true → i < length rows
      by [] d t = absurd (let wrong : false ≡ true = t in cc)
      by (y ∷ rest) d t = (head_at i rows y rest d).within

  pub row_miss : starts_same (tree_of row) (drop i rows) ≡ false → without_row rows row ≡ rows
  row_miss e = by (drop i rows) refl (increasing_drop kind i rows r) e
    where
      by : (rest : List Term) → drop i rows ≡ rest → IsIncreasing kind rest → starts_same (tree_of row) rest ≡ false
          → without_row rows row ≡ rows
      by [] d q t =
          let whole : rows ≡ take i rows ++ ([] ++ []) = take_drop i rows ∙ ap (λ (t : List Term). take i rows ++ t) d in
          ap (λ (t : List Term). without_row t row) whole
          ∙ filter_parts (λ z. not (same_tree (tree_of z) (tree_of row))) (take i rows) [] [] ∙ rw firsts (sym whole)
      by (y ∷ rest) d q t =
          let whole : rows ≡ take i rows ++ ((y ∷ []) ++ rest) = take_drop i rows ∙ ap (λ (t : List Term). take i rows ++ t) d in
          let last = stay rest Greater refl (behind y rest d q) in
          ap (λ (t : List Term). without_row t row) whole
          ∙ filter_parts (λ z. not (same_tree (tree_of z) (tree_of row))) (take i rows) (y ∷ []) rest ∙ rw (firsts, t, last) (sym whole)
