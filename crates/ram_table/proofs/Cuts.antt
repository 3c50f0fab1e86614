-- Places between two keys.
use Rattle.std.proofs.Common.{◌≡◌, ℕ, zero, suc, ◌+◌, ◌<◌, ◌≤◌, true, false, List, [], ◌∷◌, length, get_or, set, take, drop}
use Rattle.std.proofs.Common.{refl, sym, ap, ◌∙◌, subst, inl, inr, arith}
use Rattle.std.proofs.lemmas.Bool.{cases_lt}
use Rattle.std.specs.List.{insert, AllByRecursion as Each}
use Rattle.std.specs.Ordering.{is_lt, is_gt}
use Rattle.std.specs.declared.cmp.Ordering.{Ordering}
use Rattle.std.specs.declared.cmp.Ordering.TheVariants.{Less, Equal, Greater}
use Rattle.std.specs.Cmp.{tied_itself, alike_right}
use Rattle.term_core.specs.Tree.{Tree, tree_cmp}
use Rattle.term_core.specs.Order.{tree_total}
use Rattle.term_core.specs.declared.term.Term.{Term}
use Rattle.db_model.specs.declared.definition.Kind.{Kind}
use Rattle.ram_table.specs.Inside.Rows.{row_key, key_cmp, IsIncreasing, IsKeyLess}
use Rattle.ram_table.specs.Inside.Pages.{joined, first_key_cmp, IsLowerBound, IsUpperBound, IsCut, IsOneKey, IsPage}
use Rattle.ram_table.proofs.Increasing.{key_monotone, each_map, each_get, between_is, reversed}
use Rattle.ram_table.proofs.InPage.{lower_before, lower_behind, upper_before, upper_behind}
use Rattle.ram_table.proofs.Paged.{one_key_of, all_as_first, page_increasing}

each_taken : (P : Term → Type 0) (i j : ℕ) (rows : List Term) (d : Term) → j < i → j < length rows → Each P (take i rows)
    → P (get_or rows j d)
each_taken P zero j rows d lt in' e = absurd (omega arith)
each_taken P (suc i) j [] d lt in' e = absurd (omega arith)
each_taken P (suc i) zero (x ∷ rows) d lt in' e = e.0
each_taken P (suc i) (suc j) (x ∷ rows) d lt in' e = each_taken P i j rows d (omega arith) (omega arith) e.1

take_whole : (i : ℕ) (rows : List Term) → length rows ≤ i → take i rows ≡ rows
take_whole zero [] le = refl
take_whole zero (x ∷ rows) le = absurd (omega arith)
take_whole (suc i) [] le = refl
take_whole (suc i) (x ∷ rows) le = ap (λ (t : List Term). x ∷ t) (take_whole i rows (omega arith))

-- by a key between them
below_not_less : (k : Tree) (x y : Term) → key_cmp k x ≡ Less → is_lt (key_cmp k y) ≡ false → IsKeyLess x y
below_not_less k x y l n = by (key_cmp k y) refl
  where
    by : (o : Ordering) → key_cmp k y ≡ o → IsKeyLess x y
    by Less e = absurd (let wrong : true ≡ false = ap is_lt (sym e) ∙ n in cc)
    by Equal e = alike_right tree_total (row_key y) k (row_key x) e ∙ l
    by Greater e = tree_total.trans (row_key x) k (row_key y) l (reversed tree_total (row_key y) k Greater e)

not_above_above : (k : Tree) (x y : Term) → is_gt (key_cmp k x) ≡ false → key_cmp k y ≡ Greater → IsKeyLess x y
not_above_above k x y n g = by (key_cmp k x) refl
  where
    up : tree_cmp k (row_key y) ≡ Less
    up = reversed tree_total (row_key y) k Greater g

    by : (o : Ordering) → key_cmp k x ≡ o → IsKeyLess x y
    by Less e = tree_total.trans (row_key x) k (row_key y) e up
    by Equal e = tree_total.congr (row_key x) k (row_key y) e ∙ up
    by Greater e = absurd (let wrong : true ≡ false = ap is_gt (sym e) ∙ n in cc)

module _ (kind : Kind) (k : Tree) (rows : List Term) (near : ℕ) (row : Term) (r : IsIncreasing kind rows) (lt : near < length rows)
    (e : k ≡ row_key row) (is : row ≡ get_or rows near row) where
  own : key_cmp k (get_or rows near row) ≡ Equal
  own = ap (key_cmp k) (sym is) ∙ ap (tree_cmp (row_key row)) e ∙ tied_itself tree_total (row_key row)

  pub cut_at_start : (i : ℕ) → IsLowerBound (key_cmp k) rows i → 0 < i → IsCut rows i
  cut_at_start i place some = record {
    behind_first = some;
    within = elim (cases_lt i (length rows)) [
      | inl h ↦ h
      | inr h ↦ absurd (let low = each_taken (λ x. key_cmp k x ≡ Less) i near rows row (omega arith) lt
          (lower_before kind (key_cmp k) (key_monotone kind k) rows i r place) in let wrong : Less ≡ Equal = sym low ∙ own in cc)
    ];
    between = each_map (λ x. key_cmp k x ≡ Less) (λ x. Each (IsKeyLess x) (drop i rows))
        (λ x l. each_map (λ y. is_lt (key_cmp k y) ≡ false) (IsKeyLess x) (λ y n. below_not_less k x y l n) (drop i rows)
        (lower_behind kind (key_cmp k) (key_monotone kind k) rows i r place)) (take i rows)
        (lower_before kind (key_cmp k) (key_monotone kind k) rows i r place);
  }

  pub cut_at_end : (i : ℕ) → IsUpperBound (key_cmp k) rows i → i < length rows → IsCut rows i
  cut_at_end i place less = record {
    behind_first = some i place;
    within = less;
    between = each_map (λ x. is_gt (key_cmp k x) ≡ false) (λ x. Each (IsKeyLess x) (drop i rows))
        (λ x n. each_map (λ y. key_cmp k y ≡ Greater) (IsKeyLess x) (λ y g. not_above_above k x y n g) (drop i rows)
        (upper_behind kind (key_cmp k) (key_monotone kind k) rows i r place)) (take i rows)
        (upper_before kind (key_cmp k) (key_monotone kind k) rows i r place);
  }
    where
      some : (i : ℕ) → IsUpperBound (key_cmp k) rows i → 0 < i
      some zero place =
          let high = each_get (λ y. key_cmp k y ≡ Greater) rows near row lt
          (upper_behind kind (key_cmp k) (key_monotone kind k) rows 0 r place) in
          absurd (let wrong : Greater ≡ Equal = sym high ∙ own in cc)
      some (suc i) place = omega arith

pub no_cut : (kind : Kind) (k : Tree) (rows : List Term) (i j : ℕ) → IsIncreasing kind rows → IsLowerBound (key_cmp k) rows i → i ≡ 0
    → IsUpperBound (key_cmp k) rows j → length rows ≤ j → IsOneKey rows
no_cut kind k rows i j r from none to all =
    let low = subst (λ n. Each (λ x. is_lt (key_cmp k x) ≡ false) (drop n rows)) none
    (lower_behind kind (key_cmp k) (key_monotone kind k) rows i r from) in
    let high = subst (Each (λ x. is_gt (key_cmp k x) ≡ false)) (take_whole j rows all)
    (upper_before kind (key_cmp k) (key_monotone kind k) rows j r to) in
    one_key_of k rows (both rows low high)
  where
    both : (xs : List Term) → Each (λ x. is_lt (key_cmp k x) ≡ false) xs → Each (λ x. is_gt (key_cmp k x) ≡ false) xs
        → Each (λ x. key_cmp k x ≡ Equal) xs
    both [] a b = tt
    both (x ∷ xs) a b = (between_is (key_cmp k x) a.0 b.0, both xs a.1 b.1)

len_take : (i : ℕ) (rows : List Term) → i ≤ length rows → length (take i rows) ≡ i
len_take zero rows le = refl
len_take (suc i) [] le = absurd (omega arith)
len_take (suc i) (x ∷ rows) le = omega (arith, len_take i rows (omega arith))

len_drop : (i : ℕ) (rows : List Term) → i ≤ length rows → length (drop i rows) + i ≡ length rows
len_drop zero rows le = omega arith
len_drop (suc i) [] le = absurd (omega arith)
len_drop (suc i) (x ∷ rows) le = omega (arith, len_drop i rows (omega arith))

pub cut_pages : (page : List Term) (i : ℕ) → IsCut page i → length page ≡ 65 → IsPage (take i page) × IsPage (drop i page)
cut_pages page i cut n =
    let a = len_take i page (omega (arith, cut.within)) in
    let b = len_drop i page (omega (arith, cut.within)) in
    ((omega (arith, cut.behind_first), inl (omega (arith, cut.within))), (omega (arith, cut.within), inl (omega (arith, cut.behind_first))))

pub each_cut : (pages : List (List Term)) (i : ℕ) (front tail : List Term) → i < length pages → Each IsPage (take i pages)
    → Each IsPage (drop (suc i) pages) → IsPage front → IsPage tail → Each IsPage (insert (set pages i front) (suc i) tail)
each_cut [] i front tail lt a b c d = absurd (omega arith)
each_cut (p ∷ pages) zero front tail lt a b c d = (c, (d, b))
each_cut (p ∷ pages) (suc i) front tail lt a b c d = (a.0, each_cut pages i front tail (omega arith) a.1 b c d)

pub each_uncut : (pages : List (List Term)) (i : ℕ) (page : List Term) → i < length pages → Each IsPage (take i pages)
    → Each IsPage (drop (suc i) pages) → IsPage page → Each IsPage (set pages i page)
each_uncut [] i page lt a b c = absurd (omega arith)
each_uncut (p ∷ pages) zero page lt a b c = (c, b)
each_uncut (p ∷ pages) (suc i) page lt a b c = (a.0, each_uncut pages i page (omega arith) a.1 b c)

-- how all records of a big page stand to a key
pub page_sides : (k : Tree) (page : List Term) (o : Ordering) → IsPage page → 64 < length page → o ≡ first_key_cmp k page
    → Each (λ y. key_cmp k y ≡ o) page
page_sides k [] o p big e = absurd (omega arith)
page_sides k (x ∷ rows) o p big e = elim p.1 [ inl h ↦ absurd (omega arith) | inr a ↦ all_as_first k x rows o a (sym e) ]

set_length : (pages : List (List Term)) (i : ℕ) (page : List Term) → length (set pages i page) ≡ length pages
set_length [] i page = refl
set_length (p ∷ pages) zero page = refl
set_length (p ∷ pages) (suc i) page = omega (arith, set_length pages i page)

pub increasing_at_set : (kind : Kind) (pages : List (List Term)) (i : ℕ) (page : List Term) → i < length pages
    → IsIncreasing kind (joined (set pages i page)) → IsIncreasing kind (get_or (set pages i page) i [])
increasing_at_set kind pages i page lt r = page_increasing kind (set pages i page) i (omega (arith, set_length pages i page)) r
