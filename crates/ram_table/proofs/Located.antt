-- What is known of a key's place among pages.
use Rattle.std.proofs.Common.{◌≡◌, ℕ, zero, suc, ◌-◌, ◌<◌, true, false, List, [], ◌∷◌, ◌++◌, length, get_or}
use Rattle.std.proofs.Common.{take, drop, refl, sym, ap, ◌∙◌, subst, append_assoc, arith}
use Rattle.std.specs.List.{AllByRecursion as Each}
use Rattle.std.specs.Ordering.{is_gt}
use Rattle.std.specs.declared.cmp.Ordering.{Ordering}
use Rattle.std.specs.declared.cmp.Ordering.TheVariants.{Less, Equal, Greater}
use Rattle.std.specs.Cmp.{alike_right}
use Rattle.term_core.specs.Tree.{Tree}
use Rattle.term_core.specs.Order.{tree_total}
use Rattle.term_core.specs.declared.term.Term.{Term}
use Rattle.db_model.specs.declared.definition.Kind.{Kind}
use Rattle.ram_table.specs.Inside.Rows.{row_key, key_cmp, IsIncreasing, IsKeyLess}
use Rattle.ram_table.specs.Inside.Pages.{joined, IsPage, IsApart, IsPaged, starts_above, IsPagePlace, IsAround}
use Rattle.ram_table.proofs.Increasing.{key_monotone, each_append, each_front, each_back, each_map, greater_is, increasing_back, all_above}

pub joined_around : (pages : List (List Term)) (i : ℕ) → i < length pages
    → joined pages ≡ joined (take i pages) ++ (get_or pages i [] ++ joined (drop (suc i) pages))
joined_around [] i lt = absurd (omega arith)
joined_around (p ∷ pages) zero lt = refl
joined_around (p ∷ pages) (suc i) lt = ap (λ (t : List Term). p ++ t) (joined_around pages i (omega arith))
    ∙ sym (append_assoc p (joined (take i pages)) _)

pub page_at : (pages : List (List Term)) (i : ℕ) → i < length pages → Each IsPage pages → IsPage (get_or pages i [])
page_at [] i lt e = absurd (omega arith)
page_at (p ∷ pages) zero lt e = e.0
page_at (p ∷ pages) (suc i) lt e = page_at pages i (omega arith) e.1

pub above_from : (kind : Kind) (k : Tree) (pages : List (List Term)) (i : ℕ) → IsIncreasing kind (joined pages) → Each IsPage pages
    → (i < length pages → starts_above k (get_or pages i []) ≡ true) → Each (λ y. key_cmp k y ≡ Greater) (joined (drop i pages))
above_from kind k [] zero r e s = tt
above_from kind k [] (suc i) r e s = tt
above_from kind k ([] ∷ pages) zero r e s = absurd (omega (arith, e.0.0))
above_from kind k ((x ∷ p) ∷ pages) zero r e s =
    all_above kind (key_cmp k) (key_monotone kind k) x (p ++ joined pages) r (greater_is (key_cmp k x) (s (omega arith)))
above_from kind k (p ∷ pages) (suc i) r e s = above_from kind k pages i (increasing_back kind p (joined pages) r) e.1
    (λ lt. s (omega arith))

-- a record whose key is below that of one which is not above a key is below that key
pub below_key : (k : Tree) (x y : Term) → IsKeyLess x y → is_gt (key_cmp k y) ≡ false → key_cmp k x ≡ Less
below_key k x y l n = by (key_cmp k y) refl
  where
    by : (o : Ordering) → key_cmp k y ≡ o → key_cmp k x ≡ Less
    by Less e = tree_total.trans (row_key x) (row_key y) k l e
    by Equal e = sym (alike_right tree_total (row_key y) k (row_key x) e) ∙ l
    by Greater e = absurd (let wrong : true ≡ false = ap is_gt (sym e) ∙ n in cc)

in_joined : (P : Term → Type 0) (pages : List (List Term)) (j : ℕ) → j < length pages → Each P (joined pages) → Each P (get_or pages j [])
in_joined P [] j lt e = absurd (omega arith)
in_joined P (p ∷ pages) zero lt e = each_front P p (joined pages) e
in_joined P (p ∷ pages) (suc j) lt e = in_joined P pages j (omega arith) (each_back P p (joined pages) e)

-- the keys of the pages before one are below its keys
pub apart_before : (pages : List (List Term)) (j : ℕ) → j < length pages → IsApart pages
    → Each (λ x. Each (IsKeyLess x) (get_or pages j [])) (joined (take j pages))
apart_before [] j lt a = absurd (omega arith)
apart_before (p ∷ pages) zero lt a = tt
apart_before (p ∷ pages) (suc j) lt a =
    each_append (λ x. Each (IsKeyLess x) (get_or pages j [])) p (joined (take j pages))
    (each_map (λ x. Each (IsKeyLess x) (joined pages)) (λ x. Each (IsKeyLess x) (get_or pages j []))
    (λ x h. in_joined (IsKeyLess x) pages j (omega arith) h) p a.0) (apart_before pages j (omega arith) a.1)

-- and its keys are below those of the pages behind it
pub apart_behind : (pages : List (List Term)) (j : ℕ) → j < length pages → IsApart pages
    → Each (λ x. Each (IsKeyLess x) (joined (drop (suc j) pages))) (get_or pages j [])
apart_behind [] j lt a = absurd (omega arith)
apart_behind (p ∷ pages) zero lt a = a.0
apart_behind (p ∷ pages) (suc j) lt a = apart_behind pages j (omega arith) a.1

before_page : (k : Tree) (xs page : List Term) → Each (λ x. Each (IsKeyLess x) page) xs → 0 < length page → starts_above k page ≡ false
    → Each (λ x. key_cmp k x ≡ Less) xs
before_page k xs [] a lt s = absurd (omega arith)
before_page k xs (y ∷ page) a lt s = each_map (λ x. Each (IsKeyLess x) (y ∷ page)) (λ x. key_cmp k x ≡ Less) (λ x h. below_key k x y h.0 s)
    xs a

pub around_first : (kind : Kind) (k : Tree) (pages : List (List Term)) (i : ℕ) → IsPaged kind pages → 0 < length pages → i ≡ 0
    → IsPagePlace k pages i → IsAround k pages 0
around_first kind k [] i paged some e place = absurd (omega arith)
around_first kind k (p ∷ pages) i paged some e place = record {
  within = some;
  before = tt;
  behind = each_back (λ y. key_cmp k y ≡ Greater) p (joined pages)
      (above_from kind k (p ∷ pages) 0 paged.increasing paged.each
      (λ lt. subst (λ n. starts_above k (get_or (p ∷ pages) n []) ≡ true) e (place.behind (omega arith))));
}

pub around_other : (kind : Kind) (k : Tree) (pages : List (List Term)) (i j : ℕ) → IsPaged kind pages → suc j ≡ i → IsPagePlace k pages i
    → IsAround k pages j
around_other kind k pages i j paged e place =
    let lt : j < length pages = omega (arith, place.within) in
    let same : i - 1 ≡ j = omega arith in
    record {
      within = lt;
      before = before_page k (joined (take j pages)) (get_or pages j []) (apart_before pages j lt paged.apart)
          (page_at pages j lt paged.each).0 (subst (λ n. starts_above k (get_or pages n []) ≡ false) same (place.before (omega arith)));
      behind = above_from kind k pages (suc j) paged.increasing paged.each
          (λ more. subst (λ n. starts_above k (get_or pages n []) ≡ true) (sym e) (place.behind (omega arith)));
    }
