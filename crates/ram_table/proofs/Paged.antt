-- Pages after an op on one of them.
use Rattle.std.proofs.Common.{cond, ◌≡◌, ℕ, zero, suc, ◌+◌, ◌<◌, ◌≤◌, ◌⊎◌, inl, inr, Bool, true, false, not, List, [], ◌∷◌, ◌++◌}
use Rattle.std.proofs.Common.{length, get_or, set, take, drop, refl, sym, ap, ◌∙◌, subst, append_assoc, append-nil, arith, length-append}
use Rattle.std.specs.List.{filter, insert, remove, AllByRecursion as Each}
use Rattle.std.specs.Option.{unwrap_or}
use Rattle.std.specs.Ordering.{is_lt, is_eq, is_gt, ordering_then}
use Rattle.std.specs.declared.cmp.Ordering.{Ordering}
use Rattle.std.specs.declared.cmp.Ordering.TheVariants.{Less, Equal, Greater}
use Rattle.std.specs.Cmp.{tied_itself, tied_back}
use Rattle.term_core.specs.Tree.{Tree, tree_cmp, key_of}
use Rattle.term_core.specs.Order.{tree_total, same_tree, same_tree_true}
use Rattle.term_core.specs.View.{tree_of}
use Rattle.term_core.specs.declared.term.Term.{Term}
use Rattle.db_model.specs.declared.definition.Kind.{Kind}
use Rattle.db_model.specs.declared.definition.Kind.TheVariants.{Bag}
use Rattle.ram_table.specs.Inside.Rows.{row_key, key_cmp, row_cmp, at, above, put, without, without_row, IsIncreasing, IsKeyLess}
use Rattle.ram_table.specs.Inside.Pages.{joined, IsPage, IsOneKey, IsApart, IsPaged, IsAround}
use Rattle.ram_table.proofs.Increasing.{each_append, each_front, each_back, each_map, each_filter, key_below, key_above, each_tested}
use Rattle.ram_table.proofs.Increasing.{keeps_all, reversed, increasing_front, increasing_back, increasing_put, increasing_filter}
use Rattle.ram_table.proofs.Parts.{filter_parts, tied_parts, high_parts, other_parts, put_parts}
use Rattle.ram_table.proofs.Located.{joined_around, page_at, apart_before, apart_behind}

pub joined_append : (ps qs : List (List Term)) → joined (ps ++ qs) ≡ joined ps ++ joined qs
joined_append [] qs = refl
joined_append (p ∷ ps) qs = ap (λ (t : List Term). p ++ t) (joined_append ps qs) ∙ sym (append_assoc p (joined ps) (joined qs))

pub joined_set : (pages : List (List Term)) (i : ℕ) (page : List Term) → i < length pages
    → joined (set pages i page) ≡ joined (take i pages) ++ (page ++ joined (drop (suc i) pages))
joined_set [] i page lt = absurd (omega arith)
joined_set (p ∷ pages) zero page lt = refl
joined_set (p ∷ pages) (suc i) page lt = ap (λ (t : List Term). p ++ t) (joined_set pages i page (omega arith))
    ∙ sym (append_assoc p (joined (take i pages)) _)

pub each_set : (P : List Term → Type 0) (pages : List (List Term)) (i : ℕ) (page : List Term) → Each P pages → P page
    → Each P (set pages i page)
each_set P [] i page e p = tt
each_set P (q ∷ pages) zero page e p = (p, e.1)
each_set P (q ∷ pages) (suc i) page e p = (e.0, each_set P pages i page e.1 p)

pub each_join : (P : List Term → Type 0) (ps qs : List (List Term)) → Each P ps → Each P qs → Each P (ps ++ qs)
each_join P [] qs a b = b
each_join P (p ∷ ps) qs a b = (a.0, each_join P ps qs a.1 b)

pub each_take : (P : List Term → Type 0) (i : ℕ) (pages : List (List Term)) → Each P pages → Each P (take i pages)
each_take P zero pages e = tt
each_take P (suc i) [] e = tt
each_take P (suc i) (p ∷ pages) e = (e.0, each_take P i pages e.1)

pub each_drop : (P : List Term → Type 0) (i : ℕ) (pages : List (List Term)) → Each P pages → Each P (drop i pages)
each_drop P zero pages e = e
each_drop P (suc i) [] e = tt
each_drop P (suc i) (p ∷ pages) e = each_drop P i pages e.1

pub page_increasing : (kind : Kind) (pages : List (List Term)) (i : ℕ) → i < length pages → IsIncreasing kind (joined pages)
    → IsIncreasing kind (get_or pages i [])
page_increasing kind pages i lt r =
    increasing_front kind (get_or pages i []) (joined (drop (suc i) pages))
    (increasing_back kind (joined (take i pages)) _ (subst (IsIncreasing kind) (joined_around pages i lt) r))

-- what one page says of all
module _ (k : Tree) (pages : List (List Term)) (i : ℕ) (around : IsAround k pages i) where
  pub at_page : at k (joined pages) ≡ at k (get_or pages i [])
  at_page = ap (at k) (joined_around pages i around.within)
      ∙ tied_parts (key_cmp k) (joined (take i pages)) (get_or pages i []) (joined (drop (suc i) pages)) around.before around.behind

  pub above_page : above k (joined pages) ≡ above k (get_or pages i []) ++ joined (drop (suc i) pages)
  above_page = ap (above k) (joined_around pages i around.within)
      ∙ high_parts (key_cmp k) (joined (take i pages)) (get_or pages i []) (joined (drop (suc i) pages)) around.before around.behind

  pub without_page : joined (set pages i (without (get_or pages i []) k)) ≡ without (joined pages) k
  without_page =
      joined_set pages i (without (get_or pages i []) k) around.within
      ∙ sym (other_parts (key_cmp k) (joined (take i pages)) (get_or pages i []) (joined (drop (suc i) pages)) around.before around.behind)
      ∙ sym (ap (λ (t : List Term). without t k) (joined_around pages i around.within))

pub put_page : (kind : Kind) (row : Term) (pages : List (List Term)) (i : ℕ) → IsAround (row_key row) pages i
    → joined (set pages i (put kind (get_or pages i []) row)) ≡ put kind (joined pages) row
put_page kind row pages i around =
    joined_set pages i (put kind (get_or pages i []) row) around.within
    ∙ sym (put_parts kind row (joined (take i pages)) (get_or pages i []) (joined (drop (suc i) pages))
    (each_map _ (λ x. row_cmp kind x row ≡ Less) (λ x h. key_below kind x row h) (joined (take i pages)) around.before)
    (each_map _ (λ y. row_cmp kind y row ≡ Greater) (λ y h. key_above kind y row h) (joined (drop (suc i) pages)) around.behind))
    ∙ sym (ap (λ (t : List Term). put kind t row) (joined_around pages i around.within))

pub element : (pages : List (List Term)) (i : ℕ) (x : List Term) → i < length pages → x ≡ get_or pages i x → x ≡ get_or pages i []
element [] i x lt e = absurd (omega arith)
element (p ∷ pages) zero x lt e = e
element (p ∷ pages) (suc i) x lt e = element pages i x (omega arith) e

pub take_of_set : (pages : List (List Term)) (i : ℕ) (page : List Term) → take i (set pages i page) ≡ take i pages
take_of_set [] i page = refl
take_of_set (p ∷ pages) zero page = refl
take_of_set (p ∷ pages) (suc i) page = ap (λ (t : List (List Term)). p ∷ t) (take_of_set pages i page)

pub drop_of_set : (pages : List (List Term)) (i : ℕ) (page : List Term) → drop (suc i) (set pages i page) ≡ drop (suc i) pages
drop_of_set [] i page = refl
drop_of_set (p ∷ pages) zero page = refl
drop_of_set (p ∷ pages) (suc i) page = drop_of_set pages i page

pub joined_cut : (pages : List (List Term)) (i : ℕ) (front tail : List Term) → i < length pages → front ++ tail ≡ get_or pages i []
    → joined (insert (set pages i front) (suc i) tail) ≡ joined pages
joined_cut [] i front tail lt e = absurd (omega arith)
joined_cut (p ∷ pages) zero front tail lt e = sym (append_assoc front tail (joined pages)) ∙ ap (λ (t : List Term). t ++ joined pages) e
joined_cut (p ∷ pages) (suc i) front tail lt e = ap (λ (t : List Term). p ++ t) (joined_cut pages i front tail (omega arith) e)

-- how many records there are, with those of one page apart
pub length_around : (pages : List (List Term)) (i : ℕ) (page : List Term) → i < length pages
    → length (joined (set pages i page)) + length (get_or pages i []) ≡ length (joined pages) + length page
length_around pages i page lt =
    omega (
      arith,
      ap (length {A = Term}) (joined_set pages i page lt),
      ap (length {A = Term}) (joined_around pages i lt),
      length-append
          (joined (take i pages)) (page ++ joined (drop (suc i) pages)),
      length-append (joined (take i pages))
          (get_or pages i [] ++ joined (drop (suc i) pages)),
      length-append page (joined (drop (suc i) pages)),
      length-append
          (get_or pages i []) (joined (drop (suc i) pages)),
    )

pub joined_remove : (pages : List (List Term)) (i : ℕ) (page : List Term) → i < length pages → length page ≡ 0
    → joined (remove (set pages i page) i) ≡ joined (set pages i page)
joined_remove [] i page lt e = absurd (omega arith)
joined_remove (p ∷ pages) zero [] lt e = refl
joined_remove (p ∷ pages) zero (x ∷ page) lt e = absurd (omega arith)
joined_remove (p ∷ pages) (suc i) page lt e = ap (λ (t : List Term). p ++ t) (joined_remove pages i page (omega arith) e)

-- each page has a record
pub pages_within : (pages : List (List Term)) → Each IsPage pages → length pages ≤ length (joined pages)
pages_within [] e = omega arith
pages_within (p ∷ pages) e = omega (arith, pages_within pages e.1, e.0.0, length-append p (joined pages))

each_both : (P Q R : Term → Type 0) → ((x : Term) → P x → Q x → R x) → (xs : List Term) → Each P xs → Each Q xs → Each R xs
each_both P Q R f [] a b = tt
each_both P Q R f (x ∷ xs) a b = (f x a.0 b.0, each_both P Q R f xs a.1 b.1)

pub each_put : (P : Term → Type 0) (kind : Kind) (rows : List Term) (row : Term) → Each P rows → P row → Each P (put kind rows row)
each_put P kind rows row a p = each_append P (filter (λ x. is_lt (row_cmp kind x row)) rows)
    (row ∷ filter (λ x. is_gt (row_cmp kind x row)) rows) (each_filter P (λ x. is_lt (row_cmp kind x row)) rows a)
    (p, each_filter P (λ x. is_gt (row_cmp kind x row)) rows a)

-- a page in the place of another, between the keys of the others
pub apart_set : (pages : List (List Term)) (i : ℕ) (page : List Term) → i < length pages → IsApart pages
    → Each (λ x. Each (IsKeyLess x) page) (joined (take i pages)) → Each (λ x. Each (IsKeyLess x) (joined (drop (suc i) pages))) page
    → IsApart (set pages i page)
apart_set [] i page lt a b c = absurd (omega arith)
apart_set (p ∷ pages) zero page lt a b c = (c, a.1)
apart_set (p ∷ pages) (suc i) page lt a b c = (
  each_both (λ x. Each (IsKeyLess x) (joined pages)) (λ x. Each (IsKeyLess x) page) (λ x. Each (IsKeyLess x) (joined (set pages i page)))
      (λ x h g.
      let whole = subst (Each (IsKeyLess x)) (joined_around pages i (omega arith)) h in
      subst (Each (IsKeyLess x)) (sym (joined_set pages i page (omega arith)))
      (each_append (IsKeyLess x) (joined (take i pages)) (page ++ joined (drop (suc i) pages))
      (each_front (IsKeyLess x) (joined (take i pages)) _ whole)
      (each_append (IsKeyLess x) page (joined (drop (suc i) pages)) g
      (each_back (IsKeyLess x) (get_or pages i []) _ (each_back (IsKeyLess x) (joined (take i pages)) _ whole))))) p a.0
      (each_front (λ x. Each (IsKeyLess x) page) p (joined (take i pages)) b),
  apart_set pages i page (omega arith) a.1 (each_back (λ x. Each (IsKeyLess x) page) p (joined (take i pages)) b) c,
)

pub apart_put : (kind : Kind) (row : Term) (pages : List (List Term)) (i : ℕ) → IsApart pages → IsAround (row_key row) pages i
    → IsApart (set pages i (put kind (get_or pages i []) row))
apart_put kind row pages i a around =
    apart_set pages i (put kind (get_or pages i []) row) around.within a
    (each_both (λ x. Each (IsKeyLess x) (get_or pages i [])) (λ x. key_cmp (row_key row) x ≡ Less)
    (λ x. Each (IsKeyLess x) (put kind (get_or pages i []) row)) (λ x h l. each_put (IsKeyLess x) kind (get_or pages i []) row h l)
    (joined (take i pages)) (apart_before pages i around.within a) around.before)
    (each_put (λ x. Each (IsKeyLess x) (joined (drop (suc i) pages))) kind (get_or pages i []) row (apart_behind pages i around.within a)
    (each_map (λ y. key_cmp (row_key row) y ≡ Greater) (IsKeyLess row) (λ y h. reversed tree_total (row_key y) (row_key row) Greater h)
    (joined (drop (suc i) pages)) around.behind))

pub apart_filter : (f : Term → Bool) (pages : List (List Term)) (i : ℕ) → i < length pages → IsApart pages
    → IsApart (set pages i (filter f (get_or pages i [])))
apart_filter f pages i lt a =
    apart_set pages i (filter f (get_or pages i [])) lt a
    (each_map (λ x. Each (IsKeyLess x) (get_or pages i [])) (λ x. Each (IsKeyLess x) (filter f (get_or pages i [])))
    (λ x h. each_filter (IsKeyLess x) f (get_or pages i []) h) (joined (take i pages)) (apart_before pages i lt a))
    (each_filter (λ x. Each (IsKeyLess x) (joined (drop (suc i) pages))) f (get_or pages i []) (apart_behind pages i lt a))

pub apart_remove : (pages : List (List Term)) (i : ℕ) (page : List Term) → i < length pages → length page ≡ 0 → IsApart (set pages i page)
    → IsApart (remove (set pages i page) i)
apart_remove [] i page lt e a = absurd (omega arith)
apart_remove (p ∷ pages) zero page lt e a = a.1
apart_remove (p ∷ pages) (suc i) page lt e a = (
  each_map (λ x. Each (IsKeyLess x) (joined (set pages i page))) (λ x. Each (IsKeyLess x) (joined (remove (set pages i page) i)))
      (λ x h. subst (Each (IsKeyLess x)) (sym (joined_remove pages i page (omega arith) e)) h) p a.0,
  apart_remove pages i page (omega arith)
      e a.1,
)

-- a page cut between keys
pub apart_cut : (pages : List (List Term)) (i : ℕ) (front tail : List Term) → i < length pages → front ++ tail ≡ get_or pages i []
    → Each (λ x. Each (IsKeyLess x) tail) front → IsApart pages → IsApart (insert (set pages i front) (suc i) tail)
apart_cut [] i front tail lt e c a = absurd (omega arith)
apart_cut (p ∷ pages) zero front tail lt e c a =
    let both = subst (Each (λ x. Each (IsKeyLess x) (joined pages))) (sym e) a.0 in (
      each_both (λ x. Each (IsKeyLess x) tail) (λ x. Each (IsKeyLess x) (joined pages)) (λ x. Each (IsKeyLess x) (tail ++ joined pages))
          (λ x h g. each_append (IsKeyLess x) tail (joined pages) h g) front c
          (each_front (λ x. Each (IsKeyLess x) (joined pages)) front tail both),
      (each_back (λ x. Each (IsKeyLess x) (joined pages)) front tail both, a.1),
    )
apart_cut (p ∷ pages) (suc i) front tail lt e c a = (
  each_map (λ x. Each (IsKeyLess x) (joined pages)) (λ x. Each (IsKeyLess x) (joined (insert (set pages i front) (suc i) tail)))
      (λ x h. subst (Each (IsKeyLess x)) (sym (joined_cut pages i front tail (omega arith) e)) h) p a.0,
  apart_cut pages i front tail (omega arith) e c a.1,
)

-- a page of its own for a record between the keys of the others
apart_join : (ps qs : List (List Term)) → IsApart ps → IsApart qs → Each (λ x. Each (IsKeyLess x) (joined qs)) (joined ps)
    → IsApart (ps ++ qs)
apart_join [] qs a b c = b
apart_join (p ∷ ps) qs a b c = (
  each_both (λ x. Each (IsKeyLess x) (joined ps)) (λ x. Each (IsKeyLess x) (joined qs)) (λ x. Each (IsKeyLess x) (joined (ps ++ qs)))
      (λ x h g. subst (Each (IsKeyLess x)) (sym (joined_append ps qs)) (each_append (IsKeyLess x) (joined ps) (joined qs) h g)) p a.0
      (each_front (λ x. Each (IsKeyLess x) (joined qs)) p (joined ps) c),
  apart_join ps qs a.1 b (each_back (λ x. Each (IsKeyLess x) (joined qs)) p (joined ps) c),
)

-- the pages before a place and those from it on
pub joined_parted : (i : ℕ) (pages : List (List Term)) → joined pages ≡ joined (take i pages) ++ joined (drop i pages)
joined_parted zero pages = refl
joined_parted (suc i) [] = refl
joined_parted (suc i) (p ∷ pages) = ap (λ (t : List Term). p ++ t) (joined_parted i pages)
    ∙ sym (append_assoc p (joined (take i pages)) (joined (drop i pages)))

apart_take : (i : ℕ) (pages : List (List Term)) → IsApart pages → IsApart (take i pages)
apart_take zero pages a = tt
apart_take (suc i) [] a = tt
apart_take (suc i) (p ∷ pages) a = (
  each_map (λ x. Each (IsKeyLess x) (joined pages)) (λ x. Each (IsKeyLess x) (joined (take i pages)))
      (λ x h. each_front (IsKeyLess x) (joined (take i pages)) (joined (drop i pages))
      (subst (Each (IsKeyLess x)) (joined_parted i pages) h)) p a.0,
  apart_take i pages a.1,
)

apart_drop : (i : ℕ) (pages : List (List Term)) → IsApart pages → IsApart (drop i pages)
apart_drop zero pages a = a
apart_drop (suc i) [] a = tt
apart_drop (suc i) (p ∷ pages) a = apart_drop i pages a.1

-- records of one key
pub one_key_of : (k : Tree) (rows : List Term) → Each (λ x. key_cmp k x ≡ Equal) rows → IsOneKey rows
one_key_of k [] a = tt
one_key_of k (x ∷ rows) a = each_map (λ y. key_cmp k y ≡ Equal) (λ y. key_cmp (row_key x) y ≡ Equal)
    (λ y h. tree_total.congr (row_key y) k (row_key x) h ∙ tied_back tree_total (row_key x) k a.0) rows a.1

pub each_of_one_key : (x : Term) (rows : List Term) → IsOneKey (x ∷ rows) → Each (λ y. key_cmp (row_key x) y ≡ Equal) (x ∷ rows)
each_of_one_key x rows a = (tied_itself tree_total (row_key x), a)

-- a page was put into
pub record IsPutAt (kind : Kind) (row : Term) (pages : List (List Term)) (i : ℕ) (page : List Term) (b : Bool) : Type 0 where
  pub put_is : joined (set pages i page) ≡ put kind (joined pages) row
  pub increasing : IsIncreasing kind (joined (set pages i page))
  pub apart : IsApart (set pages i page)
  pub counted : length (joined (set pages i page)) ≡ cond b (length (joined pages) + 1) (length (joined pages))
  pub some : 0 < length page
  pub each : (length page ≤ 64) ⊎ IsOneKey page → Each IsPage (set pages i page)
  pub front : Each IsPage (take i (set pages i page))
  pub back : Each IsPage (drop (suc i) (set pages i page))

pub put_at : (kind : Kind) (row : Term) (pages : List (List Term)) (i : ℕ) (old page : List Term) (b : Bool) → IsPaged kind pages
    → IsAround (row_key row) pages i → old ≡ get_or pages i [] → page ≡ put kind old row
    → length page ≡ cond b (length old + 1) (length old) → IsPutAt kind row pages i page b
put_at kind row pages i old page b paged around e f n =
    let lt = around.within in
    let was : IsPage old = subst IsPage (sym e) (page_at pages i lt paged.each) in
    let same : page ≡ put kind (get_or pages i []) row = f ∙ ap (λ (t : List Term). put kind t row) e in
    let is : joined (set pages i page) ≡ put kind (joined pages) row = ap (λ (t : List Term). joined (set pages i t)) same
    ∙ put_page kind row pages i around in
    let size : 0 < length page = bound b (length old) (length page) was.0 n in
    record {
      put_is = is;
      increasing = subst (IsIncreasing kind) (sym is) (increasing_put kind (joined pages) row paged.increasing);
      apart = subst (λ (t : List Term). IsApart (set pages i t)) (sym same) (apart_put kind row pages i paged.apart around);
      counted = grows b (length (joined (set pages i page))) (length old) (length (joined pages)) (length page)
          (omega (arith, length_around pages i page lt, ap (length {A = Term}) e)) n;
      some = size;
      each = λ short. each_set IsPage pages i page paged.each (size, short);
      front = subst (Each IsPage) (sym (take_of_set pages i page)) (each_take IsPage i pages paged.each);
      back = subst (Each IsPage) (sym (drop_of_set pages i page)) (each_drop IsPage (suc i) pages paged.each);
    }
  where
    bound : (b : Bool) (m n : ℕ) → 0 < m → n ≡ cond b (m + 1) m → 0 < n
    bound true m n p e = omega arith
    bound false m n p e = omega arith

    grows : (b : Bool) (all m whole n : ℕ) → all + m ≡ whole + n → n ≡ cond b (m + 1) m → all ≡ cond b (whole + 1) whole
    grows true all m whole n p q = omega arith
    grows false all m whole n p q = omega arith

-- records of one key, and one more
pub one_key_put : (kind : Kind) (k : Tree) (rows : List Term) (row : Term) → Each (λ x. key_cmp k x ≡ Equal) rows → key_cmp k row ≡ Equal
    → IsOneKey (put kind rows row)
one_key_put kind k rows row a e = one_key_of k (put kind rows row) (each_put (λ x. key_cmp k x ≡ Equal) kind rows row a e)

-- a page of its own for a record between the keys of the others
pub record IsNewPage (kind : Kind) (row : Term) (pages new : List (List Term)) : Type 0 where
  pub put_is : joined new ≡ put kind (joined pages) row
  pub paged : IsPaged kind new
  pub counted : length (joined new) ≡ length (joined pages) + 1

pub new_page : (kind : Kind) (row : Term) (pages : List (List Term)) (i : ℕ) → IsPaged kind pages
    → Each (λ x. key_cmp (row_key row) x ≡ Less) (joined (take i pages))
    → Each (λ y. key_cmp (row_key row) y ≡ Greater) (joined (drop i pages)) → IsNewPage kind row pages (insert pages i (row ∷ []))
new_page kind row pages i paged a b =
    let xs = joined (take i pages) in
    let ys = joined (drop i pages) in
    let now : joined (insert pages i (row ∷ [])) ≡ xs ++ row ∷ ys = joined_append (take i pages) ((row ∷ []) ∷ drop i pages) in
    let is : joined (insert pages i (row ∷ [])) ≡ put kind (joined pages) row =
    now
    ∙ sym (put_parts kind row xs [] ys (each_map (λ x. key_cmp (row_key row) x ≡ Less) (λ x. row_cmp kind x row ≡ Less)
    (λ x h. key_below kind x row h) xs a)
    (each_map (λ y. key_cmp (row_key row) y ≡ Greater) (λ y. row_cmp kind y row ≡ Greater) (λ y h. key_above kind y row h) ys b))
    ∙ sym (ap (λ (t : List Term). put kind t row) (joined_parted i pages)) in
    let over : Each (IsKeyLess row) ys = each_map (λ y. key_cmp (row_key row) y ≡ Greater) (IsKeyLess row)
    (λ y h. reversed tree_total (row_key y) (row_key row) Greater h) ys b in
    record {
      put_is = is;
      paged = record {
        increasing = subst (IsIncreasing kind) (sym is) (increasing_put kind (joined pages) row paged.increasing);
        each = each_join IsPage (take i pages) ((row ∷ []) ∷ drop i pages) (each_take IsPage i pages paged.each)
            ((omega arith, inr tt), each_drop IsPage i pages paged.each);
        apart = apart_join (take i pages) ((row ∷ []) ∷ drop i pages) (apart_take i pages paged.apart)
            ((over, tt), apart_drop i pages paged.apart)
            (each_map (λ x. key_cmp (row_key row) x ≡ Less) (λ x. Each (IsKeyLess x) (row ∷ ys))
            (λ x l. (l, each_map (IsKeyLess row) (IsKeyLess x) (λ y g. tree_total.trans (row_key x) (row_key row) (row_key y) l g) ys over))
            xs a);
      };
      counted = omega (
        arith,
        ap (length {A = Term}) now,
        ap (length {A = Term}) (joined_parted i pages),
        length-append xs (row ∷ ys),
        length-append xs ys,
      );
    }

-- what a page of one key is to another key
pub joined_upto : (pages : List (List Term)) (i : ℕ) → i < length pages
    → joined (take (suc i) pages) ≡ joined (take i pages) ++ get_or pages i []
joined_upto [] i lt = absurd (omega arith)
joined_upto (p ∷ pages) zero lt = append-nil p
joined_upto (p ∷ pages) (suc i) lt = ap (λ (t : List Term). p ++ t) (joined_upto pages i (omega arith))
    ∙ sym (append_assoc p (joined (take i pages)) (get_or pages i []))

pub joined_from : (pages : List (List Term)) (i : ℕ) → i < length pages
    → joined (drop i pages) ≡ get_or pages i [] ++ joined (drop (suc i) pages)
joined_from [] i lt = absurd (omega arith)
joined_from (p ∷ pages) zero lt = refl
joined_from (p ∷ pages) (suc i) lt = joined_from pages i (omega arith)

pub all_as_first : (k : Tree) (x : Term) (rows : List Term) (o : Ordering) → IsOneKey (x ∷ rows) → key_cmp k x ≡ o
    → Each (λ y. key_cmp k y ≡ o) (x ∷ rows)
all_as_first k x rows o a e = (
  e,
  each_map (λ y. key_cmp (row_key x) y ≡ Equal) (λ y. key_cmp k y ≡ o)
      (λ y h. tree_total.congr (row_key y) (row_key x) k h ∙ e) rows a,
)

pub one_key_filter : (f : Term → Bool) (rows : List Term) → IsOneKey rows → IsOneKey (filter f rows)
one_key_filter f [] a = tt
one_key_filter f (x ∷ rows) a = one_key_of (row_key x) (filter f (x ∷ rows))
    (each_filter (λ y. key_cmp (row_key x) y ≡ Equal) f (x ∷ rows) (each_of_one_key x rows a))

-- what a test keeps of a page, where it keeps all of the others
pub filter_page : (f : Term → Bool) (pages : List (List Term)) (i : ℕ) → i < length pages → Each (λ x. f x ≡ true) (joined (take i pages))
    → Each (λ y. f y ≡ true) (joined (drop (suc i) pages)) → joined (set pages i (filter f (get_or pages i []))) ≡ filter f (joined pages)
filter_page f pages i lt a b =
    let first : filter f (joined (take i pages)) ≡ joined (take i pages) = keeps_all f (joined (take i pages)) a in
    let last : filter f (joined (drop (suc i) pages)) ≡ joined (drop (suc i) pages) = keeps_all f (joined (drop (suc i) pages)) b in
    joined_set pages i (filter f (get_or pages i [])) lt
    ∙ sym (filter_parts f (joined (take i pages)) (get_or pages i []) (joined (drop (suc i) pages)) ∙ rw (first, last) refl)
    ∙ sym (ap (filter f) (joined_around pages i lt))

-- a page lost what fails a test
pub record IsDropAt (kind : Kind) (f : Term → Bool) (pages : List (List Term)) (i : ℕ) (page : List Term) (n : ℕ) : Type 0 where
  pub filter_is : joined (set pages i page) ≡ filter f (joined pages)
  pub increasing : IsIncreasing kind (joined (set pages i page))
  pub apart : IsApart (set pages i page)
  pub counted : length (joined pages) ≡ length (joined (set pages i page)) + n
  pub each : 0 < length page → Each IsPage (set pages i page)
  pub removed : length page ≡ 0 → joined (remove (set pages i page) i) ≡ joined (set pages i page)
  pub others : Each IsPage (remove (set pages i page) i)
  pub others_apart : length page ≡ 0 → IsApart (remove (set pages i page) i)

pub drop_by : (kind : Kind) (f : Term → Bool) (pages : List (List Term)) (i : ℕ) (old page : List Term) (n : ℕ) → IsPaged kind pages
    → i < length pages → Each (λ x. f x ≡ true) (joined (take i pages)) → Each (λ y. f y ≡ true) (joined (drop (suc i) pages))
    → old ≡ get_or pages i [] → page ≡ filter f old → length old ≡ length page + n → IsDropAt kind f pages i page n
drop_by kind f pages i old page n paged lt a b e g m =
    let was : IsPage old = subst IsPage (sym e) (page_at pages i lt paged.each) in
    let same : page ≡ filter f (get_or pages i []) = g ∙ ap (filter f) e in
    let is : joined (set pages i page) ≡ filter f (joined pages) = ap (λ (t : List Term). joined (set pages i t)) same
    ∙ filter_page f pages i lt a b in
    let apart : IsApart (set pages i page) = subst (λ (t : List Term). IsApart (set pages i t)) (sym same)
    (apart_filter f pages i lt paged.apart) in
    let kept : (length page ≤ 64) ⊎ IsOneKey page =
    elim was.1 [ inl h ↦ inl (omega arith) | inr h ↦ inr (subst IsOneKey (sym g) (one_key_filter f old h)) ] in
    record {
      filter_is = is;
      increasing = subst (IsIncreasing kind) (sym is) (increasing_filter kind f (joined pages) paged.increasing);
      apart = apart;
      counted = omega (arith, length_around pages i page lt, ap (length {A = Term}) e);
      each = λ some. each_set IsPage pages i page paged.each (some, kept);
      removed = joined_remove pages i page lt;
      others = subst (Each IsPage) (sym (λ j. take_of_set pages i page j ++ drop_of_set pages i page j))
          (each_join IsPage (take i pages) (drop (suc i) pages) (each_take IsPage i pages paged.each)
          (each_drop IsPage (suc i) pages paged.each));
      others_apart = λ none. apart_remove pages i page lt none apart;
    }

pub drop_at : (kind : Kind) (k : Tree) (pages : List (List Term)) (i : ℕ) (old page : List Term) (n : ℕ) → IsPaged kind pages
    → IsAround k pages i → old ≡ get_or pages i [] → page ≡ without old k → length old ≡ length page + n
    → IsDropAt kind (λ row. not (is_eq (key_cmp k row))) pages i page n
drop_at kind k pages i old page n paged around e g m =
    drop_by kind (λ row. not (is_eq (key_cmp k row))) pages i old page n paged around.within
    (each_tested (key_cmp k) Less (λ o. not (is_eq o)) true refl (joined (take i pages)) around.before)
    (each_tested (key_cmp k) Greater (λ o. not (is_eq o)) true refl (joined (drop (suc i) pages)) around.behind) e g m

-- the same record ties
pub same_ties : (kind : Kind) (x row : Term) → tree_of x ≡ tree_of row → row_cmp kind x row ≡ Equal
same_ties Bag x row e =
    (λ i. ordering_then (tree_cmp (unwrap_or (key_of (e i)) (e i)) (row_key row)) (tree_cmp (e i) (tree_of row)))
    ∙ rw (tied_itself tree_total (row_key row), tied_itself tree_total (tree_of row)) refl
same_ties other x row e =
    ap (λ (t : Tree). tree_cmp (unwrap_or (key_of t) t) (row_key row)) e ∙ tied_itself tree_total (row_key row)

pub other_stays : (kind : Kind) (x row : Term) → is_eq (row_cmp kind x row) ≡ false → not (same_tree (tree_of x) (tree_of row)) ≡ true
other_stays kind x row n = by (same_tree (tree_of x) (tree_of row)) refl
  where
    by : (b : Bool) → same_tree (tree_of x) (tree_of row) ≡ b → not b ≡ true
    by true e = absurd (let wrong : true ≡ false = sym (ap is_eq (same_ties kind x row (same_tree_true (tree_of x) (tree_of row) e))) ∙ n in
        cc)
    by false e = refl

pub delete_row_at : (kind : Kind) (row : Term) (pages : List (List Term)) (i : ℕ) (old page : List Term) (n : ℕ) → IsPaged kind pages
    → IsAround (row_key row) pages i → old ≡ get_or pages i [] → page ≡ without_row old row → length old ≡ length page + n
    → IsDropAt kind (λ x. not (same_tree (tree_of x) (tree_of row))) pages i page n
delete_row_at kind row pages i old page n paged around e g m =
    drop_by kind (λ x. not (same_tree (tree_of x) (tree_of row))) pages i old page n paged around.within
    (each_map (λ x. key_cmp (row_key row) x ≡ Less) (λ x. not (same_tree (tree_of x) (tree_of row)) ≡ true)
    (λ x h. other_stays kind x row (ap is_eq (key_below kind x row h))) (joined (take i pages)) around.before)
    (each_map (λ x. key_cmp (row_key row) x ≡ Greater) (λ x. not (same_tree (tree_of x) (tree_of row)) ≡ true)
    (λ x h. other_stays kind x row (ap is_eq (key_above kind x row h))) (joined (drop (suc i) pages)) around.behind)
    e g m
