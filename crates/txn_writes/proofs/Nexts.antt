-- The next one of keys.
use Rattle.std.proofs.Common.{◌≡◌, ℕ, ◌<◌, ◌≤◌, Bool, true, false, ◌&&◌, ◌||◌, cond, List, [], ◌∷◌, ◌++◌, length}
use Rattle.std.proofs.Common.{filter, map, Option, None, Some, refl, sym, ap, subst, ◌∙◌, arith}
use Rattle.std.specs.List.{list_any, AllByRecursion as Each}
use Rattle.std.specs.List.Sorted.{IsStrictlySortedBy}
use Rattle.std.specs.Map.{keys_of}
use Rattle.std.specs.Ordering.{is_lt, ordering_reverse, on}
use Rattle.std.specs.declared.cmp.Ordering.{Ordering}
use Rattle.std.specs.declared.cmp.Ordering.TheVariants.{Less, Equal, Greater}
use Rattle.term_core.specs.Tree.{Tree, key_of, tree_cmp}
use Rattle.term_core.specs.Order.{tree_total, tree_cmp-IsAntisymmetric, same_tree_refl}
use Rattle.term_core.specs.View.{tree_of}
use Rattle.term_core.specs.declared.term.Term.{Term}
use Rattle.db_model.specs.Database.{Contents, is_key, has_key, is_key_below}
use Rattle.ram_table.specs.Contents.{records_above, IsLeastKey}
use Rattle.txn_writes.specs.Walks.{is_above, IsNext, IsOneOf, lesser}
use Rattle.txn_writes.proofs.Records.{false_or, below_trans, irreflexive, key_is, own_key, each_kept}

abbrev pub Keys : Type 0
Keys = List (Option Tree)

pub each_weaker : {X : Type 0} (P Q : X → Type 0) → ((x : X) → P x → Q x) → (xs : List X) → Each P xs → Each Q xs
each_weaker P Q f [] a = tt
each_weaker P Q f (x ∷ xs) a = (f x a.0, each_weaker P Q f xs a.1)

pub each_append : {X : Type 0} (P : X → Type 0) (xs ys : List X) → Each P xs → Each P ys → Each P (xs ++ ys)
each_append P [] ys a b = b
each_append P (x ∷ xs) ys a b = (a.0, each_append P xs ys a.1 b)

abbrev pub NotBelow : Option Tree → Tree → Option Tree → Type 0
NotBelow last next key = is_above last key ≡ true → is_key_below key (Some next) ≡ false

pub never : (P : Type 0) (b : Bool) → b ≡ false → b ≡ true → P
never P b apart own = absurd (let wrong : false ≡ true = sym apart ∙ own in cc)

-- ---- the lesser of two

turned : (a b : Tree) (o : Ordering) → tree_cmp a b ≡ o → tree_cmp b a ≡ ordering_reverse o
turned a b o e = tree_total.antisymm b a ∙ ap ordering_reverse e

below_lesser : (key : Option Tree) (one other : Tree) → is_lt (tree_cmp other one) ≡ true → is_key_below key (Some one) ≡ false
    → is_key_below key (Some other) ≡ false
below_lesser key one other less h = false_or (is_key_below key (Some other)) (λ below.
    let wrong : true ≡ false = sym (below_trans key (Some other) (Some one) below less) ∙ h in cc)

below_first : (key : Option Tree) (one other : Tree) → is_lt (tree_cmp other one) ≡ false → is_key_below key (Some other) ≡ false
    → is_key_below key (Some one) ≡ false
below_first None one other apart h = refl
below_first (Some key) one other apart h = by (tree_cmp key other) refl
  where
    by : (o : Ordering) → tree_cmp key other ≡ o → is_lt (tree_cmp key one) ≡ false
    by Less e = absurd (let wrong : true ≡ false = sym (ap is_lt e) ∙ h in cc)
    by Equal e = ap (λ k. is_lt (tree_cmp k one)) (tree_cmp-IsAntisymmetric key other e) ∙ apart
    by Greater e = false_or (is_lt (tree_cmp key one)) (λ below.
        let less : is_key_below (Some other) (Some key) ≡ true = ap is_lt (turned key other Greater e) in
        let wrong : true ≡ false = sym (below_trans (Some other) (Some key) (Some one) less below) ∙ apart in cc)

pub next_of_both : (last : Option Tree) (xs ys : Keys) (one other : Option Tree) → IsNext last xs one → IsNext last ys other
    → IsNext last (xs ++ ys) (lesser one other)
next_of_both last xs ys None None h k = each_append (λ key. is_above last key ≡ false) xs ys h k
next_of_both last xs ys None (Some other) h k = (
  k.0,
  each_append (NotBelow last other) xs ys
      (each_weaker (λ key. is_above last key ≡ false) (NotBelow last other) (λ key apart above. never _ _ apart above) xs h) k.1,
)
next_of_both last xs ys (Some one) None h k = (
  h.0,
  each_append (NotBelow last one) xs ys h.1
      (each_weaker (λ key. is_above last key ≡ false) (NotBelow last one) (λ key apart above. never _ _ apart above) ys k),
)
next_of_both last xs ys (Some one) (Some other) h k = by (is_lt (tree_cmp other one)) refl
  where
    by : (b : Bool) → is_lt (tree_cmp other one) ≡ b → IsNext last (xs ++ ys) (cond b (Some other) (Some one))
    by true less = (
      k.0,
      each_append (NotBelow last other) xs ys
          (each_weaker (NotBelow last one) (NotBelow last other) (λ key f above. below_lesser key one other less (f above)) xs h.1) k.1,
    )
    by false apart = (
      h.0,
      each_append (NotBelow last one) xs ys h.1
          (each_weaker (NotBelow last other) (NotBelow last one) (λ key f above. below_first key one other apart (f above)) ys k.1),
    )

any_left : (f : Option Tree → Bool) (xs ys : Keys) → list_any f xs ≡ true → list_any f (xs ++ ys) ≡ true
any_left f [] ys h = absurd cc
any_left f (x ∷ xs) ys h = by (f x) h (any_left f xs ys)
  where
    by : (b : Bool) → b || list_any f xs ≡ true → (list_any f xs ≡ true → list_any f (xs ++ ys) ≡ true) → b || list_any f (xs ++ ys) ≡ true
    by true h ih = refl
    by false h ih = ih h

any_right : (f : Option Tree → Bool) (xs ys : Keys) → list_any f ys ≡ true → list_any f (xs ++ ys) ≡ true
any_right f [] ys h = h
any_right f (x ∷ xs) ys h = by (f x) (any_right f xs ys h)
  where
    by : (b : Bool) → list_any f (xs ++ ys) ≡ true → b || list_any f (xs ++ ys) ≡ true
    by true ih = refl
    by false ih = ih

pub one_of_both : (xs ys : Keys) (one other : Option Tree) → IsOneOf xs one → IsOneOf ys other → IsOneOf (xs ++ ys) (lesser one other)
one_of_both xs ys None None h k = tt
one_of_both xs ys None (Some other) h k = any_right (is_key other) xs ys k
one_of_both xs ys (Some one) None h k = any_left (is_key one) xs ys h
one_of_both xs ys (Some one) (Some other) h k = by (is_lt (tree_cmp other one))
  where
    by : (b : Bool) → IsOneOf (xs ++ ys) (cond b (Some other) (Some one))
    by true = any_right (is_key other) xs ys k
    by false = any_left (is_key one) xs ys h

-- ---- entries of a map

abbrev pub Entries : Type 0
Entries = List (Term × List ℕ)

abbrev pub keys_in : Entries → Keys
keys_in entries = map (λ entry. Some (tree_of entry.0)) entries

pub record IsFirst (last : Option Tree) (entries : Entries) (key : Tree) : Type 0 where
  pub next : IsNext last (keys_in entries) (Some key)
  pub one_of : IsOneOf (keys_in entries) (Some key)

behind_first : (last : Option Tree) (first : Term) (entries : Entries)
    → Each (λ other. on tree_of tree_cmp first other ≡ Less) (keys_of entries)
    → Each (NotBelow last (tree_of first)) (keys_in entries)
behind_first last first [] a = tt
behind_first last first (e ∷ entries) a =
    ((λ above. ap is_lt (turned (tree_of first) (tree_of e.0) Less a.0)), behind_first last first entries a.1)

pub first_is : (f : Term × List ℕ → Bool) (last : Option Tree)
    → ((entry : Term × List ℕ) → f entry ≡ is_above last (Some (tree_of entry.0)))
    → (entries : Entries) → IsStrictlySortedBy (on tree_of tree_cmp) (keys_of entries)
    → (key : Term) (value : List ℕ) (rest : Entries) → filter f entries ≡ (key, value) ∷ rest → IsFirst last entries (tree_of key)
unfolding IsStrictlySortedBy
first_is f last agree [] sorted key value rest h = absurd cc
first_is f last agree (e ∷ entries) sorted key value rest h = by (f e) refl h (first_is f last agree entries sorted.1 key value rest)
  where
    by : (b : Bool) → f e ≡ b → cond b (e ∷ filter f entries) (filter f entries) ≡ (key, value) ∷ rest
        → (filter f entries ≡ (key, value) ∷ rest → IsFirst last entries (tree_of key)) → IsFirst last (e ∷ entries) (tree_of key)
    by true own h ih =
        let same : e.0 ≡ key = cc in
        subst (λ (k : Term). IsFirst last (e ∷ entries) (tree_of k)) same record {
          next = (sym (agree e) ∙ own, ((λ above. irreflexive (Some (tree_of e.0))), behind_first last e.0 entries sorted.0));
          one_of = ap (λ b. b || list_any (is_key (tree_of e.0)) (keys_in entries)) (same_tree_refl (tree_of e.0));
        }
    by false other h ih =
        let found = ih h in record {
          next = (found.next.0, ((λ above. never _ _ (sym (agree e) ∙ other) above), found.next.1));
          one_of = any_right (is_key (tree_of key)) (Some (tree_of e.0) ∷ []) (keys_in entries) found.one_of;
        }

pub none_is : (f : Term × List ℕ → Bool) (last : Option Tree)
    → ((entry : Term × List ℕ) → f entry ≡ is_above last (Some (tree_of entry.0)))
    → (entries : Entries) → filter f entries ≡ [] → IsNext last (keys_in entries) None
none_is f last agree [] h = tt
none_is f last agree (e ∷ entries) h = by (f e) refl h (none_is f last agree entries)
  where
    by : (b : Bool) → f e ≡ b → cond b (e ∷ filter f entries) (filter f entries) ≡ []
        → (filter f entries ≡ [] → IsNext last (keys_in entries) None) → IsNext last (keys_in (e ∷ entries)) None
    by true own h ih = absurd cc
    by false other h ih = (sym (agree e) ∙ other, ih h)

pub all_pass : (entries : Entries) → filter (λ entry. true) entries ≡ entries
all_pass [] = refl
all_pass (e ∷ entries) = ap (λ (t : Entries). e ∷ t) (all_pass entries)

pub and_true : (b : Bool) → b && true ≡ b
and_true true = refl
and_true false = refl

-- ---- records of a table

above_is : (last : Tree) (key : Option Tree) → is_key_below (Some last) key ≡ is_above (Some last) key
above_is last None = refl
above_is last (Some key) = refl

each_in : (P : Option Tree → Type 0) (f : Tree → Bool) (rows : Contents) → Each (λ row. P (key_of row)) (filter f rows)
    → Each (λ row. f row ≡ true → P (key_of row)) rows
each_in P f [] a = tt
each_in P f (x ∷ rows) a = by (f x) refl a (each_in P f rows)
  where
    by : (b : Bool) → f x ≡ b → Each (λ row. P (key_of row)) (cond b (x ∷ filter f rows) (filter f rows))
        → (Each (λ row. P (key_of row)) (filter f rows) → Each (λ row. f row ≡ true → P (key_of row)) rows)
        → (f x ≡ true → P (key_of x)) × Each (λ row. f row ≡ true → P (key_of row)) rows
    by true fx a ih = ((λ _. a.0), ih a.1)
    by false fx a ih = ((λ own. never _ _ fx own), ih a)

pub none_in : (f : Tree → Bool) (rows : Contents) → filter f rows ≡ [] → Each (λ row. f row ≡ false) rows
none_in f [] h = tt
none_in f (x ∷ rows) h = by (f x) refl h (none_in f rows)
  where
    by : (b : Bool) → f x ≡ b → cond b (x ∷ filter f rows) (filter f rows) ≡ []
        → (filter f rows ≡ [] → Each (λ row. f row ≡ false) rows) → (f x ≡ false) × Each (λ row. f row ≡ false) rows
    by true fx h ih = absurd cc
    by false fx h ih = (fx, ih h)

any_in : (key : Tree) (f : Tree → Bool) (rows : Contents) → list_any (has_key key) (filter f rows) ≡ true
    → list_any (is_key key) (map key_of rows) ≡ true
any_in key f [] h = absurd cc
any_in key f (x ∷ rows) h = by (f x) (has_key key x) refl h (any_in key f rows)
  where
    by : (b c : Bool) → has_key key x ≡ c → list_any (has_key key) (cond b (x ∷ filter f rows) (filter f rows)) ≡ true
        → (list_any (has_key key) (filter f rows) ≡ true → list_any (is_key key) (map key_of rows) ≡ true)
        → c || list_any (is_key key) (map key_of rows) ≡ true
    by b true is h ih = refl
    by true false is h ih = ih (sym (ap (λ c. c || list_any (has_key key) (filter f rows)) is) ∙ h)
    by false false is h ih = ih h

any_then : (Q : Type 0) (P : Tree → Type 0) (key : Tree) (rows : Contents) → Each P rows → list_any (has_key key) rows ≡ true
    → ((x : Tree) → P x → has_key key x ≡ true → Q) → Q
any_then Q P key [] a h f = absurd cc
any_then Q P key (x ∷ rows) a h f = by (has_key key x) refl h (λ more. any_then Q P key rows a.1 more f)
  where
    by : (b : Bool) → has_key key x ≡ b → b || list_any (has_key key) rows ≡ true → (list_any (has_key key) rows ≡ true → Q) → Q
    by true is h more = f x a.0 is
    by false is h more = more h

pub each_key : (P : Option Tree → Type 0) (rows : Contents) → Each (λ row. P (key_of row)) rows → Each P (map key_of rows)
each_key P [] a = tt
each_key P (x ∷ rows) a = (a.0, each_key P rows a.1)

pub live_next : (last found : Option Tree) (rows : Contents) → IsLeastKey found (records_above last rows)
    → IsNext last (map key_of rows) found
live_next None None rows h = subst (λ (t : Contents). IsNext None (map key_of t) None) (sym h) tt
live_next (Some last) None rows h =
    each_key (λ key. is_above (Some last) key ≡ false) rows
    (each_weaker (λ row. is_key_below (Some last) (key_of row) ≡ false) (λ row. is_above (Some last) (key_of row) ≡ false)
    (λ row apart. sym (above_is last (key_of row)) ∙ apart) rows
    (none_in (λ row. is_key_below (Some last) (key_of row)) rows h))
live_next None (Some key) rows h = (
  refl,
  each_key (NotBelow None key) rows
      (each_weaker (λ row. is_key_below (key_of row) (Some key) ≡ false) (λ row. NotBelow None key (key_of row))
      (λ row apart above. apart) rows h.1),
)
live_next (Some last) (Some key) rows h = (
  any_then (is_above (Some last) (Some key) ≡ true) (λ row. is_key_below (Some last) (key_of row) ≡ true) key
      (filter (λ row. is_key_below (Some last) (key_of row)) rows)
      (each_kept (λ row. is_key_below (Some last) (key_of row)) rows) h.0
      (λ row below own. ap (is_key_below (Some last)) (sym (own_key key row own)) ∙ below),
  each_key (NotBelow (Some last) key) rows
      (each_weaker (λ row. is_key_below (Some last) (key_of row) ≡ true → is_key_below (key_of row) (Some key) ≡ false)
      (λ row. NotBelow (Some last) key (key_of row)) (λ row f above. f (above_is last (key_of row) ∙ above)) rows
      (each_in (λ k. is_key_below k (Some key) ≡ false) (λ row. is_key_below (Some last) (key_of row)) rows h.1)),
)

pub live_one_of : (last found : Option Tree) (rows : Contents) → IsLeastKey found (records_above last rows)
    → IsOneOf (map key_of rows) found
live_one_of last None rows h = tt
live_one_of None (Some key) rows h = any_in key (λ row. true) rows
    (subst (λ (t : Contents). list_any (has_key key) t ≡ true) (sym (all rows)) h.0)
  where
    all : (rows : Contents) → filter (λ row. true) rows ≡ rows
    all [] = refl
    all (x ∷ rows) = ap (λ (t : Contents). x ∷ t) (all rows)
live_one_of (Some last) (Some key) rows h = any_in key (λ row. is_key_below (Some last) (key_of row)) rows h.0

-- ---- fewer keys are left

abbrev pub left : Option Tree → Keys → ℕ
left last keys = length (filter (is_above last) keys)

above_both : (last : Option Tree) (next : Tree) (key : Option Tree) → is_above last (Some next) ≡ true
    → is_above (Some next) key ≡ true → is_above last key ≡ true
above_both last next None h k = absurd cc
above_both None next (Some key) h k = refl
above_both (Some last) next (Some key) h k = below_trans (Some last) (Some next) (Some key) h k

no_more_left : (last : Option Tree) (next : Tree) → is_above last (Some next) ≡ true → (keys : Keys)
    → left (Some next) keys ≤ left last keys
no_more_left last next h [] = omega arith
no_more_left last next h (key ∷ keys) =
    by (is_above (Some next) key) (is_above last key) refl refl (no_more_left last next h keys)
  where
    by : (b c : Bool) → is_above (Some next) key ≡ b → is_above last key ≡ c → left (Some next) keys ≤ left last keys
        → length (cond b (key ∷ filter (is_above (Some next)) keys) (filter (is_above (Some next)) keys))
        ≤ length (cond c (key ∷ filter (is_above last) keys) (filter (is_above last) keys))
    by true true p q ih = omega (arith, ih)
    by true false p q ih = never _ _ q (above_both last next key h p)
    by false true p q ih = omega (arith, ih)
    by false false p q ih = ih

pub fewer_left : (last : Option Tree) (next : Tree) → is_above last (Some next) ≡ true → (keys : Keys)
    → list_any (is_key next) keys ≡ true → left (Some next) keys < left last keys
fewer_left last next h [] any = absurd cc
fewer_left last next h (key ∷ keys) any =
    by (is_key next key) (is_above (Some next) key) (is_above last key) refl refl refl any (fewer_left last next h keys)
    (no_more_left last next h keys)
  where
    at : is_key next key ≡ true → is_above last key ≡ true
    at own = ap (is_above last) (key_is next key own) ∙ h

    not_itself : is_key next key ≡ true → is_above (Some next) key ≡ false
    not_itself own = ap (is_above (Some next)) (key_is next key own) ∙ irreflexive (Some next)

    by : (a b c : Bool) → is_key next key ≡ a → is_above (Some next) key ≡ b → is_above last key ≡ c
        → a || list_any (is_key next) keys ≡ true
        → (list_any (is_key next) keys ≡ true → left (Some next) keys < left last keys) → left (Some next) keys ≤ left last keys
        → length (cond b (key ∷ filter (is_above (Some next)) keys) (filter (is_above (Some next)) keys))
        < length (cond c (key ∷ filter (is_above last) keys) (filter (is_above last) keys))
    by true true c own p q any ih most = never _ _ (not_itself own) p
    by true false true own p q any ih most = omega (arith, most)
    by true false false own p q any ih most = never _ _ q (at own)
    by false true true own p q any ih most = let less = ih any in omega (arith, less)
    by false true false own p q any ih most = never _ _ q (above_both last next key h p)
    by false false true own p q any ih most = let less = ih any in omega (arith, less)
    by false false false own p q any ih most = ih any
