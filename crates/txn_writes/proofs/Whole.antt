-- All records that a transaction sees, key by key.
use Rattle.std.proofs.Common.{◌≡◌, ℕ, Bool, true, false, not, ◌&&◌, cond, List, [], ◌∷◌, ◌++◌}
use Rattle.std.proofs.Common.{filter, map, Option, None, Some, IsSome, refl, sym, ap, subst, ◌∙◌, length, arith}
use Rattle.std.specs.Map.{lookup}
use Rattle.std.specs.List.{list_any, AllByRecursion as Each}
use Rattle.std.specs.Prelude.{unwrap_or}
use Rattle.std.specs.Ordering.{is_lt, is_eq, ordering_reverse}
use Rattle.std.specs.declared.cmp.Ordering.{Ordering}
use Rattle.std.specs.declared.cmp.Ordering.TheVariants.{Less, Equal, Greater}
use Rattle.term_core.specs.Tree.{Tree, key_of, tree_cmp}
use Rattle.term_core.specs.Order.{tree_total, tree_cmp-IsAntisymmetric, same_tree, same_tree_true, same_tree_refl}
use Rattle.term_core.specs.View.{tree_of}
use Rattle.db_model.specs.Database.{Contents, is_key, has_key, has_key_of, is_key_below, records_of, without_key, with_record, put_op}
use Rattle.db_model.specs.Ops.{Operation, write, delete, delete_object, clear}
use Rattle.db_model.specs.View.{operation}
use Rattle.db_model.specs.declared.definition.Kind.{Kind}
use Rattle.db_model.specs.declared.definition.Kind.TheVariants.{Set, OrderedSet, Bag}
use Rattle.db_model.specs.declared.op.Op.{Op}
use Rattle.table_query.specs.Values.{is_match}
use Rattle.ram_table.specs.Contents.{TableRecords, contents, put_ops, IsInOrder}
use Rattle.txn_writes.specs.Seen.{key_changed, is_on, seen, keys, keys_behind, changes}
use Rattle.txn_writes.specs.Places.{places_at, places_in, table_there, is_same_key, HasKey, AreWrites, ops_at}
use Rattle.txn_writes.specs.Walks.{is_above, rows_above, IsNext, live_keys, own_keys, all_keys, are_some}
use Rattle.txn_writes.specs.declared.key_places.KeyPlaces.{KeyPlaces}
use Rattle.txn_writes.specs.declared.places.Places.{Places}
use Rattle.txn_writes.proofs.Records.{false_or, below_trans, irreflexive, own_key, each_kept, each_filter, each_with}
use Rattle.txn_writes.proofs.Records.{none_behind, order_put, spared, own_ops, records_of_seen}
use Rattle.txn_writes.proofs.Nexts.{Entries, keys_in, NotBelow, each_weaker, never}

abbrev pub AreKeyed : Contents → Type 0
AreKeyed rows = Each (λ row. IsSome (key_of row)) rows

-- ---- what holds of all keys holds of those that are seen

each_put_op : (P : Tree → Type 0) (kind : Kind) (op : Operation) → ((row : Tree) → key_of row ≡ key_changed op → P row)
    → (rows : Contents) → Each P rows → Each P (put_op kind op rows)
each_put_op P Bag (write table row) own rows a = by (list_any (same_tree row) rows)
  where
    by : (b : Bool) → Each P (cond b rows (with_record row rows))
    by true = a
    by false = each_with P row rows (own row refl) a
each_put_op P Set (write table row) own rows a = each_with P row (without_key (key_of row) rows) (own row refl)
    (each_filter P (λ other. not (has_key_of (key_of row) other)) rows a)
each_put_op P OrderedSet (write table row) own rows a = each_with P row (without_key (key_of row) rows) (own row refl)
    (each_filter P (λ other. not (has_key_of (key_of row) other)) rows a)
each_put_op P kind (delete table key) own rows a = each_filter P (λ other. not (has_key_of (Some key) other)) rows a
each_put_op P kind (delete_object table row) own rows a = each_filter P (λ other. not (same_tree row other)) rows a
each_put_op P kind (clear table) own rows a = tt

each_seen : (P : Option Tree → Type 0) (kind : Kind) (name : List ℕ) (ops : List Op) (rows : Contents)
    → Each (λ op. is_on name (operation op) ≡ true → P (key_changed (operation op))) ops → Each (λ row. P (key_of row)) rows
    → Each (λ row. P (key_of row)) (put_ops kind (filter (is_on name) (map operation ops)) rows)
each_seen P kind name [] rows own a = a
each_seen P kind name (op ∷ ops) rows own a =
    by (is_on name (operation op)) refl (λ others. each_seen P kind name ops others own.1)
  where
    by : (b : Bool) → is_on name (operation op) ≡ b
        → ((others : Contents) → Each (λ row. P (key_of row)) others
        → Each (λ row. P (key_of row)) (put_ops kind (filter (is_on name) (map operation ops)) others))
        → Each (λ row. P (key_of row)) (put_ops kind (cond b (operation op ∷ filter (is_on name) (map operation ops))
        (filter (is_on name) (map operation ops))) rows)
    by true on ih = ih (put_op kind (operation op) rows) (each_put_op (λ row. P (key_of row)) kind (operation op)
        (λ row same. subst P (sym same) (own.0 on)) rows a)
    by false on ih = ih rows a

-- an op on a key is found where one looks for it
among : (ops : List Op) → Each (λ op. (test : Op → Bool) → test op ≡ true → filter test ops ≡ [] → ⊥) ops
among [] = tt
among (op ∷ ops) = (
  λ test own none. absurd (let some : op ∷ filter test ops ≡ [] =
      sym (ap (λ b. cond b (op ∷ filter test ops) (filter test ops)) own) ∙ none in cc),
  each_weaker (λ other. (test : Op → Bool) → test other ≡ true → filter test ops ≡ [] → ⊥)
      (λ other. (test : Op → Bool) → test other ≡ true → filter test (op ∷ ops) ≡ [] → ⊥)
      (λ other f test own none. f test own (by (test op) (filter test ops) none)) ops (among ops),
)
  where
    by : (b : Bool) (others : List Op) → cond b (op ∷ others) others ≡ [] → others ≡ []
    by true others h = absurd cc
    by false others h = h

looked_up : (P : Option Tree → Type 0) (key : Tree) (entries : Entries) → Each P (keys_in entries)
    → (lookup (is_same_key key) entries ≡ None → ⊥) → P (Some key)
looked_up P key [] a some = absurd (some refl)
looked_up P key (e ∷ entries) a some = by (same_tree key (tree_of e.0)) refl some (looked_up P key entries a.1)
  where
    by : (b : Bool) → same_tree key (tree_of e.0) ≡ b → (cond b (Some e.1) (lookup (is_same_key key) entries) ≡ None → ⊥)
        → ((lookup (is_same_key key) entries ≡ None → ⊥) → P (Some key)) → P (Some key)
    by true same some ih = subst (λ k. P (Some k)) (sym (same_tree_true key (tree_of e.0) same)) a.0
    by false same some ih = ih some

own_key_holds : (P : Option Tree → Type 0) (key : Tree) (places : Option KeyPlaces) → Each P (own_keys places)
    → (places_in key places ≡ [] → ⊥) → P (Some key)
own_key_holds P key None a some = absurd (some refl)
own_key_holds P key (Some places) a some =
    looked_up P key places.keys.entries a (λ none. some (ap (λ found. unwrap_or found []) none))

each_op : (P : Option Tree → Type 0) (name : List ℕ) (ops : List Op) (all : Places) → AreWrites ops all
    → Each P (own_keys (table_there name all))
    → Each (λ op. is_on name (operation op) ≡ true → P (key_changed (operation op))) ops
each_op P name ops all h own =
    both ops h.keyed (among ops)
  where
    at : (op : Op) (key : Option Tree) → key_changed (operation op) ≡ key → IsSome key
        → ((test : Op → Bool) → test op ≡ true → filter test ops ≡ [] → ⊥) → is_on name (operation op) ≡ true → P key
    at op None is some found on = absurd cc
    at op (Some key) is some found on =
        let mine : changes name key op ≡ true =
        (λ i. on i && is_key key (is i)) ∙ same_tree_refl key in
        own_key_holds P key (table_there name all) own (λ none. found (changes name key) mine (nothing key none))
      where
        nothing : (k : Tree) → places_at name k all ≡ [] → filter (changes name k) ops ≡ []
        nothing k none = by (filter (changes name k) ops) (sym (ap (ops_at ops) none) ∙ h.placed name k)
          where
            by : (found : List Op) → [] ≡ map Some found → found ≡ []
            by [] e = refl
            by (one ∷ found) e = absurd cc

    both : (some : List Op) → Each HasKey some → Each (λ op. (test : Op → Bool) → test op ≡ true → filter test ops ≡ [] → ⊥) some
        → Each (λ op. is_on name (operation op) ≡ true → P (key_changed (operation op))) some
    both [] keyed found = tt
    both (op ∷ some) keyed found =
        (at op (key_changed (operation op)) refl keyed.0 found.0, both some keyed.1 found.1)

each_front : {X : Type 0} (P : X → Type 0) (xs ys : List X) → Each P (xs ++ ys) → Each P xs
each_front P [] ys a = tt
each_front P (x ∷ xs) ys a = (a.0, each_front P xs ys a.1)

each_back : {X : Type 0} (P : X → Type 0) (xs ys : List X) → Each P (xs ++ ys) → Each P ys
each_back P [] ys a = a
each_back P (x ∷ xs) ys a = each_back P xs ys a.1

of_rows : (P : Option Tree → Type 0) (rows : Contents) → Each P (map key_of rows) → Each (λ row. P (key_of row)) rows
of_rows P [] a = tt
of_rows P (x ∷ rows) a = (a.0, of_rows P rows a.1)

module _ (name : List ℕ) (ops : List Op) (all : Places) (h : AreWrites ops all) (table : TableRecords) where
  pub each_key_seen : (P : Option Tree → Type 0) → Each P (all_keys (table_there name all) table)
      → Each (λ row. P (key_of row)) (seen name ops table)
  each_key_seen P a =
      each_seen P table.kind name ops (contents table)
      (each_op P name ops all h (each_back P (live_keys table) (own_keys (table_there name all)) a))
      (of_rows P (contents table) (each_front P (live_keys table) (own_keys (table_there name all)) a))

  pub order_seen : IsInOrder (contents table) → IsInOrder (seen name ops table)
  order_seen order = by ops (contents table) order
    where
      by : (some : List Op) (rows : Contents) → IsInOrder rows
          → IsInOrder (put_ops table.kind (filter (is_on name) (map operation some)) rows)
      by [] rows order = order
      by (op ∷ some) rows order = on (is_on name (operation op)) (λ others. by some others)
        where
          on : (b : Bool)
              → ((others : Contents) → IsInOrder others → IsInOrder (put_ops table.kind (filter (is_on name) (map operation some)) others))
              → IsInOrder (put_ops table.kind (cond b (operation op ∷ filter (is_on name) (map operation some))
              (filter (is_on name) (map operation some))) rows)
          on true ih = ih (put_op table.kind (operation op) rows) (order_put table.kind (operation op) rows order)
          on false ih = ih rows order

  pub keyed_seen : AreKeyed (contents table) → AreKeyed (seen name ops table)
  keyed_seen keyed =
      each_seen (λ key. IsSome key) table.kind name ops (contents table)
      (each_weaker HasKey (λ op. is_on name (operation op) ≡ true → IsSome (key_changed (operation op))) (λ op some _. some) ops h.keyed)
      keyed

-- ---- from one key to the next

abbrev IsNextRow : Option Tree → Tree → Tree → Type 0
IsNextRow last key row = NotBelow last key (key_of row)

-- above the last key come the records of the next one, and those above it
next_rows : (last : Option Tree) (key : Tree) → is_above last (Some key) ≡ true → (rows : Contents) → IsInOrder rows → AreKeyed rows
    → Each (IsNextRow last key) rows → rows_above last rows ≡ records_of key rows ++ rows_above (Some key) rows
next_rows last key h [] order keyed next = refl
next_rows last key h (row ∷ rows) order keyed next =
    by (key_of row) refl keyed.0 (next_rows last key h rows order.1 keyed.1 next.1)
  where
    by : (found : Option Tree) → key_of row ≡ found → IsSome found
        → rows_above last rows ≡ records_of key rows ++ rows_above (Some key) rows
        → rows_above last (row ∷ rows) ≡ records_of key (row ∷ rows) ++ rows_above (Some key) (row ∷ rows)
    by None is some ih = absurd cc
    by (Some own) is some ih = cases (is_above last (Some own)) (tree_cmp own key) refl refl
      where
        cases : (b : Bool) (o : Ordering) → is_above last (Some own) ≡ b → tree_cmp own key ≡ o
            → rows_above last (row ∷ rows) ≡ records_of key (row ∷ rows) ++ rows_above (Some key) (row ∷ rows)
        cases true Less above o = never _ _ (next.0 (ap (is_above last) is ∙ above)) (ap (λ k. is_key_below k (Some key)) is ∙ ap is_lt o)
        cases true Equal above o =
            let first : is_above last (key_of row) ≡ true = ap (is_above last) is ∙ above in
            let same : has_key key row ≡ true = ap (is_key key) is ∙ ap is_eq o in
            let not_itself : is_above (Some key) (key_of row) ≡ false =
            ap (is_above (Some key)) (is ∙ ap Some (tree_cmp-IsAntisymmetric own key o)) ∙ irreflexive (Some key) in
            rw (first, same, not_itself) (ap (λ (t : Contents). row ∷ t) ih)
        cases true Greater above o =
            let first : is_above last (key_of row) ≡ true = ap (is_above last) is ∙ above in
            let apart : has_key key row ≡ false = ap (is_key key) is ∙ ap is_eq o in
            let less : is_key_below (Some key) (Some own) ≡ true = ap is_lt (tree_total.antisymm key own ∙ ap ordering_reverse o) in
            let behind : is_above (Some key) (key_of row) ≡ true = ap (is_above (Some key)) is ∙ less in
            let nothing : records_of key rows ≡ [] =
            none_behind key row rows (ap (is_key_below (Some key)) is ∙ less) order.0 in
            rw (first, apart, behind, nothing) (ap (λ (t : Contents). row ∷ t)
            (ih ∙ ap (λ (t : Contents). t ++ rows_above (Some key) rows) nothing))
        cases false o below e =
            let first : is_above last (key_of row) ≡ false = ap (is_above last) is ∙ below in
            let apart : has_key key row ≡ false = ap (is_key key) is ∙ false_or (same_tree own key) (λ same.
            never ⊥ _ below (ap (λ k. is_above last (Some k)) (same_tree_true own key same) ∙ h)) in
            let before : is_above (Some key) (key_of row) ≡ false =
            ap (is_above (Some key)) is ∙ false_or (is_above (Some key) (Some own)) (λ above.
            never ⊥ _ below (higher last h above)) in
            rw (first, apart, before) ih
          where
            higher : (last : Option Tree) → is_above last (Some key) ≡ true → is_above (Some key) (Some own) ≡ true
                → is_above last (Some own) ≡ true
            higher None p q = refl
            higher (Some l) p q = below_trans (Some l) (Some key) (Some own) p q

no_rows : (last : Option Tree) (rows : Contents) → Each (λ row. is_above last (key_of row) ≡ false) rows → rows_above last rows ≡ []
no_rows last [] a = refl
no_rows last (row ∷ rows) a = rw a.0 (no_rows last rows a.1)

all_rows : (rows : Contents) → AreKeyed rows → rows_above None rows ≡ rows
all_rows [] keyed = refl
all_rows (row ∷ rows) keyed = by (key_of row) refl keyed.0 (all_rows rows keyed.1)
  where
    by : (found : Option Tree) → key_of row ≡ found → IsSome found → rows_above None rows ≡ rows
        → rows_above None (row ∷ rows) ≡ row ∷ rows
    by None is some ih = absurd cc
    by (Some own) is some ih =
        let first : is_above None (key_of row) ≡ true = ap (is_above None) is in
        rw first (ap (λ (t : Contents). row ∷ t) ih)

module _ (name : List ℕ) (ops : List Op) (all : Places) (h : AreWrites ops all) (table : TableRecords) (own : Option KeyPlaces)
    (is : own ≡ table_there name all) (order : IsInOrder (contents table)) (keyed : AreKeyed (contents table)) where
  pub seen_next : (last : Option Tree) (key : Tree) → IsNext last (all_keys own table) (Some key)
      → rows_above last (seen name ops table) ≡ records_of key (seen name ops table) ++ rows_above (Some key) (seen name ops table)
  seen_next last key next =
      next_rows last key next.0 (seen name ops table) (order_seen name ops all h table order) (keyed_seen name ops all h table keyed)
      (each_key_seen name ops all h table (NotBelow last key)
      (subst (λ places. Each (NotBelow last key) (all_keys places table)) is next.1))

  pub seen_end : (last : Option Tree) → IsNext last (all_keys own table) None → rows_above last (seen name ops table) ≡ []
  seen_end last next =
      no_rows last (seen name ops table)
      (each_key_seen name ops all h table (λ key. is_above last key ≡ false)
      (subst (λ places. Each (λ key. is_above last key ≡ false) (all_keys places table)) is next))

  pub seen_all : rows_above None (seen name ops table) ≡ seen name ops table
  seen_all = all_rows (seen name ops table) (keyed_seen name ops all h table keyed)

-- ---- keys of parts

pub ended : {X : Type 0} (found : List X) → found ≡ found ++ []
ended [] = refl
ended (x ∷ found) = ap (λ t. x ∷ t) (ended found)

behind_own : (key : Tree) (xs ys : Contents) → Each (λ row. has_key key row ≡ true) xs
    → keys_behind (Some key) (xs ++ ys) ≡ keys_behind (Some key) ys
behind_own key [] ys a = refl
behind_own key (x ∷ xs) ys a = rw a.0 (behind_own key xs ys a.1)

behind_others : (key : Tree) (ys : Contents) → Each (λ row. has_key key row ≡ false) ys → keys_behind (Some key) ys ≡ keys ys
behind_others key [] a = refl
behind_others key (y ∷ ys) a = rw a.0 refl

keys_of_one : (key : Tree) (xs ys : Contents) → Each (λ row. has_key key row ≡ true) xs → Each (λ row. has_key key row ≡ false) ys
    → keys (xs ++ ys) ≡ keys xs ++ keys ys
keys_of_one key [] ys a b = refl
keys_of_one key (x ∷ xs) ys a b =
    let own = own_key key x a.0 in
    let front : keys (x ∷ xs ++ ys) ≡ key ∷ keys ys = rw own (ap (λ (t : List Tree). key ∷ t)
    (behind_own key xs ys a.1 ∙ behind_others key ys b)) in
    let alone : keys (x ∷ xs) ≡ key ∷ [] = rw own (ap (λ (t : List Tree). key ∷ t)
    (ap (keys_behind (Some key)) (ended xs) ∙ behind_own key xs [] a.1)) in
    front ∙ sym (ap (λ (t : List Tree). t ++ keys ys) alone)

not_own : (key : Tree) (row : Tree) → is_above (Some key) (key_of row) ≡ true → has_key key row ≡ false
not_own key row above = false_or (has_key key row) (λ own.
    never ⊥ _ (irreflexive (Some key)) (ap (is_above (Some key)) (sym (own_key key row own)) ∙ above))

pub keys_parts : (key : Tree) (rows : Contents)
    → keys (records_of key rows ++ rows_above (Some key) rows) ≡ keys (records_of key rows) ++ keys (rows_above (Some key) rows)
keys_parts key rows = keys_of_one key (records_of key rows) (rows_above (Some key) rows) (each_kept (has_key key) rows)
    (each_weaker (λ row. is_above (Some key) (key_of row) ≡ true) (λ row. has_key key row ≡ false) (not_own key)
    (rows_above (Some key) rows) (each_kept (λ row. is_above (Some key) (key_of row)) rows))

pub key_alone : (key : Tree) (rows : Contents) → keys (records_of key rows) ≡ cond (are_some (records_of key rows)) (key ∷ []) []
key_alone key rows = by (records_of key rows) (each_kept (has_key key) rows)
  where
    by : (xs : Contents) → Each (λ row. has_key key row ≡ true) xs → keys xs ≡ cond (are_some xs) (key ∷ []) []
    by [] a = refl
    by (x ∷ xs) a = rw (own_key key x a.0) (ap (λ (t : List Tree). key ∷ t) (behind_all xs a.1))
      where
        behind_all : (others : Contents) → Each (λ row. has_key key row ≡ true) others → keys_behind (Some key) others ≡ []
        behind_all [] a = refl
        behind_all (y ∷ others) a = rw a.0 (behind_all others a.1)

-- one key more is done, where F is of all records what it is of the parts
pub walked : {X : Type 0} (F : Contents → List X) (rows above next : Contents) (key : Tree) (found more : List X)
    → above ≡ records_of key rows ++ next → F (records_of key rows ++ next) ≡ F (records_of key rows) ++ F next
    → more ≡ found ++ F (records_of key rows) → found ++ F above ≡ F rows → more ++ F next ≡ F rows
walked F rows above next key found more is parts added done =
    ap (λ t. t ++ F next) added ∙ joined found (F (records_of key rows)) (F next)
    ∙ ap (λ t. found ++ t) (sym parts ∙ ap F (sym is)) ∙ done
  where
    joined : {X : Type 0} (xs ys zs : List X) → (xs ++ ys) ++ zs ≡ xs ++ (ys ++ zs)
    joined [] ys zs = refl
    joined (x ∷ xs) ys zs = ap (λ t. x ∷ t) (joined xs ys zs)

pub none_there : (places : List ℕ) → length places ≡ 0 → places ≡ []
none_there [] h = refl
none_there (place ∷ places) h = absurd (omega (arith, h))

-- without own ops on the key the live records are seen
pub no_own : (name : List ℕ) (ops : List Op) (all : Places) (table : TableRecords) (key : Tree) → AreWrites ops all
    → IsInOrder (contents table) → places_at name key all ≡ []
    → records_of key (contents table) ≡ records_of key (seen name ops table)
no_own name ops all table key h order none =
    ap (λ others. put_ops table.kind others (records_of key (contents table)))
    (own_ops ops ops all [] name key h refl (sym none))
    ∙ sym (records_of_seen key table.kind name ops (contents table) h.keyed order)

pub bound_rows : (p key : Tree) (rows : Contents) → ((row : Tree) → is_match p row ≡ true → key_of row ≡ Some key)
    → filter (is_match p) (records_of key rows) ≡ filter (is_match p) rows
bound_rows p key rows bound =
    spared (is_match p) (has_key key) (λ row own. ap (is_key key) (bound row own) ∙ same_tree_refl key) rows
