-- One lock more of a transaction.
use Rattle.std.proofs.Common.{◌≡◌, ℕ, Bool, true, false, ◌&&◌, ◌||◌, List, [], ◌∷◌, ◌++◌, Option, None, Some, is_some, IsSome, option_map}
use Rattle.std.proofs.Common.{option_copied, Bor, refl, ap, ap₂, ◌∙◌}
use Rattle.std.specs.List.{list_any}
use Rattle.term_core.specs.Tree.{Tree}
use Rattle.term_core.specs.Order.{same_tree_true}
use Rattle.term_core.specs.View.{tree_of}
use Rattle.term_core.specs.declared.term.Term.{Term}
use Rattle.db_model.specs.Database.{same_name, is_key}
use Rattle.db_model.specs.View.{operation}
use Rattle.db_model.specs.declared.op.Op.{Op}
use Rattle.txn_writes.specs.Seen.{key_changed, is_on, changes, changes_in, is_changed}
use Rattle.txn_core.specs.Calls.{change}
use Rattle.txn_core.specs.Locks.{Lock, lock_of, meet, conflict}
use Rattle.txn_core.specs.Held.{bars_in, ReadsIn, BarAlikeIn}
use Rattle.txn_core.specs.Entries.{holds_lock, TakesLock}
use Rattle.txn_core.specs.declared.pending.Pending.{Pending}
use Rattle.txn_core.proofs.NameFacts.{one_name, same_tree_sym}

-- ---- an op more

any_last : (test : Op → Bool) (ops : List Op) (op : Op) → list_any test (ops ++ op ∷ []) ≡ (list_any test ops || test op)
any_last test [] op = or_end (test op)
  where
    or_end : (b : Bool) → (b || false) ≡ b
    or_end true = refl
    or_end false = refl
any_last test (first ∷ ops) op =
    ap (λ b. test first || b) (any_last test ops op) ∙ or_three (test first) (list_any test ops) (test op)
  where
    or_three : (a b c : Bool) → (a || (b || c)) ≡ ((a || b) || c)
    or_three true b c = refl
    or_three false b c = refl

-- an op changes what a lock covers where its own lock conflicts with it
op_conflict : (table : List ℕ) (key : Option Tree) (writes : Bool) (op : Op) → IsSome (key_changed (operation op))
    → changes_in table key op ≡ conflict record { table = table; key = key; writes = writes } (lock_of (change (operation op)))
op_conflict table None writes op keyed = by (is_on table (operation op)) writes
  where
    by : (on w : Bool) → on ≡ (on && ((w || true) && true))
    by true true = refl
    by true false = refl
    by false w = refl
op_conflict table (Some key) writes op keyed =
    ap (λ b. is_on table (operation op) && b)
    (meets (key_changed (operation op)) keyed ∙ either writes (meet (Some key) (key_changed (operation op))))
  where
    meets : (o : Option Tree) → IsSome o → is_key key o ≡ meet (Some key) o
    meets None h = absurd cc
    meets (Some own) h = same_tree_sym own key

    either : (w m : Bool) → m ≡ ((w || true) && m)
    either true m = refl
    either false m = refl

or_moved : (a b c : Bool) → ((a || b) || c) ≡ ((a || c) || b)
or_moved true b c = refl
or_moved false true true = refl
or_moved false true false = refl
or_moved false false c = or_end c
  where
    or_end : (b : Bool) → b ≡ (b || false)
    or_end true = refl
    or_end false = refl

pub op_taken : (old new : Pending) (op : Op) → new.reads ≡ old.reads → new.writes ≡ old.writes ++ op ∷ []
    → IsSome (key_changed (operation op)) → TakesLock old new (lock_of (change (operation op)))
op_taken old new op reads writes keyed asked =
    let test = changes_in asked.table asked.key in
    let barred = asked.writes && bars_in old.reads asked.table asked.key in
    ap₂ (λ ops rs. list_any test ops || (asked.writes && bars_in rs asked.table asked.key)) writes reads
    ∙ ap (λ b. b || barred) (any_last test old.writes op) ∙ or_moved (list_any test old.writes) (test op) barred
    ∙ ap (λ b. holds_lock old asked || b) (op_conflict asked.table asked.key asked.writes op keyed)

-- ---- a lock for reading more

pub read_taken : (old new : Pending) (table : List ℕ) (key : Option Tree) → new.writes ≡ old.writes
    → ReadsIn old.reads new.reads table key → TakesLock old new record { table = table; key = key; writes = false }
read_taken old new table key writes reads asked =
    ap₂ (λ ops b. is_changed asked.table asked.key ops || (asked.writes && b)) writes (reads asked.table asked.key)
    ∙ by (is_changed asked.table asked.key old.writes) asked.writes (bars_in old.reads asked.table asked.key)
    (same_name asked.table table) (meet asked.key key)
  where
    by : (a w b s m : Bool) → (a || (w && (b || (s && m)))) ≡ ((a || (w && b)) || (s && ((w || false) && m)))
    by true w b s m = refl
    by false true true s m = refl
    by false true false s m = refl
    by false false b true m = refl
    by false false b false m = refl

pub read_alike : (old new : Pending) → new.writes ≡ old.writes → BarAlikeIn old.reads new.reads
    → (asked : Lock) → holds_lock new asked ≡ holds_lock old asked
read_alike old new writes reads asked =
    ap₂ (λ ops b. is_changed asked.table asked.key ops || (asked.writes && b)) writes (reads asked.table asked.key)

-- ---- a key that was changed is locked enough

any_weaker : (one other : Op → Bool) → ((op : Op) → one op ≡ true → other op ≡ true) → (ops : List Op)
    → list_any one ops ≡ true → list_any other ops ≡ true
any_weaker one other h [] any = absurd cc
any_weaker one other h (op ∷ ops) any = by (one op) (other op) (h op) any (any_weaker one other h ops)
  where
    by : (a b : Bool) → (a ≡ true → b ≡ true) → (a || list_any one ops) ≡ true
        → (list_any one ops ≡ true → list_any other ops ≡ true) → (b || list_any other ops) ≡ true
    by a true k any rest = refl
    by true false k any rest = (let wrong = k refl in absurd cc)
    by false false k any rest = rest any

both_true : (a b : Bool) → (a && b) ≡ true → (a ≡ true) × (b ≡ true)
both_true true b h = (refl, h)
both_true false b h = absurd cc

changed_at : (table : List ℕ) (key : Tree) (ops : List Op) (asked : Option Tree) → meet asked (Some key) ≡ true
    → is_changed table (Some key) ops ≡ true → is_changed table asked ops ≡ true
changed_at table key ops None met changed =
    any_weaker (changes table key) (changes_in table None)
    (λ op both. (both_true (is_on table (operation op)) (is_key key (key_changed (operation op))) both).0) ops changed
changed_at table key ops (Some asked) met changed =
    ap (λ k. is_changed table (Some k) ops) (same_tree_true asked key met) ∙ changed

or_within : (a b : Bool) → (b ≡ true → a ≡ true) → a ≡ (a || b)
or_within true b h = refl
or_within false true h = (let wrong = h refl in absurd cc)
or_within false false h = refl

held_already : (old : Pending) (table : List ℕ) (key : Tree) → is_changed table (Some key) old.writes ≡ true
    → TakesLock old old record { table = table; key = Some key; writes = false }
held_already old table key changed asked =
    or_within (holds_lock old asked) (conflict asked record { table = table; key = Some key; writes = false }) (λ clashes.
    let named = both_true (same_name asked.table table) ((asked.writes || false) && meet asked.key (Some key)) clashes in
    let met = both_true (asked.writes || false) (meet asked.key (Some key)) named.1 in
    ap (λ b. b || (asked.writes && bars_in old.reads asked.table asked.key))
    (ap (λ name. is_changed name asked.key old.writes) (one_name asked.table table named.0)
    ∙ changed_at table key old.writes asked.key met.1 changed))

pub locked_enough : (old : Pending) (table : List ℕ) (key : Option (Bor Term)) → is_some key ≡ true
    → is_changed table (option_map tree_of (option_copied key)) old.writes ≡ true
    → TakesLock old old record { table = table; key = option_map tree_of (option_copied key); writes = false }
locked_enough old table None some changed = absurd cc
locked_enough old table (Some key) some changed = held_already old table (tree_of key.now) changed
