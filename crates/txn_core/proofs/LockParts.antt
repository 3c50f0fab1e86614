-- The part of the tables that a lock covers, and what a call does to it.
use Rattle.std.proofs.Common.{◌≡◌, ℕ, Bool, true, false, ◌&&◌, ◌||◌, cond, List, [], ◌∷◌, filter, Option, None, Some}
use Rattle.std.proofs.Common.{option_map, refl, sym, ap, ◌∙◌, inl, inr}
use Rattle.std.specs.List.{list_any, AllByRecursion}
use Rattle.std.proofs.lemmas.Bool.{cases_Bool, or_parts}
use Rattle.term_core.specs.Tree.{Tree, key_of}
use Rattle.db_model.specs.Database.{Table, records_of, has_key, is_key, same_name, is_called, with_op, do_op}
use Rattle.db_model.specs.Lawful.{table_in}
use Rattle.db_model.specs.Ops.{Operation, write, delete, delete_object, clear, table_of}
use Rattle.db_state.specs.Live.{AreInOrder, IsKeyedTable}
use Rattle.ram_table.specs.Contents.{IsInOrder}
use Rattle.txn_writes.specs.Seen.{key_changed}
use Rattle.txn_core.specs.Calls.{Call, change, read, match_object, all_keys, table_called, found, got, reply, after, view, alone}
use Rattle.txn_core.specs.Locks.{Lock, lock_of, meet, clash, conflict}
use Rattle.txn_core.specs.Machine.{AreOrderly}
use Rattle.txn_core.proofs.Each.{each_map, each_then}
use Rattle.txn_core.proofs.Filters.{within}
use Rattle.txn_core.proofs.KeyOrder.{touches, in_order_op, op_touches, op_spares}
use Rattle.txn_core.proofs.NameFacts.{one_name, same_name_sym, same_tree_sym}

-- ---- one table

-- what a lock's key covers of a table
abbrev pub covered : Option Tree → Table → Table
covered None table = table
covered (Some key) table = record table { contents = records_of key table.contents }

-- what an op does to that
abbrev pub op_within : Option Tree → Operation → Table → Table
op_within None op table = with_op op table
op_within (Some key) op table = cond (touches key op) (with_op op table) table

abbrev pub call_within : Option Tree → Call → Table → Table
call_within key (change op) table = op_within key op table
call_within key (read name other) table = table
call_within key (match_object name pattern) table = table
call_within key (all_keys name) table = table

covered-with_op : (key : Option Tree) (op : Operation) (table : Table) → IsInOrder table.contents
    → covered key (with_op op table) ≡ op_within key op (covered key table)
covered-with_op None op table h = refl
covered-with_op (Some key) op table h =
    let mine : Table = covered (Some key) table in
    elim (cases_Bool (touches key op)) [
      | inl k ↦ ap (λ rows. record table { contents = rows }) (op_touches table.definition.kind key op table.contents k h)
          ∙ ap (λ b. cond b (with_op op mine) mine) (sym k)
      | inr k ↦ ap (λ rows. record table { contents = rows }) (op_spares table.definition.kind key op table.contents k)
          ∙ ap (λ b. cond b (with_op op mine) mine) (sym k)
    ]

-- an op of a key that does not meet this one changes none of its records
key_spared : (key : Tree) (o : Option Tree) → meet (Some key) o ≡ false → is_key key o ≡ false
key_spared key None h = absurd cc
key_spared key (Some own) h = same_tree_sym own key ∙ h

touch_spared : (key : Tree) (op : Operation) → meet (Some key) (key_changed op) ≡ false → touches key op ≡ false
touch_spared key (write table row) h = key_spared key (key_of row) h
touch_spared key (delete table gone) h = h
touch_spared key (delete_object table row) h = key_spared key (key_of row) h
touch_spared key (clear table) h = absurd cc

op_spared : (key : Option Tree) (op : Operation) (table : Table) → meet key (key_changed op) ≡ false
    → op_within key op table ≡ table
op_spared None op table h = absurd cc
op_spared (Some key) op table h = ap (λ b. cond b (with_op op table) table) (touch_spared key op h)

or_true : (b : Bool) → (b || true) ≡ true
or_true true = refl
or_true false = refl

call_spared : (key : Option Tree) (writes : Bool) (call : Call) (table : Table)
    → clash key writes (lock_of call).key (lock_of call).writes ≡ false → call_within key call table ≡ table
call_spared key writes (change op) table h =
    op_spared key op table (ap (λ b. b && meet key (key_changed op)) (sym (or_true writes)) ∙ h)
call_spared key writes (read name other) table h = refl
call_spared key writes (match_object name pattern) table h = refl
call_spared key writes (all_keys name) table h = refl

-- ---- all tables

none_either : (b : Bool) → ◌≡◌ {A = Option Table} None (cond b None None)
none_either true = refl
none_either false = refl

table_in-do_op : (name : List ℕ) (op : Operation) (tables : List Table)
    → table_in name (do_op op tables)
    ≡ cond (same_name name (table_of op)) (option_map (with_op op) (table_in name tables)) (table_in name tables)
table_in-do_op name op [] = none_either (same_name name (table_of op))
table_in-do_op name op (table ∷ tables) =
    let ih : table_in name (do_op op tables)
    ≡ cond (same_name name (table_of op)) (option_map (with_op op) (table_in name tables)) (table_in name tables)
    = table_in-do_op name op tables in
    elim (cases_Bool (is_called name table)) [
      | inl h ↦ (
          let same : same_name name (table_of op) ≡ is_called (table_of op) table =
          same_name_sym name (table_of op) ∙ ap (same_name (table_of op)) (one_name name table.definition.name h) in
          elim (cases_Bool (is_called (table_of op) table)) [
            | inl k ↦ (let k2 : same_name name (table_of op) ≡ true = same ∙ k in simp (h, k, k2))
            | inr k ↦ (let k2 : same_name name (table_of op) ≡ false = same ∙ k in simp (h, k, k2))
          ])
      | inr h ↦ elim (cases_Bool (is_called (table_of op) table)) [ inl k ↦ simp (h, k, ih) | inr k ↦ simp (h, k, ih) ]
    ]

-- the part of the tables that a lock covers
abbrev pub part : Lock → List Table → Option Table
part lock tables = option_map (covered lock.key) (table_in lock.table tables)

-- a call's effect on such a part
abbrev pub part_after : Lock → Call → Option Table → Option Table
part_after lock call was = cond (same_name lock.table (table_called call)) (option_map (call_within lock.key call) was) was

abbrev IsOrderedIn : Option Table → Type 0
IsOrderedIn None = Unit {0}
IsOrderedIn (Some table) = IsInOrder table.contents

order_found : (name : List ℕ) (tables : List Table) → AreInOrder tables → IsOrderedIn (table_in name tables)
order_found name [] h = tt
order_found name (table ∷ tables) h =
    elim (is_called name table) as (λ b. IsOrderedIn (cond b (Some table) (table_in name tables))) [
      | true ↦ h.0
      | false ↦ order_found name tables h.1
    ]

covered_some : (key : Option Tree) (op : Operation) (was : Option Table) → IsOrderedIn was
    → option_map (covered key) (option_map (with_op op) was)
    ≡ option_map (op_within key op) (option_map (covered key) was)
covered_some key op None h = refl
covered_some key op (Some table) h = ap Some (covered-with_op key op table h)

part_do_op : (lock : Lock) (op : Operation) (tables : List Table) → AreInOrder tables
    → part lock (do_op op tables) ≡ part_after lock (change op) (part lock tables)
part_do_op lock op tables h =
    let was : Option Table = table_in lock.table tables in
    let mine : Option Table = part lock tables in
    elim (cases_Bool (same_name lock.table (table_of op))) [
      | inl k ↦ ap (option_map (covered lock.key))
          (table_in-do_op lock.table op tables ∙ ap (λ b. cond b (option_map (with_op op) was) was) k)
          ∙ covered_some lock.key op was (order_found lock.table tables h)
          ∙ ap (λ b. cond b (option_map (op_within lock.key op) mine) mine) (sym k)
      | inr k ↦ ap (option_map (covered lock.key))
          (table_in-do_op lock.table op tables ∙ ap (λ b. cond b (option_map (with_op op) was) was) k)
          ∙ ap (λ b. cond b (option_map (op_within lock.key op) mine) mine) (sym k)
    ]

option_map_id : {X : Type 0} (f : X → X) → ((x : X) → f x ≡ x) → (o : Option X) → option_map f o ≡ o
option_map_id f h None = refl
option_map_id f h (Some x) = ap Some (h x)

either_way : {X : Type 0} (b : Bool) (x y : X) → x ≡ y → cond b x y ≡ y
either_way true x y h = h
either_way false x y h = refl

same_part : (lock : Lock) (call : Call) → ((table : Table) → call_within lock.key call table ≡ table)
    → (was : Option Table)
    → part_after lock call was ≡ was
same_part lock call h was =
    either_way (same_name lock.table (table_called call)) (option_map (call_within lock.key call) was) was
    (option_map_id (call_within lock.key call) h was)

pub part-after : (lock : Lock) (call : Call) (tables : List Table) → AreInOrder tables
    → part lock (after call tables) ≡ part_after lock call (part lock tables)
part-after lock (change op) tables h = part_do_op lock op tables h
part-after lock (read name key) tables h = sym (same_part lock (read name key) (λ table. refl) (part lock tables))
part-after lock (match_object name pattern) tables h = sym (same_part lock (match_object name pattern) (λ table. refl) (part lock tables))
part-after lock (all_keys name) tables h = sym (same_part lock (all_keys name) (λ table. refl) (part lock tables))

-- Tables with the same part for a lock have the same part after the same call.
pub part_kept : (lock : Lock) (call : Call) (tables others : List Table) → AreInOrder tables → AreInOrder others
    → part lock tables ≡ part lock others → part lock (after call tables) ≡ part lock (after call others)
part_kept lock call tables others a b h =
    part-after lock call tables a ∙ ap (part_after lock call) h ∙ sym (part-after lock call others b)

pub lock_of_table : (call : Call) → (lock_of call).table ≡ table_called call
lock_of_table (change op) = refl
lock_of_table (read name key) = refl
lock_of_table (match_object name pattern) = refl
lock_of_table (all_keys name) = refl

-- A call whose lock does not conflict with a lock leaves that lock's part.
pub part_spared : (lock : Lock) (call : Call) (tables : List Table) → AreInOrder tables
    → conflict lock (lock_of call) ≡ false → part lock (after call tables) ≡ part lock tables
part_spared lock call tables a h =
    let rest : Bool = clash lock.key lock.writes (lock_of call).key (lock_of call).writes in
    let h2 : (same_name lock.table (table_called call) && rest) ≡ false =
    ap (λ name. same_name lock.table name && rest) (sym (lock_of_table call)) ∙ h in
    let mine : Option Table = part lock tables in
    part-after lock call tables a
    ∙ elim (cases_Bool (same_name lock.table (table_called call))) [
      | inl k ↦ same_part lock call (λ table. call_spared lock.key lock.writes call table (ap (λ b. b && rest) (sym k) ∙ h2)) mine
      | inr k ↦ ap (λ b. cond b (option_map (call_within lock.key call) mine) mine) k
    ]

-- ---- what a call gets is told by the part that its own lock covers

got_part : (call : Call) (was : Option Table) → got call (option_map (covered (lock_of call).key) was) ≡ got call was
got_part call None = refl
got_part (change op) (Some table) = refl
got_part (read name key) (Some table) = ap found (within (has_key key) (has_key key) (λ row h. h) table.contents)
got_part (match_object name pattern) (Some table) = refl
got_part (all_keys name) (Some table) = refl

pub reply-part : (call : Call) (tables : List Table) → got call (part (lock_of call) tables) ≡ reply call tables
reply-part call tables =
    got_part call (table_in (lock_of call).table tables) ∙ ap (λ name. got call (table_in name tables)) (lock_of_table call)

-- ---- calls keep the order

change_orderly : (P : Table → Type 0) (op : Operation) → ((table : Table) → P table → P (with_op op table))
    → (tables : List Table) → AllByRecursion P tables → AllByRecursion P (do_op op tables)
change_orderly P op h tables all =
    each_map P (λ table. cond (is_called (table_of op) table) (with_op op table) table) tables
    (each_then P (λ table. P (cond (is_called (table_of op) table) (with_op op table) table))
    (λ table p. elim (is_called (table_of op) table) as (λ b. P (cond b (with_op op table) table)) [ true ↦ h table p | false ↦ p ])
    tables all)

pub orderly_after : (call : Call) (tables : List Table) → AreOrderly tables → AreOrderly (after call tables)
orderly_after (change op) tables h = record {
  ordered = change_orderly (λ table. IsInOrder table.contents) op (λ table o. in_order_op table.definition.kind op table.contents o)
      tables h.ordered;
  keyed = change_orderly IsKeyedTable op (λ table k. k) tables h.keyed;
}
orderly_after (read name key) tables h = h
orderly_after (match_object name pattern) tables h = h
orderly_after (all_keys name) tables h = h

pub orderly_view : (calls : List Call) (tables : List Table) → AreOrderly tables → AreOrderly (view calls tables)
orderly_view [] tables h = h
orderly_view (call ∷ calls) tables h = orderly_view calls (after call tables) (orderly_after call tables h)

-- ---- calls one after another

-- the tables have the same part for the lock of each of these calls
abbrev pub SameFor : List Table → List Table → Call → Type 0
SameFor tables others call = part (lock_of call) tables ≡ part (lock_of call) others

same_after : (calls : List Call) (call : Call) (tables others : List Table) → AreOrderly tables → AreOrderly others
    → AllByRecursion (SameFor tables others) calls
    → AllByRecursion (SameFor (after call tables) (after call others)) calls
same_after [] call tables others a b h = tt
same_after (c ∷ calls) call tables others a b h =
    (part_kept (lock_of c) call tables others a.ordered b.ordered h.0, same_after calls call tables others a b h.1)

-- Calls get alone on two such lists of tables the same.
pub alone_same : (calls : List Call) (tables others : List Table) → AreOrderly tables → AreOrderly others
    → AllByRecursion (SameFor tables others) calls → alone calls tables ≡ alone calls others
alone_same [] tables others a b h = refl
alone_same (call ∷ calls) tables others a b h =
    let first : reply call tables ≡ reply call others = sym (reply-part call tables) ∙ ap (got call) h.0 ∙ reply-part call others in
    let rest : alone calls (after call tables) ≡ alone calls (after call others) =
    alone_same calls (after call tables) (after call others) (orderly_after call tables a) (orderly_after call others b)
    (same_after calls call tables others a b h.1) in
    λ i. first i ∷ rest i

-- calls with no conflicting lock leave a lock's part
pub part_view : (calls : List Call) (lock : Lock) (tables : List Table) → AreOrderly tables
    → list_any (λ call. conflict lock (lock_of call)) calls ≡ false → part lock (view calls tables) ≡ part lock tables
part_view [] lock tables a h = refl
part_view (call ∷ calls) lock tables a h =
    let two = or_parts (conflict lock (lock_of call)) (list_any (λ c. conflict lock (lock_of c)) calls) h in
    part_view calls lock (after call tables) (orderly_after call tables a) two.1 ∙ part_spared lock call tables a.ordered two.0

-- ---- which earlier calls a call sees

part_same_after : (lock : Lock) (calls : List Call) (tables others : List Table) → AreOrderly tables → AreOrderly others
    → part lock tables ≡ part lock others → part lock (view calls tables) ≡ part lock (view calls others)
part_same_after lock [] tables others a b h = h
part_same_after lock (call ∷ calls) tables others a b h =
    part_same_after lock calls (after call tables) (after call others) (orderly_after call tables a) (orderly_after call others b)
    (part_kept lock call tables others a.ordered b.ordered h)

abbrev conflicting : Lock → List Call → List Call
conflicting lock calls = filter (λ call. conflict lock (lock_of call)) calls

-- For the part of a lock, only the calls with a conflicting lock count.
part_filtered : (lock : Lock) (calls : List Call) (tables : List Table) → AreOrderly tables
    → part lock (view calls tables) ≡ part lock (view (conflicting lock calls) tables)
part_filtered lock [] tables a = refl
part_filtered lock (call ∷ calls) tables a =
    let kept : List Call = conflicting lock calls in
    elim (cases_Bool (conflict lock (lock_of call))) [
      | inl h ↦ part_filtered lock calls (after call tables) (orderly_after call tables a)
          ∙ ap (λ b. part lock (view (cond b (call ∷ kept) kept) tables)) (sym h)
      | inr h ↦ part_same_after lock calls (after call tables) tables (orderly_after call tables a) a
          (part_spared lock call tables a.ordered h)
          ∙ part_filtered lock calls tables a ∙ ap (λ b. part lock (view (cond b (call ∷ kept) kept) tables)) (sym h)
    ]

pub own_calls : (call : Call) (calls : List Call) (tables : List Table) → AreOrderly tables
    → reply call (view calls tables) ≡ reply call (view (conflicting (lock_of call) calls) tables)
own_calls call calls tables a =
    sym (reply-part call (view calls tables)) ∙ ap (got call) (part_filtered (lock_of call) calls tables a)
    ∙ reply-part call (view (conflicting (lock_of call) calls) tables)
