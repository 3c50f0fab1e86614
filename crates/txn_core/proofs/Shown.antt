-- What becomes of what the code stands for.
use Rattle.std.proofs.Common.{◌≡◌, ℕ, suc, ◌+◌, Bool, true, false, not, ◌&&◌, ◌||◌, cond, List, [], ◌∷◌, ◌++◌, map, length, Option, None, Some, refl, sym, ap, ap₂, ◌∙◌, subst, inl, inr, add-one}
use Rattle.std.specs.List.{list_any, AllByRecursion, IsDistinct}
use Rattle.std.specs.Option.{option_to_list}
use Rattle.std.specs.Map.{lookup, set_value, remove_entry, keys_of}
use Rattle.std.proofs.lemmas.Bool.{cases_Bool}
use Rattle.std.proofs.lemmas.Map.Keys.{IsDistinct-head, IsDistinct-tail}
use Rattle.db_model.specs.Database.{same_name}
use Rattle.db_model.specs.Ops.{Operation}
use Rattle.db_model.specs.View.{operation}
use Rattle.txn_core.specs.Calls.{Call, change, read, match_object, all_keys, ops_of}
use Rattle.txn_core.specs.Locks.{Lock, lock_of, conflict}
use Rattle.txn_core.specs.Pending.{Kept, Txn, calls_of, is_named, named, others, holds, holder, begun, keeping}
use Rattle.txn_core.specs.Requests.{change_of}
use Rattle.txn_core.specs.Entries.{holds_lock, IsFresh, Keeps, IsAlike, first_holder}
use Rattle.txn_core.specs.Shown.{ShowsCalls, ShowsTxn, AreShown}
use Rattle.txn_core.specs.declared.pending.Pending.{Pending}
use Rattle.txn_core.proofs.NameFacts.{one_name}

-- ---- the first holder

pub holder_shown : (lock : Lock) (entries : List (List ℕ × Pending)) (pending : List Txn) → AreShown entries pending
    → first_holder None lock entries ≡ holder lock pending
holder_shown lock [] [] h = refl
holder_shown lock [] (txn ∷ pending) h = absurd h
holder_shown lock (entry ∷ entries) [] h = absurd h
holder_shown lock (entry ∷ entries) (txn ∷ pending) h =
    ap₂ (λ n r. cond (holds_lock entry.1 lock) (Some n) r) h.0.name (holder_shown lock entries pending h.1)
    ∙ ap (λ b. cond b (Some txn.name) (holder lock pending)) (h.0.kept.locks lock)

pub other_holder_shown : (name : List ℕ) (lock : Lock) (entries : List (List ℕ × Pending)) (pending : List Txn)
    → AreShown entries pending → first_holder (Some name) lock entries ≡ holder lock (others name pending)
other_holder_shown name lock [] [] h = refl
other_holder_shown name lock [] (txn ∷ pending) h = absurd h
other_holder_shown name lock (entry ∷ entries) [] h = absurd h
other_holder_shown name lock (entry ∷ entries) (txn ∷ pending) h =
    ap (λ n. cond (not (same_name name n) && holds_lock entry.1 lock) (Some n) (first_holder (Some name) lock entries)) h.0.name
    ∙ ap₂ (λ b r. cond (not (is_named name txn) && b) (Some txn.name) r) (h.0.kept.locks lock)
    (other_holder_shown name lock entries pending h.1)
    ∙ dropped (is_named name txn)
  where
    dropped : (b : Bool) → cond (not b && holds lock txn) (Some txn.name) (holder lock (others name pending))
        ≡ holder lock (cond (not b) (txn ∷ others name pending) (others name pending))
    dropped true = refl
    dropped false = refl

-- ---- a name

-- what is found in code stands for what is found
abbrev pub IsFound : Option Pending → Option Txn → Type 0
IsFound None None = Unit {0}
IsFound None (Some txn) = ⊥
IsFound (Some own) None = ⊥
IsFound (Some own) (Some txn) = ShowsCalls own txn

-- it is found
pub when_there : (found : Option Pending) (own : Pending) (txn : Option Txn) → Some own ≡ found → IsFound found txn
    → (one : Txn) × (txn ≡ Some one) × ShowsCalls own one
when_there None own txn is h = absurd (cc)
when_there (Some other) own None is h = absurd h
when_there (Some other) own (Some one) is h =
    (one, refl, (let same : other ≡ own = cc in subst (λ o. ShowsCalls o one) same h))

pub when_absent : (found : Option Pending) (txn : Option Txn) → None ≡ found → IsFound found txn → txn ≡ None
when_absent None None is h = refl
when_absent None (Some one) is h = absurd h
when_absent (Some own) txn is h = absurd (cc)

pub found_shown : (name : List ℕ) (entries : List (List ℕ × Pending)) (pending : List Txn) → AreShown entries pending
    → IsFound (lookup (same_name name) entries) (named name pending)
found_shown name [] [] h = tt
found_shown name [] (txn ∷ pending) h = absurd h
found_shown name (entry ∷ entries) [] h = absurd h
found_shown name (entry ∷ entries) (txn ∷ pending) h =
    subst (λ n. IsFound (cond (same_name name n) (Some entry.1) (lookup (same_name name) entries)) (named name (txn ∷ pending)))
    (sym h.0.name) (either (is_named name txn) (found_shown name entries pending h.1))
  where
    either : (b : Bool) → IsFound (lookup (same_name name) entries) (named name pending)
        → IsFound (cond b (Some entry.1) (lookup (same_name name) entries)) (cond b (Some txn) (named name pending))
    either true r = h.0.kept
    either false r = r

pub as_many : (entries : List (List ℕ × Pending)) (pending : List Txn) → AreShown entries pending
    → length entries ≡ length pending
as_many [] [] h = refl
as_many [] (txn ∷ pending) h = absurd h
as_many (entry ∷ entries) [] h = absurd h
as_many (entry ∷ entries) (txn ∷ pending) h = ap suc (as_many entries pending h.1)

-- ---- begin

pub begun_shown : (name : List ℕ) (fresh : Pending) (entries : List (List ℕ × Pending)) (pending : List Txn) → IsFresh fresh
    → AreShown entries pending → AreShown (entries ++ (name, fresh) ∷ []) (begun name pending)
begun_shown name fresh [] [] f h = (
  record {
    name = refl;
    kept = record { locks = f.locks; calls = f.calls; writes = ap (λ ops. map operation ops) f.writes };
  },
  tt,
)
begun_shown name fresh [] (txn ∷ pending) f h = absurd h
begun_shown name fresh (entry ∷ entries) [] f h = absurd h
begun_shown name fresh (entry ∷ entries) (txn ∷ pending) f h = (h.0, begun_shown name fresh entries pending f h.1)

-- ---- a call more

any_more : (lock : Lock) (one : Kept) (kept : List Kept)
    → list_any (λ call. conflict lock (lock_of call)) (calls_of (kept ++ one ∷ []))
    ≡ (list_any (λ call. conflict lock (lock_of call)) (calls_of kept) || conflict lock (lock_of one.call))
any_more lock one [] = or_end (conflict lock (lock_of one.call))
  where
    or_end : (b : Bool) → (b || false) ≡ b
    or_end true = refl
    or_end false = refl
any_more lock one (first ∷ kept) =
    ap (λ b. conflict lock (lock_of first.call) || b) (any_more lock one kept)
    ∙ or_three (conflict lock (lock_of first.call)) (list_any (λ call. conflict lock (lock_of call)) (calls_of kept))
    (conflict lock (lock_of one.call))
  where
    or_three : (a b c : Bool) → (a || (b || c)) ≡ ((a || b) || c)
    or_three true b c = refl
    or_three false b c = refl

length_more : (one : Kept) (kept : List Kept) → length (kept ++ one ∷ []) ≡ length kept + 1
length_more one [] = refl
length_more one (first ∷ kept) = rw add-one (ap (λ n. suc n) (length_more one kept ∙ add-one (length kept)))

alone_ops : (call : Call) → ops_of (call ∷ []) ≡ option_to_list (change_of call)
alone_ops (change op) = refl
alone_ops (read table key) = refl
alone_ops (match_object table pattern) = refl
alone_ops (all_keys table) = refl

ops_behind : (call : Call) (calls more : List Call) (ops : List Operation) → ops_of more ≡ ops_of calls ++ ops
    → ops_of (call ∷ more) ≡ ops_of (call ∷ calls) ++ ops
ops_behind (change op) calls more ops h = ap (λ all. op ∷ all) h
ops_behind (read table key) calls more ops h = h
ops_behind (match_object table pattern) calls more ops h = h
ops_behind (all_keys table) calls more ops h = h

ops_more : (one : Kept) (kept : List Kept)
    → ops_of (calls_of (kept ++ one ∷ [])) ≡ ops_of (calls_of kept) ++ option_to_list (change_of one.call)
ops_more one [] = alone_ops one.call
ops_more one (first ∷ kept) =
    ops_behind first.call (calls_of kept) (calls_of (kept ++ one ∷ [])) (option_to_list (change_of one.call)) (ops_more one kept)

shows_more : (was now : Pending) (one : Kept) (txn : Txn) → Keeps was now one.call → ShowsCalls was txn
    → ShowsCalls now (record txn { kept = txn.kept ++ one ∷ [] })
shows_more was now one txn keeps h = record {
  locks = λ asked. keeps.locks asked ∙ ap (λ b. b || conflict asked (lock_of one.call)) (h.locks asked)
      ∙ sym (any_more asked one txn.kept);
  calls = keeps.calls ∙ ap (λ n. n + 1) h.calls ∙ sym (length_more one txn.kept);
  writes = keeps.writes ∙ ap (λ ops. ops ++ option_to_list (change_of one.call)) h.writes ∙ sym (ops_more one txn.kept);
}

-- where none has the name, nothing is kept
none_kept : (name : List ℕ) (one : Kept) (own : List ℕ) (entries : List (List ℕ × Pending)) (pending : List Txn)
    → name ≡ own → AllByRecursion (λ other. same_name own other ≡ false) (keys_of entries) → AreShown entries pending
    → keeping name one pending ≡ pending
none_kept name one own [] [] same apart h = refl
none_kept name one own [] (txn ∷ pending) same apart h = absurd h
none_kept name one own (entry ∷ entries) [] same apart h = absurd h
none_kept name one own (entry ∷ entries) (txn ∷ pending) same apart h =
    let off : is_named name txn ≡ false = ap₂ same_name same (sym h.0.name) ∙ apart.0 in
    ap₂ (λ t ts. t ∷ ts) (ap (λ b. cond b (record txn { kept = txn.kept ++ one ∷ [] }) txn) off)
    (none_kept name one own entries pending same apart.1 h.1)

-- an entry, and the others
abbrev split_at : (name : List ℕ) (now : Pending) (entry : List ℕ × Pending) (entries : List (List ℕ × Pending))
    → Bool → List (List ℕ × Pending)
split_at name now entry entries b = cond b ((entry.0, now) ∷ entries) (entry ∷ set_value (same_name name) entries now)

pub kept_shown : (name : List ℕ) (was now : Pending) (one : Kept) (entries : List (List ℕ × Pending)) (pending : List Txn)
    → IsDistinct same_name (keys_of entries) → Some was ≡ lookup (same_name name) entries → Keeps was now one.call
    → AreShown entries pending → AreShown (set_value (same_name name) entries now) (keeping name one pending)
kept_shown name was now one [] [] distinct there keeps h = absurd (cc)
kept_shown name was now one [] (txn ∷ pending) distinct there keeps h = absurd h
kept_shown name was now one (entry ∷ entries) [] distinct there keeps h = absurd h
kept_shown name was now one (entry ∷ entries) (txn ∷ pending) distinct there keeps h =
    let found = λ (b : Bool) (k : same_name name entry.0 ≡ b).
    there ∙ ap (λ t. cond t (Some entry.1) (lookup (same_name name) entries)) k in
    let more = record txn { kept = txn.kept ++ one ∷ [] } in
    elim (cases_Bool (same_name name entry.0)) [
      | inl k ↦ (
          let its : Some was ≡ Some entry.1 = found true k in
          let same : was ≡ entry.1 = cc in
          let k2 : is_named name txn ≡ true = ap (same_name name) (sym h.0.name) ∙ k in
          let calls : ShowsCalls now more =
          shows_more entry.1 now one txn (subst (λ w. Keeps w now one.call) same keeps) h.0.kept in
          let first : ShowsTxn (entry.0, now) more = record { name = h.0.name; kept = calls } in
          let apart = IsDistinct-head same_name entry.0 (keys_of entries) distinct in
          let still = none_kept name one entry.0 entries pending (one_name name entry.0 k) apart h.1 in
          let rest : AreShown entries (keeping name one pending) = subst (AreShown entries) (sym still) h.1 in
          subst (λ b. AreShown (split_at name now entry entries b) (keeping name one (txn ∷ pending))) (sym k)
          (subst (λ b. AreShown ((entry.0, now) ∷ entries) (cond b more txn ∷ keeping name one pending)) (sym k2) (first, rest)))
      | inr k ↦ (
          let k2 : is_named name txn ≡ false = ap (same_name name) (sym h.0.name) ∙ k in
          let distinct2 = IsDistinct-tail same_name entry.0 (keys_of entries) distinct in
          let rest : AreShown (set_value (same_name name) entries now) (keeping name one pending) =
          kept_shown name was now one entries pending distinct2 (found false k) keeps h.1 in
          subst (λ b. AreShown (split_at name now entry entries b) (keeping name one (txn ∷ pending))) (sym k)
          (subst (λ b. AreShown (entry ∷ set_value (same_name name) entries now) (cond b more txn ∷ keeping name one pending))
          (sym k2) (h.0, rest)))
    ]

-- ---- nothing changes in what it holds

pub alike_shown : (name : List ℕ) (was now : Pending) (entries : List (List ℕ × Pending)) (pending : List Txn)
    → Some was ≡ lookup (same_name name) entries → IsAlike was now → AreShown entries pending
    → AreShown (set_value (same_name name) entries now) pending
alike_shown name was now [] [] there alike h = absurd (cc)
alike_shown name was now [] (txn ∷ pending) there alike h = absurd h
alike_shown name was now (entry ∷ entries) [] there alike h = absurd h
alike_shown name was now (entry ∷ entries) (txn ∷ pending) there alike h =
    let found = λ (b : Bool) (k : same_name name entry.0 ≡ b).
    there ∙ ap (λ t. cond t (Some entry.1) (lookup (same_name name) entries)) k in
    elim (cases_Bool (same_name name entry.0)) [
      | inl k ↦ (
          let its : Some was ≡ Some entry.1 = found true k in
          let same : was ≡ entry.1 = cc in
          let calls : ShowsCalls now txn = record {
            locks = λ asked. alike.locks asked ∙ ap (λ w. holds_lock w asked) same ∙ h.0.kept.locks asked;
            calls = alike.calls ∙ ap (λ w. w.calls) same ∙ h.0.kept.calls;
            writes = ap (λ ops. map operation ops) (alike.writes ∙ ap (λ w. w.writes) same) ∙ h.0.kept.writes;
          } in
          let first : ShowsTxn (entry.0, now) txn = record { name = h.0.name; kept = calls } in
          subst (λ b. AreShown (split_at name now entry entries b) (txn ∷ pending)) (sym k) (first, h.1))
      | inr k ↦ (
          let rest = alike_shown name was now entries pending (found false k) alike h.1 in
          subst (λ b. AreShown (split_at name now entry entries b) (txn ∷ pending)) (sym k) (h.0, rest))
    ]

-- ---- abort

none_gone : (name own : List ℕ) (entries : List (List ℕ × Pending)) (pending : List Txn) → name ≡ own
    → AllByRecursion (λ other. same_name own other ≡ false) (keys_of entries) → AreShown entries pending
    → others name pending ≡ pending
none_gone name own [] [] same apart h = refl
none_gone name own [] (txn ∷ pending) same apart h = absurd h
none_gone name own (entry ∷ entries) [] same apart h = absurd h
none_gone name own (entry ∷ entries) (txn ∷ pending) same apart h =
    let off : is_named name txn ≡ false = ap₂ same_name same (sym h.0.name) ∙ apart.0 in
    ap (λ b. cond (not b) (txn ∷ others name pending) (others name pending)) off
    ∙ ap (λ ts. txn ∷ ts) (none_gone name own entries pending same apart.1 h.1)

pub others_shown : (name : List ℕ) (entries : List (List ℕ × Pending)) (pending : List Txn)
    → IsDistinct same_name (keys_of entries) → AreShown entries pending
    → AreShown (remove_entry (same_name name) entries) (others name pending)
others_shown name [] [] distinct h = tt
others_shown name [] (txn ∷ pending) distinct h = absurd h
others_shown name (entry ∷ entries) [] distinct h = absurd h
others_shown name (entry ∷ entries) (txn ∷ pending) distinct h =
    let gone = remove_entry (same_name name) entries in
    elim (cases_Bool (same_name name entry.0)) [
      | inl k ↦ (
          let k2 : is_named name txn ≡ true = ap (same_name name) (sym h.0.name) ∙ k in
          let apart = IsDistinct-head same_name entry.0 (keys_of entries) distinct in
          let still = none_gone name entry.0 entries pending (one_name name entry.0 k) apart h.1 in
          let rest : AreShown entries (others name pending) = subst (AreShown entries) (sym still) h.1 in
          subst (λ b. AreShown (cond b entries (entry ∷ gone)) (others name (txn ∷ pending))) (sym k)
          (subst (λ b. AreShown entries (cond (not b) (txn ∷ others name pending) (others name pending))) (sym k2) rest))
      | inr k ↦ (
          let k2 : is_named name txn ≡ false = ap (same_name name) (sym h.0.name) ∙ k in
          let distinct2 = IsDistinct-tail same_name entry.0 (keys_of entries) distinct in
          let rest : AreShown gone (others name pending) = others_shown name entries pending distinct2 h.1 in
          subst (λ b. AreShown (cond b entries (entry ∷ gone)) (others name (txn ∷ pending))) (sym k)
          (subst (λ b. AreShown (entry ∷ gone) (cond (not b) (txn ∷ others name pending) (others name pending))) (sym k2)
          (h.0, rest)))
    ]
