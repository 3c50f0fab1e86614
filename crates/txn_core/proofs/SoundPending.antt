-- What stays where the pending transactions change.
use Rattle.std.proofs.Common.{◌≡◌, ℕ, suc, ◌<◌, ◌≤◌, Bool, true, false, not, cond, List, [], ◌∷◌, ◌++◌, length, filter, map, None, Some}
use Rattle.std.proofs.Common.{refl, sym, ap, ◌∙◌, subst, inl, inr, arith}
use Rattle.std.specs.List.{AllByRecursion}
use Rattle.std.proofs.lemmas.Bool.{cases_Bool, both_ways}
use Rattle.db_model.specs.Database.{Table, same_name}
use Rattle.txn_core.specs.Calls.{Call, reply, after, view, alone}
use Rattle.txn_core.specs.Locks.{lock_of}
use Rattle.txn_core.specs.Machine.{State}
use Rattle.txn_core.specs.Pending.{Kept, Txn, calls_of, replies_of, is_named, named, others, holds, holder, begun, kept_by, keeping, kept_call}
use Rattle.txn_core.specs.Sound.{Pairs, IsFree, AreApart, MayCall, MayCallAll, GotAlone, HasFew, Sound}
use Rattle.txn_core.proofs.Each.{each, each_both, each_then, each_map, each_push, each_filter, each_found, each_unfound, pairs_filter, pairs_push, pairs_map, some_is}
use Rattle.txn_core.proofs.LockFacts.{apart_sym, holder_none, IsUnheld, unheld_others}
use Rattle.txn_core.proofs.NameFacts.{one_name, same_name_is, same_name_sym}
use Rattle.txn_core.proofs.NotRefused.{MayBegin}

-- ---- lengths

pub length_more : {X : Type 0} (xs : List X) (x : X) → length (xs ++ x ∷ []) ≡ suc (length xs)
length_more [] x = refl
length_more (first ∷ xs) x = ap suc (length_more xs x)

length_map : {X Y : Type 0} (f : X → Y) (xs : List X) → length (map f xs) ≡ length xs
length_map f [] = refl
length_map f (x ∷ xs) = ap suc (length_map f xs)

length_filter : {X : Type 0} (test : X → Bool) (xs : List X) → length (filter test xs) ≤ length xs
length_filter test [] = omega arith
length_filter test (x ∷ xs) =
    let ih = length_filter test xs in
    elim (test x) as (λ b. length (cond b (x ∷ filter test xs) (filter test xs)) ≤ suc (length xs)) [
      | true ↦ omega (arith, ih)
      | false ↦ omega (arith, ih)
    ]

-- ---- transactions by their names

two_names : (name : List ℕ) (one other : Txn) → is_named name one ≡ true → is_named name other ≡ true
    → same_name one.name other.name ≡ false → ⊥
two_names name one other h k differ =
    both_ways (same_name one.name other.name) differ
    ((same_name_is one.name other.name).1 (sym (one_name name one.name h) ∙ one_name name other.name k))

-- the one of that name is this one
only_named : (name : List ℕ) (txn : Txn) (pending : List Txn) → Pairs AreApart pending → named name pending ≡ Some txn
    → AllByRecursion (λ one. is_named name one ≡ true → one ≡ txn) pending
only_named name txn [] apart h = tt
only_named name txn (one ∷ pending) apart h =
    elim (cases_Bool (is_named name one)) [
      | inl k ↦ (
          let same : one ≡ txn = some_is one txn (ap (λ b. cond b (Some one) (named name pending)) (sym k) ∙ h) in (
            λ _. same,
            each_then (AreApart one) (λ other. is_named name other ≡ true → other ≡ txn)
                (λ other away k2. absurd (two_names name one other k k2 away.names)) pending apart.0,
          ))
      | inr k ↦ (
        (λ k2. absurd (both_ways (is_named name one) k k2)),
        only_named name txn pending apart.1 (ap (λ b. cond b (Some one) (named name pending)) (sym k) ∙ h),
      )
    ]

abbrev if_other : List ℕ → Txn → List Txn → Bool → List Txn
if_other name txn pending b = cond (not b) (txn ∷ others name pending) (others name pending)

-- each other one is apart from it
pub others_apart : (name : List ℕ) (txn : Txn) (pending : List Txn) → Pairs AreApart pending
    → named name pending ≡ Some txn
    → AllByRecursion (λ one. AreApart one txn) (others name pending)
others_apart name txn [] apart h = tt
others_apart name txn (one ∷ pending) apart h =
    elim (cases_Bool (is_named name one)) [
      | inl k ↦ (
          let same : one ≡ txn = some_is one txn (ap (λ b. cond b (Some one) (named name pending)) (sym k) ∙ h) in
          let rest : AllByRecursion (λ other. AreApart other txn) (others name pending) =
          each_filter (λ other. AreApart other txn) (λ other. not (is_named name other)) pending
          (each_then (AreApart one) (λ other. AreApart other txn) (λ other away. subst (AreApart other) same (apart_sym one other away))
          pending apart.0) in
          subst (λ b. AllByRecursion (λ other. AreApart other txn) (if_other name one pending b)) (sym k) rest)
      | inr k ↦ (
          let there : named name pending ≡ Some txn = ap (λ b. cond b (Some one) (named name pending)) (sym k) ∙ h in
          let both : AllByRecursion (λ other. AreApart other txn) (one ∷ others name pending) =
          (each_found (AreApart one) (is_named name) pending txn there apart.0, others_apart name txn pending apart.1 there) in
          subst (λ b. AllByRecursion (λ other. AreApart other txn) (if_other name one pending b)) (sym k) both)
    ]

pub sound_others : (name : List ℕ) (old : State) → Sound old
    → Sound record { tables = old.tables; pending = others name old.pending }
sound_others name old h =
    let other : Txn → Bool = λ txn. not (is_named name txn) in
    let fewer = length_filter other old.pending in
    let bound = h.few_pending in
    record {
      orderly = h.orderly;
      apart = pairs_filter AreApart (λ txn. not (is_named name txn)) old.pending h.apart;
      allowed = each_filter (MayCallAll old.tables) (λ txn. not (is_named name txn)) old.pending h.allowed;
      replies = each_filter (GotAlone old.tables) (λ txn. not (is_named name txn)) old.pending h.replies;
      few = each_filter HasFew (λ txn. not (is_named name txn)) old.pending h.few;
      few_pending = omega (arith, fewer, bound);
    }

-- ---- a transaction begins

pub sound_begun : (name : List ℕ) (old : State) → MayBegin name old.pending → Sound old
    → Sound record { tables = old.tables; pending = begun name old.pending }
sound_begun name old may h =
    let more = length_more old.pending record { name = name; kept = [] } in
    let below = may.few in
    record {
      orderly = h.orderly;
      apart = pairs_push AreApart old.pending record { name = name; kept = [] } h.apart
          (each_then (λ txn. is_named name txn ≡ false) (λ txn. AreApart txn record { name = name; kept = [] })
          (λ txn k. record { names = same_name_sym txn.name name ∙ k; locks = each (IsFree []) (λ call. refl) (calls_of txn.kept) })
          old.pending (each_unfound (is_named name) old.pending may.unknown));
      allowed = each_push (MayCallAll old.tables) old.pending record { name = name; kept = [] } h.allowed tt;
      replies = each_push (GotAlone old.tables) old.pending record { name = name; kept = [] } h.replies refl;
      few = each_push HasFew old.pending record { name = name; kept = [] } h.few (omega arith);
      few_pending = omega (arith, more, below);
    }

-- ---- one call more

pub calls_more : (kept : List Kept) (one : Kept) → calls_of (kept ++ one ∷ []) ≡ calls_of kept ++ one.call ∷ []
calls_more [] one = refl
calls_more (first ∷ kept) one = ap (λ calls. first.call ∷ calls) (calls_more kept one)

replies_more : (kept : List Kept) (one : Kept) → replies_of (kept ++ one ∷ []) ≡ replies_of kept ++ one.reply ∷ []
replies_more [] one = refl
replies_more (first ∷ kept) one = ap (λ replies. first.reply ∷ replies) (replies_more kept one)

alone_more : (calls : List Call) (call : Call) (tables : List Table)
    → alone (calls ++ call ∷ []) tables ≡ alone calls tables ++ reply call (view calls tables) ∷ []
alone_more [] call tables = refl
alone_more (first ∷ calls) call tables = ap (λ replies. reply first tables ∷ replies) (alone_more calls call (after first tables))

abbrev pub with_kept : Kept → Txn → Txn
with_kept one txn = record txn { kept = txn.kept ++ one ∷ [] }

replies_with : (tables : List Table) (call : Call) (txn : Txn) → GotAlone tables txn
    → GotAlone tables (with_kept (kept_call call txn tables) txn)
replies_with tables call txn h =
    replies_more txn.kept (kept_call call txn tables) ∙ ap (λ replies. replies ++ reply call (view (calls_of txn.kept) tables) ∷ []) h
    ∙ sym (ap (λ calls. alone calls tables) (calls_more txn.kept (kept_call call txn tables)) ∙ alone_more (calls_of txn.kept) call tables)

apart_with : (one : Kept) (txn other : Txn) → holds (lock_of one.call) other ≡ false → AreApart txn other
    → AreApart (with_kept one txn) other
apart_with one txn other unheld h = record {
  names = h.names;
  locks = subst (AllByRecursion (IsFree (calls_of other.kept))) (sym (calls_more txn.kept one))
      (each_push (IsFree (calls_of other.kept)) (calls_of txn.kept) one.call h.locks unheld);
}

pub kept_by_named : (name : List ℕ) (one : Kept) (txn : Txn) → is_named name txn ≡ true
    → kept_by name one txn ≡ with_kept one txn
kept_by_named name one txn h = ap (λ b. cond b (with_kept one txn) txn) h

pub kept_by_other : (name : List ℕ) (one : Kept) (txn : Txn) → is_named name txn ≡ false → kept_by name one txn ≡ txn
kept_by_other name one txn h = ap (λ b. cond b (with_kept one txn) txn) h

-- what holds of the transaction with the call, where it has that name, and of it as it was, where not
by_name : (P : Txn → Type 0) (name : List ℕ) (one : Kept) (txn : Txn)
    → (is_named name txn ≡ true → P (with_kept one txn))
    → (is_named name txn ≡ false → P txn) → P (kept_by name one txn)
by_name P name one txn p q =
    elim (cases_Bool (is_named name txn)) [
      | inl k ↦ subst P (sym (kept_by_named name one txn k)) (p k)
      | inr k ↦ subst P (sym (kept_by_other name one txn k)) (q k)
    ]

apart_kept : (name : List ℕ) (one : Kept) (txn other : Txn) → IsUnheld name (lock_of one.call) txn
    → IsUnheld name (lock_of one.call) other → AreApart txn other
    → AreApart (kept_by name one txn) (kept_by name one other)
apart_kept name one txn other u v h =
    by_name (λ t. AreApart t (kept_by name one other)) name one txn
    (λ k. by_name (AreApart (with_kept one txn)) name one other
    (λ k2. absurd (two_names name txn other k k2 h.names))
    (λ k2. apart_with one txn other (v k2) h))
    (λ k. by_name (AreApart txn) name one other
    (λ k2. apart_sym (with_kept one other) txn (apart_with one other txn (u k) (apart_sym txn other h)))
    (λ k2. h))

replies_keep : (name : List ℕ) (tables : List Table) (call : Call) (txn one : Txn)
    → (is_named name one ≡ true → one ≡ txn)
    → GotAlone tables one → GotAlone tables (kept_by name (kept_call call txn tables) one)
replies_keep name tables call txn one only h =
    by_name (GotAlone tables) name (kept_call call txn tables) one
    (λ k. subst (λ t. GotAlone tables (with_kept (kept_call call t tables) one)) (only k) (replies_with tables call one h))
    (λ k. h)

few_keep : (name : List ℕ) (kept : Kept) (txn one : Txn) → length txn.kept < 100000
    → (is_named name one ≡ true → one ≡ txn)
    → HasFew one → HasFew (kept_by name kept one)
few_keep name kept txn one below only h =
    by_name HasFew name kept one
    (λ k. let same : length one.kept ≡ length txn.kept = ap (λ t. length t.kept) (only k) in
    let more = length_more one.kept kept in omega (arith, below, same, more))
    (λ k. h)

allowed_keep : (name : List ℕ) (tables : List Table) (one : Kept) (txn : Txn) → MayCall tables one.call
    → MayCallAll tables txn
    → MayCallAll tables (kept_by name one txn)
allowed_keep name tables one txn may h =
    by_name (MayCallAll tables) name one txn
    (λ k. subst (AllByRecursion (MayCall tables)) (sym (calls_more txn.kept one))
    (each_push (MayCall tables) (calls_of txn.kept) one.call h may))
    (λ k. h)

pub sound_keeping : (txn : Txn) (name : List ℕ) (call : Call) (old : State) → named name old.pending ≡ Some txn
    → MayCall old.tables call → length txn.kept < 100000 → holder (lock_of call) (others name old.pending) ≡ None
    → Sound old
    → Sound record { tables = old.tables; pending = keeping name (kept_call call txn old.tables) old.pending }
sound_keeping txn name call old is may below free h =
    let one : Kept = kept_call call txn old.tables in
    let only : AllByRecursion (λ t. is_named name t ≡ true → t ≡ txn) old.pending = only_named name txn old.pending h.apart is in
    let same = length_map (kept_by name one) old.pending in
    let bound = h.few_pending in
    record {
      orderly = h.orderly;
      apart = pairs_map AreApart (IsUnheld name (lock_of call)) (kept_by name one) (apart_kept name one) old.pending
          (unheld_others name (lock_of call) old.pending (holder_none (lock_of call) (others name old.pending) free)) h.apart;
      allowed = each_map (MayCallAll old.tables) (kept_by name one) old.pending
          (each_then (MayCallAll old.tables) (λ t. MayCallAll old.tables (kept_by name one t))
          (λ t. allowed_keep name old.tables one t may) old.pending h.allowed);
      replies = each_map (GotAlone old.tables) (kept_by name one) old.pending
          (each_both (λ t. is_named name t ≡ true → t ≡ txn) (GotAlone old.tables) (λ t. GotAlone old.tables (kept_by name one t))
          (λ t o s. replies_keep name old.tables call txn t o s) old.pending only h.replies);
      few = each_map HasFew (kept_by name one) old.pending
          (each_both (λ t. is_named name t ≡ true → t ≡ txn) HasFew (λ t. HasFew (kept_by name one t))
          (λ t o f. few_keep name one txn t below o f) old.pending only h.few);
      few_pending = omega (arith, same, bound);
    }
