-- Locks conflict both ways, and who holds one.
use Rattle.std.proofs.Common.{◌≡◌, ℕ, Bool, true, false, not, ◌&&◌, ◌||◌, cond, List, [], ◌∷◌, Option, None, Some}
use Rattle.std.proofs.Common.{refl, sym, ap, ap₂, ◌∙◌, subst, inl, inr}
use Rattle.std.specs.List.{AllByRecursion}
use Rattle.std.proofs.lemmas.Bool.{cases_Bool, both_ways}
use Rattle.term_core.specs.Tree.{Tree}
use Rattle.db_model.specs.Database.{same_name}
use Rattle.txn_core.specs.Calls.{Call}
use Rattle.txn_core.specs.Locks.{Lock, lock_of, meet, conflict}
use Rattle.txn_core.specs.Pending.{Txn, calls_of, is_named, others, holds, holder}
use Rattle.txn_core.specs.Sound.{IsFree, AreApart}
use Rattle.txn_core.proofs.Each.{each, each_both, each_fails}
use Rattle.txn_core.proofs.NameFacts.{same_name_sym, same_tree_sym}

or_sym : (a b : Bool) → (a || b) ≡ (b || a)
or_sym true true = refl
or_sym true false = refl
or_sym false true = refl
or_sym false false = refl

meet_sym : (a b : Option Tree) → meet a b ≡ meet b a
meet_sym None None = refl
meet_sym None (Some key) = refl
meet_sym (Some key) None = refl
meet_sym (Some key) (Some other) = same_tree_sym key other

pub conflict_sym : (lock other : Lock) → conflict lock other ≡ conflict other lock
conflict_sym lock other =
    ap₂ (λ a b. a && (b && meet lock.key other.key)) (same_name_sym lock.table other.table) (or_sym lock.writes other.writes)
    ∙ ap (λ m. same_name other.table lock.table && ((other.writes || lock.writes) && m)) (meet_sym lock.key other.key)

free_sym : (calls others : List Call) → AllByRecursion (IsFree others) calls → AllByRecursion (IsFree calls) others
free_sym [] others h = each (IsFree []) (λ other. refl) others
free_sym (call ∷ calls) others h =
    each_both (λ other. conflict (lock_of call) (lock_of other) ≡ false) (IsFree calls) (IsFree (call ∷ calls))
    (λ other one rest. ap₂ (λ a b. a || b) (conflict_sym (lock_of other) (lock_of call) ∙ one) rest)
    others (each_fails (λ other. conflict (lock_of call) (lock_of other)) others h.0) (free_sym calls others h.1)

pub apart_sym : (one other : Txn) → AreApart one other → AreApart other one
apart_sym one other h = record {
  names = same_name_sym other.name one.name ∙ h.names;
  locks = free_sym (calls_of one.kept) (calls_of other.kept) h.locks;
}

-- ---- holders

pub holder_none : (lock : Lock) (pending : List Txn) → holder lock pending ≡ None
    → AllByRecursion (λ txn. holds lock txn ≡ false) pending
holder_none lock [] h = tt
holder_none lock (txn ∷ pending) h =
    elim (cases_Bool (holds lock txn)) [
      | inl k ↦ (let e : Some txn.name ≡ None = ap (λ b. cond b (Some txn.name) (holder lock pending)) (sym k) ∙ h in absurd (cc))
      | inr k ↦ (k, holder_none lock pending (ap (λ b. cond b (Some txn.name) (holder lock pending)) (sym k) ∙ h))
    ]

-- a transaction of another name has no lock that conflicts with this one
abbrev pub IsUnheld : List ℕ → Lock → Txn → Type 0
IsUnheld name lock txn = is_named name txn ≡ false → holds lock txn ≡ false

abbrev if_other : List ℕ → Txn → List Txn → Bool → List Txn
if_other name txn pending b = cond (not b) (txn ∷ others name pending) (others name pending)

pub unheld_others : (name : List ℕ) (lock : Lock) (pending : List Txn)
    → AllByRecursion (λ txn. holds lock txn ≡ false) (others name pending) → AllByRecursion (IsUnheld name lock) pending
unheld_others name lock [] h = tt
unheld_others name lock (txn ∷ pending) h =
    elim (cases_Bool (is_named name txn)) [
      | inl k ↦ (
        (λ k2. absurd (both_ways (is_named name txn) k2 k)),
        unheld_others name lock pending (subst (λ b. AllByRecursion (λ t. holds lock t ≡ false) (if_other name txn pending b)) k h),
      )
      | inr k ↦ (
          let both : AllByRecursion (λ t. holds lock t ≡ false) (txn ∷ others name pending) =
          subst (λ b. AllByRecursion (λ t. holds lock t ≡ false) (if_other name txn pending b)) k h in
          (λ _. both.0, unheld_others name lock pending both.1))
    ]
