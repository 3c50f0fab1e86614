-- A new transaction stands last.
use Rattle.std.proofs.Common.{◌≡◌, ℕ, zero, suc, ◌+◌, drop, slice_get, add-one, Bool, true, false, cond, List, [], ◌∷◌, ◌++◌, Option, None, Some, is_some, refl, sym, ap, ◌∙◌, inl, inr}
use Rattle.std.specs.Map.{lookup}
use Rattle.std.proofs.lemmas.Bool.{cases_Bool}
use Rattle.indexmap.specs.IndexMap.{insert_entry}
use Rattle.db_model.specs.Database.{same_name}
use Rattle.txn_core.specs.Locks.{Lock}
use Rattle.txn_core.specs.Entries.{is_holder, first_holder}
use Rattle.txn_core.specs.declared.pending.Pending.{Pending}

pub stands_last : {X : Type 0} (es : List (List ℕ × X)) (name : List ℕ) (x : X)
    → is_some (lookup (same_name name) es) ≡ false → insert_entry same_name es name x ≡ es ++ (name, x) ∷ []
stands_last [] name x h = refl
stands_last {X} (e ∷ es) name x h =
    let found = λ (b : Bool). is_some {T = X} (cond b (Some e.1) (lookup (same_name name) es)) in
    elim (cases_Bool (same_name name e.0)) [
      | inl k ↦ (let wrong : true ≡ false = sym (ap found k) ∙ h in absurd (cc))
      | inr k ↦ (let ih = stands_last es name x (sym (ap found k) ∙ h) in simp (k, ih))
    ]

-- ---- the first holder, from a place on

drop_at : {X : Type 0} (xs : List X) (i : ℕ) (x : X) → slice_get xs i ≡ Some x → drop i xs ≡ x ∷ drop (suc i) xs
drop_at [] i x h = absurd (cc)
drop_at (y ∷ xs) zero x h = (let same : y ≡ x = cc in ap (λ z. z ∷ xs) same)
drop_at (y ∷ xs) (suc i) x h = drop_at xs i x h

drop_past : {X : Type 0} (xs : List X) (i : ℕ) → slice_get xs i ≡ None → drop (suc i) xs ≡ drop i xs
drop_past [] zero h = refl
drop_past [] (suc i) h = refl
drop_past {X} (y ∷ xs) zero h = absurd (cc)
drop_past (y ∷ xs) (suc i) h = drop_past xs i h

module _ (except : Option (List ℕ)) (lock : Lock) (es : List (List ℕ × Pending)) (i : ℕ) where
  abbrev from : ℕ → Option (List ℕ)
  from at = first_holder except lock (drop at es)

  at_entry : (e : List ℕ × Pending) (b : Bool) → Some e ≡ slice_get es i → is_holder except lock e ≡ b
      → from i ≡ cond b (Some e.0) (from (suc i))
  at_entry e b h k = ap (first_holder except lock) (drop_at es i e (sym h)) ∙ ap (λ t. cond t (Some e.0) (from (suc i))) k

  pub found_at : (e : List ℕ × Pending) → Some e ≡ slice_get es i → is_holder except lock e ≡ true → from i ≡ Some e.0
  found_at e h k = at_entry e true h k

  pub passed_at : (e : List ℕ × Pending) → Some e ≡ slice_get es i → is_holder except lock e ≡ false → from (i + 1) ≡ from i
  passed_at e h k = rw add-one (sym (at_entry e false h k))

  pub past_at : None ≡ slice_get es i → from (i + 1) ≡ from i
  past_at h = rw add-one (ap (first_holder except lock) (drop_past es i (sym h)))
