-- What holds where a call is not refused.
use Rattle.std.proofs.Common.{◌≡◌, ℕ, ◌<◌, Bool, true, false, if◌then◌else◌, List, length, Option, None, Some, is_some}
use Rattle.std.proofs.Common.{refl, inl, inr}
use Rattle.std.specs.Prelude.{nat_le, IsSomeAnd}
use Rattle.std.proofs.lemmas.Bool.{both_ways}
use Rattle.std.proofs.lemmas.Bool.Decides.{leb_tells}
use Rattle.db_model.specs.Database.{Table}
use Rattle.txn_core.specs.Calls.{Call}
use Rattle.txn_core.specs.Locks.{lock_of, whole_table}
use Rattle.txn_core.specs.Pending.{Txn, named, holder}
use Rattle.txn_core.specs.Refusals.{txn_exists, too_many, bad_record, too_many_calls, may_call, begin_refusal, lock_refusal, table_refusal, single_refusal, drop_refusal}

below : (bound n : ℕ) → nat_le bound n ≡ false → n < bound
below bound n h = elim (leb_tells bound n) [ inl t ↦ absurd (both_ways (nat_le bound n) h t.0) | inr f ↦ f.1 ]

lock_free : (by : Option (List ℕ)) → lock_refusal by ≡ None → by ≡ None
lock_free None h = refl
lock_free (Some name) h = absurd cc

pub not_some : {X : Type 0} (o : Option X) → is_some o ≡ false → o ≡ None
not_some None h = refl
not_some (Some x) h = absurd cc

pub record MayBegin (name : List ℕ) (pending : List Txn) : Type 0 where
  pub unknown : named name pending ≡ None
  pub few : length pending < 64

pub begin_free : (name : List ℕ) (pending : List Txn) → begin_refusal name pending ≡ None → MayBegin name pending
begin_free name pending = by (is_some (named name pending)) (nat_le 64 (length pending)) refl refl
  where
    by : (b c : Bool) → is_some (named name pending) ≡ b → nat_le 64 (length pending) ≡ c
        → (if b then Some txn_exists else (if c then Some too_many else None)) ≡ None → MayBegin name pending
    by true c s t h = absurd cc
    by false true s t h = absurd cc
    by false false s t h = record { unknown = not_some (named name pending) s; few = below 64 (length pending) t }

pub record MayAsk (txn : Txn) (call : Call) (table : Option Table) (others : List Txn) : Type 0 where
  pub allowed : IsSomeAnd table (λ t. may_call t.definition call ≡ true)
  pub few : length txn.kept < 100000
  pub free : holder (lock_of call) others ≡ None

pub ask_free : (txn : Txn) (call : Call) (table : Option Table) (others : List Txn)
    → table_refusal txn call table others ≡ None → MayAsk txn call table others
ask_free txn call None others h = absurd cc
ask_free txn call (Some table) others h = by (may_call table.definition call) (nat_le 100000 (length txn.kept)) refl refl h
  where
    by : (b c : Bool) → may_call table.definition call ≡ b → nat_le 100000 (length txn.kept) ≡ c
        → (if b then (if c then Some too_many_calls else lock_refusal (holder (lock_of call) others))
        else Some bad_record) ≡ None
        → MayAsk txn call (Some table) others
    by true true s t h = absurd cc
    by true false s t h = record {
      allowed = s;
      few = below 100000 (length txn.kept) t;
      free = lock_free (holder (lock_of call) others) h;
    }
    by false c s t h = absurd cc

pub single_free : (call : Call) (table : Option Table) (pending : List Txn) → single_refusal call table pending ≡ None
    → holder (lock_of call) pending ≡ None
single_free call None pending h = absurd cc
single_free call (Some table) pending h = by (may_call table.definition call) h
  where
    by : (b : Bool) → (if b then lock_refusal (holder (lock_of call) pending) else Some bad_record) ≡ None
        → holder (lock_of call) pending ≡ None
    by true h = lock_free (holder (lock_of call) pending) h
    by false h = absurd cc

pub drop_free : (name : List ℕ) (table : Option Table) (pending : List Txn) → drop_refusal name table pending ≡ None
    → holder (whole_table name) pending ≡ None
drop_free name None pending h = absurd cc
drop_free name (Some table) pending h = lock_free (holder (whole_table name) pending) h
