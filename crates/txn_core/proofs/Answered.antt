-- What the machine answers, case by case.
use Rattle.std.proofs.Common.{◌≡◌, ℕ, Bool, true, false, cond, List, length, Option, None, Some, is_some, refl, ap, ap₂}
use Rattle.std.specs.Prelude.{nat_le}
use Rattle.std.specs.Map.{lookup}
use Rattle.db_model.specs.Database.{Table, same_name}
use Rattle.txn_core.specs.Machine.{State, Outcome, begin, abort, ok, refused, unless_refused, happens}
use Rattle.txn_core.specs.Pending.{Txn, named, begun, others}
use Rattle.txn_core.specs.Refusals.{no_txn, txn_exists, too_many}
use Rattle.txn_core.specs.Shown.{AreShown}
use Rattle.txn_core.specs.declared.pending.Pending.{Pending}
use Rattle.txn_core.proofs.Shown.{IsFound, found_shown}

both_there : (own : Option Pending) (txn : Option Txn) → IsFound own txn → is_some txn ≡ is_some own
both_there None None h = refl
both_there None (Some txn) h = absurd h
both_there (Some own) None h = absurd h
both_there (Some own) (Some txn) h = refl

pub there_shown : (name : List ℕ) (entries : List (List ℕ × Pending)) (pending : List Txn) → AreShown entries pending
    → is_some (named name pending) ≡ is_some (lookup (same_name name) entries)
there_shown name entries pending h = both_there _ _ (found_shown name entries pending h)

module _ (name : List ℕ) (tables : List Table) (pending : List Txn) where
  abbrev old : State
  old = record { tables = tables; pending = pending }

  abbrev begins : Bool → Bool → Outcome
  begins stands full = unless_refused (cond stands (Some txn_exists) (cond full (Some too_many) None)) old
      record { answer = ok; state = record { tables = tables; pending = begun name pending } }

  pub begin_exists : is_some (named name pending) ≡ true
      → happens (begin name) old ≡ record { answer = refused txn_exists; state = old }
  begin_exists h = ap (λ b. begins b (nat_le 64 (length pending))) h

  pub begin_full : is_some (named name pending) ≡ false → nat_le 64 (length pending) ≡ true
      → happens (begin name) old ≡ record { answer = refused too_many; state = old }
  begin_full h k = ap₂ begins h k

  pub begin_done : is_some (named name pending) ≡ false → nat_le 64 (length pending) ≡ false
      → happens (begin name) old ≡ record { answer = ok; state = record { tables = tables; pending = begun name pending } }
  begin_done h k = ap₂ begins h k

  abbrev ends : Bool → Outcome
  ends stands = unless_refused (cond stands None (Some no_txn)) old
      record { answer = ok; state = record { tables = tables; pending = others name pending } }

  pub abort_absent : is_some (named name pending) ≡ false
      → happens (abort name) old ≡ record { answer = refused no_txn; state = old }
  abort_absent h = ap ends h

  pub abort_done : is_some (named name pending) ≡ true
      → happens (abort name) old ≡ record { answer = ok; state = record { tables = tables; pending = others name pending } }
  abort_done h = ap ends h
