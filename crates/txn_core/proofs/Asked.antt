-- What a call of a transaction answers, case by case.
use Rattle.std.proofs.Common.{◌≡◌, ℕ, Bool, true, false, cond, List, length, Option, None, Some, refl, sym, ap, ap₂, ◌∙◌}
use Rattle.std.specs.Prelude.{nat_le}
use Rattle.db_model.specs.Database.{Table}
use Rattle.db_model.specs.Lawful.{table_in}
use Rattle.txn_core.specs.Calls.{Call, Reply, table_called, reply, view}
use Rattle.txn_core.specs.Locks.{lock_of}
use Rattle.txn_core.specs.Machine.{State, Outcome, ask, replied, refused, unless_refused, asked, happens}
use Rattle.txn_core.specs.Pending.{Txn, calls_of, named, others, keeping, holder}
use Rattle.txn_core.specs.Refusals.{Refusal, no_txn, no_table, bad_record, too_many_calls, may_call, lock_refusal, table_refusal, txn_refusal, call_refusal}
use Rattle.txn_core.specs.Requests.{fit_refusal}
use Rattle.txn_core.specs.Shown.{Shows, Answers, IsRefusedBy, told_refusal}
use Rattle.txn_core.specs.declared.txns.Txns.{Txns}

-- ---- the refusal of a call, from those of its parts

module _ (name : List ℕ) (call : Call) (tables : List Table) (pending : List Txn) where
  abbrev found : Option Table
  found = table_in (table_called call) tables

  pub refusal_absent : named name pending ≡ None → call_refusal name call tables pending ≡ Some no_txn
  refusal_absent is = ap (λ t. txn_refusal t call tables (others name pending)) is

  refusal_of_txn : (txn : Txn) → named name pending ≡ Some txn
      → call_refusal name call tables pending ≡ table_refusal txn call found (others name pending)
  refusal_of_txn txn is = ap (λ t. txn_refusal t call tables (others name pending)) is

  -- the refusal behind those for its table, where the transaction has as many calls as it may or not
  abbrev behind : Bool → Option Refusal
  behind many = cond many (Some too_many_calls) (lock_refusal (holder (lock_of call) (others name pending)))

  abbrev has_many : Txn → Bool
  has_many txn = nat_le 100000 (length txn.kept)

  -- what is refused for its table
  unfit_table : (txn : Txn) (table : Option Table) (own : Refusal) → fit_refusal call table ≡ Some own
      → table_refusal txn call table (others name pending) ≡ Some own
  unfit_table txn None own h = h
  unfit_table txn (Some table) own h = by (may_call table.definition call) h
    where
      by : (b : Bool) → cond b None (Some bad_record) ≡ Some own → cond b (behind (has_many txn)) (Some bad_record) ≡ Some own
      by true k = absurd (cc)
      by false k = k

  pub refusal_unfit : (txn : Txn) (own : Option Refusal) → named name pending ≡ Some txn
      → IsRefusedBy own (fit_refusal call found) → IsRefusedBy own (call_refusal name call tables pending)
  refusal_unfit txn None is h = tt
  refusal_unfit txn (Some own) is h = refusal_of_txn txn is ∙ unfit_table txn found own h

  -- what is not refused for its table
  fit_table : (txn : Txn) (table : Option Table) → fit_refusal call table ≡ None
      → table_refusal txn call table (others name pending) ≡ behind (has_many txn)
  fit_table txn None h = absurd (cc)
  fit_table txn (Some table) h = by (may_call table.definition call) h
    where
      by : (b : Bool) → ◌≡◌ {A = Option Refusal} (cond b None (Some bad_record)) None
          → cond b (behind (has_many txn)) (Some bad_record) ≡ behind (has_many txn)
      by true k = refl
      by false k = absurd (cc)

  refusal_behind : (txn : Txn) (many : Bool) → named name pending ≡ Some txn → fit_refusal call found ≡ None
      → has_many txn ≡ many → call_refusal name call tables pending ≡ behind many
  refusal_behind txn many is fit h = refusal_of_txn txn is ∙ fit_table txn found fit ∙ ap behind h

  pub refusal_many : (txn : Txn) → named name pending ≡ Some txn → fit_refusal call found ≡ None
      → nat_le 100000 (length txn.kept) ≡ true → call_refusal name call tables pending ≡ Some too_many_calls
  refusal_many txn is fit many = refusal_behind txn true is fit many

  pub refusal_locks : (txn : Txn) → named name pending ≡ Some txn → fit_refusal call found ≡ None
      → nat_le 100000 (length txn.kept) ≡ false
      → call_refusal name call tables pending ≡ lock_refusal (holder (lock_of call) (others name pending))
  refusal_locks txn is fit few = refusal_behind txn false is fit few

  -- ---- what follows where nothing refuses the call

  one_named : (t : Option Txn) → txn_refusal t call tables (others name pending) ≡ None → (txn : Txn) × (t ≡ Some txn)
  one_named None h = absurd (cc)
  one_named (Some txn) h = (txn, refl)

  pub txn_there : call_refusal name call tables pending ≡ None → (txn : Txn) × (named name pending ≡ Some txn)
  txn_there h = one_named (named name pending) h

  one_table : (t : Option Txn) (table : Option Table) → table_in (table_called call) tables ≡ table
      → txn_refusal t call tables (others name pending) ≡ None → (own : Table) × (table ≡ Some own)
  one_table None table same h = absurd (cc)
  one_table (Some txn) None same h =
      let wrong : ◌≡◌ {A = Option Refusal} (Some no_table) None =
      sym (ap (λ o. table_refusal txn call o (others name pending)) same) ∙ h in
      absurd (cc)
  one_table (Some txn) (Some own) same h = (own, refl)

  pub table_there : call_refusal name call tables pending ≡ None → (own : Table) × (found ≡ Some own)
  table_there h = one_table (named name pending) found refl h

  -- ---- answers

  abbrev now : State
  now = record { tables = tables; pending = pending }

  pub ask_refused : (why : Refusal) → call_refusal name call tables pending ≡ Some why
      → happens (ask name call) now ≡ record { answer = refused why; state = now }
  ask_refused why h = ap (λ o. unless_refused o now (asked (named name pending) name call now)) h

  pub ask_done : (txn : Txn) (got : Reply) → call_refusal name call tables pending ≡ None → named name pending ≡ Some txn
      → reply call (view (calls_of txn.kept) tables) ≡ got → happens (ask name call) now ≡ record {
        answer = replied got;
        state = record { tables = tables; pending = keeping name record { call = call; reply = got } pending };
      }
  ask_done txn got h is same =
      ap₂ (λ o t. unless_refused o now (asked t name call now)) h is
      ∙ ap (λ r. answered r) same
    where
      answered : Reply → Outcome
      answered r = record {
        answer = replied r;
        state = record { tables = tables; pending = keeping name record { call = call; reply = r } pending };
      }

-- a refusal changes nothing
pub refusal_answers : (name : List ℕ) (call : Call) (tables : List Table) (txns : Txns) (own : Option Refusal)
    → ((pending : List Txn) → Shows txns pending → IsRefusedBy own (call_refusal name call tables pending))
    → Answers (ask name call) tables txns txns (told_refusal own)
refusal_answers name call tables txns None h = λ pending shown. shown
refusal_answers name call tables txns (Some why) h =
    λ pending shown. (pending, ask_refused name call tables pending why (h pending shown), shown)
