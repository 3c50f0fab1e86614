-- What the pending transactions of the code stand for, and what its calls answer.
use Rattle.std.specs.Prelude.{◌≡◌, ℕ, List, [], ◌∷◌, map, length, Option, None, Some, Result, Ok, Err}
use Rattle.term_core.specs.View.{tree_of}
use Rattle.term_core.specs.declared.term.Term.{Term}
use Rattle.db_model.specs.Database.{Table}
use Rattle.db_model.specs.View.{operation}
use Rattle.txn_core.specs.Calls.{found, ops_of}
use Rattle.txn_core.specs.Locks.{Lock}
use Rattle.txn_core.specs.Pending.{Txn, calls_of, holds}
use Rattle.txn_core.specs.Entries.{holds_lock}
use Rattle.txn_core.specs.Machine.{Order, Answer, replied, refused, happens}
use Rattle.txn_core.specs.Refusals.{Refusal, no_txn, txn_exists, too_many, no_table, bad_record, too_many_calls, locked}
use Rattle.txn_core.specs.declared.error.TxnErr.{TxnErr}
use Rattle.txn_core.specs.declared.error.TxnErr.TheVariants.{NoTxn, TxnExists, TooMany, NoTable, BadRecord, TooManyCalls, Locked, Memory}
use Rattle.txn_core.specs.declared.pending.Pending.{Pending}
use Rattle.txn_core.specs.declared.txns.Txns.{Txns}

-- ---- the transactions

-- its ops and locks for reading tell every conflict with a lock of the calls, it counts them, and has what they write
pub record ShowsCalls (own : Pending) (txn : Txn) : Type 0 where
  pub locks : (lock : Lock) → holds_lock own lock ≡ holds lock txn
  pub calls : own.calls ≡ length txn.kept
  pub writes : map operation own.writes ≡ ops_of (calls_of txn.kept)

pub record ShowsTxn (entry : List ℕ × Pending) (txn : Txn) : Type 0 where
  pub name : entry.0 ≡ txn.name
  pub kept : ShowsCalls entry.1 txn

-- one after another, in the order of their beginning
abbrev pub AreShown : List (List ℕ × Pending) → List Txn → Type 0
AreShown [] [] = Unit {0}
AreShown [] (txn ∷ pending) = ⊥
AreShown (entry ∷ entries) [] = ⊥
AreShown (entry ∷ entries) (txn ∷ pending) = ShowsTxn entry txn × AreShown entries pending

abbrev pub Shows : Txns → List Txn → Type 0
Shows txns pending = AreShown txns.pending.entries pending

-- ---- answers

-- the refusal that the error is, and none where memory ran out
abbrev pub refusal_of : TxnErr → Option Refusal
refusal_of NoTxn = Some no_txn
refusal_of TxnExists = Some txn_exists
refusal_of TooMany = Some too_many
refusal_of NoTable = Some no_table
refusal_of BadRecord = Some bad_record
refusal_of TooManyCalls = Some too_many_calls
refusal_of (Locked by) = Some (locked by)
refusal_of Memory = None

abbrev pub told_refusal : Option Refusal → Option Answer
told_refusal None = None
told_refusal (Some why) = Some (refused why)

abbrev pub IsRefusedBy : Option Refusal → Option Refusal → Type 0
IsRefusedBy None why = Unit {0}
IsRefusedBy (Some own) why = why ≡ Some own

-- the result tells the refusal, where memory did not run out
abbrev pub IsRefusal : Result Unit TxnErr → Option Refusal → Type 0
IsRefusal (Ok unit) why = why ≡ None
IsRefusal (Err error) why = IsRefusedBy (refusal_of error) why

-- this answer, where nothing bars it
abbrev pub told_unit : Answer → Result Unit TxnErr → Option Answer
told_unit answer (Ok unit) = Some answer
told_unit answer (Err error) = told_refusal (refusal_of error)

-- the terms that were found, where nothing bars it
abbrev pub told_rows : Result (List Term) TxnErr → Option Answer
told_rows (Ok rows) = Some (replied (found (map tree_of rows)))
told_rows (Err error) = told_refusal (refusal_of error)

-- The machine answers so, and the new ones stand for what is pending then. Where there is no answer, which is want of
-- memory, they stand for what the old ones stood for.
abbrev pub Answers : Order → List Table → Txns → Txns → Option Answer → Type 0
Answers order tables old new None = (pending : List Txn) → Shows old pending → Shows new pending
Answers order tables old new (Some answer) = (pending : List Txn) → Shows old pending
    → (later : List Txn) × (happens order record { tables = tables; pending = pending }
    ≡ record { answer = answer; state = record { tables = tables; pending = later } }) × Shows new later
