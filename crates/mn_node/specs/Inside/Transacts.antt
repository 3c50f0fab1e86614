-- What a command on pending transactions does, which goes to no disk.
use Rattle.std.specs.Prelude.{◌≡◌, ℕ, IsTrue, false, List, Option, None, unwrap_or, Result, Ok, Err}
use Rattle.term_core.specs.declared.term.Term.{Term}
use Rattle.txn_core.specs.Pending.{Txn}
use Rattle.txn_core.specs.declared.error.TxnErr.{TxnErr}
use Rattle.txn_core.specs.declared.error.TxnErr.TheVariants as txns
use Rattle.mn_node.specs.Effects.{Command, Effect, effect, pending_after}
use Rattle.mn_node.specs.Inside.Tries.{IsPlain, PendsOut, durable, only}
use Rattle.mn_node.specs.Seen.{answer}
use Rattle.mn_node.specs.Shown.{Pends}
use Rattle.mn_node.specs.declared.open.Done.{Done}
use Rattle.mn_node.specs.declared.open.Open.{Open}
use Rattle.mn_node.specs.declared.open.Trouble.{Trouble}
use Rattle.mn_node.specs.declared.open.Trouble.TheVariants.{File, Memory}
use Rattle.mn_node.specs.declared.reply.Reply.{Reply}
use Rattle.mn_node.specs.declared.reply.Reply.TheVariants as replies

-- the effect is this reply and nothing else
pub record IsOnly (e : Effect) (done : Done) : Type 0 where
  pub reply : Reply
  pub is : done ≡ only reply
  pub plain : IsPlain (answer reply)
  pub answer : e.answer ≡ answer reply
  pub entry : e.entry ≡ None
  pub settles : e.settles ≡ false
  pub halts : e.halts ≡ false

abbrev pub ToldOut : Effect → Result Done Trouble → Type 0
ToldOut e (Ok done) = IsOnly e done
ToldOut e (Err Memory) = IsTrue e.takes_memory
ToldOut e (Err (File name doubt)) = ⊥

-- the command was tried, and only the pending transactions changed
pub record Transacts (old new : Open) (c : Command) (result : Result Done Trouble) : Type 0 where
  pub log : new.log ≡ old.log
  pub tables : new.tables ≡ old.tables
  pub out : (pending : List Txn) → Pends old pending → ToldOut (effect (durable old) pending c) result
  pub pends : (pending : List Txn) → Pends old pending
      → PendsOut result new pending (pending_after (durable old) pending c)

-- what is answered where a call of the transaction of this name, on this table and with this item, was refused
abbrev pub IsBarOf : TxnErr → List ℕ → Option (List ℕ) → Term → Result Done Trouble → Type 0
IsBarOf txns.NoTxn name table item result = result ≡ Ok (only (replies.NoTransaction name))
IsBarOf txns.TxnExists name table item result = result ≡ Ok (only (replies.Exists name))
IsBarOf txns.TooMany name table item result = result ≡ Ok (only replies.TooManyTransactions)
IsBarOf txns.NoTable name table item result = result ≡ Ok (only (replies.NoTable (unwrap_or table name)))
IsBarOf txns.BadRecord name table item result = result ≡ Ok (only (replies.BadRecord item))
IsBarOf txns.TooManyCalls name table item result = result ≡ Ok (only replies.TooManyCalls)
IsBarOf (txns.Locked by) name table item result = result ≡ Ok (only (replies.Locked by))
IsBarOf txns.Memory name table item result = result ≡ Err Memory
