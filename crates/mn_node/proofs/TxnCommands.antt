-- A command on pending transactions does what the machine says, by what the code's transactions answered.
use Rattle.std.proofs.Common.{◌≡◌, ℕ, true, false, List, Option, None, Some, Result, Ok, Err, refl, sym, ap, ◌∙◌, subst, inl}
use Rattle.std.specs.Prelude.{unwrap_or}
use Rattle.term_core.specs.View.{tree_of}
use Rattle.term_core.specs.declared.term.Term.{Term}
use Rattle.db_model.specs.Database.{Table}
use Rattle.txn_core.specs.Calls.{Call, table_called}
use Rattle.txn_core.specs.Machine.{Order, IsOrderly, refused, Answer, happens}
use Rattle.txn_core.specs.Pending.{Txn}
use Rattle.txn_core.specs.Refusals.{Refusal}
use Rattle.txn_core.specs.Refusals as why
use Rattle.txn_core.specs.Shown as transactions
use Rattle.txn_core.specs.Shown.{Answers, refusal_of, told_refusal}
use Rattle.txn_core.specs.declared.error.TxnErr.{TxnErr}
use Rattle.txn_core.specs.declared.error.TxnErr.TheVariants as txns
use Rattle.txn_core.specs.declared.txns.Txns.{Txns}
use Rattle.txn_core.proofs.SoundSteps.{sound_step}
use Rattle.mn_node.specs.Durable.{Durable}
use Rattle.mn_node.specs.Effects as effects
use Rattle.mn_node.specs.Effects.{Command, Effect, effect, bars, reply_answer, refusal_answer, item_of, pending_after}
use Rattle.mn_node.specs.Inside.Transacts.{IsOnly, Transacts, IsBarOf}
use Rattle.mn_node.specs.Inside.Tries.{IsPlain, durable, only}
use Rattle.mn_node.specs.Seen.{answer}
use Rattle.mn_node.specs.Shown.{Pends}
use Rattle.mn_node.specs.declared.open.Done.{Done}
use Rattle.mn_node.specs.declared.open.Open.{Open}
use Rattle.mn_node.specs.declared.open.Trouble.{Trouble}
use Rattle.mn_node.specs.declared.open.Trouble.TheVariants.{Memory}
use Rattle.mn_node.specs.declared.reply.Reply.TheVariants as replies
use Rattle.mn_node.specs.declared.reply.Reply as code
use Rattle.mn_node.proofs.TxnOutcomes.{here, comes}

module _ (old : Open) (new_txns : Txns) where
  abbrev new : Open
  new = record old { txns = new_txns }

  abbrev w : Durable
  w = durable old

  abbrev tables : List Table
  tables = w.database.tables

  -- what is pending then is sound
  pends_then : (order : Order) (given : Answer) (pending later : List Txn) → IsOrderly order → Pends old pending
      → happens order (here w pending) ≡ comes given w later → transactions.Shows new_txns later → Pends new later
  pends_then order given pending later orderly pends is shows = record {
    shows = shows;
    sound = sound_step (here w pending) (here w later) (record { order = order; answer = given }) pends.sound
        (record { orderly = orderly; comes = inl is });
    named = pends.named;
  }

  only_of : (e one : Effect) (reply : code.Reply) (done : Done) → e ≡ one → done ≡ only reply → one.answer ≡ answer reply → one.entry ≡ None
      → one.settles ≡ false → one.halts ≡ false → IsPlain (answer reply) → IsOnly e done
  only_of e one reply done same is told entry settles halts plain = record {
    reply = reply;
    is = is;
    answer = ap (λ (x : Effect). x.answer) same ∙ told;
    entry = ap (λ (x : Effect). x.entry) same ∙ entry;
    settles = ap (λ (x : Effect). x.settles) same ∙ settles;
    halts = ap (λ (x : Effect). x.halts) same ∙ halts;
    plain = plain;
  }

  -- this order came out so, and this command's effect and what is pending behind it follow
  module _ (c : Command) (order : Order) (orderly : IsOrderly order) (given : Answer)
      (answers : Answers order tables old.txns new_txns (Some given)) (one : Effect)
      (is : (pending later : List Txn) → happens order (here w pending) ≡ comes given w later
      → (effect w pending c ≡ one) × (pending_after w pending c ≡ later)) where
    pub came : (reply : code.Reply) (result : Result Done Trouble) → result ≡ Ok (only reply) → one.answer ≡ answer reply → one.entry ≡ None
        → one.settles ≡ false → one.halts ≡ false → IsPlain (answer reply) → Transacts old new c result
    came reply result result_is told entry settles halts plain =
        subst (λ r. Transacts old new c r) (sym result_is) (record {
          log = refl;
          tables = refl;
          out = λ pending pends.
              let (later, happened, shows) = answers pending pends.shows in
              only_of (effect w pending c) one reply (only reply) (is pending later happened).0 refl told entry settles halts plain;
          pends = λ pending pends running.
              let (later, happened, shows) = answers pending pends.shows in
              subst (λ l. Pends new l) (sym (is pending later happened).1)
              (pends_then order given pending later orderly pends happened shows);
        })

  -- memory was wanting
  pub came_wanting : (c : Command) (order : Order) (result : Result Done Trouble) → Answers order tables old.txns new_txns None
      → ((pending : List Txn) → (effect w pending c).takes_memory ≡ true) → result ≡ Err Memory → Transacts old new c result
  came_wanting c order result answers takes is =
      subst (λ r. Transacts old new c r) (sym is) (record {
        log = refl;
        tables = refl;
        out = λ pending pends. takes pending;
        pends = λ pending pends. record { shows = answers pending pends.shows; sound = pends.sound; named = pends.named };
      })

  -- ---- refusals

  module _ (c : Command) (order : Order) (orderly : IsOrderly order) (name : List ℕ) (call : Call)
      (barred : (pending later : List Txn) (why : Refusal) → happens order (here w pending) ≡ comes (refused why) w later
      → (effect w pending c ≡ bars name call why) × (pending_after w pending c ≡ later))
      (takes : (pending : List Txn) → (effect w pending c).takes_memory ≡ true) where
    bar_is : (cause : Refusal) (reply : code.Reply) (result : Result Done Trouble)
        → Answers order tables old.txns new_txns (Some (refused cause))
        → refusal_answer name call cause ≡ answer reply → IsPlain (answer reply) → result ≡ Ok (only reply) → Transacts old new c result
    bar_is cause reply result answers told plain is =
        came c order orderly (refused cause) answers (bars name call cause) (λ pending later h. barred pending later cause h)
        reply result is told refl refl refl plain

    plain_reply : (given : effects.Answer) → effects.is_fault given ≡ false → effects.is_no_memory given ≡ false
        → (given ≡ effects.is_down → ⊥) → IsPlain given
    plain_reply given fault memory up = record { fault = fault; memory = memory; up = up }

    pub bar_of : (error : TxnErr) (table : Option (List ℕ)) (item : Term) (result : Result Done Trouble)
        → Answers order tables old.txns new_txns (told_refusal (refusal_of error))
        → unwrap_or table name ≡ table_called call → tree_of item ≡ item_of call
        → IsBarOf error name table item result → Transacts old new c result
    bar_of txns.NoTxn table item result answers on of is =
        bar_is why.no_txn (replies.NoTransaction name) result answers refl (plain_reply _ refl refl (λ h. absurd (cc h))) is
    bar_of txns.TxnExists table item result answers on of is =
        bar_is why.txn_exists (replies.Exists name) result answers refl (plain_reply _ refl refl (λ h. absurd (cc h))) is
    bar_of txns.TooMany table item result answers on of is =
        bar_is why.too_many replies.TooManyTransactions result answers refl (plain_reply _ refl refl (λ h. absurd (cc h))) is
    bar_of txns.NoTable table item result answers on of is =
        bar_is why.no_table (replies.NoTable (unwrap_or table name)) result answers (ap effects.no_table (sym on))
        (plain_reply _ refl refl (λ h. absurd (cc h))) is
    bar_of txns.BadRecord table item result answers on of is =
        bar_is why.bad_record (replies.BadRecord item) result answers (ap effects.bad_record (sym of))
        (plain_reply _ refl refl (λ h. absurd (cc h))) is
    bar_of txns.TooManyCalls table item result answers on of is =
        bar_is why.too_many_calls replies.TooManyCalls result answers refl (plain_reply _ refl refl (λ h. absurd (cc h))) is
    bar_of (txns.Locked by) table item result answers on of is =
        bar_is (why.locked by) (replies.Locked by) result answers refl (plain_reply _ refl refl (λ h. absurd (cc h))) is
    bar_of txns.Memory table item result answers on of is = came_wanting c order result answers takes is
