-- What a transaction that commits got, and the same transaction alone.
use Rattle.std.proofs.Common.{◌≡◌, ℕ, suc, ◌+◌, ◌<◌, ◌≤◌, true, false, not, cond, if◌then◌else◌, List, [], ◌∷◌, ◌++◌, length}
use Rattle.std.proofs.Common.{Option, None, Some, refl, sym, ap, ◌∙◌, subst, inl, inr, append_assoc, append-nil, arith}
use Rattle.std.specs.Prelude.{nat_le, IsSomeAnd}
use Rattle.std.specs.List.{AllByRecursion}
use Rattle.std.proofs.lemmas.Bool.{false_from_ne_true, leb-true}
use Rattle.db_model.specs.Database.{Table}
use Rattle.db_model.specs.Lawful.{table_in}
use Rattle.txn_core.specs.Calls.{Call, Reply, table_called, reply, after, view, alone}
use Rattle.txn_core.specs.Machine.{State, ask, commit, replied, committed, refused, barred, Outcome, unless_refused, asked, committing, happens, AreOrderly, Event, Step, Run, idle}
use Rattle.txn_core.specs.Pending.{Kept, Txn, calls_of, replies_of, is_named, named, others, keeping, kept_call}
use Rattle.txn_core.specs.Refusals.{Refusal, bad_record, too_many_calls, may_call, call_refusal, txn_refusal, table_refusal, end_refusal}
use Rattle.txn_core.specs.Serial.{told, IsSerial, IsTold, asks, whole}
use Rattle.txn_core.specs.Sound.{MayCall, MayCallAll, GotAlone, HasFew, Sound}
use Rattle.txn_core.proofs.Each.{each_both, each_found, found_passes}
use Rattle.txn_core.proofs.NameFacts.{one_name, own_name}
use Rattle.txn_core.proofs.SoundPending.{calls_more, length_more}
use Rattle.txn_core.proofs.SoundSteps.{sound_idle, sound_run}
use Rattle.txn_core.proofs.ToldKept.{keeps_run, Keeps}

-- ---- a run up to now

-- the state is sound, and its transactions have kept what these events tell
pub record IsReached (events : List Event) (now : State) : Type 0 where
  pub sound : Sound now
  pub keeps : Keeps (λ name. told name [] events) now.pending

pub reached : (tables : List Table) (events : List Event) (now : State) → AreOrderly tables
    → Run (idle tables) events now
    → IsReached events now
reached tables events now orderly run = record {
  sound = sound_run (idle tables) events now run (sound_idle tables orderly);
  keeps = keeps_run (λ name. []) (idle tables) events now run tt;
}

pub pending_law : (tables : List Table) (events : List Event) (now : State) → AreOrderly tables
    → Run (idle tables) events now
    → AllByRecursion (IsTold events now.tables) now.pending
pending_law tables events now orderly run =
    let so : IsReached events now = reached tables events now orderly run in
    each_both (λ txn. txn.kept ≡ told txn.name [] events) (GotAlone now.tables) (IsTold events now.tables)
    (λ txn kept replies. record { kept = kept; replies = replies }) now.pending so.keeps so.sound.replies

-- ---- the calls of one that commits

-- what these calls got is what they get alone on the tables, they may be made there, and they are no more than they may be
pub record IsWhole (tables : List Table) (kept : List Kept) : Type 0 where
  pub replies : replies_of kept ≡ alone (calls_of kept) tables
  pub allowed : AllByRecursion (MayCall tables) (calls_of kept)
  pub few : length kept ≤ 100000

pub told_kept : (events : List Event) (now : State) (name : List ℕ) (txn : Txn) → IsReached events now
    → named name now.pending ≡ Some txn → txn.kept ≡ told name [] events
told_kept events now name txn so is =
    each_found (λ one. one.kept ≡ told one.name [] events) (is_named name) now.pending txn is so.keeps
    ∙ ap (λ n. told n [] events) (sym (one_name name txn.name (found_passes (is_named name) now.pending txn is)))

pub told_whole : (events : List Event) (now : State) (name : List ℕ) (txn : Txn) → IsReached events now
    → named name now.pending ≡ Some txn → IsWhole now.tables (told name [] events)
told_whole events now name txn so is =
    subst (IsWhole now.tables) (told_kept events now name txn so is) record {
      replies = each_found (GotAlone now.tables) (is_named name) now.pending txn is so.sound.replies;
      allowed = each_found (MayCallAll now.tables) (is_named name) now.pending txn is so.sound.allowed;
      few = each_found HasFew (is_named name) now.pending txn is so.sound.few;
    }

-- its name stands, and the tables are what its calls make
record DoesCommit (name : List ℕ) (old new : State) : Type 0 where
  txn : Txn
  is : named name old.pending ≡ Some txn
  does : new.tables ≡ view (calls_of txn.kept) old.tables

committing_is : (txn : Option Txn) (name : List ℕ) (old new : State) → named name old.pending ≡ txn
    → committing txn name old ≡ record { answer = committed; state = new } → DoesCommit name old new
committing_is None name old new is same = let wrong : barred ≡ committed = ap (λ outcome. outcome.answer) same in absurd (cc)
committing_is (Some txn) name old new is same = record { txn = txn; is = is; does = sym (ap (λ outcome. outcome.state.tables) same) }

commit_free : (why : Option Refusal) (name : List ℕ) (old new : State) (outcome : Outcome)
    → unless_refused why old outcome ≡ record { answer = committed; state = new }
    → outcome ≡ record { answer = committed; state = new }
commit_free None name old new outcome same = same
commit_free (Some why) name old new outcome same =
    let wrong : refused why ≡ committed = ap (λ outcome. outcome.answer) same in absurd (cc)

does_commit : (old new : State) (name : List ℕ) → Step old record { order = commit name; answer = committed } new
    → DoesCommit name old new
does_commit old new name step =
    elim step.comes [
      | inl is ↦ committing_is (named name old.pending) name old new refl
          (commit_free (end_refusal name old.pending) name old new (committing (named name old.pending) name old) is)
      | inr is ↦ (let wrong : committed ≡ barred = is.0 in absurd (cc))
    ]

pub commit_law : (tables : List Table) (events : List Event) (old new : State) (name : List ℕ) → AreOrderly tables
    → Run (idle tables) events old → Step old record { order = commit name; answer = committed } new
    → IsSerial (told name [] events) old.tables new.tables
commit_law tables events old new name orderly run step =
    let so : IsReached events old = reached tables events old orderly run in
    let one : DoesCommit name old new = does_commit old new name step in
    record {
      replies = (told_whole events old name one.txn so one.is).replies;
      does = one.does ∙ ap (λ kept. view (calls_of kept) old.tables) (told_kept events old name one.txn so one.is);
    }

-- ---- the same transaction alone

abbrev the_txn : List ℕ → List Kept → Txn
the_txn name kept = record { name = name; kept = kept }

-- the state in which it alone is pending
abbrev only : List ℕ → List Table → List Kept → State
only name tables kept = record { tables = tables; pending = the_txn name kept ∷ [] }

named_only : (name : List ℕ) (tables : List Table) (kept : List Kept)
    → named name (only name tables kept).pending ≡ Some (the_txn name kept)
named_only name tables kept = ap (λ b. cond b (Some (the_txn name kept)) None) (own_name name)

others_only : (name : List ℕ) (tables : List Table) (kept : List Kept)
    → others name (only name tables kept).pending ≡ []
others_only name tables kept = ap (λ b. cond (not b) (the_txn name kept ∷ []) []) (own_name name)

keeping_only : (name : List ℕ) (tables : List Table) (kept : List Kept) (one : Kept)
    → keeping name one (only name tables kept).pending ≡ (only name tables (kept ++ one ∷ [])).pending
keeping_only name tables kept one = ap (λ b. cond b (the_txn name (kept ++ one ∷ [])) (the_txn name kept) ∷ []) (own_name name)

not_over : (bound n : ℕ) → n < bound → nat_le bound n ≡ false
not_over bound n below =
    false_from_ne_true (nat_le bound n) (λ over. let over_it : bound ≤ n = leb-true bound n over in omega (arith, below, over_it))

-- where a call may be made and there are few, it is not refused
free_table : (txn : Txn) (call : Call) (table : Option Table) → IsSomeAnd table (λ t. may_call t.definition call ≡ true)
    → length txn.kept < 100000 → table_refusal txn call table [] ≡ None
free_table txn call None may below = absurd may
free_table txn call (Some table) may below =
    ap (λ b. if b then (if nat_le 100000 (length txn.kept) then Some too_many_calls else None) else Some bad_record) may
    ∙ ap (λ b. if b then Some too_many_calls else None) (not_over 100000 (length txn.kept) below)

free_only : (name : List ℕ) (tables : List Table) (kept : List Kept) (call : Call) → MayCall tables call
    → length kept < 100000
    → call_refusal name call tables (only name tables kept).pending ≡ None
free_only name tables kept call may below =
    ap (λ (o : Option Txn). txn_refusal o call tables (others name (only name tables kept).pending)) (named_only name tables kept)
    ∙ ap (λ (txns : List Txn). txn_refusal (Some (the_txn name kept)) call tables txns) (others_only name tables kept)
    ∙ free_table (the_txn name kept) call (table_in (table_called call) tables) may below

-- a call of it is kept, with that reply
asks_only : (name : List ℕ) (tables : List Table) (kept : List Kept) (one : Kept) → MayCall tables one.call
    → length kept < 100000
    → one.reply ≡ reply one.call (view (calls_of kept) tables)
    → happens (ask name one.call) (only name tables kept)
    ≡ record { answer = replied one.reply; state = only name tables (kept ++ one ∷ []) }
asks_only name tables kept one may below is =
    let old : State = only name tables kept in
    let mine : Kept = kept_call one.call (the_txn name kept) tables in
    let same : mine ≡ one = ap (λ r. record { call = one.call; reply = r }) (sym is) in
    ap (λ why. unless_refused why old (asked (named name old.pending) name one.call old)) (free_only name tables kept one.call may below)
    ∙ ap (λ (o : Option Txn). asked o name one.call old) (named_only name tables kept)
    ∙ ap (λ (k : Kept). record { answer = replied k.reply; state = record { tables = tables; pending = keeping name k old.pending } }) same
    ∙ ap (λ (txns : List Txn). record { answer = replied one.reply; state = record { tables = tables; pending = txns } })
    (keeping_only name tables kept one)

ends_only : (name : List ℕ) (tables : List Table) (kept : List Kept)
    → end_refusal name (only name tables kept).pending ≡ None
ends_only name tables kept = simp (own_name name)

commits_only : (name : List ℕ) (tables : List Table) (kept : List Kept)
    → happens (commit name) (only name tables kept)
    ≡ record { answer = committed; state = idle (view (calls_of kept) tables) }
commits_only name tables kept =
    let old : State = only name tables kept in
    ap (λ why. unless_refused why old (committing (named name old.pending) name old)) (ends_only name tables kept)
    ∙ ap (λ (o : Option Txn). committing o name old) (named_only name tables kept)
    ∙ ap (λ (txns : List Txn). record { answer = committed; state = record { tables = view (calls_of kept) tables; pending = txns } })
    (others_only name tables kept)

view_more : (calls : List Call) (call : Call) (tables : List Table)
    → view (calls ++ call ∷ []) tables ≡ after call (view calls tables)
view_more [] call tables = refl
view_more (first ∷ calls) call tables = view_more calls call (after first tables)

head_is : (x y : Reply) (xs ys : List Reply) → (x ∷ xs) ≡ (y ∷ ys) → x ≡ y
head_is x y xs ys h = cc

tail_is : (x y : Reply) (xs ys : List Reply) → (x ∷ xs) ≡ (y ∷ ys) → xs ≡ ys
tail_is x y xs ys h = cc

abbrev the_commit : List ℕ → Event
the_commit name = record { order = commit name; answer = committed }

run_only : (name : List ℕ) (tables : List Table) (kept rest : List Kept)
    → AllByRecursion (MayCall tables) (calls_of rest)
    → length kept + length rest ≤ 100000 → replies_of rest ≡ alone (calls_of rest) (view (calls_of kept) tables)
    → Run (only name tables kept) (asks name rest ++ the_commit name ∷ [])
    (idle (view (calls_of (kept ++ rest)) tables))
run_only name tables kept [] may few is = (
  idle (view (calls_of kept) tables),
  record { orderly = tt; comes = inl (commits_only name tables kept) },
  ap (λ ks. idle (view (calls_of ks) tables)) (sym (append-nil kept)),
)
run_only name tables kept (one ∷ rest) may few is =
    let now : List Table = view (calls_of kept) tables in
    let first : one.reply ≡ reply one.call now =
    head_is one.reply (reply one.call now) (replies_of rest) (alone (calls_of rest) (after one.call now)) is in
    let next : after one.call now ≡ view (calls_of (kept ++ one ∷ [])) tables =
    sym (ap (λ calls. view calls tables) (calls_more kept one) ∙ view_more (calls_of kept) one.call tables) in
    let more : replies_of rest ≡ alone (calls_of rest) (view (calls_of (kept ++ one ∷ [])) tables) =
    tail_is one.reply (reply one.call now) (replies_of rest) (alone (calls_of rest) (after one.call now)) is
    ∙ ap (alone (calls_of rest)) next in
    let longer : length (kept ++ one ∷ []) ≡ suc (length kept) = length_more kept one in
    let below : length kept < 100000 = omega (arith, few) in
    let fewer : length (kept ++ one ∷ []) + length rest ≤ 100000 = omega (arith, few, longer) in (
      only name tables (kept ++ one ∷ []),
      record { orderly = tt; comes = inl (asks_only name tables kept one may.0 below first) },
      subst (λ ks. Run (only name tables (kept ++ one ∷ [])) (asks name rest ++ the_commit name ∷ []) (idle (view (calls_of ks) tables)))
          (append_assoc kept (one ∷ []) rest) (run_only name tables (kept ++ one ∷ []) rest may.1 fewer more),
    )

pub whole_run : (name : List ℕ) (tables : List Table) (kept : List Kept) → IsWhole tables kept
    → Run (idle tables) (whole name kept) (idle (view (calls_of kept) tables))
whole_run name tables kept h =
    let few = h.few in
    let no_more : length {A = Kept} [] + length kept ≤ 100000 = omega (arith, few) in
    (only name tables [], record { orderly = tt; comes = inl refl }, run_only name tables [] kept h.allowed no_more h.replies)

pub alone_law : (tables : List Table) (events : List Event) (old new : State) (name : List ℕ) → AreOrderly tables
    → Run (idle tables) events old → Step old record { order = commit name; answer = committed } new
    → Run (idle old.tables) (whole name (told name [] events)) (idle new.tables)
alone_law tables events old new name orderly run step =
    let so : IsReached events old = reached tables events old orderly run in
    let one : DoesCommit name old new = does_commit old new name step in
    let kept : List Kept = told name [] events in
    let does : new.tables ≡ view (calls_of kept) old.tables = (commit_law tables events old new name orderly run step).does in
    subst (λ ts. Run (idle old.tables) (whole name kept) (idle ts)) (sym does)
    (whole_run name old.tables kept (told_whole events old name one.txn so one.is))
