-- Every run of the machine is one of the machine of transactions.
use Rattle.std.proofs.Common.{◌≡◌, ℕ, Bool, true, false, if◌then◌else◌, List, [], ◌∷◌, ◌++◌, Option, Some, refl, sym, ap, ◌∙◌, subst, inl, inr}
use Rattle.db_model.specs.Commits.{CommitRecord}
use Rattle.db_model.specs.Histories.{AreLawful}
use Rattle.db_model.specs.Lawful.{IsLawful}
use Rattle.txn_core.specs.Machine.{State, Event, AreOrderly, restart, idle}
use Rattle.txn_core.specs.Machine as txns
use Rattle.txn_core.specs.Pending.{Txn}
use Rattle.txn_core.specs.Serial.{told, IsSerial, serial}
use Rattle.txn_core.proofs.RunLaws.{commit_law}
use Rattle.txn_core.proofs.SerialRuns.{serial_run}
use Rattle.mn_node.specs.Durable.{Entry, commit, Durable, after, after_one, made, beginning}
use Rattle.mn_node.specs.Effects.{Command, stop, commit_txn, done, Answer, Effect}
use Rattle.mn_node.specs.Machine.{Machine, start, command, refused, turn, end, Life, running, halted, faulted, starved, ruined, runs, IsLawfulMachine, KeepsAs, AreDone, commits_of, now_of, durable_of, with_life, with_effect, in_doubt, entries_of, booted, IsKept, Choice, as_asked, out_of_memory, failed, effect_here, pending_behind, Comes, Does, Boots, ComesUp, Change, Step, unstarted_machine}
use Rattle.mn_node.specs.Machine as machine
use Rattle.mn_node.specs.Meaning.{Files, Meaning, stands, broken, Means, AreTaken}
use Rattle.mn_node.specs.Serial.{Act, Run, tables_of, state_of, saw, seen, all_seen}
use Rattle.mn_node.specs.Shown.{IsHistory}
use Rattle.mn_node.proofs.Histories.{after_append, made_behind, taken_all, history_first}
use Rattle.mn_node.proofs.Orderly.{made_orderly}
use Rattle.mn_node.proofs.Prefixes.{kept_front}
use Rattle.mn_node.proofs.TxnSteps.{one_order, IsSeen, command_seen}

-- ---- machines that runs reach

-- its base is what a log's commits make, or it never runs
abbrev IsMade : Meaning → Life → List Entry → Type 0
IsMade (stands w) life entries = (earlier : List CommitRecord) × AreTaken earlier × (w ≡ made earlier)
IsMade (broken name at) life entries = (runs life ≡ false) × (entries ≡ [])

pub record IsReady (machine : Machine) : Type 0 where
  pub made : IsMade machine.base machine.life machine.entries
  pub lawful : IsLawfulMachine machine
  -- while it is down no transaction is pending
  pub idle : runs machine.life ≡ false → machine.pending ≡ []

history : (w : Durable) (earlier : List CommitRecord) (entries : List Entry) → AreTaken earlier → w ≡ made earlier → AreDone entries w
    → IsHistory earlier entries
history w earlier entries taken is lawful = record { taken = taken; done = subst (AreDone entries) is lawful }

orderly_at : (base : Meaning) (life : Life) (entries : List Entry) → IsMade base life entries → KeepsAs base entries
    → AreOrderly (after (durable_of base) entries).database.tables
orderly_at (stands w) life entries (earlier, taken, is) lawful =
    let h = history w earlier entries taken is lawful in
    subst (λ (d : Durable). AreOrderly d.database.tables)
    (made_behind earlier entries h ∙ ap (λ (d : Durable). after d entries) (sym is))
    (made_orderly (earlier ++ commits_of entries) (taken_all earlier entries h))
orderly_at (broken name at) life entries (down, none) lawful =
    subst (λ es. AreOrderly (after beginning es).database.tables) (sym none) (record { ordered = tt; keyed = tt })

pub ready_orderly : (machine : Machine) → IsReady machine → AreOrderly (tables_of machine)
ready_orderly machine h = orderly_at machine.base machine.life machine.entries h.made h.lawful

-- the last of its entries was lawful on what the others made
lawful_last : (w : Durable) (entries : List Entry) (c : CommitRecord) → AreLawful (commits_of (entries ++ commit c ∷ [])) w.database
    → IsLawful c (after w entries).database
lawful_last w [] c h = h.0
lawful_last w (commit first ∷ entries) c h = lawful_last (after_one w (commit first)) entries c h.1

-- ---- each step leads to such a machine

ready_at : {old new : Machine} → new ≡ old → IsReady old → IsReady new
ready_at is h = subst IsReady (sym is) h

ready_life : (life : Life) (old : Machine) → runs life ≡ false → runs old.life ≡ false → IsReady old → IsReady (with_life life old)
ready_life life old down was h = record {
  made = by old.base h.made;
  lawful = h.lawful;
  idle = λ is. h.idle was;
}
  where
    by : (base : Meaning) → IsMade base old.life old.entries → IsMade base life old.entries
    by (stands w) base_made = base_made
    by (broken name at) (was_down, none) = (down, none)

ready_booted : (w : Durable) (old : Machine) (kept : List Entry) → old.base ≡ stands w → IsKept old kept → IsReady old
    → IsLawfulMachine (booted w kept) → IsReady (booted w kept)
ready_booted w old kept is among h lawful =
    let (earlier, taken, same) : IsMade (stands w) old.life old.entries = subst (λ base. IsMade base old.life old.entries) is h.made in
    let lawful_old : AreDone old.entries w = subst (λ base. KeepsAs base old.entries) is h.lawful in
    let (rest, front) = kept_front old kept among in
    let all : IsHistory earlier (kept ++ rest) = subst (IsHistory earlier) front (history w earlier old.entries taken same lawful_old) in
    let first : IsHistory earlier kept = history_first earlier kept rest all in record {
      made = (
        earlier ++ commits_of kept,
        taken_all earlier kept first,
        ap (λ (d : Durable). after d kept) same ∙ sym (made_behind earlier kept first),
      );
      lawful = lawful;
      idle = λ down. refl;
    }

ready_up : (choice : Choice) (old : Machine) (answer : Answer) (new : Machine) → runs old.life ≡ false → ComesUp choice old answer new
    → IsLawfulMachine new → IsReady old → IsReady new
ready_up as_asked old answer new was comes lawful h = by old.base refl comes
  where
    by : (base : Meaning) → old.base ≡ base → Boots base old answer new → IsReady new
    by (stands w) is (kept, among, given, same) =
        ready_at same (ready_booted w old kept is among h (subst IsLawfulMachine same lawful))
    by (broken name at) is (given, same) = ready_at same (ready_life ruined old refl was h)
ready_up out_of_memory old answer new was (given, same) lawful h = ready_at same (ready_life starved old refl was h)
ready_up (failed name) old answer new was (named, given, same) lawful h = ready_at same (ready_life faulted old refl was h)

-- of a machine that runs the base is what a log's commits make
ready_running : (base : Meaning) (entries more : List Entry) (life : Life) → IsMade base running entries → IsMade base life more
ready_running (stands w) entries more life base_made = base_made
ready_running (broken name at) entries more life (down, none) = absurd (cc down)

-- ---- what transactions see of a step

-- the step leads to a machine that a run reaches, and the machine of transactions goes the same way
pub record IsFollowed (old new : Machine) (events : List Event) : Type 0 where
  pub ready : IsReady new
  pub run : txns.Run (state_of old) events (state_of new)

stays : (old new : Machine) → new ≡ old → IsReady old → IsFollowed old new []
stays old new is h = record { ready = ready_at is h; run = ap state_of (sym is) }

-- no transaction is pending
restarts : (old new : Machine) → IsReady new → new.pending ≡ []
    → IsFollowed old new (saw (restart (tables_of new)) txns.ok)
restarts old new h none = record {
  ready = h;
  run = one_order (state_of old) (state_of new) (restart (tables_of new)) txns.ok (ready_orderly new h)
      (ap (λ (pending : List Txn). record { answer = txns.ok; state = record { tables = tables_of new; pending = pending } }) (sym none));
}

life_if : (halts : Bool) → runs (if halts then halted else running) ≡ false → halts ≡ true
life_if true is = refl
life_if false is = absurd (cc is)

lawful_added : (base : Meaning) (entries : List Entry) (life : Life) (added : Option Entry) → IsMade base running entries
    → KeepsAs base (entries ++ entries_of added) → (c : CommitRecord) → added ≡ Some (commit c)
    → IsLawful c (after (durable_of base) entries).database
lawful_added (stands w) entries life added base_made lawful c is =
    lawful_last w entries c
    (subst (λ (a : Option Entry). AreLawful (commits_of (entries ++ entries_of a)) w.database) is lawful.1)
lawful_added (broken name at) entries life added (down, none) lawful c is = absurd (cc down)

module _ (c : Command) (old : Machine) (up : old.life ≡ running) (h : IsReady old) where
  abbrev e : Effect
  e = effect_here old c

  made_up : IsMade old.base running old.entries
  made_up = subst (λ life. IsMade old.base life old.entries) up h.made

  followed_as_asked : (new : Machine) → new ≡ with_effect e (pending_behind old c) old → IsLawfulMachine new
      → IsFollowed old new (seen old (command c) e.answer new)
  followed_as_asked new is lawful =
      let behind : Machine = with_effect e (pending_behind old c) old in
      let both : after (durable_of old.base) (old.entries ++ entries_of e.entry) ≡ after (now_of old) (entries_of e.entry) =
      after_append (durable_of old.base) old.entries (entries_of e.entry) in
      let same : tables_of new ≡ (after (now_of old) (entries_of e.entry)).database.tables =
      ap tables_of is ∙ ap (λ (d : Durable). d.database.tables) both in
      let lawful_then : IsLawfulMachine behind = subst IsLawfulMachine is lawful in
      let saw_it : IsSeen old new c e (pending_behind old c) =
      command_seen old new c (ready_orderly old h) (lawful_added old.base old.entries old.life e.entry made_up lawful_then) same in record {
        ready = ready_at is (record {
          made = ready_running old.base old.entries behind.entries behind.life made_up;
          lawful = lawful_then;
          idle = λ down. saw_it.halts (life_if e.halts down);
        });
        run = subst (λ (s : State). txns.Run (state_of old) (seen old (command c) e.answer new) s)
            (ap (λ standing. record { tables = standing; pending = pending_behind old c }) (sym same)
            ∙ ap (λ pending. record { tables = tables_of new; pending = pending }) (ap (λ (m : Machine). m.pending) (sym is)))
            saw_it.run;
      }

  followed_failed : (name : List ℕ) (new : Machine) → new ≡ in_doubt e old → IsLawfulMachine new
      → IsFollowed old new (saw (restart (tables_of new)) txns.ok)
  followed_failed name new is lawful =
      restarts old new (ready_at is (record {
        made = ready_running old.base old.entries (in_doubt e old).entries faulted made_up;
        lawful = subst IsLawfulMachine is lawful;
        idle = λ down. refl;
      })) (ap (λ (m : Machine). m.pending) is)

  pub followed_up : (event : machine.Event) (choice : Choice) (answer : Answer) (new : Machine)
      → Comes choice e (pending_behind old c) old answer new → IsLawfulMachine new
      → IsFollowed old new (seen old (command c) answer new)
  followed_up event as_asked answer new (given, is) lawful =
      subst (λ a. IsFollowed old new (seen old (command c) a new)) (sym given) (followed_as_asked new is lawful)
  followed_up event out_of_memory answer new (given, is) lawful =
      subst (λ a. IsFollowed old new (seen old (command c) a new)) (sym given) (stays old new is h)
  followed_up event (failed name) answer new (given, is) lawful =
      subst (λ a. IsFollowed old new (seen old (command c) a new)) (sym given) (followed_failed name new is lawful)

followed_does : (c : Command) (old : Machine) (answer : Answer) (new : Machine) → IsReady old → Does c old answer new
    → IsLawfulMachine new → IsFollowed old new (seen old (command c) answer new)
followed_does c old answer new h (inl (up, choice, may, comes)) lawful = followed_up c old up h (command c) choice answer new comes lawful
followed_does c old answer new h (inr (down, (given, is))) lawful =
    subst (λ a. IsFollowed old new (seen old (command c) a new)) (sym given) (stays old new is h)

followed_boots : (base : Meaning) (old : Machine) (answer : Answer) (new : Machine) → IsReady new → runs old.life ≡ false
    → IsReady old → Boots base old answer new → IsFollowed old new (seen old start answer new)
followed_boots (stands w) old answer new ready was h (kept, among, given, is) =
    subst (λ a. IsFollowed old new (seen old start a new)) (sym given)
    (restarts old new ready (ap (λ (m : Machine). m.pending) is))
followed_boots (broken name at) old answer new ready was h (given, is) =
    subst (λ a. IsFollowed old new (seen old start a new)) (sym given) (record { ready = ready; run = ap state_of (sym is) })

followed_start : (choice : Choice) (old : Machine) (answer : Answer) (new : Machine) → IsReady new → runs old.life ≡ false → IsReady old
    → ComesUp choice old answer new → IsFollowed old new (seen old start answer new)
followed_start as_asked old answer new ready was h comes = followed_boots old.base old answer new ready was h comes
followed_start out_of_memory old answer new ready was h (given, is) =
    subst (λ a. IsFollowed old new (seen old start a new)) (sym given) (record { ready = ready; run = ap state_of (sym is) })
followed_start (failed name) old answer new ready was h (named, given, is) =
    subst (λ a. IsFollowed old new (seen old start a new)) (sym given)
    (restarts old new ready (ap (λ (m : Machine). m.pending) is ∙ h.idle was))

-- the script's end is seen as a stop is: an answer to either is that of a stop
stop_is_end : (old : Machine) (answer : Answer) (new : Machine) → Does stop old answer new
    → seen old (command stop) answer new ≡ seen old end answer new
stop_is_end old answer new (inl (up, as_asked, may, (given, is))) =
    subst (λ a. seen old (command stop) a new ≡ seen old end a new) (sym given) refl
stop_is_end old answer new (inl (up, out_of_memory, may, (given, is))) =
    subst (λ a. seen old (command stop) a new ≡ seen old end a new) (sym given) refl
stop_is_end old answer new (inl (up, failed name, may, (given, is))) =
    subst (λ a. seen old (command stop) a new ≡ seen old end a new) (sym given) refl
stop_is_end old answer new (inr (down, (given, is))) =
    subst (λ a. seen old (command stop) a new ≡ seen old end a new) (sym given) refl

followed : (old : Machine) (event : machine.Event) (answer : Answer) (new : Machine) → IsReady old → Change old event answer new
    → IsLawfulMachine new → IsFollowed old new (seen old event answer new)
followed old start answer new h (inl (up, (given, is))) lawful =
    subst (λ a. IsFollowed old new (seen old start a new)) (sym given) (stays old new is h)
followed old start answer new h (inr (down, choice, comes)) lawful =
    followed_start choice old answer new (ready_up choice old answer new down comes lawful h) down h comes
followed old (command c) answer new h does lawful = followed_does c old answer new h does lawful
followed old (refused at) answer new h (given, is) lawful =
    subst (λ a. IsFollowed old new (seen old (refused at) a new)) (sym given) (stays old new is h)
followed old turn answer new h (given, is) lawful =
    subst (λ a. IsFollowed old new (seen old turn a new)) (sym given) (stays old new is h)
followed old end answer new h does lawful =
    subst (IsFollowed old new) (stop_is_end old answer new does) (followed_does stop old answer new h does lawful)

-- ---- what transactions see of a run

run_both : (old middle new : State) (some more : List Event) → txns.Run old some middle → txns.Run middle more new
    → txns.Run old (some ++ more) new
run_both old middle new [] more first rest = subst (λ s. txns.Run s more new) (sym first) rest
run_both old middle new (event ∷ some) more (next, step, first) rest =
    (next, step, run_both next middle new some more first rest)

followed_run : (old : Machine) (acts : List Act) (new : Machine) → IsReady old → Run old acts new
    → IsFollowed old new (all_seen old acts)
followed_run old [] new h is = stays old new (sym is) h
followed_run old (act ∷ acts) new h (step, lawful, run) =
    let first = followed old act.event act.answer act.behind h step.change lawful in
    let rest = followed_run act.behind acts new first.ready run in record {
      ready = rest.ready;
      run = run_both (state_of old) (state_of act.behind) (state_of new) (seen old act.event act.answer act.behind)
          (all_seen act.behind acts) first.run rest.run;
    }

ready_unstarted : (files : Files) (meaning : Meaning) → Means files meaning → IsLawfulMachine (unstarted_machine meaning)
    → IsReady (unstarted_machine meaning)
ready_unstarted files (stands w) (commits, reads, taken, is) lawful =
    record { made = (commits, taken, is); lawful = lawful; idle = λ down. refl }
ready_unstarted files (broken name at) means lawful = record { made = (refl, refl); lawful = lawful; idle = λ down. refl }

module _ (files : Files) (meaning : Meaning) where
  abbrev first : Machine
  first = unstarted_machine meaning

  all_followed : (acts : List Act) (now : Machine) → Means files meaning → IsLawfulMachine first → Run first acts now
      → IsFollowed first now (all_seen first acts)
  all_followed acts now means lawful run = followed_run first acts now (ready_unstarted files meaning means lawful) run

  orderly_first : Means files meaning → IsLawfulMachine first → AreOrderly (tables_of first)
  orderly_first means lawful = ready_orderly first (ready_unstarted files meaning means lawful)

  pub run_seen : (acts : List Act) (now : Machine) → Means files meaning → IsLawfulMachine first → Run first acts now
      → txns.Run (idle (tables_of first)) (all_seen first acts) (state_of now)
  run_seen acts now means lawful run = (all_followed acts now means lawful run).run

  pub run_serial : (acts : List Act) (old new : Machine) (name : List ℕ) → Means files meaning → IsLawfulMachine first
      → Run first acts old → Step old (command (commit_txn name)) done new → IsLawfulMachine new
      → IsSerial (told name [] (all_seen first acts)) (tables_of old) (tables_of new)
  run_serial acts old new name means lawful run step after_it =
      let so_far = all_followed acts old means lawful run in
      let (middle, last, is) = (followed old (command (commit_txn name)) done new so_far.ready step.change after_it).run in
      commit_law (tables_of first) (all_seen first acts) (state_of old) (state_of new) name (orderly_first means lawful) so_far.run
      (subst (λ s. txns.Step (state_of old) record { order = txns.commit name; answer = txns.committed } s) is last)

  pub run_in_order : (acts : List Act) (now : Machine) → Means files meaning → IsLawfulMachine first → Run first acts now
      → txns.Run (idle (tables_of first)) (serial [] (all_seen first acts)) (idle (tables_of now))
  run_in_order acts now means lawful run =
      serial_run (tables_of first) (all_seen first acts) (state_of now) (orderly_first means lawful)
      (run_seen acts now means lawful run)
