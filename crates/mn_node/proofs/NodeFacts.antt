-- What is so wherever node and disk stand for a machine.
use Rattle.std.proofs.Common.{◌≡◌, ℕ, true, List, [], None, refl, sym, ap, ◌∙◌, subst, inl, inr, arith, append-nil}
use Rattle.file_trait.specs.DiskModel.{Past, reads, Crashes}
use Rattle.file_trait.proofs.Moments.{none_done}
use Rattle.file_trait.proofs.Touched.{untouched}
use Rattle.log_items.specs.Items.{log_bytes}
use Rattle.log_items.proofs.Unique.{written}
use Rattle.disk_logs.specs.Crash.{IsSound}
use Rattle.db_model.specs.Commits.{CommitRecord}
use Rattle.db_model.specs.Lawful as databases
use Rattle.txn_log.specs.Logs.{Reads, IsLogName}
use Rattle.txn_log.proofs.CallerLemmas.{reads_not_wrong, one_wrong_place}
use Rattle.mn_node.specs.Durable.{Entry, Durable, after, made}
use Rattle.mn_node.specs.Effects.{Answer, started, bad_line, silent}
use Rattle.mn_node.specs.Machine.{Event, refused, turn, halted, IsLawfulMachine, KeepsAs, AreDone, Machine, unstarted_machine, durable_of, now_of, HoldsAs, Holds, HoldsClosed, Leaves, Change, added}
use Rattle.mn_node.specs.Meaning.{Files, latest, Meaning, stands, broken, AreTaken, Stands, StandsClosed, IsBroken, Means}
use Rattle.mn_node.specs.Shown.{IsHistory, ShowsLife, HasLog, Shows, Steps, IsWhole}
use Rattle.mn_node.specs.declared.node.Node.{Node}
use Rattle.mn_node.specs.declared.node.State.{State}
use Rattle.mn_node.specs.declared.node.State.TheVariants.{Unstarted, Up, Stopped, Faulted, Starved, Ruined}
use Rattle.mn_node.specs.declared.open.Open.{Open}
use Rattle.mn_node.proofs.Directories.{first_taken}
use Rattle.mn_node.proofs.Histories.{history_first}
use Rattle.mn_node.proofs.Prefixes.{kept_front, stands_behind}
use Rattle.mn_node.proofs.NodeSteps.{begun_base, down_alive}

-- a log that can be taken is no log without a meaning
pub stands_not_broken : (files : Files) (w : Durable) (name : List ℕ) (at : ℕ) → Stands files w → IsBroken files name at → ⊥
stands_not_broken files w name at (commits, has, can, is) (named, wrong) =
    reads_not_wrong AreTaken first_taken (files latest) commits at has can wrong

-- a closed log is a log
pub closed_stands : (files : Files) (w : Durable) → StandsClosed files w → Stands files w
closed_stands files w (commits, items, are, fit, is, can, same) =
    (commits, inr (log_bytes true items, is, (items, are, (true, written true items fit))), can, same)

-- a machine that was halted is shown by a closed log
closed_life : (state : State) (past : Past) (machine : Machine) (earlier : List CommitRecord) → ShowsLife state past machine earlier
    → machine.life ≡ halted → HoldsClosed (reads past) machine
closed_life Unstarted past machine earlier shown is = absurd (cc (shown, is))
closed_life (Up live) past machine earlier shown is = let up = shown.running in absurd (cc (up, is))
closed_life Stopped past machine earlier shown is = shown.1
closed_life Faulted past machine earlier shown is = absurd (cc (shown, is))
closed_life Starved past machine earlier shown is = absurd (cc (shown, is))
closed_life Ruined past machine earlier shown is = absurd (cc (shown, is))

module _ (first past : Past) (node : Node) (machine : Machine) (shown : Shows first node past machine) where
  log_at : (base : Meaning) → machine.base ≡ base → HasLog base first past machine shown.earlier
  log_at base is = subst (λ (m : Meaning). HasLog m first past machine shown.earlier) is shown.log

  -- ---- what the files hold

  holds_as : (base : Meaning) → HasLog base first past machine shown.earlier → HoldsAs base machine (reads past)
  holds_as (stands w) (k, sound) =
      let same : made shown.earlier ≡ w = sym (ap durable_of k.base_is) in
      let front = kept_front machine k.kept k.is_kept in
      let history = history_first shown.earlier k.kept front.0 (subst (IsHistory shown.earlier) front.1 k.history) in
      let held = stands_behind shown.earlier k.kept (reads past) history k.has in
      (k.kept, k.is_kept, k.within, subst (λ (u : Durable). Stands (reads past) (after u k.kept)) same held)
  holds_as (broken name at) (wrong, same) = wrong

  pub shows_closed : machine.life ≡ halted → HoldsClosed (reads past) machine
  shows_closed is = closed_life node.state past machine shown.earlier shown.life is

  -- each entry was lawful when it was done
  lawful_as : (base : Meaning) → HasLog base first past machine shown.earlier → KeepsAs base machine.entries
  lawful_as (stands w) (k, sound) =
      let same : made shown.earlier ≡ w = sym (ap durable_of k.base_is) in
      subst (AreDone machine.entries) same k.history.done
  lawful_as (broken name at) h = tt

  pub shows_lawful : IsLawfulMachine machine
  shows_lawful = lawful_as machine.base shown.log

  pub shows_holds : Holds (reads past) machine
  shows_holds = (holds_as machine.base shown.log, shows_closed)

  -- where the directory has a meaning, a closed log may be trusted
  pub shows_sound : (w : Durable) → machine.base ≡ stands w → IsSound past latest
  shows_sound w is = (log_at (stands w) is).1

  -- ---- where the directory has no meaning

  pub broken_files : (name : List ℕ) (at : ℕ) → machine.base ≡ broken name at → IsBroken (reads past) name at
  broken_files name at is = (log_at (broken name at) is).0

  -- nothing was done to it
  pub broken_untouched : (name : List ℕ) (at : ℕ) → machine.base ≡ broken name at → past ≡ first
  broken_untouched name at is = (log_at (broken name at) is).1

  -- no good start was answered
  pub begun_not_broken : (name : List ℕ) (at : ℕ) → machine.begun ≡ true → machine.base ≡ broken name at → ⊥
  begun_not_broken name at begun is =
      let base : machine.base ≡ stands (made shown.earlier) = begun_base node.base machine shown.earlier begun shown.base in
      absurd (cc (base, is))

  -- the node is not up
  pub up_not_broken : (live : Open) (name : List ℕ) (at : ℕ) → node.state ≡ Up live → machine.base ≡ broken name at → ⊥
  up_not_broken live name at up is =
      begun_not_broken name at (subst (λ (s : State). ShowsLife s past machine shown.earlier) up shown.life).begun is

  -- nor was it stopped
  pub halted_not_broken : (name : List ℕ) (at : ℕ) → machine.life ≡ halted → machine.base ≡ broken name at → ⊥
  halted_not_broken name at life is =
      let held : Stands (reads past) (now_of machine) = closed_stands (reads past) (now_of machine) (shows_closed life) in
      stands_not_broken (reads past) (now_of machine) name at held (broken_files name at is)

  -- the machine's place is the directory's
  pub broken_base : (name : List ℕ) (at : ℕ) → IsBroken (reads past) name at → machine.base ≡ broken name at
  broken_base name at wrong = by machine.base refl (holds_as machine.base shown.log)
    where
      by : (base : Meaning) → machine.base ≡ base → HoldsAs base machine (reads past) → machine.base ≡ broken name at
      by (stands w) is (kept, among, within, st) = absurd (stands_not_broken (reads past) (after w kept) name at st wrong)
      by (broken other place) is (named, there) =
          let place_is : place ≡ at = one_wrong_place AreTaken first_taken (reads past latest) place at there wrong.1 in
          is ∙ (λ i. broken ((named ∙ sym wrong.0) i) (place_is i))

  -- ---- events that are not the node's

  -- nothing is done
  rests : (event : Event) (answer : Answer) → IsWhole node.state → Change machine event answer machine → added machine event answer ≡ []
      → ((n : ℕ) → answer ≡ started n → ⊥) → Steps first machine event answer node node past past
  rests event answer whole change none starts = record {
    new = machine;
    step = record { alive = down_alive node.state past machine shown.earlier whole shown.life; change = change };
    shows = shown;
    during = none_done (Crashes (Leaves first machine (added machine event answer))) past past refl
        (λ image is. subst (λ (more : List Entry). Leaves first machine more image) (sym none) (shown.leaves image is));
    sound = λ sound. none_done (λ past. IsSound past latest) past past refl sound;
    touches = untouched IsLogName past past refl;
    number = λ n base is. absurd (starts n is);
  }

  -- a line that is no command
  pub refused_steps : (at : ℕ) → IsWhole node.state → Steps first machine (refused at) (bad_line at) node node past past
  refused_steps at whole = rests (refused at) (bad_line at) whole (refl, refl) refl (λ n is. absurd (cc is))

  pub turn_steps : IsWhole node.state → Steps first machine turn silent node node past past
  turn_steps whole = rests turn silent whole (refl, refl) refl (λ n is. absurd (cc is))

-- ---- a run's beginning

abbrev pub new_node : Node
new_node = record { state = Unstarted; base = None; entries = 0; synced = 0 }

-- a node that was not started stands for the machine of the directory's meaning
pub shows_first : (first : Past) (meaning : Meaning) → Means (reads first) meaning
    → ((w : Durable) → meaning ≡ stands w → IsSound first latest × databases.IsSound w.database)
    → Shows first new_node first (unstarted_machine meaning)
shows_first first (stands w) (commits, has, can, is) sound = record {
  earlier = commits;
  life = refl;
  base = (refl, refl);
  entries = refl;
  synced = refl;
  log = (
    record {
      base_is = ap (λ (u : Durable). stands u) is;
      kept = [];
      is_kept = inl refl;
      within = omega arith;
      has = subst (λ cs. Reads cs (reads first latest)) (sym (append-nil commits)) has;
      history = record {
        taken = can;
        done = (subst (λ (u : Durable). databases.IsSound u.database) is (sound w refl).1, tt);
      };
    },
    (sound w refl).0,
  );
  leaves = λ image is. inl (image, is, refl);
}
shows_first first (broken name at) wrong sound = record {
  earlier = [];
  life = refl;
  base = (refl, refl);
  entries = refl;
  synced = refl;
  log = (wrong, refl);
  leaves = λ image is. inl (image, is, refl);
}
