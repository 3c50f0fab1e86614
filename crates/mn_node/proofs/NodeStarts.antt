-- A start, and the stop at the script's end, are steps of the machine.
use Rattle.std.proofs.Common.{◌≡◌, ℕ, ◌+◌, ◌-◌, Bool, true, false, if◌then◌else◌, List, [], ◌∷◌, ◌++◌, length, take, Option, None, Some, refl, sym, ap, ◌∙◌, subst, inl, inr, arith, append-nil, length-append}
use Rattle.std.proofs.lemmas.List.{take_at}
use Rattle.file_trait.specs.DiskModel.{Past, reads, Crashes}
use Rattle.file_trait.specs.Moments.{Moments}
use Rattle.file_trait.specs.Touched.{Touches}
use Rattle.file_trait.proofs.Moments.{none_done, weaker, at_end}
use Rattle.file_trait.proofs.Touched.{untouched}
use Rattle.disk_logs.specs.Crash.{IsSound}
use Rattle.db_model.specs.Commits.{CommitRecord}
use Rattle.db_model.specs.Lawful as databases
use Rattle.txn_log.specs.Logs.{Reads, OldOrCommits, IsLogName}
use Rattle.txn_log.proofs.CallerLemmas.{reads_not_wrong}
use Rattle.mn_node.specs.Durable.{Entry, Durable, after, made}
use Rattle.mn_node.specs.Inside.Loads.{FailsBroken, start_answer, down_node, up_node}
use Rattle.mn_node.specs.Effects.{Answer, is_no_memory, started, no_memory, fault, damaged, is_up, stop}
use Rattle.mn_node.specs.Machine.{start, command, end, commits_of, Life, running, faulted, starved, ruined, runs, IsAlive, Machine, durable_of, with_life, booted, as_asked, out_of_memory, failed, Boots, Change, LeavesAs, Leaves, entries_if, added}
use Rattle.mn_node.specs.Meaning.{Files, latest, Meaning, stands, broken, AreTaken, Stands, IsBroken, Means, IsPrefixOf}
use Rattle.mn_node.specs.Shown.{OpenShows, Pends, IsHistory, ShowsLife, HasKept, HasLog, CountsBase, Shows, StaysSound, Steps, IsWhole}
use Rattle.mn_node.specs.declared.node.Node.{Node}
use Rattle.mn_node.specs.declared.node.State.{State}
use Rattle.mn_node.specs.declared.node.State.TheVariants.{Up, Faulted, Starved, Ruined}
use Rattle.mn_node.specs.declared.open.Open.{Open}
use Rattle.mn_node.specs.declared.starting.StartErr.{StartErr}
use Rattle.mn_node.specs.declared.starting.StartErr.TheVariants as variants
use Rattle.mn_node.proofs.Directories.{first_taken}
use Rattle.mn_node.proofs.Histories.{made_behind, taken_all, sound_all, history_first, history_begun}
use Rattle.mn_node.proofs.Prefixes.{kept_front, behind_count, stands_behind, crash_behind, standing_reads, standing_sound, standing_leaves, same_leaves}
use Rattle.mn_node.proofs.NodeSteps.{steps_at, down_alive, down_runs}

-- ---- what was kept

none_kept : (kept rest : List Entry) → [] ≡ kept ++ rest → kept ≡ []
none_kept [] rest is = refl
none_kept (entry ∷ kept) rest is = absurd (cc is)

-- ---- what a start ensures over a log with a meaning

-- it comes up with these commits, which are all durable
abbrev pub ComesUpWith : Open → Past → Past → Type 0
ComesUpWith live before now =
    (commits : List CommitRecord) → Reads commits (reads before latest) → AreTaken commits → databases.IsSound (made commits).database
    → OpenShows live now commits (length commits)

abbrev pub StillReads : Past → Past → Type 0
StillReads before now =
    (commits : List CommitRecord) → Reads commits (reads before latest) → AreTaken commits → Reads commits (reads now latest)

-- at each moment a crash leaves what it could leave before, or exactly these commits
abbrev pub LeavesOld : Past → Past → Type 0
LeavesOld before now =
    (commits : List CommitRecord) → Reads commits (reads before latest) → AreTaken commits
    → Moments (OldOrCommits before commits) before now

-- ---- another life

pub log_life : (base : Meaning) (first past : Past) (life : Life) (machine : Machine) (earlier : List CommitRecord)
    → HasLog base first past machine earlier
    → HasLog base first past (with_life life machine) earlier
log_life (stands w) first past life machine earlier (k, sound) =
    (record { base_is = k.base_is; kept = k.kept; is_kept = k.is_kept; within = k.within; has = k.has; history = k.history }, sound)
log_life (broken name at) first past life machine earlier h = h

base_life : (base : Option ℕ) (life : Life) (machine : Machine) (earlier : List CommitRecord) → CountsBase base machine earlier
    → CountsBase base (with_life life machine) earlier
base_life None life machine earlier h = h
base_life (Some n) life machine earlier h = h

module _ (first before now : Past) (node : Node) (machine : Machine) (whole : IsWhole node.state)
    (down : (live : Open) → node.state ≡ Up live → ⊥) (h : Shows first node before machine) where
  alive : IsAlive machine.life
  alive = down_alive node.state before machine h.earlier whole h.life

  is_off : runs machine.life ≡ false
  is_off = down_runs node.state before machine h.earlier down h.life

  -- ---- over a log that has a meaning

  module _ (w : Durable) (is : machine.base ≡ stands w) (k : HasKept (stands w) machine h.earlier (reads before)) where
    abbrev commits : List CommitRecord
    commits = h.earlier ++ commits_of k.kept

    front : (rest : List Entry) × (machine.entries ≡ k.kept ++ rest)
    front = kept_front machine k.kept k.is_kept

    -- what was kept is a history
    kept_history : IsHistory h.earlier k.kept
    kept_history = history_first h.earlier k.kept front.0 (subst (IsHistory h.earlier) front.1 k.history)

    w_is : w ≡ made h.earlier
    w_is = ap durable_of k.base_is

    kept_stands : (files : Files) → Reads commits (files latest) → Stands files (after w k.kept)
    kept_stands files has =
        subst (λ (u : Durable). Stands files (after u k.kept)) (sym w_is) (stands_behind h.earlier k.kept files kept_history has)

    kept_left : (base : Option ℕ) → CountsBase base machine h.earlier → (files : Files) → Stands files (after w k.kept)
        → Leaves first machine [] files
    kept_left None (unbegun, none) files st =
        let empty : k.kept ≡ [] = none_kept k.kept front.0 (sym none ∙ front.1) in
        subst (λ (b : Bool). LeavesAs b machine.base first (machine.entries ++ []) machine.synced files) (sym unbegun)
        (inr (subst (λ (m : Meaning). Means files m) (sym is) (subst (λ (es : List Entry). Stands files (after w es)) empty st)))
    kept_left (Some n) (begun, base, count) files st =
        let all : machine.entries ++ [] ≡ k.kept ++ front.0 = append-nil machine.entries ∙ front.1 in
        let most : length (machine.entries ++ []) ≡ length (k.kept ++ front.0) = ap length all in
        let taken : take (length k.kept) (machine.entries ++ []) ≡ k.kept =
        ap (take (length k.kept)) all ∙ take_at k.kept front.0 (length k.kept) refl in
        subst (λ (b : Bool). LeavesAs b machine.base first (machine.entries ++ []) machine.synced files) (sym begun)
        (subst (λ (m : Meaning). LeavesAs true m first (machine.entries ++ []) machine.synced files) (sym is) (
          length k.kept,
          k.within,
          omega (arith, most, length-append k.kept front.0),
          subst (λ (es : List Entry). Stands files (after w es)) (sym taken) st,
        ))

    left_as : (past : Past) → OldOrCommits before commits past → Crashes (Leaves first machine []) past
    left_as past crashes image image_is = elim (crashes image image_is) [
      | inl old ↦
          same_leaves machine.begun machine.base first (machine.entries ++ []) machine.synced image old.0 old.2 (h.leaves old.0 old.1)
      | inr has ↦ kept_left node.base h.base image (kept_stands image has)
    ]

    pub start_during : Moments (OldOrCommits before commits) before now → Moments (Crashes (Leaves first machine [])) before now
    start_during moments = weaker (OldOrCommits before commits) (Crashes (Leaves first machine [])) before now left_as moments

    -- ---- it comes up

    module _ (live : Open) (pends : Pends live []) (shows : OpenShows live now commits (length commits))
        (moments : Moments (OldOrCommits before commits) before now) (stays : StaysSound before now)
        (touches : Touches IsLogName before now) where
      abbrev new : Machine
      new = booted w k.kept

      after_is : after w k.kept ≡ made commits
      after_is = ap (λ (u : Durable). after u k.kept) w_is ∙ sym (made_behind h.earlier k.kept kept_history)

      none_more : commits ≡ commits ++ []
      none_more = sym (append-nil commits)

      up_shown : OpenShows live now (commits ++ commits_of []) (length commits + 0)
      up_shown =
          subst (λ cs. OpenShows live now cs (length commits + 0)) none_more (subst (λ n. OpenShows live now commits n) (omega arith) shows)

      up_leaves : Crashes (Leaves first new []) now
      up_leaves = subst (λ (u : Durable). Crashes (IsPrefixOf u [] 0) now) (sym after_is)
          (crash_behind commits [] 0 now (history_begun h.earlier k.kept kept_history)
          (standing_leaves now live.log (commits ++ []) (length commits + 0) up_shown.log))

      commits_count : live.log.commits ≡ length h.earlier + length k.kept
      commits_count = shows.log.count ∙ behind_count h.earlier k.kept

      count_all : (n told base : ℕ) → n ≡ length k.kept → started n ≡ started told → CountsBase (Some base) machine h.earlier
          → live.log.commits ≡ base + told
      count_all n told base kept is (begun, base_is, count) = let same : n ≡ told = cc is in omega (arith, commits_count, kept, same, count)

      up_steps : (n : ℕ) → n ≡ length k.kept → Steps first machine start (started n) node (up_node live) before now
      up_steps n count = record {
        new = new;
        step = record {
          alive = alive;
          change =
              let boots : Boots (stands w) machine (started n) new = (k.kept, k.is_kept, ap (λ m. started m) count, refl) in
              inr (is_off, as_asked, subst (λ (m : Meaning). Boots m machine (started n) new) (sym is) boots);
        };
        shows = record {
          earlier = commits;
          life = record { running = refl; begun = refl; sure = refl; shows = up_shown; pends = pends };
          base = (refl, ap (λ (u : Durable). stands u) after_is, shows.log.count);
          entries = refl;
          synced = refl;
          log = (
            record {
              base_is = ap (λ (u : Durable). stands u) after_is;
              kept = [];
              is_kept = inl refl;
              within = omega arith;
              has = standing_reads now live.log (commits ++ []) (length commits + 0) up_shown.log;
              history = history_begun h.earlier k.kept kept_history;
            },
            standing_sound now live.log commits (length commits) shows.log,
          );
          leaves = up_leaves;
        };
        during = start_during moments;
        sound = stays;
        touches = touches;
        number = λ told base same some.
            let counts : CountsBase (Some base) machine h.earlier = subst (λ (b : Option ℕ). CountsBase b machine h.earlier) some h.base in
            ap (λ m. Some m) (count_all n told base count same counts);
      }

      count_first : (base : Option ℕ) → base ≡ None → CountsBase base machine h.earlier → 0 ≡ length k.kept
      count_first None is (unbegun, none) = ap length (sym (none_kept k.kept front.0 (sym none ∙ front.1)))
      count_first (Some n) is counts = absurd (cc is)

      count_later : (base : ℕ) → CountsBase (Some base) machine h.earlier → live.log.commits - base ≡ length k.kept
      count_later base (begun, base_is, count) = omega (arith, commits_count, count)

      -- the number of those kept is told
      pub start_ups : (answer : Answer) → (node.base ≡ None → answer ≡ started 0)
          → ((base : ℕ) → node.base ≡ Some base → answer ≡ started (live.log.commits - base))
          → Steps first machine start answer node (up_node live) before now
      start_ups answer at_first later = by node.base refl
        where
          by : (base : Option ℕ) → node.base ≡ base → Steps first machine start answer node (up_node live) before now
          by None none =
              steps_at first before now machine start answer (started 0) node (up_node live) (up_node live) (at_first none) refl
              (up_steps 0 (count_first node.base none h.base))
          by (Some base) some =
              let told : ℕ = live.log.commits - base in
              steps_at first before now machine start answer (started told) node (up_node live) (up_node live) (later base some) refl
              (up_steps told (count_later base (subst (λ (b : Option ℕ). CountsBase b machine h.earlier) some h.base)))

  pub start_done : (live : Open) (answer : Answer) → (node.base ≡ None → answer ≡ started 0)
      → ((base : ℕ) → node.base ≡ Some base → answer ≡ started (live.log.commits - base))
      → Pends live [] → (IsSound before latest → ComesUpWith live before now)
      → LeavesOld before now
      → StaysSound before now → Touches IsLogName before now → ((name : List ℕ) (at : ℕ) → IsBroken (reads before) name at → ⊥)
      → Steps first machine start answer node (up_node live) before now
  start_done live answer at_first later pends shows moments stays touches meaning = by machine.base refl h.log
    where
      by : (base : Meaning) → machine.base ≡ base → HasLog base first before machine h.earlier
          → Steps first machine start answer node (up_node live) before now
      by (stands w) is (k, sound) =
          let all : List CommitRecord = h.earlier ++ commits_of k.kept in
          let history = kept_history w is k in
          let can = taken_all h.earlier k.kept history in
          start_ups w is k live pends (shows sound all k.has can (sound_all h.earlier k.kept history)) (moments all k.has can) stays touches
          answer at_first later
      by (broken name at) is (wrong, same) = absurd (meaning name at wrong)

  -- ---- it remains down

  -- as a start that failed leaves what the machine is shown by
  record IsLeft : Type 0 where
    log : HasLog machine.base first now machine h.earlier
    during : Moments (Crashes (Leaves first machine [])) before now

  module _ (stays : StaysSound before now) (touches : Touches IsLogName before now) (left : IsLeft) where
    remains : (life : Life) (state : State) (answer : Answer) → ShowsLife state now (with_life life machine) h.earlier
        → Change machine start answer (with_life life machine) → ((n : ℕ) → answer ≡ started n → ⊥)
        → Steps first machine start answer node (record node { state = state }) before now
    remains life state answer lives change starts = record {
      new = with_life life machine;
      step = record { alive = alive; change = change };
      shows = record {
        earlier = h.earlier;
        life = lives;
        base = base_life node.base life machine h.earlier h.base;
        entries = h.entries;
        synced = h.synced;
        log = log_life machine.base first now life machine h.earlier left.log;
        leaves = at_end (Crashes (Leaves first machine [])) before now left.during;
      };
      during = left.during;
      sound = stays;
      touches = touches;
      number = λ n base is. absurd (starts n is);
    }

    fails : (error : StartErr) → ((name : List ℕ) → error ≡ variants.File name → IsLogName name)
        → ((name : List ℕ) (at : ℕ) → error ≡ variants.Damaged name at
        → Boots machine.base machine (damaged name at) (with_life ruined machine))
        → Steps first machine start (start_answer error) node (down_node node error) before now
    fails (variants.File name) named ruins =
        remains faulted Faulted (fault name) refl (inr (is_off, failed name, (named name refl, refl, refl)))
        (λ n is. absurd (cc is))
    fails variants.Memory named ruins =
        remains starved Starved no_memory refl (inr (is_off, out_of_memory, (refl, refl))) (λ n is. absurd (cc is))
    fails (variants.Damaged name at) named ruins =
        remains ruined Ruined (damaged name at) refl (inr (is_off, as_asked, ruins name at refl)) (λ n is. absurd (cc is))

  place_is : (name : List ℕ) (place at : ℕ) (error : StartErr) → error ≡ variants.Damaged name place → FailsBroken at error
      → (name ≡ latest) × (place ≡ at)
  place_is name place at error is fails = subst (FailsBroken at) is fails

  pub start_failed : (error : StartErr)
      → StillReads before now
      → LeavesOld before now
      → StaysSound before now → Touches IsLogName before now
      → ((name : List ℕ) (at : ℕ) → error ≡ variants.Damaged name at → IsBroken (reads before) name at)
      → ((name : List ℕ) (at : ℕ) → IsBroken (reads before) name at → FailsBroken at error)
      → ((name : List ℕ) (at : ℕ) → IsBroken (reads before) name at → now ≡ before)
      → ((name : List ℕ) → error ≡ variants.File name → IsLogName name)
      → Steps first machine start (start_answer error) node (down_node node error) before now
  start_failed error reading moments stays touches found meaning same named = by machine.base refl h.log
    where
      by : (base : Meaning) → machine.base ≡ base → HasLog base first before machine h.earlier
          → Steps first machine start (start_answer error) node (down_node node error) before now
      by (stands w) is (k, sound) =
          let all : List CommitRecord = h.earlier ++ commits_of k.kept in
          let can = taken_all h.earlier k.kept (kept_history w is k) in
          fails stays touches (record {
            log = subst (λ (m : Meaning). HasLog m first now machine h.earlier) (sym is) (
              record {
                base_is = k.base_is;
                kept = k.kept;
                is_kept = k.is_kept;
                within = k.within;
                has = reading all k.has can;
                history = k.history;
              },
              at_end (λ past. IsSound past latest) before now (stays sound),
            );
            during = start_during w is k (moments all k.has can);
          }) error named (λ name at error_is.
          absurd (reads_not_wrong AreTaken first_taken (reads before latest) all at k.has can (found name at error_is).1))
      by (broken name at) is (wrong, untouched_yet) =
          let unchanged : now ≡ before = same name at wrong in
          fails stays touches (record {
            log = subst (λ (m : Meaning). HasLog m first now machine h.earlier) (sym is)
                (subst (λ past. IsBroken (reads past) name at) (sym unchanged) wrong, unchanged ∙ untouched_yet);
            during = none_done (Crashes (Leaves first machine [])) before now unchanged h.leaves;
          }) error named (λ other place error_is.
          let here = place_is other place at error error_is (meaning name at wrong) in
          subst (λ (m : Meaning). Boots m machine (damaged other place) (with_life ruined machine)) (sym is)
          ((λ i. damaged ((here.0 ∙ sym wrong.0) i) (here.1 i)), refl))

-- ---- a start of a node that is up

pub start_up : (first past : Past) (node : Node) (live : Open) (machine : Machine) → node.state ≡ Up live → Shows first node past machine
    → Steps first machine start is_up node node past past
start_up first past node live machine up h =
    let is_running : machine.life ≡ running = (subst (λ (s : State). ShowsLife s past machine h.earlier) up h.life).running in
    record {
      new = machine;
      step = record { alive = subst IsAlive (sym is_running) tt; change = inl (is_running, (refl, refl)) };
      shows = h;
      during = none_done (Crashes (Leaves first machine [])) past past refl h.leaves;
      sound = λ sound. none_done (λ past. IsSound past latest) past past refl sound;
      touches = untouched IsLogName past past refl;
      number = λ n base is. absurd (cc is);
    }

-- ---- the script's end is a stop

no_entries : (up : Bool) (machine : Machine) → entries_if up stop machine ≡ []
no_entries true machine = refl
no_entries false machine = refl

stop_adds_none : (machine : Machine) (answer : Answer) → added machine (command stop) answer ≡ []
stop_adds_none machine answer = by (is_no_memory answer)
  where
    by : (wanting : Bool) → (if wanting then [] else entries_if (runs machine.life) stop machine) ≡ []
    by true = refl
    by false = no_entries (runs machine.life) machine

pub end_steps : (first before now : Past) (machine : Machine) (answer : Answer) (old_node node : Node)
    → Steps first machine (command stop) answer old_node node before now
    → Steps first machine end answer old_node node before now
end_steps first before now machine answer old_node node h = record {
  new = h.new;
  step = record { alive = h.step.alive; change = h.step.change };
  shows = h.shows;
  during = subst (λ (more : List Entry). Moments (Crashes (Leaves first machine more)) before now) (stop_adds_none machine answer) h.during;
  sound = h.sound;
  touches = h.touches;
  number = h.number;
}
