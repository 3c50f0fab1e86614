-- What a node does is a step of the machine, whatever the command.
use Rattle.std.proofs.Common.{◌≡◌, ◌⊎◌, ℕ, ◌+◌, ◌≤◌, Bool, true, false, if◌then◌else◌, List, [], ◌∷◌, ◌++◌, length, Option, None, Some, is_some, Result, Ok, Err, refl, sym, ap, ◌∙◌, subst, inl, inr, arith, length-append, append-nil}
use Rattle.file_trait.specs.DiskModel.{Past, reads, Crashes}
use Rattle.file_trait.specs.Moments.{Moments}
use Rattle.file_trait.proofs.Moments.{none_done, weaker, at_end}
use Rattle.file_trait.proofs.Touched.{untouched}
use Rattle.disk_logs.specs.Crash.{IsSound}
use Rattle.db_model.specs.Commits.{CommitRecord}
use Rattle.txn_core.specs.Pending.{Txn}
use Rattle.txn_log.specs.Logs as logs
use Rattle.txn_log.specs.Logs.{Reads, IsLogName}
use Rattle.db_model.specs.Histories.{AreLawful}
use Rattle.mn_node.specs.Durable.{Entry, Durable, after, made}
use Rattle.mn_node.specs.Effects.{Command, Effect, Answer, is_no_memory, no_memory, fault, is_down, effect, pending_after}
use Rattle.mn_node.specs.Inside.Tries.{appended, durable, IsDone, Tries, PendsOut, IsPlain, counted, settled_node, failed_node, failed_answer}
use Rattle.mn_node.specs.Machine.{Event, command, effect_here, pending_behind, commits_of, Life, running, halted, runs, IsAlive, Machine, durable_of, now_of, entries_of, with_effect, in_doubt, as_asked, out_of_memory, failed, LeavesAs, Leaves, HoldsClosed, entries_if, added}
use Rattle.mn_node.specs.Meaning.{Files, latest, Meaning, stands, IsPrefixOf}
use Rattle.mn_node.specs.Seen.{answer}
use Rattle.mn_node.specs.Shown.{OpenShows, Pends, HasPending, IsHistory, IsUp, ShowsLife, HasKept, HasLog, CountsBase, Shows, Steps, IsUpState, IsWhole}
use Rattle.mn_node.specs.declared.node.Node.{Node}
use Rattle.mn_node.specs.declared.node.State.{State}
use Rattle.mn_node.specs.declared.node.State.TheVariants.{Unstarted, Up, Stopped, Faulted, Starved, Ruined}
use Rattle.mn_node.specs.declared.open.Done.{Done}
use Rattle.mn_node.specs.declared.open.Open.{Open}
use Rattle.mn_node.specs.declared.open.Trouble.{Trouble}
use Rattle.mn_node.specs.declared.open.Trouble.TheVariants.{File, Memory}
use Rattle.mn_node.proofs.Answers.{starts_none}
use Rattle.mn_node.proofs.Histories.{made_behind, history_more}
use Rattle.mn_node.proofs.Prefixes.{behind_more, behind_count, crash_behind, standing_reads, standing_within, standing_sound, standing_closed, standing_leaves}

-- ---- a machine that was begun

pub begun_base : (base : Option ℕ) (machine : Machine) (earlier : List CommitRecord) → machine.begun ≡ true
    → CountsBase base machine earlier → machine.base ≡ stands (made earlier)
begun_base None machine earlier begun (unbegun, none) = absurd (cc (begun, unbegun))
begun_base (Some n) machine earlier begun (is, base, count) = base

pub base_kept : (base : Option ℕ) (old new : Machine) (earlier : List CommitRecord) → old.begun ≡ true → new.begun ≡ old.begun
    → new.base ≡ old.base
    → CountsBase base old earlier → CountsBase base new earlier
base_kept None old new earlier begun same_begun same_base (unbegun, none) = absurd (cc (begun, unbegun))
base_kept (Some n) old new earlier begun same_begun same_base (is, base, count) = (same_begun ∙ is, same_base ∙ base, count)

pub prefix_leaves : (begun : Bool) (base : Meaning) (first : Past) (w : Durable) (entries : List Entry) (least : ℕ) (files : Files)
    → begun ≡ true → base ≡ stands w
    → IsPrefixOf w entries least files → LeavesAs begun base first entries least files
prefix_leaves begun base first w entries least files begun_is base_is h =
    subst (λ (b : Bool). LeavesAs b base first entries least files) (sym begun_is)
    (subst (λ (m : Meaning). LeavesAs true m first entries least files) (sym base_is) h)

-- ---- counts

count_is : (entry : Option Entry) (wrote : Bool) (n : ℕ) (entries : List Entry) → wrote ≡ is_some entry → n ≡ length entries
    → counted wrote n ≡ length (entries ++ entries_of entry)
count_is None wrote n entries is many = ap (λ (b : Bool). counted b n) is ∙ many ∙ ap length (sym (append-nil entries))
count_is (Some entry) wrote n entries is many =
    ap (λ (b : Bool). counted b n) is ∙ ap (λ k. k + 1) many ∙ sym (length-append entries (entry ∷ []))

synced_is : (settled settles : Bool) (n m a b : ℕ) → settled ≡ settles → n ≡ m → a ≡ b
    → (if settled then n else a) ≡ (if settles then m else b)
synced_is settled settles n m a b is same other =
    ap (λ (k : Bool). if k then n else a) is ∙ ap (λ x. if settles then x else a) same ∙ ap (λ x. if settles then m else x) other

-- so many more are durable
more_synced : (settles : Bool) (front n m : ℕ) (all : ℕ) → all ≡ front + n
    → (if settles then all else front + m) ≡ front + (if settles then n else m)
more_synced true front n m all is = is
more_synced false front n m all is = refl

module _ (first before now : Past) (node : Node) (live : Open) (machine : Machine) (up : node.state ≡ Up live)
    (h : Shows first node before machine) (c : Command) where
  abbrev earlier : List CommitRecord
  earlier = h.earlier

  -- the commits of its log, of which so many are durable
  abbrev pub log_commits : List CommitRecord
  log_commits = h.earlier ++ commits_of machine.entries

  abbrev pub log_synced : ℕ
  log_synced = length h.earlier + machine.synced

  shown : IsUp live before machine h.earlier
  shown = subst (λ (s : State). ShowsLife s before machine h.earlier) up h.life

  pub up_shows : OpenShows live before log_commits log_synced
  up_shows = shown.shows

  pub up_pends : Pends live machine.pending
  up_pends = shown.pends

  is_running : machine.life ≡ running
  is_running = shown.running

  is_begun : machine.begun ≡ true
  is_begun = shown.begun

  base_is : machine.base ≡ stands (made earlier)
  base_is = begun_base node.base machine earlier is_begun h.base

  kept_log : HasKept (stands (made earlier)) machine earlier (reads before) × IsSound before latest
  kept_log = subst (λ (m : Meaning). HasLog m first before machine earlier) base_is h.log

  history : IsHistory earlier machine.entries
  history = kept_log.0.history

  pub now_is : made log_commits ≡ now_of machine
  now_is = made_behind earlier machine.entries history ∙ ap (λ (m : Meaning). after (durable_of m) machine.entries) (sym base_is)

  abbrev e : Effect
  e = effect_here machine c

  -- what is pending behind it
  abbrev pub later : List Txn
  later = pending_behind machine c

  -- what was tried over these commits was tried over the machine's durable state
  pub tried_at : (result : Result Done Trouble) (new_live : Open)
      → Tries (effect (made log_commits) machine.pending c) log_commits log_synced result new_live before now
      → Tries e log_commits log_synced result new_live before now
  tried_at result new_live t =
      subst (λ (w : Durable). Tries (effect w machine.pending c) log_commits log_synced result new_live before now) now_is t

  -- what is pending behind it, over the machine's durable state
  pub pends_at : (result : Result Done Trouble) (new_live : Open)
      → PendsOut result new_live machine.pending (pending_after (durable live) machine.pending c)
      → PendsOut result new_live machine.pending later
  pends_at result new_live h =
      let is : durable live ≡ now_of machine = ap (λ d. record { database = d }) up_shows.same ∙ now_is in
      subst (λ (w : Durable). PendsOut result new_live machine.pending (pending_after w machine.pending c)) is h

  abbrev all : List Entry
  all = machine.entries ++ entries_of e.entry

  all_is : log_commits ++ appended e ≡ earlier ++ commits_of all
  all_is = behind_more earlier machine.entries (entries_of e.entry)

  -- with a lawful commit it is a history still
  more_done : AreLawful (appended e) (made log_commits).database → IsHistory earlier all
  more_done lawful = history_more earlier machine.entries history (entries_of e.entry) lawful

  within : machine.synced ≤ length machine.entries
  within = omega (arith, standing_within before live.log log_commits log_synced up_shows.log, behind_count earlier machine.entries)

  within_all : machine.synced ≤ length all
  within_all = omega (arith, within, length-append machine.entries (entries_of e.entry))

  alive : IsAlive machine.life
  alive = subst IsAlive (sym is_running) tt

  -- what a crash leaves, by the commits of the log
  leaves_as : (new : Machine) (more : List Entry) (commits : List CommitRecord) (least : ℕ) → new.begun ≡ true → new.base ≡ machine.base
      → commits ≡ earlier ++ commits_of (new.entries ++ more)
      → least ≡ length earlier + new.synced → IsHistory earlier (new.entries ++ more) → (past : Past) → logs.Leaves commits least past
      → Crashes (Leaves first new more) past
  leaves_as new more commits least begun base commits_are least_is done past leaves image is =
      let behind : List CommitRecord = earlier ++ commits_of (new.entries ++ more) in
      let left : logs.Leaves behind (length earlier + new.synced) past =
      subst (λ n. logs.Leaves behind n past) least_is (subst (λ cs. logs.Leaves cs least past) commits_are leaves) in
      prefix_leaves new.begun new.base first (made earlier) (new.entries ++ more) new.synced image begun (base ∙ base_is)
      (crash_behind earlier (new.entries ++ more) new.synced past done left image is)

  no_more : (entries : List Entry) (commits : List CommitRecord) → commits ≡ earlier ++ commits_of entries
      → commits ≡ earlier ++ commits_of (entries ++ [])
  no_more entries commits is = is ∙ ap (λ es. earlier ++ commits_of es) (sym (append-nil entries))

  -- what is added where the answer is no want of memory
  added_is : (given : Answer) → is_no_memory given ≡ false → entries_of e.entry ≡ added machine (command c) given
  added_is given plain =
      sym (ap (λ (b : Bool). if b then [] else entries_if (runs machine.life) c machine) plain
      ∙ ap (λ (l : Life). entries_if (runs l) c machine) is_running)

  none_more : (entries : List Entry) → IsHistory earlier entries → IsHistory earlier (entries ++ [])
  none_more entries done = subst (IsHistory earlier) (sym (append-nil entries)) done

  during : (given : Answer) → is_no_memory given ≡ false → IsHistory earlier all
      → Moments (logs.Leaves (log_commits ++ appended e) log_synced) before now
      → Moments (Crashes (Leaves first machine (added machine (command c) given))) before now
  during given plain done moments =
      subst (λ (more : List Entry). Moments (Crashes (Leaves first machine more)) before now) (added_is given plain)
      (weaker (logs.Leaves (log_commits ++ appended e) log_synced) (Crashes (Leaves first machine (entries_of e.entry))) before now
      (leaves_as machine (entries_of e.entry) (log_commits ++ appended e) log_synced is_begun refl all_is refl done) moments)

  -- the log that the machine is shown by
  has_log : (new : Machine) → new.base ≡ machine.base → HasKept (stands (made earlier)) new earlier (reads now) → IsSound now latest
      → HasLog new.base first now new earlier
  has_log new base kept sound = subst (λ (m : Meaning). HasLog m first now new earlier) (sym (base ∙ base_is)) (kept, sound)

  -- a log that stands, with all entries of a machine
  stands_log : (new : Machine) (new_live : Open) → new.base ≡ machine.base → IsHistory earlier new.entries
      → OpenShows new_live now (earlier ++ commits_of new.entries) (length earlier + new.synced)
      → HasLog new.base first now new earlier
  stands_log new new_live base done shows =
      let commits : List CommitRecord = earlier ++ commits_of new.entries in
      let synced : ℕ = length earlier + new.synced in
      has_log new base (record {
        base_is = refl;
        kept = new.entries;
        is_kept = inl refl;
        within = omega (arith, standing_within now new_live.log commits synced shows.log, behind_count earlier new.entries);
        has = standing_reads now new_live.log commits synced shows.log;
        history = done;
      }) (standing_sound now new_live.log commits synced shows.log)

  stands_crash : (new : Machine) (new_live : Open) → new.begun ≡ true → new.base ≡ machine.base → IsHistory earlier new.entries
      → OpenShows new_live now (earlier ++ commits_of new.entries) (length earlier + new.synced)
      → Crashes (Leaves first new []) now
  stands_crash new new_live begun base done shows =
      let commits : List CommitRecord = earlier ++ commits_of new.entries in
      let synced : ℕ = length earlier + new.synced in
      leaves_as new [] commits synced begun base (no_more new.entries commits refl) refl (none_more new.entries done) now
      (standing_leaves now new_live.log commits synced shows.log)

  -- ---- it was done

  module _ (new_live : Open) (done : Done) (t : Tries e log_commits log_synced (Ok done) new_live before now)
      (pends : done.halts ≡ false → Pends new_live later) where
    abbrev settled : Machine
    settled = with_effect e later machine

    is_done : IsDone e done
    is_done = t.out.0

    all_done : IsHistory earlier all
    all_done = more_done t.lawful

    settled_shows : OpenShows new_live now (earlier ++ commits_of all) (length earlier + settled.synced)
    settled_shows =
        let many : ℕ = length (log_commits ++ appended e) in
        let count : many ≡ length earlier + length all = ap length all_is ∙ behind_count earlier all in
        subst (λ n. OpenShows new_live now (earlier ++ commits_of all) n)
        (more_synced e.settles (length earlier) (length all) machine.synced many count)
        (subst (λ cs. OpenShows new_live now cs (if e.settles then many else log_synced)) all_is t.out.1)

    is_closed : e.halts ≡ true → HoldsClosed (reads now) settled
    is_closed halts =
        let is : now_of settled ≡ made (earlier ++ commits_of all) =
        ap (λ (m : Meaning). after (durable_of m) all) base_is ∙ sym (made_behind earlier all all_done) in
        standing_closed now new_live.log (earlier ++ commits_of all) (length earlier + settled.synced) settled_shows.log (t.out.2 halts)
        (now_of settled) settled_shows.taken is

    settled_life : (halts : Bool) → done.halts ≡ halts → halts ≡ e.halts → ShowsLife (if halts then Stopped else Up new_live) now settled
        earlier
    settled_life true is same = (ap (λ (b : Bool). if b then halted else running) (sym same), is_closed (sym same))
    settled_life false is same =
        let runs_on : settled.life ≡ running = ap (λ (b : Bool). if b then halted else running) (sym same) in
        record { running = runs_on; begun = is_begun; sure = shown.sure; shows = settled_shows; pends = pends is }

    settled_count : counted done.wrote node.entries ≡ length all
    settled_count = count_is e.entry done.wrote node.entries machine.entries is_done.wrote h.entries

    pub settled_steps : IsPlain (answer done.reply)
        → Steps first machine (command c) (answer done.reply) node (settled_node (record node { state = Up new_live }) done) before now
    settled_steps plain = record {
      new = settled;
      step = record { alive = alive; change = inl (is_running, as_asked, tt, (is_done.answer, refl)) };
      shows = record {
        earlier = earlier;
        life = settled_life done.halts refl is_done.halts;
        base = base_kept node.base machine settled earlier is_begun refl refl h.base;
        entries = settled_count;
        synced = synced_is done.settles e.settles (counted done.wrote node.entries) (length all) node.synced machine.synced is_done.settles
            settled_count h.synced;
        log = stands_log settled new_live refl all_done settled_shows;
        leaves = stands_crash settled new_live is_begun refl all_done settled_shows;
      };
      during = during (answer done.reply) plain.memory all_done t.during;
      sound = λ sound. t.sound;
      touches = t.touches;
      number = λ n base is. absurd (starts_none (now_of machine) machine.pending c n (sym is_done.answer ∙ is));
    }

  -- ---- memory was wanting

  wanted_steps : (new_live : Open) → Tries e log_commits log_synced (Err Memory) new_live before now → Pends new_live machine.pending
      → Steps first machine (command c) no_memory node (record node { state = Up new_live }) before now
  wanted_steps new_live t pends =
      let shows : OpenShows new_live now log_commits log_synced = t.out.1 in
      record {
        new = machine;
        step = record { alive = alive; change = inl (is_running, out_of_memory, t.out.0, (refl, refl)) };
        shows = record {
          earlier = earlier;
          life = record { running = is_running; begun = is_begun; sure = shown.sure; shows = shows; pends = pends };
          base = h.base;
          entries = h.entries;
          synced = h.synced;
          log = stands_log machine new_live refl history shows;
          leaves = stands_crash machine new_live is_begun refl history shows;
        };
        during = weaker (logs.Leaves (log_commits ++ []) log_synced) (Crashes (Leaves first machine [])) before now
            (leaves_as machine [] (log_commits ++ []) log_synced is_begun refl
            (append-nil log_commits ∙ no_more machine.entries log_commits refl) refl
            (none_more machine.entries history)) t.during;
        sound = λ sound. t.sound;
        touches = t.touches;
        number = λ n base is. absurd (cc is);
      }

  -- ---- a file failed: the entry may be there or not

  kept_old : (entry : Option Entry) (entries : List Entry) (doubt : Bool) → doubt ≡ is_some entry
      → ((entries ++ entries_of entry) ≡ entries) ⊎ ((doubt ≡ true) × (last : Entry) × (entries ++ entries_of entry ≡ entries ++ last ∷ []))
  kept_old None entries doubt is = inl (append-nil entries)
  kept_old (Some entry) entries doubt is = inr (is, entry, refl)

  doubted : IsHistory earlier all
      → Reads log_commits (reads now latest) ⊎ Reads (log_commits ++ appended e) (reads now latest)
      → HasKept (stands (made earlier)) (in_doubt e machine) earlier (reads now)
  doubted done (inl old) = record {
    base_is = refl;
    kept = machine.entries;
    is_kept = kept_old e.entry machine.entries (is_some e.entry) refl;
    within = within;
    has = old;
    history = done;
  }
  doubted done (inr both) = record {
    base_is = refl;
    kept = all;
    is_kept = inl refl;
    within = within_all;
    has = subst (λ cs. Reads cs (reads now latest)) all_is both;
    history = done;
  }

  file_steps : (new_live : Open) (name : List ℕ) (doubt : Bool) → Tries e log_commits log_synced (Err (File name doubt)) new_live before now
      → Steps first machine (command c) (fault name) node (failed_node (record node { state = Up new_live }) (File name doubt)) before now
  file_steps new_live name doubt t =
      let new : Machine = in_doubt e machine in
      let done : IsHistory earlier all = more_done t.lawful in
      record {
        new = new;
        step = record { alive = alive; change = inl (is_running, failed name, (t.out.0, t.out.1), (refl, refl)) };
        shows = record {
          earlier = earlier;
          life = refl;
          base = base_kept node.base machine new earlier is_begun refl refl h.base;
          entries = count_is e.entry doubt node.entries machine.entries t.out.2 h.entries;
          synced = h.synced;
          log = has_log new refl (doubted done t.out.3) (at_end (λ past. IsSound past latest) before now t.sound);
          leaves = leaves_as new [] (log_commits ++ appended e) log_synced is_begun refl
              (no_more all (log_commits ++ appended e) all_is) refl (none_more all done) now
              (at_end (logs.Leaves (log_commits ++ appended e) log_synced) before now t.during);
        };
        during = during (fault name) refl done t.during;
        sound = λ sound. t.sound;
        touches = t.touches;
        number = λ n base is. absurd (cc is);
      }

  pub failed_steps : (new_live : Open) (trouble : Trouble)
      → Tries e log_commits log_synced (Err trouble) new_live before now → PendsOut (Err trouble) new_live machine.pending later
      → Steps first machine (command c) (failed_answer trouble) node (failed_node (record node { state = Up new_live }) trouble) before now
  failed_steps new_live Memory t pends = wanted_steps new_live t pends
  failed_steps new_live (File name doubt) t pends = file_steps new_live name doubt t

-- the pending transactions of a node that is up
pub whole_pending : (state : State) (live : Open) → state ≡ Up live → IsWhole state → HasPending live
whole_pending state live is whole = subst IsWhole is whole

-- they are so where memory was wanting
pub kept_pending : (trouble : Trouble) (live new_live : Open) (after : List Txn → List Txn) → HasPending live
    → ((pending : List Txn) → Pends live pending → PendsOut (Err trouble) new_live pending (after pending))
    → trouble ≡ Memory → HasPending new_live
kept_pending trouble live new_live after (pending, pends) kept is =
    (pending, subst (λ (t : Trouble). PendsOut (Err t) new_live pending (after pending)) is (kept pending pends))

-- the node as a call left it, with the answer that it gave
pub steps_at : (first before now : Past) (machine : Machine) (event : Event) (answer given : Answer) (node left new : Node)
    → answer ≡ given → left ≡ new → Steps first machine event given node new before now
    → Steps first machine event answer node left before now
steps_at first before now machine event answer given node left new answer_is left_is h =
    subst (λ a. Steps first machine event a node left before now) (sym answer_is)
    (subst (λ n. Steps first machine event given node n before now) (sym left_is) h)

-- ---- a node that is down

pub down_alive : (state : State) (past : Past) (machine : Machine) (earlier : List CommitRecord) → IsWhole state
    → ShowsLife state past machine earlier → IsAlive machine.life
down_alive Unstarted past machine earlier whole is = subst IsAlive (sym is) tt
down_alive (Up live) past machine earlier whole is = subst IsAlive (sym is.running) tt
down_alive Stopped past machine earlier whole is = subst IsAlive (sym is.0) tt
down_alive Faulted past machine earlier whole is = subst IsAlive (sym is) tt
down_alive Starved past machine earlier whole is = subst IsAlive (sym is) tt
down_alive Ruined past machine earlier whole is = absurd whole

pub down_runs : (state : State) (past : Past) (machine : Machine) (earlier : List CommitRecord) → ((live : Open) → state ≡ Up live → ⊥)
    → ShowsLife state past machine earlier
    → runs machine.life ≡ false
down_runs Unstarted past machine earlier down is = ap runs is
down_runs (Up live) past machine earlier down is = absurd (down live refl)
down_runs Stopped past machine earlier down is = ap runs is.0
down_runs Faulted past machine earlier down is = ap runs is
down_runs Starved past machine earlier down is = ap runs is
down_runs Ruined past machine earlier down is = ap runs is

pub not_up : (state : State) → ((live : Open) → state ≡ Up live → ⊥) → IsUpState state → ⊥
not_up (Up live) down up = down live refl
not_up other down up = absurd up

pub down_steps : (first past : Past) (node : Node) (machine : Machine) → IsWhole node.state → ((live : Open) → node.state ≡ Up live → ⊥)
    → Shows first node past machine → (c : Command)
    → Steps first machine (command c) is_down node node past past
down_steps first past node machine whole down h c =
    let not : runs machine.life ≡ false = down_runs node.state past machine h.earlier down h.life in
    record {
      new = machine;
      step = record { alive = down_alive node.state past machine h.earlier whole h.life; change = inr (not, (refl, refl)) };
      shows = h;
      during = none_done (Crashes (Leaves first machine (entries_if (runs machine.life) c machine))) past past refl
          (λ image is.
          let none : [] ≡ entries_if (runs machine.life) c machine = sym (ap (λ (b : Bool). entries_if b c machine) not) in
          subst (λ (more : List Entry). Leaves first machine more image) none (h.leaves image is));
      sound = λ sound. none_done (λ past. IsSound past latest) past past refl sound;
      touches = untouched IsLogName past past refl;
      number = λ n base is. absurd (cc is);
    }
