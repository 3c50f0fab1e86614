-- How the loop over the lines begins, goes on and ends.
use Rattle.std.proofs.Common.{◌≡◌, ◌⊎◌, ℕ, ◌+◌, ◌≤◌, ◌<◌, Bool, IsTrue, List, [], ◌∷◌, ◌++◌, length, take, drop, None, Option, Result, Ok, Err, refl, sym, ap, ◌∙◌, subst, inl, inr, append_assoc, append-nil, length-append, arith}
use Rattle.std.proofs.lemmas.List.{take-append-drop}
use Rattle.std.proofs.Math.Seq.{drop-nil}
use Rattle.file_trait.specs.Counts.{Rose}
use Rattle.file_trait.specs.DiskModel.{Past, reads}
use Rattle.txn_core.specs.Pending.{Txn}
use Rattle.mn_node.proofs.Answers.{answers_undamaged}
use Rattle.mn_node.proofs.NodeFacts.{shows_closed, shows_first}
use Rattle.mn_node.specs.Shown.{ShowsLife, Shows, IsFew, IsFaulted, IsWhole}
use Rattle.mn_node.specs.Effects.{Command, stop, Answer, stopped, is_down, fault, damaged, Effect}
use Rattle.mn_node.specs.Machine.{Machine, Event, Life, halted, faulted, ruined, IsAlive, unstarted_machine, Step, Change, Boots, ComesUp, Choice, as_asked, out_of_memory, failed, Comes, now_of, effect_here, pending_behind, Does}
use Rattle.mn_node.specs.Machine as machines
use Rattle.mn_node.specs.Meaning.{Files, Meaning, Means, stands, broken}
use Rattle.mn_node.specs.declared.node.Node.{Node}
use Rattle.mn_node.specs.declared.node.State.{State}
use Rattle.mn_node.specs.declared.node.State.TheVariants.{Unstarted, Up, Stopped, Faulted, Starved, Ruined}
use Rattle.mn_script.specs.Commands.{start}
use Rattle.mn_run.specs.Asks.{Asks, Goes, Passes, GivesUp, IsKeptOrGone, IsOfReading, IsOfFlushing}
use Rattle.mn_run.specs.Commands.{Request, IsEventOf}
use Rattle.mn_run.specs.Commands as requests
use Rattle.mn_run.specs.Replies.{text_of}
use Rattle.mn_run.specs.Runs.{World, Act, Follows, last_of, line_of, WantsAt, HasWanted, commands_of, marks_of, mark_of, mark_if, mark_at, IsTrusted, EndsAt, EndsScript, EndsPrinted, Acted, IsAsked, ArePrinted, Ran}
use Rattle.mn_run.specs.Script.{Plan, behind, plan_of, at_end}
use Rattle.mn_run.specs.Seen.{event}
use Rattle.mn_run.specs.Sessions.{Served, Ended, EndsAs, MarksEnd, IsOfAnswering, IsOfEnding, Finished, Halts, AreUnended, Gave, new_node}
use Rattle.mn_run.specs.declared.asks.Ask.{Ask}
use Rattle.mn_run.specs.declared.asks.Ask.TheVariants as ask
use Rattle.mn_run.specs.declared.commands.Line.{Line}
use Rattle.mn_run.specs.declared.commands.Line.TheVariants.{Start}
use Rattle.mn_run.specs.declared.outcome.Mark.{Mark}
use Rattle.mn_run.specs.declared.outcome.Status.{Status}
use Rattle.mn_run.specs.declared.outcome.Status.TheVariants as status
use Rattle.mn_run.specs.declared.session.Session.{Session}
use Rattle.mn_run.specs.declared.session.TheConstants.{MOST_GATHERED}
use Rattle.mn_run.proofs.Requests.{request_told}
use Rattle.mn_run.proofs.RunActs.{world, act, follows, if_last_more, if_last_map, wants_elsewhere, no_end, done_with, done_more, mark_few, prints, is_command, no_mark, one_mark}
use Rattle.mn_run.proofs.RunFronts.{Point, point, Front, here, front_as, front_on, front_more, marks_with, halt_now, halt_with}

-- ---- how the script's end is answered

answered : (c : Choice) (e : Effect) (pending : List Txn) (old : Machine) (given : Answer) (new : Machine) → e.answer ≡ stopped
    → Comes c e pending old given new → given ≡ stopped → new.life ≡ (machines.with_effect e pending old).life
answered as_asked e pending old given new told (is, so) stops = ap (λ (m : Machine). m.life) so
answered out_of_memory e pending old given new told (is, so) stops = let other = sym is ∙ stops in absurd cc
answered (failed name) e pending old given new told (is, so) stops = let other = sym is ∙ stops in absurd cc

ended_halted : (old : Machine) (given : Answer) (new : Machine) → Change old machines.end given new → EndsAs given new status.Done
    → new.life ≡ halted
ended_halted old stopped new (inl (up, choice, may, comes)) how =
    answered choice (effect_here old stop) (pending_behind old stop) old stopped new refl comes refl
ended_halted old stopped new (inr (down, (is, so))) how = absurd cc
ended_halted old is_down new change how = how
ended_halted old given new change how = absurd how

failed_life : (c : Choice) (e : Effect) (pending : List Txn) (old : Machine) (name : List ℕ) (new : Machine) → e.answer ≡ stopped
    → Comes c e pending old (fault name) new → new.life ≡ faulted
failed_life as_asked e pending old name new told (is, so) = let other = is ∙ told in absurd cc
failed_life out_of_memory e pending old name new told (is, so) = absurd cc
failed_life (failed file) e pending old name new told (is, so) = ap (λ (m : Machine). m.life) so

ended_faulted : (old : Machine) (given : Answer) (new : Machine) → Change old machines.end given new → EndsAs given new status.DiskFault
    → new.life ≡ faulted
ended_faulted old (fault name) new (inl (up, choice, may, comes)) how =
    failed_life choice (effect_here old stop) (pending_behind old stop) old name new refl comes
ended_faulted old (fault name) new (inr (down, (is, so))) how = absurd cc
ended_faulted old is_down new change how = how
ended_faulted old given new change how = absurd how

-- a stop finds no damage
never_damaged : (old : Machine) (name : List ℕ) (at : ℕ) (new : Machine) → Change old machines.end (damaged name at) new → ⊥
never_damaged old name at new (inl (up, as_asked, may, (is, so))) = cc
never_damaged old name at new (inl (up, out_of_memory, may, (is, so))) = cc
never_damaged old name at new (inl (up, failed file, may, (is, so))) = cc
never_damaged old name at new (inr (down, (is, so))) = cc

wants_end : (AllMarked : Type 0) (old : Machine) (given : Answer) (new : Machine) (mark : Mark) → Change old machines.end given new
    → EndsAs given new status.Memory → (0 < length (mark_if machines.end given mark) → AllMarked → ⊥)
    → WantsAt AllMarked machines.end given new
wants_end AllMarked old is_down new mark change how none = how
wants_end AllMarked old (damaged name at) new mark change how none = absurd (never_damaged old name at new change)
wants_end AllMarked old given new mark change how none = none (omega arith)

-- ---- damage

boots_ruin : (base : Meaning) (old : Machine) (name : List ℕ) (at : ℕ) (new : Machine) → old.base ≡ base
    → Boots base old (damaged name at) new → (new.life ≡ ruined) × (new.base ≡ broken name at)
boots_ruin (stands w) old name at new is (kept, among, told, so) = absurd cc
boots_ruin (broken file place) old name at new is (told, so) =
    (ap (λ (m : Machine). m.life) so, ap (λ (m : Machine). m.base) so ∙ is ∙ same file place told)
  where
    same : (file : List ℕ) (place : ℕ) → damaged name at ≡ damaged file place → broken file place ≡ broken name at
    same file place told = cc

up_ruins : (choice : Choice) (old : Machine) (name : List ℕ) (at : ℕ) (new : Machine) → ComesUp choice old (damaged name at) new
    → (new.life ≡ ruined) × (new.base ≡ broken name at)
up_ruins as_asked old name at new comes = boots_ruin old.base old name at new refl comes
up_ruins out_of_memory old name at new (told, so) = absurd cc
up_ruins (failed file) old name at new (named, told, so) = absurd cc

comes_undamaged : (choice : Choice) (w : Command) (old : Machine) (name : List ℕ) (at : ℕ) (new : Machine)
    → Comes choice (effect_here old w) (pending_behind old w) old (damaged name at) new → ⊥
comes_undamaged as_asked w old name at new (told, so) = answers_undamaged (now_of old) old.pending w name at (sym told)
comes_undamaged out_of_memory w old name at new (told, so) = cc
comes_undamaged (failed file) w old name at new (told, so) = cc

does_undamaged : (w : Command) (old : Machine) (name : List ℕ) (at : ℕ) (new : Machine) → Does w old (damaged name at) new → ⊥
does_undamaged w old name at new (inl (up, choice, may, comes)) = comes_undamaged choice w old name at new comes
does_undamaged w old name at new (inr (down, (told, so))) = cc

-- only a start finds damage, and it is the directory's
found_damage : (old : Machine) (asked : Event) (name : List ℕ) (at : ℕ) (new : Machine) → Change old asked (damaged name at) new
    → (new.life ≡ ruined) × (new.base ≡ broken name at)
found_damage old machines.start name at new (inl (up, (told, so))) = absurd cc
found_damage old machines.start name at new (inr (down, choice, comes)) = up_ruins choice old name at new comes
found_damage old (machines.command w) name at new does = absurd (does_undamaged w old name at new does)
found_damage old (machines.refused place) name at new (told, so) = absurd cc
found_damage old machines.turn name at new (told, so) = absurd cc
found_damage old machines.end name at new does = absurd (does_undamaged stop old name at new does)

-- ---- what was asked

-- of the plan the line's request is the first
abbrev pub IsNext : Line → Plan → Plan → Request → Type 0
IsNext line plan later r = IsEventOf r (event line) × (plan ≡ behind (r ∷ []) later)

-- where the source does not tell its bytes, nothing is said of the request
pub do_request : (told : Bool) (asked : Ask) (line : Line) (plan later : Plan) → asked ≡ ask.Do line
    → (IsTrue told → Asks (Ok asked) plan later) → (r : Request) × (IsTrue told → IsNext line plan later r)
do_request told asked line plan later is h =
    request_told told (IsNext line plan later)
    (λ at. let next = subst (λ a. Asks (Ok a) plan later) is (h at) in (next.0, (next.1, next.2)))

pub is_blank : (asked : Ask) (plan later : Plan) → asked ≡ ask.Blank → Asks (Ok asked) plan later → plan ≡ later
is_blank asked plan later is h = subst (λ a. Asks (Ok a) plan later) is h

pub is_end : (asked : Ask) (plan later : Plan) → asked ≡ ask.End → Asks (Ok asked) plan later → plan ≡ record { commands = []; over = None }
is_end asked plan later is h = subst (λ a. Asks (Ok a) plan later) is h

-- a command counts
pub goes_do : (asked : Ask) (line : Line) (before now done done_now : ℕ) → asked ≡ ask.Do line → Goes asked before now done done_now
    → done_now ≡ done + 1
goes_do asked line before now done done_now is h = (subst (λ a. Goes a before now done done_now) is h).1

pub goes_blank : (asked : Ask) (before now done done_now : ℕ) → asked ≡ ask.Blank → Goes asked before now done done_now → done_now ≡ done
goes_blank asked before now done done_now is h = (subst (λ a. Goes a before now done done_now) is h).1

pub goes_end : (asked : Ask) (before now done done_now : ℕ) → asked ≡ ask.End → Goes asked before now done done_now → done_now ≡ done
goes_end asked before now done done_now is h = (subst (λ a. Goes a before now done done_now) is h).1

abbrev pub todo_of : Plan → List Request
todo_of plan = plan.commands ++ at_end plan.over

abbrev pub counts_from : ℕ → Event → ℕ
counts_from done next = done + commands_of next

-- before the first start it counts none
abbrev pub counts_none : Event → ℕ
counts_none next = 0

-- ---- the beginning

pub new_shows : (first : Past) (meaning : Meaning) → Means (reads first) meaning → IsTrusted meaning first
    → Shows first new_node first (unstarted_machine meaning)
new_shows first meaning means trusted =
    shows_first first meaning means (λ w is. subst (λ (m : Meaning). IsTrusted m first) is trusted)

pub node_shows : (first : Past) (meaning : Meaning) (node : Node) → node ≡ new_node → Means (reads first) meaning → IsTrusted meaning first
    → Shows first node first (unstarted_machine meaning)
node_shows first meaning node is means trusted =
    subst (λ (n : Node). Shows first n first (unstarted_machine meaning)) (sym is) (new_shows first meaning means trusted)

pub new_few : (node : Node) → node ≡ new_node → IsFew node 0
new_few node is = subst (λ (n : Node). IsFew n 0) (sym is) (record { commits = tt; entries = omega arith })

-- a node that was not started is down for no fault
pub new_down : (node : Node) → node ≡ new_node → (R : Type 0) → IsFaulted node.state ⊎ R → R
new_down node is R (inr rose) = rose
new_down node is R (inl down) = absurd (subst (λ (n : Node). IsFaulted n.state) is down)

-- the count rose when the node came down for a fault, or since
pub down_more : (Was : Type 0) (old mid new : ℕ) → old ≤ mid → mid ≤ new → (Was → Rose old mid) → Was ⊎ Rose mid new → Rose old new
down_more Was old mid new le later h (inl was) = let rose = h was in omega (arith, rose, later)
down_more Was old mid new le later h (inr rose) = omega (arith, rose, le)

-- no more is gathered
pub less_of : (text text_now : List ℕ) → IsKeptOrGone text text_now → length text_now ≤ length text
less_of text text_now (inl kept) = omega (arith, ap length kept)
less_of text text_now (inr gone) = omega (arith, ap length gone)

module _ (script_told sink_told : Bool) (script : List ℕ) (old : World) (first : List ℕ) where
  abbrev pub FrontAt : (Event → ℕ) → List Request → Option ℕ → Point → Type 0
  FrontAt = Front script_told sink_told script old first

  -- the loop is at a line: of the plan this is left, and so many commands were answered
  abbrev pub SoFar : Plan → ℕ → Point → Type 0
  SoFar plan done now = FrontAt (counts_from done) (todo_of plan) plan.over now

  abbrev pub HaltsAt : Status → Point → Type 0
  HaltsAt end now =
      (halts : Halts script_told sink_told script end old now.past now.faults first now.out now.text now.marks) × AreUnended halts.acts

  -- before the first start
  abbrev pub unstarted : Node → Point
  unstarted node = record { node = node; past = old.past; faults = old.faults; out = first; text = []; marks = [] }

  abbrev pub nothing : (node : Node) → Shows old.past node old.past old.machine
      → FrontAt counts_none (requests.asks start ∷ todo_of (plan_of script)) (plan_of script).over
      (unstarted node)
  nothing node shows = record {
    acts = [];
    run = tt;
    leaves = shows.leaves;
    counted = λ next. refl;
    marked = refl;
    past = refl;
    faults = refl;
    shows = shows;
    read = λ told. record { asked = []; read = refl; are = tt; over_is = refl };
    written = λ told. record { printed = []; grown = sym (append-nil first); lines = refl };
    small = omega arith;
    unended = tt;
  }

  -- the first act counts as none
  first_counts : (a : Act) (acts : List Act) → ((next : Event) → done_with acts next ≡ counts_none next) → (next : Event)
      → done_with (acts ++ a ∷ []) next ≡ counts_from 0 next
  first_counts a [] h next = refl
  first_counts a (x ∷ acts) h next = absurd (omega (arith, h machines.start))

  line_counts : (a : Act) (line : Line) (done done_now : ℕ) → a.event ≡ event line → done_now ≡ done + 1 → (acts : List Act)
      → ((next : Event) → done_with acts next ≡ counts_from done next)
      → (next : Event) → done_with (acts ++ a ∷ []) next ≡ counts_from done_now next
  line_counts a line done done_now same is acts h next =
      omega (arith, done_more acts a done h next, is, is_command line, ap commands_of same)

  -- ---- a line is answered

  module _ (count : Event → ℕ) (todo : List Request) (over : Option ℕ) (now : Point) (line : Line) (r : Request)
      (meant : IsTrue script_told → IsEventOf r (event line)) (f : FrontAt count (r ∷ todo) over now) (result : Result Unit Status)
      (session new : Session) (past : Past) (faults : ℕ) (same_text : session.text.items ≡ now.text)
      (same_marks : session.marks.items ≡ now.marks)
      (h : Served old.past (here script_told sink_told script old first count (r ∷ todo) over now f) (event line)
      (count (event line)) result session new past faults) where
    abbrev then : Point
    then = point new past faults now.out

    abbrev a : Act
    a = act (event line) h.answer (world h.steps.new past faults)

    step : Follows old.past (here script_told sink_told script old first count (r ∷ todo) over now f) a
    step = follows old.past (last_of old f.acts).machine now.past now.faults
        (event line) h.answer session.node new.node past faults h.steps h.later h.rose h.answered

    pub line_more : (count_now : Event → ℕ) → ((before : List Act) → ((next : Event) → done_with before next ≡ count next) → (next : Event)
        → done_with (before ++ a ∷ []) next ≡ count_now next)
        → length now.text ≤ MOST_GATHERED → result ≡ Ok tt → FrontAt count_now todo over then
    line_more count_now counts few ok =
        front_more script_told sink_told script old first count todo over now then a r meant f step h.steps.shows refl refl refl
        count_now counts few
        ((h.told.ok ok).0 ∙ ap (λ xs. xs ++ text_of h.answer) same_text ∙ ap (λ xs. now.text ++ xs) (sym (prints line h.answer)))
        ((h.told.ok ok).1 ∙ ap (λ xs. xs ++ mark_of (count (event line)) a.after ∷ []) same_marks
        ∙ ap (λ xs. now.marks ++ xs) (sym
        (one_mark line h.answer (mark_of (count (event line)) a.after)
        (λ name at is. let other = sym ok ∙ h.told.sound name at is in cc other)))) (no_end line)

    abbrev rest_of : List ℕ
    rest_of = drop h.told.some.n (text_of h.answer)

    rest_is : new.text.items ++ rest_of ≡ now.text ++ line_of (event line) h.answer
    rest_is =
        ap (λ xs. xs ++ rest_of) (h.told.some.grown ∙ ap (λ xs. xs ++ take h.told.some.n (text_of h.answer)) same_text)
        ∙ append_assoc now.text (take h.told.some.n (text_of h.answer)) rest_of
        ∙ ap (λ xs. now.text ++ xs) (take-append-drop h.told.some.n (text_of h.answer) ∙ sym (prints line h.answer))

    abbrev LineHalts : Status → Type 0
    LineHalts end = (halts : Halts script_told sink_told script end old past faults first now.out new.text.items new.marks.items)
        × (halts.acts ≡ f.acts ++ a ∷ [])

    unended : (end : Status) → LineHalts end → HaltsAt end then
    unended end h =
        (h.0, subst AreUnended (sym h.1) (if_last_more (λ (x : Act). x.event ≡ machines.end → ⊥) f.acts a (no_end line)))

    line_ends : (end : Status) → result ≡ Err end → IsOfAnswering end → length now.text ≤ MOST_GATHERED → HaltsAt end then
    line_ends status.Memory err only small = unended status.Memory
        (halt_with script_told sink_told script old first count todo over now then a r meant f step h.steps.shows refl refl refl
        status.Memory rest_of [] (mark_at (count (event line)) a) small rest_is refl
        (h.told.err status.Memory err ∙ same_marks ∙ sym (append-nil now.marks))
        (mark_few (event line) h.answer (mark_of (count (event line)) a.after)) tt (λ told. tt) tt)
    line_ends (status.Damaged name at) err only small =
        let is : h.answer ≡ damaged name at = h.told.damage name at err in
        let found = found_damage (last_of old f.acts).machine (event line) name at h.steps.new
        (subst (λ (x : Answer). Change (last_of old f.acts).machine (event line) x h.steps.new) is h.steps.step.change) in
        unended (status.Damaged name at)
        (halt_with script_told sink_told script old first count todo over now then a r meant f step h.steps.shows refl refl refl
        (status.Damaged name at) rest_of [] [] small rest_is
        (ap (λ (x : Answer). mark_if (event line) x (mark_of (count (event line)) a.after)) is
        ∙ no_mark line name at (mark_of (count (event line)) a.after))
        (h.told.err (status.Damaged name at) err ∙ same_marks ∙ sym (append-nil now.marks)) (omega arith) (refl, found.0, found.1)
        (λ told. tt)
        (ap (λ (x : Answer). drop h.told.some.n (text_of x)) is ∙ drop-nil h.told.some.n))
    line_ends end err only small = absurd only

  -- ---- the loop

  pub first_more : (node : Node) (shows : Shows old.past node old.past old.machine) (session new : Session) (past : Past) (faults : ℕ)
      → session.text.items ≡ [] → session.marks.items ≡ []
      → Served old.past (world old.machine old.past old.faults) machines.start 0 (Ok tt) session new past faults
      → SoFar (plan_of script) 0
      (point new past faults first)
  first_more node shows session new past faults text marks h =
      line_more counts_none (todo_of (plan_of script)) (plan_of script).over
      (unstarted node) Start (requests.asks start) (λ told. refl) (nothing node shows)
      (Ok tt) session new past faults text marks h
      (counts_from 0) (first_counts _) (omega arith) refl

  pub first_ends : (node : Node) (shows : Shows old.past node old.past old.machine) (session new : Session) (past : Past) (faults : ℕ)
      (end : Status) → session.text.items ≡ [] → session.marks.items ≡ []
      → Served old.past (world old.machine old.past old.faults) machines.start 0 (Err end) session new past faults → IsOfAnswering end
      → HaltsAt end (point new past faults first)
  first_ends node shows session new past faults end text marks h only =
      line_ends counts_none (todo_of (plan_of script)) (plan_of script).over
      (unstarted node) Start (requests.asks start) (λ told. refl) (nothing node shows)
      (Err end) session new past faults text marks h
      end refl only (omega arith)

  -- at a line: what was gathered before may be written, and of the plan the line is the first
  abbrev pub at_request : (plan : Plan) (done : ℕ) (now : Point) (todo : List Request) (over : Option ℕ) (out text : List ℕ)
      → (IsTrue script_told → (todo_of plan ≡ todo) × (plan.over ≡ over)) → (IsTrue sink_told → Passes ⊥ now.text text now.out out)
      → length text ≤ length now.text → SoFar plan done now → FrontAt (counts_from done) todo over (record now { out = out; text = text })
  at_request plan done now todo over out text is passed less s =
      front_as script_told sink_told script old first (counts_from done) (todo_of plan) todo plan.over over
      (record now { out = out; text = text }) is
      (front_on script_told sink_told script old first (counts_from done) (todo_of plan) plan.over now out text passed less s)

  pub do_is : (plan later : Plan) (line : Line) (r : Request) → (IsTrue script_told → IsNext line plan later r) → IsTrue script_told
      → (todo_of plan ≡ r ∷ todo_of later) × (plan.over ≡ later.over)
  do_is plan later line r is told = (ap todo_of (is told).1, ap (λ (p : Plan). p.over) (is told).1)

  pub blank_is : (plan later : Plan) → (IsTrue script_told → plan ≡ later) → IsTrue script_told
      → (todo_of plan ≡ todo_of later) × (plan.over ≡ later.over)
  blank_is plan later is told = (ap todo_of (is told), ap (λ (p : Plan). p.over) (is told))

  pub end_is : (plan : Plan) → (IsTrue script_told → plan ≡ record { commands = []; over = None }) → IsTrue script_told
      → (todo_of plan ≡ requests.ends ∷ []) × (plan.over ≡ None)
  end_is plan is told = (ap todo_of (is told), ap (λ (p : Plan). p.over) (is told))

  pub blank_more : (plan later : Plan) (done done_now : ℕ) (now : Point) (out text : List ℕ) → (IsTrue script_told → plan ≡ later)
      → done_now ≡ done → (IsTrue sink_told → Passes ⊥ now.text text now.out out) → length text ≤ length now.text
      → SoFar plan done now → SoFar later done_now (record now { out = out; text = text })
  blank_more plan later done done_now now out text is same passed less s =
      subst (λ n. SoFar later n (record now { out = out; text = text })) (sym same)
      (at_request plan done now (todo_of later) later.over out text (blank_is plan later is) passed less s)

  module _ (plan later : Plan) (done done_now : ℕ) (now : Point) (line : Line) (r : Request)
      (meant : IsTrue script_told → IsNext line plan later r) (f : FrontAt (counts_from done) (r ∷ todo_of later) later.over now)
      (next : done_now ≡ done + 1) (session new : Session) (past : Past) (faults : ℕ)
      (same_text : session.text.items ≡ now.text) (same_marks : session.marks.items ≡ now.marks)
      (few : length now.text ≤ MOST_GATHERED) where
    abbrev ServedHere : ℕ → Result Unit Status → Type 0
    ServedHere n result =
        Served old.past (world (last_of old f.acts).machine now.past now.faults) (event line) n result session new past faults

    count_is : done_now ≡ counts_from done (event line)
    count_is = omega (arith, next, is_command line)

    pub do_more : ServedHere done_now (Ok tt) → SoFar later done_now
        (point new past faults now.out)
    do_more h =
        let g : ServedHere (counts_from done (event line)) (Ok tt) = subst (λ n. ServedHere n (Ok tt)) count_is h in
        line_more (counts_from done) (todo_of later) later.over now line r (λ told. (meant told).0) f (Ok tt) session new past faults
        same_text same_marks g (counts_from done_now) (line_counts _ line done done_now refl next) few refl

    pub do_ends : (end : Status) → ServedHere done_now (Err end) → IsOfAnswering end
        → HaltsAt end (point new past faults now.out)
    do_ends end h only =
        let g : ServedHere (counts_from done (event line)) (Err end) = subst (λ n. ServedHere n (Err end)) count_is h in
        line_ends (counts_from done) (todo_of later) later.over now line r (λ told. (meant told).0) f
        (Err end) session new past faults same_text same_marks g end refl only few

  -- ---- reading or writing ends the run

  -- where no start found the directory broken the machine goes on
  is_alive : (begun past : Past) (node : Node) (machine : Machine) → Shows begun node past machine → IsWhole node.state
      → IsAlive machine.life
  is_alive begun past node machine h = by node.state h.life
    where
      by : (state : State) → ShowsLife state past machine h.earlier → IsWhole state → IsAlive machine.life
      by Unstarted life whole = subst IsAlive (sym life) tt
      by (Up live) life whole = subst IsAlive (sym life.running) tt
      by Stopped life whole = subst IsAlive (sym life.0) tt
      by Faulted life whole = subst IsAlive (sym life) tt
      by Starved life whole = subst IsAlive (sym life) tt
      by Ruined life whole = absurd whole

  read_at : (end : Status) (files : Files) (last : Machine) → IsOfReading end → IsAlive last.life → EndsAt end [] files last
  read_at status.Done files last only alive = absurd only
  read_at status.Usage files last only alive = absurd only
  read_at status.ReadFault files last only alive = (refl, alive)
  read_at status.WriteFault files last only alive = tt
  read_at status.DiskFault files last only alive = absurd only
  read_at (status.Damaged name at) files last only alive = absurd only
  read_at status.Memory files last only alive = tt
  read_at (status.TooLong n) files last only alive = (refl, alive)

  read_script : (plan later : Plan) (end : Status) → Asks (Err end) plan later → IsOfReading end → EndsScript end (todo_of plan) plan.over
  read_script plan later status.Done asks only = absurd only
  read_script plan later status.Usage asks only = absurd only
  read_script plan later status.ReadFault asks only = tt
  read_script plan later status.WriteFault asks only = tt
  read_script plan later status.DiskFault asks only = absurd only
  read_script plan later (status.Damaged name at) asks only = absurd only
  read_script plan later status.Memory asks only = tt
  read_script plan later (status.TooLong n) asks only = (ap todo_of asks, ap (λ (p : Plan). p.over) asks)

  pub read_ends : (plan later : Plan) (done : ℕ) (now : Point) (out text : List ℕ) (end : Status) (s : SoFar plan done now)
      → IsWhole now.node.state → (IsTrue script_told → Asks (Err end) plan later) → IsOfReading end
      → (IsTrue sink_told → Passes (GivesUp {T = Ask} (Err end)) now.text text now.out out)
      → HaltsAt end (record now { out = out; text = text })
  read_ends plan later done now out text end s whole asks only passed =
      halt_now script_told sink_told script old first Ask (counts_from done) (todo_of plan) plan.over now out text end s
      (read_at end (reads now.past) (last_of old s.acts).machine only
      (is_alive old.past now.past now.node (last_of old s.acts).machine s.shows whole))
      (λ told. read_script plan later end (asks told) only) passed

  pub flush_ends : (count : Event → ℕ) (todo : List Request) (over : Option ℕ) (now : Point) (out text : List ℕ) (end : Status)
      (f : FrontAt count todo over now) → IsOfFlushing end
      → (IsTrue sink_told → Passes (GivesUp {T = Unit {0}} (Err end)) now.text text now.out out)
      → HaltsAt end (record now { out = out; text = text })
  flush_ends count todo over now out text end f only passed =
      halt_now script_told sink_told script old first (Unit {0}) count todo over now out text end f
      (flush_at end (reads now.past) (last_of old f.acts).machine only) (λ told. flush_script end only) passed
    where
      flush_at : (end : Status) (files : Files) (last : Machine) → IsOfFlushing end → EndsAt end [] files last
      flush_at status.WriteFault files last only = tt
      flush_at status.Memory files last only = tt
      flush_at end files last only = absurd only

      flush_script : (end : Status) → IsOfFlushing end → EndsScript end todo over
      flush_script status.WriteFault only = tt
      flush_script status.Memory only = tt
      flush_script end only = absurd only

  -- ---- the script's end

  ran_of : (end : Status) (now : Point) → now.text ≡ []
      → (h : Halts script_told sink_told script end old now.past now.faults first now.out now.text now.marks)
      → (end ≡ status.Memory → HasWanted h.acts now.marks)
      → Ran script_told sink_told script end old now.past now.faults first now.out now.marks
  ran_of end now none h wanted = record {
    acts = h.acts;
    acted = h.acted;
    asked = h.asked;
    printed = λ told. subst (λ xs. ArePrinted end h.acts first now.out xs) none (h.printed told);
    wanted = wanted;
  }

  module _ (done done_now : ℕ) (now : Point) (f : FrontAt (counts_from done) (requests.ends ∷ []) None now) (same : done_now ≡ done)
      (none : now.text ≡ []) (session new : Session) (past : Past) (faults : ℕ) (same_marks : session.marks.items ≡ now.marks)
      (end : Status)
      (h : Ended old.past (world (last_of old f.acts).machine now.past now.faults) done_now end session new past faults) where
    abbrev ended : Point
    ended = record { node = new.node; past = past; faults = faults; out = now.out; text = []; marks = new.marks.items }

    abbrev b : Act
    b = act machines.end h.answer (world h.steps.new past faults)

    abbrev left : List Mark
    left = mark_if machines.end h.answer (mark_of done_now b.after)

    left_is : mark_at (counts_from done machines.end) b ≡ left
    left_is = let count : counts_from done machines.end ≡ done_now = omega (arith, same) in ap (λ n. mark_at n b) count

    ends_with : (taken unmarked : List Mark) → left ≡ taken ++ unmarked → new.marks.items ≡ session.marks.items ++ taken
        → length unmarked ≤ 1 → EndsAt end unmarked (reads past) h.steps.new → EndsScript end [] None → EndsPrinted end []
        → (end ≡ status.Memory → HasWanted (f.acts ++ b ∷ []) new.marks.items)
        → Ran script_told sink_told script end old past faults first now.out new.marks.items
    ends_with taken unmarked mark marks few ends asks prints wanted =
        let halts =
        (halt_with script_told sink_told script old first (counts_from done) [] None now ended b requests.ends (λ told. refl) f
        (follows old.past (last_of old f.acts).machine now.past now.faults machines.end h.answer session.node new.node past faults h.steps
        h.later h.rose h.answered) h.steps.shows refl refl refl
        end [] taken unmarked (omega (arith, ap length none)) (sym none ∙ sym (append-nil now.text)) (left_is ∙ mark)
        (marks ∙ ap (λ xs. xs ++ taken) same_marks) few ends (λ told. asks) prints) in
        ran_of end ended refl halts.0 (λ is. subst (λ acts. HasWanted acts new.marks.items) (sym halts.1) (wanted is))

    all_taken : new.marks.items ≡ session.marks.items ++ left → EndsAt end [] (reads past) h.steps.new → EndsScript end [] None
        → EndsPrinted end [] → (end ≡ status.Memory → ⊥)
        → Ran script_told sink_told script end old past faults first now.out new.marks.items
    all_taken marks ends asks prints other =
        ends_with left [] (sym (append-nil left)) marks (omega arith) ends asks prints (λ is. absurd (other is))

    -- the mark of the end is not among those that were taken
    none_marked : new.marks.items ≡ session.marks.items → 0 < length left → marks_of (f.acts ++ b ∷ []) ≡ new.marks.items → ⊥
    none_marked none some all =
        let parts = marks_with script_told sink_told script old first (counts_from done) [] None now ended b requests.ends (λ told. refl) f
        (follows old.past (last_of old f.acts).machine now.past now.faults machines.end h.answer session.node new.node past faults h.steps
        h.later h.rose h.answered) h.steps.shows refl refl refl [] left left_is
        (none ∙ same_marks ∙ sym (append-nil now.marks)) in
        omega (arith, ap length parts, ap length all, length-append new.marks.items left, some)

    pub end_ends : (how : Status) → end ≡ how → IsOfEnding how
        → Ran script_told sink_told script end old past faults first now.out new.marks.items
    end_ends status.Done is only =
        let life : h.steps.new.life ≡ halted =
        ended_halted (last_of old f.acts).machine h.answer h.steps.new h.steps.step.change
        (subst (EndsAs h.answer h.steps.new) is h.how) in
        all_taken (subst (λ e. MarksEnd e left session.marks.items new.marks.items) is h.marked)
        (subst (λ e. EndsAt e [] (reads past) h.steps.new) (sym is)
        (refl, life, shows_closed old.past past new.node h.steps.new h.steps.shows life))
        (subst (λ e. EndsScript e [] None) (sym is) (refl, refl)) (subst (λ e. EndsPrinted e []) (sym is) refl)
        (λ wants. let other = sym is ∙ wants in cc other)
    end_ends status.DiskFault is only =
        let life : h.steps.new.life ≡ faulted =
        ended_faulted (last_of old f.acts).machine h.answer h.steps.new h.steps.step.change
        (subst (EndsAs h.answer h.steps.new) is h.how) in
        all_taken (subst (λ e. MarksEnd e left session.marks.items new.marks.items) is h.marked)
        (subst (λ e. EndsAt e [] (reads past) h.steps.new) (sym is) (refl, life)) (subst (λ e. EndsScript e [] None) (sym is) (refl, refl))
        (subst (λ e. EndsPrinted e []) (sym is) refl) (λ wants. let other = sym is ∙ wants in cc other)
    end_ends status.Memory is only =
        let at : (unmarked : List Mark) → EndsAt end unmarked (reads past) h.steps.new = λ unmarked. subst
        (λ e. EndsAt e unmarked (reads past) h.steps.new) (sym is) tt in
        let asks : EndsScript end [] None = subst (λ e. EndsScript e [] None) (sym is) tt in
        let prints : EndsPrinted end [] = subst (λ e. EndsPrinted e []) (sym is) tt in
        let none = subst (λ e. MarksEnd e left session.marks.items new.marks.items) is h.marked in
        ends_with [] left refl (none ∙ sym (append-nil session.marks.items))
        (mark_few machines.end h.answer (mark_of done_now b.after)) (at left) asks prints
        (λ wants. if_last_more
        (λ (x : Act). WantsAt (marks_of (f.acts ++ b ∷ []) ≡ new.marks.items) x.event x.answer x.after.machine) f.acts b
        (wants_end (marks_of (f.acts ++ b ∷ []) ≡ new.marks.items) (last_of old f.acts).machine h.answer h.steps.new
        (mark_of done_now b.after) h.steps.step.change (subst (EndsAs h.answer h.steps.new) is h.how) (none_marked none)))
    end_ends status.ReadFault is only = absurd only
    end_ends status.WriteFault is only = absurd only
    end_ends status.Usage is only = absurd only
    end_ends (status.TooLong n) is only = absurd only
    end_ends (status.Damaged name at) is only = absurd only

  -- ---- what is gathered yet is written

  acted_as : (end result : Status) (acts : List Act) (now : Past) (faults : ℕ) (marks : List Mark) → (result ≡ end) ⊎ IsOfFlushing result
      → Acted end old acts now faults marks → Acted result old acts now faults marks
  acted_as end result acts now faults marks (inl same) h = subst (λ e. Acted e old acts now faults marks) (sym same) h
  acted_as end result acts now faults marks (inr only) h = record {
    unmarked = h.unmarked;
    run = h.run;
    marked = h.marked;
    few = h.few;
    past = h.past;
    faults = h.faults;
    held = h.held;
    kept = h.kept;
    crash = h.crash;
    sound = h.sound;
    trusted = h.trusted;
    ends = by result only;
  }
    where
      by : (e : Status) → IsOfFlushing e → EndsAt e h.unmarked (reads now) (last_of old acts).machine
      by status.WriteFault only = tt
      by status.Memory only = tt
      by e only = absurd only

  asked_as : (end result : Status) (acts : List Act) → (result ≡ end) ⊎ IsOfFlushing result → IsAsked end script acts
      → IsAsked result script acts
  asked_as end result acts (inl same) h = subst (λ e. IsAsked e script acts) (sym same) h
  asked_as end result acts (inr only) h = record {
    asked = h.asked;
    later = h.later;
    read = h.read;
    are = h.are;
    ends = by result only;
  }
    where
      by : (e : Status) → IsOfFlushing e → EndsScript e h.later (plan_of script).over
      by status.WriteFault only = tt
      by status.Memory only = tt
      by e only = absurd only

  printed_as : (end result : Status) (acts : List Act) (out text out_now : List ℕ) → Finished end result text out out_now
      → ArePrinted end acts first out text → ArePrinted result acts first out_now []
  printed_as end result acts out text out_now (inl (same, all)) h = record {
    printed = h.printed ++ text;
    unprinted = h.unprinted;
    grown = all ∙ ap (λ xs. xs ++ text) h.grown ∙ append_assoc first h.printed text;
    lines = h.lines ∙ sym (append_assoc h.printed text h.unprinted);
    few = omega (arith, h.few, length-append text h.unprinted);
    ends = subst (λ e. EndsPrinted e h.unprinted) (sym same) h.ends;
  }
  printed_as end result acts out text out_now (inr (only, p)) h = record {
    printed = h.printed ++ p.sent;
    unprinted = p.lost ++ h.unprinted;
    grown = p.grown ∙ ap (λ xs. xs ++ p.sent) h.grown ∙ append_assoc first h.printed p.sent;
    lines = h.lines ∙ ap (λ xs. h.printed ++ (xs ++ h.unprinted)) p.parts
        ∙ ap (λ xs. h.printed ++ xs) (append_assoc p.sent p.lost h.unprinted) ∙ sym (append_assoc h.printed p.sent (p.lost ++ h.unprinted));
    few = omega (
      arith,
      h.few,
      length-append text h.unprinted,
      ap length p.parts,
      length-append p.sent p.lost,
      length-append p.lost
          h.unprinted,
    );
    ends = by result only;
  }
    where
      by : (e : Status) → IsOfFlushing e → EndsPrinted e (p.lost ++ h.unprinted)
      by status.WriteFault only = tt
      by status.Memory only = tt
      by e only = absurd only

  pub finish_ends : (end result : Status) (now : Past) (faults : ℕ) (out text out_now : List ℕ) (marks : List Mark)
      → (result ≡ end) ⊎ IsOfFlushing result → (IsTrue sink_told → Finished end result text out out_now)
      → ((halts : Halts script_told sink_told script end old now faults first out text marks) × AreUnended halts.acts)
      → Ran script_told sink_told script result old now faults first out_now marks
  finish_ends end result now faults out text out_now marks how finished (h, open_yet) = record {
    acts = h.acts;
    acted = acted_as end result h.acts now faults marks how h.acted;
    asked = λ told. asked_as end result h.acts how (h.asked told);
    printed = λ told. printed_as end result h.acts out text out_now (finished told) (h.printed told);
    wanted = λ wants. if_last_map (λ (x : Act). x.event ≡ machines.end → ⊥)
        (λ (x : Act). WantsAt (marks_of h.acts ≡ marks) x.event x.answer x.after.machine)
        (λ x other. wants_elsewhere (marks_of h.acts ≡ marks) x.event x.answer x.after.machine other) h.acts open_yet;
  }

  -- a status ended the loop
  pub gave_err : (end : Status) (result : Result Status Status) (now : Point) → result ≡ Err end → HaltsAt end now
      → Gave script_told sink_told script result old now.past now.faults first now.out now.text now.marks
  gave_err end result now is h =
      subst (λ (r : Result Status Status). Gave script_told sink_told script r old now.past now.faults first now.out now.text now.marks)
      (sym is) h
