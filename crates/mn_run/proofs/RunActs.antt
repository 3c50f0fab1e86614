-- One act more in a run.
use Rattle.std.proofs.Common.{◌≡◌, ℕ, ◌+◌, ◌≤◌, List, [], ◌∷◌, ◌++◌, length, refl, sym, ap, ◌∙◌, append_assoc, append-nil, arith}
use Rattle.std.proofs.lemmas.List.{flat_map_more, map-append}
use Rattle.file_trait.specs.Counts.{Rose}
use Rattle.file_trait.specs.DiskModel.{Past}
use Rattle.mn_node.specs.Shown.{Steps}
use Rattle.mn_node.specs.Effects.{Answer, is_down, fault, damaged}
use Rattle.mn_node.specs.Machine.{Event, Machine}
use Rattle.mn_node.specs.Machine as machine
use Rattle.mn_node.specs.declared.node.Node.{Node}
use Rattle.mn_node.proofs.NodeFacts.{shows_holds, shows_lawful}
use Rattle.mn_run.specs.Replies.{text_of}
use Rattle.mn_run.specs.Runs.{World, Act, Follows, IsRun, last_of, events_of, line_of, lines_of_acts, last_line, OfLast, IfLast, WantsAt, commands_of, mark_if, mark_at, marks_from, marks_of}
use Rattle.mn_run.specs.Seen.{event}
use Rattle.mn_run.specs.declared.commands.Line.{Line}
use Rattle.mn_run.specs.declared.commands.Line.TheVariants.{Start, Do, Refused}
use Rattle.mn_run.specs.declared.outcome.Mark.{Mark}

abbrev pub world : Machine → Past → ℕ → World
world machine past faults = record { machine = machine; past = past; faults = faults }

abbrev pub act : Event → Answer → World → Act
act event answer after = record { event = event; answer = answer; after = after }

pub follows : (first : Past) (machine : Machine) (before : Past) (faults : ℕ) (event : Event) (answer : Answer)
    (old_node node : Node) (now : Past) (faults_now : ℕ) (s : Steps first machine event answer old_node node before now)
    → faults ≤ faults_now → ((name : List ℕ) → answer ≡ fault name → Rose faults faults_now)
    → (((name : List ℕ) → answer ≡ fault name → ⊥) → faults_now ≡ faults)
    → Follows first (world machine before faults) (act event answer (world s.new now faults_now))
follows first machine before faults event answer old_node node now faults_now s later rose answered = record {
  step = s.step;
  during = s.during;
  behind = s.shows.leaves;
  held = shows_holds first now node s.new s.shows;
  lawful = shows_lawful first now node s.new s.shows;
  sound = s.sound;
  touches = s.touches;
  later = later;
  rose = rose;
  answered = answered;
}

-- a world by its parts
pub world_is : (w : World) (past : Past) (faults : ℕ) → w.past ≡ past → w.faults ≡ faults → world w.machine past faults ≡ w
world_is w past faults p f = λ i. record { machine = w.machine; past = sym p i; faults = sym f i }

pub run_more : (first : Past) (old : World) (acts : List Act) (a : Act) → IsRun first old acts → Follows first (last_of old acts) a
    → IsRun first old (acts ++ a ∷ [])
run_more first old [] a run step = (step, tt)
run_more first old (x ∷ acts) a run step = (run.0, run_more first x.after acts a run.1 step)

pub last_more : (old : World) (acts : List Act) (a : Act) → last_of old (acts ++ a ∷ []) ≡ a.after
last_more old [] a = refl
last_more old (x ∷ acts) a = last_more x.after acts a

pub events_more : (acts : List Act) (a : Act) → events_of (acts ++ a ∷ []) ≡ events_of acts ++ a.event ∷ []
events_more acts a = map-append (λ (x : Act). x.event) acts (a ∷ [])

pub lines_more : (acts : List Act) (a : Act) → lines_of_acts (acts ++ a ∷ []) ≡ lines_of_acts acts ++ line_of a.event a.answer
lines_more acts a = sym (flat_map_more (λ (x : Act). line_of x.event x.answer) [] acts a)

pub last_line_more : (line : List ℕ) (acts : List Act) (a : Act) → last_line line (acts ++ a ∷ []) ≡ line_of a.event a.answer
last_line_more line [] a = refl
last_line_more line (x ∷ acts) a = last_line_more (line_of x.event x.answer) acts a

-- ---- the last act

of_last_more : (Fact : Act → Type 0) (x : Act) (acts : List Act) (a : Act) → Fact a → OfLast Fact x (acts ++ a ∷ [])
of_last_more Fact x [] a is = is
of_last_more Fact x (y ∷ acts) a is = of_last_more Fact y acts a is

pub if_last_more : (Fact : Act → Type 0) (acts : List Act) (a : Act) → Fact a → IfLast Fact (acts ++ a ∷ [])
if_last_more Fact [] a is = is
if_last_more Fact (x ∷ acts) a is = of_last_more Fact x acts a is

of_last_map : (Fact Other : Act → Type 0) → ((a : Act) → Fact a → Other a) → (x : Act) (acts : List Act) → OfLast Fact x acts
    → OfLast Other x acts
of_last_map Fact Other map x [] is = map x is
of_last_map Fact Other map x (y ∷ acts) is = of_last_map Fact Other map y acts is

pub if_last_map : (Fact Other : Act → Type 0) → ((a : Act) → Fact a → Other a) → (acts : List Act) → IfLast Fact acts → IfLast Other acts
if_last_map Fact Other map [] is = tt
if_last_map Fact Other map (x ∷ acts) is = of_last_map Fact Other map x acts is

-- behind another event than the script's end nothing is asked
pub wants_elsewhere : (AllMarked : Type 0) (event : Event) (answer : Answer) (last : Machine) → (event ≡ machine.end → ⊥)
    → WantsAt AllMarked event answer last
wants_elsewhere AllMarked machine.end answer last other = absurd (other refl)
wants_elsewhere AllMarked event answer last other = tt

-- ---- counts of commands, and marks

-- so many commands were answered with these acts
abbrev pub commands_in : ℕ → List Act → ℕ
commands_in done [] = done
commands_in done (x ∷ acts) = commands_in (done + commands_of x.event) acts

-- so many commands were answered with this event behind these acts, the first of which counts as none
abbrev pub done_with : List Act → Event → ℕ
done_with [] event = 0
done_with (x ∷ acts) event = commands_in 0 acts + commands_of event

from_more : (done : ℕ) (acts : List Act) (a : Act) → marks_from done (acts ++ a ∷ []) ≡ marks_from done acts ++ mark_at
    (commands_in done acts + commands_of a.event) a
from_more done [] a = append-nil (mark_at (done + commands_of a.event) a)
from_more done (x ∷ acts) a =
    ap (λ xs. mark_at (done + commands_of x.event) x ++ xs) (from_more (done + commands_of x.event) acts a)
    ∙ sym (append_assoc (mark_at (done + commands_of x.event) x) (marks_from (done + commands_of x.event) acts)
    (mark_at (commands_in (done + commands_of x.event) acts + commands_of a.event) a))

pub marks_more : (acts : List Act) (a : Act) → marks_of (acts ++ a ∷ []) ≡ marks_of acts ++ mark_at (done_with acts a.event) a
marks_more [] a = append-nil (mark_at 0 a)
marks_more (x ∷ acts) a =
    ap (λ xs. mark_at 0 x ++ xs) (from_more 0 acts a) ∙ sym
    (append_assoc (mark_at 0 x) (marks_from 0 acts) (mark_at (commands_in 0 acts + commands_of a.event) a))

commands_more : (done : ℕ) (acts : List Act) (a : Act) → commands_in done (acts ++ a ∷ []) ≡ commands_in done acts + commands_of a.event
commands_more done [] a = refl
commands_more done (x ∷ acts) a = commands_more (done + commands_of x.event) acts a

-- the first act counts as none
pub done_first : (a : Act) (next : Event) → done_with (a ∷ []) next ≡ 0 + commands_of next
done_first a next = refl

-- the count goes on, where there was a first act
pub done_more : (acts : List Act) (a : Act) (done : ℕ) → ((next : Event) → done_with acts next ≡ done + commands_of next)
    → (next : Event) → done_with (acts ++ a ∷ []) next ≡ (done + commands_of a.event) + commands_of next
done_more [] a done h next = absurd (omega (arith, h machine.start))
done_more (x ∷ acts) a done h next = omega (arith, h machine.end, commands_more 0 acts a)

-- at most one mark is left
pub mark_few : (asked : Event) (answer : Answer) (mark : Mark) → length (mark_if asked answer mark) ≤ 1
mark_few machine.turn answer mark = omega arith
mark_few machine.end is_down mark = omega arith
mark_few asked (damaged name at) mark = omega arith
mark_few asked answer mark = omega arith

-- ---- what the lines print and leave

pub prints : (line : Line) (answer : Answer) → line_of (event line) answer ≡ text_of answer
prints Start answer = refl
prints (Do c) answer = refl
prints (Refused at) answer = refl

pub is_command : (line : Line) → commands_of (event line) ≡ 1
is_command Start = refl
is_command (Do c) = refl
is_command (Refused at) = refl

-- no mark at damage
pub no_mark : (line : Line) (name : List ℕ) (at : ℕ) (mark : Mark) → mark_if (event line) (damaged name at) mark ≡ []
no_mark Start name at mark = refl
no_mark (Do c) name at mark = refl
no_mark (Refused place) name at mark = refl

mark_of_event : (asked : Event) (answer : Answer) (mark : Mark) → (asked ≡ machine.turn → ⊥) → (asked ≡ machine.end → ⊥)
    → ((name : List ℕ) (at : ℕ) → answer ≡ damaged name at → ⊥) → mark_if asked answer mark ≡ mark ∷ []
mark_of_event machine.turn answer mark no_turn no_end sound = absurd (no_turn refl)
mark_of_event machine.end answer mark no_turn no_end sound = absurd (no_end refl)
mark_of_event asked (damaged name at) mark no_turn no_end sound = absurd (sound name at refl)
mark_of_event asked answer mark no_turn no_end sound = refl

no_turn : (line : Line) → event line ≡ machine.turn → ⊥
no_turn Start is = cc
no_turn (Do c) is = cc
no_turn (Refused at) is = cc

pub no_end : (line : Line) → event line ≡ machine.end → ⊥
no_end Start is = cc
no_end (Do c) is = cc
no_end (Refused at) is = cc

-- one mark at any other answer
pub one_mark : (line : Line) (answer : Answer) (mark : Mark) → ((name : List ℕ) (at : ℕ) → answer ≡ damaged name at → ⊥)
    → mark_if (event line) answer mark ≡ mark ∷ []
one_mark line answer mark sound = mark_of_event (event line) answer mark (no_turn line) (no_end line) sound
