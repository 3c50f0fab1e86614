-- What a whole run is.
use Rattle.std.specs.Prelude.{◌≡◌, ℕ, ◌+◌, ◌≤◌, nat_le, Bool, IsTrue, List, [], ◌∷◌, ◌++◌, map, length, Option, Some, None}
use Rattle.std.specs.Bool.{MatchBool}
use Rattle.std.specs.List.{flat_map}
use Rattle.file_trait.specs.Counts.{Rose}
use Rattle.file_trait.specs.DiskModel.{Past, clock, reads, Crashes}
use Rattle.file_trait.specs.Moments.{Moments}
use Rattle.file_trait.specs.Touched.{Touches}
use Rattle.disk_logs.specs.Crash.{IsSound}
use Rattle.db_model.specs.Lawful as databases
use Rattle.txn_log.specs.Logs.{IsLogName}
use Rattle.mn_node.specs.Shown.{StaysSound}
use Rattle.mn_node.specs.Effects.{Answer, fault, damaged, is_down}
use Rattle.mn_node.specs.Machine.{Event, Machine, IsLawfulMachine, unstarted_machine, halted, faulted, ruined, IsAlive, Step, Holds, HoldsClosed, Leaves, added}
use Rattle.mn_node.specs.Machine as machine
use Rattle.mn_node.specs.Meaning.{Files, latest, Meaning, Means, stands, broken}
use Rattle.mn_run.specs.Replies.{text_of}
use Rattle.mn_run.specs.Commands.{Request, AreEventsOf}
use Rattle.mn_run.specs.Script.{plan_of, requests_of_plan}
use Rattle.mn_run.specs.declared.outcome.Mark.{Mark}
use Rattle.mn_run.specs.declared.outcome.Status.{Status}
use Rattle.mn_run.specs.declared.outcome.Status.TheVariants as status
use Rattle.mn_run.specs.declared.session.TheConstants.{MOST_GATHERED}

-- ---- what a run asks of its directory

-- Where the log of a directory with a meaning is closed, a crash is to leave all of it. And no table of its database
-- was made later than the database's version.
abbrev pub IsTrusted : Meaning → Past → Type 0
IsTrusted (stands w) past = IsSound past latest × databases.IsSound w.database
IsTrusted (broken name at) past = Unit {0}

-- ---- acts

-- the machine, the disk, and the disk's count of faults
pub record World : Type 0 where
  pub machine : Machine
  pub past : Past
  pub faults : ℕ

-- an event, the answer to it, and the world behind it
pub record Act : Type 0 where
  pub event : Event
  pub answer : Answer
  pub after : World

-- The act is a step of the machine. At each moment of it a crash leaves what is said of the machine before it and the
-- entries that it adds, and behind it what is said of the machine then, and a closed log may be trusted as before.
-- Behind it the files read as the machine then says, and each entry of the machine was lawful when it was done. No
-- files but those of the log are touched. A fault is answered exactly where the disk's count rose.
pub record Follows (first : Past) (old : World) (act : Act) : Type 0 where
  pub step : Step old.machine act.event act.answer act.after.machine
  pub during :
      Moments (Crashes (Leaves first old.machine (added old.machine act.event act.answer))) old.past act.after.past
  pub behind : Crashes (Leaves first act.after.machine []) act.after.past
  pub held : Holds (reads act.after.past) act.after.machine
  pub lawful : IsLawfulMachine act.after.machine
  pub sound : StaysSound old.past act.after.past
  pub touches : Touches IsLogName old.past act.after.past
  pub later : old.faults ≤ act.after.faults
  pub rose : (name : List ℕ) → act.answer ≡ fault name → Rose old.faults act.after.faults
  pub answered : ((name : List ℕ) → act.answer ≡ fault name → ⊥) → act.after.faults ≡ old.faults

-- a machine before its first start, over a directory with this meaning
abbrev pub unbegun : Meaning → Past → ℕ → World
unbegun meaning past faults = record { machine = unstarted_machine meaning; past = past; faults = faults }

-- each act follows from the world that the one before it left
abbrev pub IsRun : Past → World → List Act → Type 0
IsRun first old [] = Unit {0}
IsRun first old (act ∷ acts) = Follows first old act × IsRun first act.after acts

abbrev pub last_of : World → List Act → World
last_of old [] = old
last_of old (act ∷ acts) = last_of act.after acts

abbrev pub events_of : List Act → List Event
events_of = map (λ act. act.event)

-- ---- what is printed

-- what an act prints: the script's end prints nothing
abbrev pub line_of : Event → Answer → List ℕ
line_of machine.end answer = []
line_of other answer = text_of answer

abbrev pub lines_of_acts : List Act → List ℕ
lines_of_acts = flat_map (λ act. line_of act.event act.answer)

-- what the last act prints, or this where there is none
abbrev pub last_line : List ℕ → List Act → List ℕ
last_line line [] = line
last_line line (act ∷ acts) = last_line (line_of act.event act.answer) acts

-- what holds of the last of these acts, where there is one
abbrev pub OfLast : (Act → Type 0) → Act → List Act → Type 0
OfLast Fact act [] = Fact act
OfLast Fact act (next ∷ acts) = OfLast Fact next acts

abbrev pub IfLast : (Act → Type 0) → List Act → Type 0
IfLast Fact [] = Unit {0}
IfLast Fact (act ∷ acts) = OfLast Fact act acts

-- ---- marks

-- the counts of a world, where so many commands were answered
abbrev pub mark_of : ℕ → World → Mark
mark_of done world = record {
  clock = clock world.past;
  done = done;
  entries = length world.machine.entries;
  synced = world.machine.synced;
  faults = world.faults;
  wants = 0;
}

-- how many commands the event is: a turn and the script's end are none
abbrev pub commands_of : Event → ℕ
commands_of machine.turn = 0
commands_of machine.end = 0
commands_of other = 1

-- the marks that an act leaves: one, but none for a turn, where nothing was to be stopped at the script's end, or where
-- the run ended with damage
abbrev pub mark_if : Event → Answer → Mark → List Mark
mark_if machine.turn answer mark = []
mark_if machine.end is_down mark = []
mark_if event (damaged name at) mark = []
mark_if event answer mark = mark ∷ []

abbrev pub mark_at : ℕ → Act → List Mark
mark_at done act = mark_if act.event act.answer (mark_of done act.after)

-- the marks of commands, the first of which comes after so many
abbrev pub marks_from : ℕ → List Act → List Mark
marks_from done [] = []
marks_from done (act ∷ acts) =
    mark_at (done + commands_of act.event) act ++ marks_from (done + commands_of act.event) acts

-- the marks of a run: the first start counts as no command
abbrev pub marks_of : List Act → List Mark
marks_of [] = []
marks_of (act ∷ acts) = mark_at 0 act ++ marks_from 0 acts

-- ---- crashes

-- What a crash at this moment leaves, by the last act that was over then and the entries that the next one adds.
abbrev pub CrashLeaves : Past → ℕ → World → List Act → Files → Type 0
CrashLeaves first moment old [] files = Leaves first old.machine [] files
CrashLeaves first moment old (act ∷ acts) files =
    MatchBool (nat_le (clock act.after.past) moment) (CrashLeaves first moment act.after acts files)
    (Leaves first old.machine (added old.machine act.event act.answer) files)

-- ---- how a run ends

-- what the status says of the marks that were not taken, of the files and of the last machine
abbrev pub EndsAt : Status → List Mark → Files → Machine → Type 0
EndsAt status.Done unmarked files last = (unmarked ≡ []) × (last.life ≡ halted) × HoldsClosed files last
EndsAt status.DiskFault unmarked files last = (unmarked ≡ []) × (last.life ≡ faulted)
EndsAt (status.TooLong n) unmarked files last = (unmarked ≡ []) × IsAlive last.life
EndsAt status.ReadFault unmarked files last = (unmarked ≡ []) × IsAlive last.life
EndsAt (status.Damaged name at) unmarked files last =
    (unmarked ≡ []) × (last.life ≡ ruined) × (last.base ≡ broken name at)
EndsAt status.WriteFault unmarked files last = Unit {0}
EndsAt status.Memory unmarked files last = Unit {0}
EndsAt status.Usage unmarked files last = ⊥

-- what it says of the requests that no event came of, and of a line over a limit
abbrev pub EndsScript : Status → List Request → Option ℕ → Type 0
EndsScript status.Done later over = (later ≡ []) × (over ≡ None)
EndsScript status.DiskFault later over = (later ≡ []) × (over ≡ None)
EndsScript (status.TooLong n) later over = (later ≡ []) × (over ≡ Some n)
EndsScript other later over = Unit {0}

-- what it says of lines that were not printed
abbrev pub EndsPrinted : Status → List ℕ → Type 0
EndsPrinted status.WriteFault unprinted = Unit {0}
EndsPrinted status.Memory unprinted = Unit {0}
EndsPrinted other unprinted = unprinted ≡ []

-- What is so of the last act of a run that memory ended. At the script's end the mark of it found no room, or the
-- machine was down already, and neither stopped nor for a fault.
abbrev pub WantsAt : Type 0 → Event → Answer → Machine → Type 0
WantsAt AllMarked machine.end is_down last = (last.life ≡ halted → ⊥) × (last.life ≡ faulted → ⊥)
WantsAt AllMarked machine.end answer last = AllMarked → ⊥
WantsAt AllMarked event answer last = Unit {0}

abbrev pub HasWanted : List Act → List Mark → Type 0
HasWanted acts marks = IfLast (λ act. WantsAt (marks_of acts ≡ marks) act.event act.answer act.after.machine) acts

-- The machine went through these acts, and all marks were taken but at most the last. Behind them the files read as it
-- says, and at each moment a crash leaves what it says. A closed log may be trusted at each moment, where it could be
-- at first, and behind them the directory is as a run asks. Nothing is done to a directory without a meaning.
pub record Acted (end : Status) (old : World) (acts : List Act) (now : Past) (faults_now : ℕ) (marks : List Mark)
    : Type 0 where
  pub unmarked : List Mark
  pub run : IsRun old.past old acts
  pub marked : marks_of acts ≡ marks ++ unmarked
  pub few : length unmarked ≤ 1
  pub past : (last_of old acts).past ≡ now
  pub faults : (last_of old acts).faults ≡ faults_now
  pub held : Holds (reads now) (last_of old acts).machine
  pub kept : (name : List ℕ) (at : ℕ) → (last_of old acts).machine.base ≡ broken name at → now ≡ old.past
  pub crash : Moments (λ past. Crashes (CrashLeaves old.past (clock past) old acts) past) old.past now
  pub sound : StaysSound old.past now
  pub trusted : (meaning : Meaning) → Means (reads now) meaning → IsTrusted meaning now
  pub ends : EndsAt end unmarked (reads now) (last_of old acts).machine

-- the acts are of what the script asks for, and of later requests no event came
pub record IsAsked (end : Status) (script : List ℕ) (acts : List Act) : Type 0 where
  pub asked : List Request
  pub later : List Request
  pub read : requests_of_plan (plan_of script) ≡ asked ++ later
  pub are : AreEventsOf asked (events_of acts)
  pub ends : EndsScript end later (plan_of script).over

-- The lines of these acts were printed from the first on, and some at the end are gathered yet or were given up: of
-- these there are no more than may be gathered, and the last act's line.
pub record ArePrinted (end : Status) (acts : List Act) (old_out new_out gathered : List ℕ) : Type 0 where
  pub printed : List ℕ
  pub unprinted : List ℕ
  pub grown : new_out ≡ old_out ++ printed
  pub lines : lines_of_acts acts ≡ printed ++ (gathered ++ unprinted)
  pub few : length (gathered ++ unprinted) ≤ MOST_GATHERED + length (last_line [] acts)
  pub ends : EndsPrinted end unprinted

-- There is one run of the machine, over a start, the commands of the script's lines and the script's end, or the first
-- of these. Its replies were printed and its marks taken, or the first of them. The directory holds the run's entries,
-- and at each moment a crash leaves a prefix of them with all that the last mark before that moment counts as durable,
-- a closed log may be trusted, and each entry was lawful when it was done: so a later run finds the directory as `run`
-- asks, also where this one was killed at some moment. What is said of the script holds where the source tells its
-- bytes, of the replies where the sink does.
pub record Ran (script_told sink_told : Bool) (script : List ℕ) (end : Status) (old : World) (now : Past)
    (faults_now : ℕ) (old_out new_out : List ℕ) (marks : List Mark) : Type 0 where
  pub acts : List Act
  pub acted : Acted end old acts now faults_now marks
  pub asked : IsTrue script_told → IsAsked end script acts
  pub printed : IsTrue sink_told → ArePrinted end acts old_out new_out []
  pub wanted : end ≡ status.Memory → HasWanted acts marks

-- how a run ends whose directory has no meaning from this place on
abbrev pub EndsDamaged : List ℕ → ℕ → Status → Type 0
EndsDamaged name at (status.Damaged file place) = (file ≡ name) × (place ≡ at)
EndsDamaged name at status.Done = ⊥
EndsDamaged name at status.Usage = ⊥
EndsDamaged name at other = Unit {0}

-- how a run ends whose script has this line over a limit, or none
abbrev pub expected : Option ℕ → Status
expected None = status.Done
expected (Some line) = status.TooLong line
