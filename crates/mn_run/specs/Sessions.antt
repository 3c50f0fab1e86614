-- One event after another: what a session does at each, and how the parts of a run end it.
use Rattle.std.specs.Prelude.{◌≡◌, ◌⊎◌, ℕ, ◌≤◌, Bool, IsTrue, List, ◌∷◌, [], ◌++◌, None, Result, Ok, Err}
use Rattle.file_trait.specs.Counts.{Rose}
use Rattle.file_trait.specs.DiskModel.{Past, clock}
use Rattle.file_trait.specs.Streams.{TookSome}
use Rattle.mn_node.specs.Shown.{Steps}
use Rattle.mn_node.specs.Effects.{Answer, fault, damaged, stopped, is_down}
use Rattle.mn_node.specs.Machine.{Event, Machine, halted, faulted}
use Rattle.mn_node.specs.Machine as machine
use Rattle.mn_node.specs.declared.node.Node.{Node}
use Rattle.mn_node.specs.declared.node.State.TheVariants.{Unstarted}
use Rattle.mn_run.specs.Asks.{IsOfFlushing, Passes}
use Rattle.mn_run.specs.Replies.{text_of}
use Rattle.mn_run.specs.Runs.{World, Act, IfLast, Acted, IsAsked, ArePrinted, Ran, mark_of, mark_if}
use Rattle.mn_run.specs.declared.outcome.Mark.{Mark}
use Rattle.mn_run.specs.declared.outcome.Status.{Status}
use Rattle.mn_run.specs.declared.outcome.Status.TheVariants as status
use Rattle.mn_run.specs.declared.session.Session.{Session}

-- how answering and the script's end may end a run
abbrev pub IsOfAnswering : Status → Type 0
IsOfAnswering (status.Damaged name at) = Unit {0}
IsOfAnswering status.Memory = Unit {0}
IsOfAnswering other = ⊥

abbrev pub IsOfEnding : Status → Type 0
IsOfEnding status.Done = Unit {0}
IsOfEnding status.Memory = Unit {0}
IsOfEnding status.DiskFault = Unit {0}
IsOfEnding other = ⊥

-- a node that was not started yet
abbrev pub new_node : Node
new_node = record { state = Unstarted; base = None; entries = 0; synced = 0 }

-- the node's counts, over a disk that went through this
abbrev pub node_mark : ℕ → Node → Past → ℕ → Mark
node_mark done node past faults = record {
  clock = clock past;
  done = done;
  entries = node.entries;
  synced = node.synced;
  faults = faults;
  wants = 0;
}

-- a reply's line was gathered and its mark taken, or a part of this
pub record Told (answer : Answer) (mark : Mark) (result : Result Unit Status) (old_text new_text : List ℕ)
    (old_marks new_marks : List Mark) : Type 0 where
  pub some : TookSome (text_of answer) old_text new_text
  pub ok : result ≡ Ok tt → (new_text ≡ old_text ++ text_of answer) × (new_marks ≡ old_marks ++ mark ∷ [])
  pub err : (end : Status) → result ≡ Err end → new_marks ≡ old_marks
  pub damage : (name : List ℕ) (at : ℕ) → result ≡ Err (status.Damaged name at) → answer ≡ damaged name at
  pub sound : (name : List ℕ) (at : ℕ) → answer ≡ damaged name at → result ≡ Err (status.Damaged name at)

-- an event was answered, by a step of the machine that node and disk stand for, and its reply told
pub record Served (first : Past) (old : World) (event : Event) (done : ℕ) (result : Result Unit Status)
    (session new : Session) (now : Past) (faults_now : ℕ) : Type 0 where
  pub answer : Answer
  pub steps : Steps first old.machine event answer session.node new.node old.past now
  pub later : old.faults ≤ faults_now
  pub rose : (name : List ℕ) → answer ≡ fault name → Rose old.faults faults_now
  pub answered : ((name : List ℕ) → answer ≡ fault name → ⊥) → faults_now ≡ old.faults
  pub told : Told answer (mark_of done (record { machine = steps.new; past = now; faults = faults_now })) result
      session.text.items new.text.items session.marks.items new.marks.items

-- how the script's end is answered and ends the run
abbrev pub EndsAs : Answer → Machine → Status → Type 0
EndsAs stopped new status.Done = Unit {0}
EndsAs (fault name) new status.DiskFault = Unit {0}
EndsAs is_down new status.Done = new.life ≡ halted
EndsAs is_down new status.DiskFault = new.life ≡ faulted
EndsAs is_down new status.Memory = (new.life ≡ halted → ⊥) × (new.life ≡ faulted → ⊥)
EndsAs answer new status.Memory = Unit {0}
EndsAs answer new other = ⊥

-- the mark of the script's end was taken, but where memory ran out
abbrev pub MarksEnd : Status → List Mark → List Mark → List Mark → Type 0
MarksEnd status.Memory left old new = new ≡ old
MarksEnd other left old new = new ≡ old ++ left

pub record Ended (first : Past) (old : World) (done : ℕ) (end : Status) (session new : Session) (now : Past)
    (faults_now : ℕ) : Type 0 where
  pub answer : Answer
  pub steps : Steps first old.machine machine.end answer session.node new.node old.past now
  pub later : old.faults ≤ faults_now
  pub rose : (name : List ℕ) → answer ≡ fault name → Rose old.faults faults_now
  pub answered : ((name : List ℕ) → answer ≡ fault name → ⊥) → faults_now ≡ old.faults
  pub how : EndsAs answer steps.new end
  pub marked : MarksEnd end
      (mark_if machine.end answer (mark_of done (record { machine = steps.new; past = now; faults = faults_now })))
      session.marks.items new.marks.items

-- a run that ends, where some lines are gathered yet
pub record Halts (script_told sink_told : Bool) (script : List ℕ) (end : Status) (old : World) (now : Past)
    (faults_now : ℕ) (old_out new_out gathered : List ℕ) (marks : List Mark) : Type 0 where
  pub acts : List Act
  pub acted : Acted end old acts now faults_now marks
  pub asked : IsTrue script_told → IsAsked end script acts
  pub printed : IsTrue sink_told → ArePrinted end acts old_out new_out gathered

-- the script's end is not among these acts
abbrev pub AreUnended : List Act → Type 0
AreUnended = IfLast (λ act. act.event ≡ machine.end → ⊥)

-- the status, whether the script's end gave it or it came before
abbrev pub end_of : Result Status Status → Status
end_of (Ok end) = end
end_of (Err end) = end

-- What answering the lines gives: a run that has ended at the script's end, or one that ends before it, with lines that
-- are gathered yet.
abbrev pub Gave : Bool → Bool → List ℕ → Result Status Status → World → Past → ℕ → List ℕ → List ℕ → List ℕ → List Mark
    → Type 0
Gave script_told sink_told script (Ok end) old now faults old_out new_out gathered marks =
    Ran script_told sink_told script end old now faults old_out new_out marks
Gave script_told sink_told script (Err end) old now faults old_out new_out gathered marks =
    (halts : Halts script_told sink_told script end old now faults old_out new_out gathered marks)
    × AreUnended halts.acts

-- What was gathered was written, and the run ends as it was to end, or the sink gave up.
abbrev pub Finished : Status → Status → List ℕ → List ℕ → List ℕ → Type 0
Finished end result gathered written written_now =
    ((result ≡ end) × (written_now ≡ written ++ gathered))
    ⊎ (IsOfFlushing result × Passes (Unit {0}) gathered [] written written_now)
