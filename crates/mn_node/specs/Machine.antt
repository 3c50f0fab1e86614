-- The machine: its states and its steps.
use Rattle.std.specs.Prelude.{◌≡◌, ◌⊎◌, ℕ, ◌≤◌, Bool, true, false, IsTrue, if◌then◌else◌, List, [], ◌∷◌, ◌++◌, length, map, Option, Some, None, is_some}
use Rattle.file_trait.specs.DiskModel.{Past}
use Rattle.db_model.specs.Commits.{CommitRecord}
use Rattle.db_model.specs.Histories.{AreLawful}
use Rattle.db_model.specs.Lawful.{IsSound}
use Rattle.txn_core.specs.Pending.{Txn}
use Rattle.txn_log.specs.Logs.{IsLogName}
use Rattle.mn_node.specs.Durable.{Entry, commit, Durable, beginning, after, boot}
use Rattle.mn_node.specs.Effects.{Command, stop, Answer, started, bad_line, silent, is_down, is_up, no_memory, fault, damaged, is_no_memory, Effect, effect, goes_to_disk, pending_after}
use Rattle.mn_node.specs.Meaning.{Files, latest, Meaning, stands, broken, Stands, StandsClosed, IsBroken, IsPrefixOf, IsOldOr}

-- ---- events

pub data Event : Type 0 where
  start : Event
  command : (c : Command) → Event
  -- a line that is no command, from this byte on
  refused : (at : ℕ) → Event
  -- work behind a command: there is none yet
  turn : Event
  -- the script's end, at which the node is stopped
  end : Event

-- ---- states

-- whether the machine is up, and why it is down
pub data Life : Type 0 where
  unstarted : Life
  running : Life
  -- it was stopped
  halted : Life
  -- the disk failed
  faulted : Life
  -- a start wanted memory
  starved : Life
  -- a start found the directory without a meaning: no step leads on
  ruined : Life

abbrev pub runs : Life → Bool
runs running = true
runs other = false

abbrev pub IsAlive : Life → Type 0
IsAlive ruined = ⊥
IsAlive other = Unit {0}

pub record Machine : Type 0 where
  -- what there was at the last good start, and before the first what the directory means
  pub base : Meaning
  -- what was done since, the oldest first
  pub entries : List Entry
  -- so many of these are known to be durable
  pub synced : ℕ
  -- a fault left the last of them in doubt
  pub doubt : Bool
  pub life : Life
  -- a start was answered well
  pub begun : Bool
  -- the transactions that are pending, in the order of their beginning
  pub pending : List Txn

abbrev pub unstarted_machine : Meaning → Machine
unstarted_machine meaning =
    record { base = meaning; entries = []; synced = 0; doubt = false; life = unstarted; begun = false; pending = [] }

abbrev pub durable_of : Meaning → Durable
durable_of (stands w) = w
durable_of (broken name at) = beginning

abbrev pub now_of : Machine → Durable
now_of machine = after (durable_of machine.base) machine.entries

abbrev pub commit_in : Entry → CommitRecord
commit_in (commit c) = c

abbrev pub commits_of : List Entry → List CommitRecord
commits_of entries = map commit_in entries

-- Each entry was lawful when it was done, on a database of which no table is newer than its version: then a start takes
-- them as they were done.
abbrev pub AreDone : List Entry → Durable → Type 0
AreDone entries w = IsSound w.database × AreLawful (commits_of entries) w.database

-- so it is of a machine whose directory had a meaning
abbrev pub KeepsAs : Meaning → List Entry → Type 0
KeepsAs (stands w) entries = AreDone entries w
KeepsAs (broken name at) entries = Unit {0}

abbrev pub IsLawfulMachine : Machine → Type 0
IsLawfulMachine machine = KeepsAs machine.base machine.entries

abbrev pub entries_of : Option Entry → List Entry
entries_of None = []
entries_of (Some entry) = entry ∷ []

abbrev pub with_life : Life → Machine → Machine
with_life life old = record old { life = life }

abbrev pub with_effect : Effect → List Txn → Machine → Machine
with_effect e pending old = record old {
  entries = old.entries ++ entries_of e.entry;
  synced = if e.settles then length (old.entries ++ entries_of e.entry) else old.synced;
  life = if e.halts then halted else running;
  pending = pending;
}

-- a fault leaves the entry in doubt, where there is one, and no transaction
abbrev pub in_doubt : Effect → Machine → Machine
in_doubt e old = record old {
  entries = old.entries ++ entries_of e.entry;
  doubt = is_some e.entry;
  life = faulted;
  pending = [];
}

-- what may have been kept: all entries, or, where the last is in doubt, all but that one
abbrev pub IsKept : Machine → List Entry → Type 0
IsKept machine kept =
    (machine.entries ≡ kept) ⊎ ((machine.doubt ≡ true) × (last : Entry) × (machine.entries ≡ kept ++ last ∷ []))

abbrev pub booted : Durable → List Entry → Machine
booted w kept =
    let base = stands (boot (after w kept)) in
    record { base = base; entries = []; synced = 0; doubt = false; life = running; begun = true; pending = [] }

-- ---- steps

-- how a start or a command comes out
pub data Choice : Type 0 where
  as_asked : Choice
  out_of_memory : Choice
  failed : (name : List ℕ) → Choice

abbrev pub May : Effect → Choice → Type 0
May e as_asked = Unit {0}
May e out_of_memory = IsTrue e.takes_memory
May e (failed name) = IsTrue (goes_to_disk e) × (name ≡ latest)

abbrev pub Comes : Choice → Effect → List Txn → Machine → Answer → Machine → Type 0
Comes as_asked e pending old answer new = (answer ≡ e.answer) × (new ≡ with_effect e pending old)
Comes out_of_memory e pending old answer new = (answer ≡ no_memory) × (new ≡ old)
Comes (failed name) e pending old answer new = (answer ≡ fault name) × (new ≡ in_doubt e old)

-- the effect of a command here, and what is pending behind it
abbrev pub effect_here : Machine → Command → Effect
effect_here machine c = effect (now_of machine) machine.pending c

abbrev pub pending_behind : Machine → Command → List Txn
pending_behind machine c = pending_after (now_of machine) machine.pending c

-- it is refused with this answer, and nothing changes
abbrev pub Refused : Answer → Machine → Answer → Machine → Type 0
Refused given old answer new = (answer ≡ given) × (new ≡ old)

abbrev pub Does : Command → Machine → Answer → Machine → Type 0
Does c old answer new =
    ((old.life ≡ running) × (choice : Choice) × May (effect_here old c) choice
    × Comes choice (effect_here old c) (pending_behind old c) old answer new)
    ⊎ ((runs old.life ≡ false) × Refused is_down old answer new)

-- a start goes on from what was kept, and a directory without a meaning ruins the machine
abbrev pub Boots : Meaning → Machine → Answer → Machine → Type 0
Boots (stands w) old answer new =
    (kept : List Entry) × IsKept old kept × (answer ≡ started (length kept)) × (new ≡ booted w kept)
Boots (broken name at) old answer new = (answer ≡ damaged name at) × (new ≡ with_life ruined old)

abbrev pub ComesUp : Choice → Machine → Answer → Machine → Type 0
ComesUp as_asked old answer new = Boots old.base old answer new
ComesUp out_of_memory old answer new = (answer ≡ no_memory) × (new ≡ with_life starved old)
ComesUp (failed name) old answer new = IsLogName name × (answer ≡ fault name) × (new ≡ with_life faulted old)

abbrev pub Change : Machine → Event → Answer → Machine → Type 0
Change old start answer new =
    ((old.life ≡ running) × Refused is_up old answer new)
    ⊎ ((runs old.life ≡ false) × (choice : Choice) × ComesUp choice old answer new)
Change old (command c) answer new = Does c old answer new
Change old (refused at) answer new = Refused (bad_line at) old answer new
Change old turn answer new = Refused silent old answer new
Change old end answer new = Does stop old answer new

pub record Step (old : Machine) (event : Event) (answer : Answer) (new : Machine) : Type 0 where
  pub alive : IsAlive old.life
  pub change : Change old event answer new

-- ---- what the files hold, and what a crash leaves

abbrev pub HoldsAs : Meaning → Machine → Files → Type 0
HoldsAs (stands w) machine files =
    (kept : List Entry) × IsKept machine kept × (machine.synced ≤ length kept) × Stands files (after w kept)
HoldsAs (broken name at) machine files = IsBroken files name at

-- the log is closed and has all that the machine has
abbrev pub HoldsClosed : Files → Machine → Type 0
HoldsClosed files machine = StandsClosed files (now_of machine)

-- The files stand for what was kept of the machine, or have no meaning where its base has none. Where it was stopped
-- the log is closed.
abbrev pub Holds : Files → Machine → Type 0
Holds files machine = HoldsAs machine.base machine files × (machine.life ≡ halted → HoldsClosed files machine)

abbrev pub LeavesAs : Bool → Meaning → Past → List Entry → ℕ → Files → Type 0
LeavesAs true (stands w) first entries least files = IsPrefixOf w entries least files
LeavesAs true (broken name at) first entries least files = ⊥
LeavesAs false base first entries least files = IsOldOr first base files

-- What a crash may leave of a machine that may have these entries more, in a run that began on the disk `first`.
-- Until a start was answered well: what a crash could leave at the run's beginning, or what the directory meant then.
-- From then on: the base with a prefix of the entries that has all which are known to be durable.
abbrev pub Leaves : Past → Machine → List Entry → Files → Type 0
Leaves first machine more files =
    LeavesAs machine.begun machine.base first (machine.entries ++ more) machine.synced files

abbrev pub entries_if : Bool → Command → Machine → List Entry
entries_if true c old = entries_of (effect_here old c).entry
entries_if false c old = []

-- what an event that was answered so may add to the log: want of memory adds nothing
abbrev pub added : Machine → Event → Answer → List Entry
added old (command c) answer = if is_no_memory answer then [] else entries_if (runs old.life) c old
added old other answer = []
