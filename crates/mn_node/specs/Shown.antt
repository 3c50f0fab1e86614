-- What a node and its disk stand for.
use Rattle.std.specs.Prelude.{◌≡◌, ℕ, ◌+◌, ◌≤◌, ◌<◌, ◌^◌, true, false, List, [], ◌++◌, length, Option, Some, None}
use Rattle.std.specs.List.{AllByRecursion}
use Rattle.file_trait.specs.DiskModel.{Past, reads, Crashes}
use Rattle.file_trait.specs.Moments.{Moments}
use Rattle.file_trait.specs.Touched.{Touches}
use Rattle.disk_logs.specs.Crash.{IsSound}
use Rattle.disk_logs.specs.Logs.{IsLog}
use Rattle.db_model.specs.Commits.{CommitRecord}
use Rattle.db_model.specs.Database.{Table}
use Rattle.db_model.specs.Lawful as databases
use Rattle.db_model.specs.Names.{IsTableName}
use Rattle.db_state.specs.Live.{database}
use Rattle.txn_core.specs.Pending.{Txn}
use Rattle.txn_core.specs.Shown as shown
use Rattle.txn_core.specs.Sound.{Sound}
use Rattle.txn_log.specs.Logs.{Reads, TxnStands, handle, IsLogName}
use Rattle.mn_node.specs.Durable.{Entry, made}
use Rattle.mn_node.specs.Effects.{Answer, started}
use Rattle.mn_node.specs.Machine.{Machine, Event, Step, IsKept, HoldsClosed, Leaves, added, commits_of, AreDone, unstarted, running, halted, faulted, starved, ruined}
use Rattle.mn_node.specs.Meaning.{Files, latest, Meaning, stands, broken, IsBroken, AreTaken}
use Rattle.mn_node.specs.declared.node.Node.{Node}
use Rattle.mn_node.specs.declared.node.State.{State}
use Rattle.mn_node.specs.declared.node.State.TheVariants.{Unstarted, Up, Stopped, Faulted, Starved, Ruined}
use Rattle.mn_node.specs.declared.open.Open.{Open}

-- The log has these commits, of which so many are durable, and the live database is what they make.
pub record OpenShows (live : Open) (past : Past) (commits : List CommitRecord) (synced : ℕ) : Type 0 where
  pub same : database live.tables ≡ (made commits).database
  pub log : TxnStands past live.log commits synced
  pub taken : AreTaken commits
  pub sound : databases.IsSound (made commits).database

-- the table is called what one can be
abbrev pub IsNamed : Table → Type 0
IsNamed table = IsTableName table.definition.name

-- These transactions are pending, and sound over the tables of the live database.
pub record Pends (live : Open) (pending : List Txn) : Type 0 where
  pub shows : shown.Shows live.txns pending
  pub sound : Sound record { tables = (database live.tables).tables; pending = pending }
  pub named : AllByRecursion IsNamed (database live.tables).tables

abbrev pub HasPending : Open → Type 0
HasPending live = (pending : List Txn) × Pends live pending

-- a start took the earlier commits, and behind them each entry was lawful when it was done
pub record IsHistory (earlier : List CommitRecord) (entries : List Entry) : Type 0 where
  pub taken : AreTaken earlier
  pub done : AreDone entries (made earlier)

-- the machine runs, and the log has the earlier commits and those of its entries
pub record IsUp (live : Open) (past : Past) (machine : Machine) (earlier : List CommitRecord) : Type 0 where
  pub running : machine.life ≡ running
  pub begun : machine.begun ≡ true
  pub sure : machine.doubt ≡ false
  pub shows : OpenShows live past (earlier ++ commits_of machine.entries) (length earlier + machine.synced)
  pub pends : Pends live machine.pending

abbrev pub ShowsLife : State → Past → Machine → List CommitRecord → Type 0
ShowsLife Unstarted past machine earlier = machine.life ≡ unstarted
ShowsLife (Up live) past machine earlier = IsUp live past machine earlier
ShowsLife Stopped past machine earlier = (machine.life ≡ halted) × HoldsClosed (reads past) machine
ShowsLife Faulted past machine earlier = machine.life ≡ faulted
ShowsLife Starved past machine earlier = machine.life ≡ starved
ShowsLife Ruined past machine earlier = machine.life ≡ ruined

-- behind the earlier commits, which make this base, the log has those of the entries that were kept
pub record HasKept (base : Meaning) (machine : Machine) (earlier : List CommitRecord) (files : Files) : Type 0 where
  pub base_is : base ≡ stands (made earlier)
  pub kept : List Entry
  pub is_kept : IsKept machine kept
  pub within : machine.synced ≤ length kept
  pub has : Reads (earlier ++ commits_of kept) (files latest)
  pub history : IsHistory earlier machine.entries

abbrev pub HasLog : Meaning → Past → Past → Machine → List CommitRecord → Type 0
HasLog (stands w) first past machine earlier = HasKept (stands w) machine earlier (reads past) × IsSound past latest
HasLog (broken name at) first past machine earlier = IsBroken (reads past) name at × (past ≡ first)

-- how many commits there were at the last good start, none before the first
abbrev pub CountsBase : Option ℕ → Machine → List CommitRecord → Type 0
CountsBase None machine earlier = (machine.begun ≡ false) × (machine.entries ≡ [])
CountsBase (Some n) machine earlier =
    (machine.begun ≡ true) × (machine.base ≡ stands (made earlier)) × (n ≡ length earlier)

-- Node and disk stand for the machine, in a run that began on the disk `first`. Where the directory has a meaning, a
-- closed log may be trusted; where it has none, nothing was done to it.
pub record Shows (first : Past) (node : Node) (past : Past) (machine : Machine) : Type 0 where
  -- the commits of the log at the last good start, or at the run's beginning
  pub earlier : List CommitRecord
  pub life : ShowsLife node.state past machine earlier
  pub base : CountsBase node.base machine earlier
  pub entries : node.entries ≡ length machine.entries
  pub synced : node.synced ≡ machine.synced
  pub log : HasLog machine.base first past machine earlier
  pub leaves : Crashes (Leaves first machine []) past

-- where a closed log could be trusted before, it can be at each moment from then to now
abbrev pub StaysSound : Past → Past → Type 0
StaysSound before now = IsSound before latest → Moments (λ past. IsSound past latest) before now

-- A step to a machine that node and disk stand for. At each moment of it a crash leaves what is said of the old
-- machine and of what the step adds.
pub record Steps (first : Past) (old : Machine) (event : Event) (answer : Answer) (old_node node : Node)
    (before now : Past) : Type 0 where
  pub new : Machine
  pub step : Step old event answer new
  pub shows : Shows first node now new
  pub during : Moments (Crashes (Leaves first old (added old event answer))) before now
  pub sound : StaysSound before now
  -- no files but those of the log
  pub touches : Touches IsLogName before now
  -- so many commits as are told were kept behind those at the last good start
  pub number : (n base : ℕ) → answer ≡ started n → old_node.base ≡ Some base → node.base ≡ Some (base + n)

-- ---- what is so of a node by itself

-- the log of a node that is up is a file of items
abbrev pub HasLogOf : State → Past → Type 0
HasLogOf (Up live) past = IsLog past (handle live.log)
HasLogOf other past = Unit {0}

abbrev pub IsUpState : State → Type 0
IsUpState (Up live) = Unit {0}
IsUpState other = ⊥

abbrev pub IsFaulted : State → Type 0
IsFaulted Faulted = Unit {0}
IsFaulted other = ⊥

-- no start found damage, and what is kept of pending transactions is that of some
abbrev pub IsWhole : State → Type 0
IsWhole Ruined = ⊥
IsWhole (Up live) = HasPending live
IsWhole other = Unit {0}

-- the numbers that a node counts are small where so many commands were answered
abbrev pub CountsFew : State → ℕ → Type 0
CountsFew (Up live) n = live.log.commits < 2 ^ 63 + n
CountsFew other n = Unit {0}

pub record IsFew (node : Node) (n : ℕ) : Type 0 where
  pub commits : CountsFew node.state n
  pub entries : node.entries ≤ n
