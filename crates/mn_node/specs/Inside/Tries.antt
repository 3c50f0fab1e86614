-- What a command does that is tried on an open log and its table.
use Rattle.std.specs.Prelude.{◌≡◌, ◌⊎◌, ℕ, ◌+◌, ◌≤◌, Bool, true, false, IsTrue, if◌then◌else◌, List, [], ◌∷◌, ◌++◌, length, Some, None, is_some, Result, Ok, Err, IfOk, OnErr, IsErrOf}
use Rattle.file_trait.specs.DiskModel.{Past, reads}
use Rattle.file_trait.specs.Moments.{Moments}
use Rattle.file_trait.specs.Touched.{Touches}
use Rattle.file_trait.specs.declared.disk.Disk.{Ghosts}
use Rattle.disk_logs.specs.Crash.{IsSound}
use Rattle.disk_logs.specs.Errors.{OnlyFileOrMemory}
use Rattle.disk_logs.specs.Logs.{IsLog}
use Rattle.disk_logs.specs.declared.error.LogErr.{LogErr}
use Rattle.db_model.specs.Commits.{CommitRecord}
use Rattle.db_model.specs.Database.{do_commit}
use Rattle.db_model.specs.Histories.{AreLawful}
use Rattle.db_state.specs.Live.{database}
use Rattle.txn_core.specs.Pending.{Txn}
use Rattle.txn_log.specs.Logs as logs
use Rattle.txn_log.specs.Logs.{LogState, Reads, TxnStands, handle, IsLogName}
use Rattle.mn_node.specs.Calls.{Calls}
use Rattle.mn_node.specs.Durable.{Durable, made}
use Rattle.mn_node.specs.Effects.{Effect, adds, length_refusal, Answer, too_long, goes_to_disk, is_no_memory, is_fault, no_memory, fault, is_down}
use Rattle.mn_node.specs.Machine.{commits_of, entries_of}
use Rattle.mn_node.specs.Meaning.{latest}
use Rattle.mn_node.specs.Seen.{answer}
use Rattle.mn_node.specs.Shown.{OpenShows, Pends}
use Rattle.mn_node.specs.declared.node.Node.{Node}
use Rattle.mn_node.specs.declared.node.State.TheVariants.{Stopped, Faulted}
use Rattle.mn_node.specs.declared.open.Done.{Done}
use Rattle.mn_node.specs.declared.open.Open.{Open}
use Rattle.mn_node.specs.declared.open.Trouble.{Trouble}
use Rattle.mn_node.specs.declared.open.Trouble.TheVariants.{File, Memory}
use Rattle.mn_node.specs.declared.reply.Reply.{Reply}
use Rattle.mn_node.specs.declared.reply.Reply.TheVariants as replies
use Rattle.db_model.specs.declared.error.DefErr.{DefErr}
use Rattle.db_model.specs.declared.error.DefErr.TheVariants as ill
use Rattle.schema_txn.specs.declared.error.SchemaErr.{SchemaErr}
use Rattle.schema_txn.specs.declared.error.SchemaErr.TheVariants as refusals

-- as a call on an open log fails
abbrev pub IsFileOrMemory : LogErr → Type 0
IsFileOrMemory error = OnlyFileOrMemory {T = Unit {0}} (Err error)

-- the commit that an effect appends
abbrev pub appended : Effect → List CommitRecord
appended e = commits_of (entries_of e.entry)

-- this was done
pub record IsDone (e : Effect) (done : Done) : Type 0 where
  pub answer : answer done.reply ≡ e.answer
  pub wrote : done.wrote ≡ is_some e.entry
  pub settles : done.settles ≡ e.settles
  pub halts : done.halts ≡ e.halts

-- Where it was done, the log has its commit. Where memory was wanting, all is as before. Where the disk failed, the log
-- may have its commit or not.
abbrev pub ComesOut : Effect → List CommitRecord → ℕ → Result Done Trouble → Open → Past → Type 0
ComesOut e commits synced (Ok done) live past =
    IsDone e done
    × OpenShows live past (commits ++ appended e) (if e.settles then length (commits ++ appended e) else synced)
    × (IsTrue e.halts → live.log.closed ≡ true)
ComesOut e commits synced (Err Memory) live past = IsTrue e.takes_memory × OpenShows live past commits synced
ComesOut e commits synced (Err (File name doubt)) live past =
    IsTrue (goes_to_disk e) × (name ≡ latest) × (doubt ≡ is_some e.entry)
    × (Reads commits (reads past latest) ⊎ Reads (commits ++ appended e) (reads past latest))

-- the durable state of a live database
abbrev pub durable : Open → Durable
durable live = record { database = database live.tables }

-- what is pending behind a command, where these were before and those are where it is done
abbrev pub PendsOut : Result Done Trouble → Open → List Txn → List Txn → Type 0
PendsOut (Ok done) live before later = done.halts ≡ false → Pends live later
PendsOut (Err Memory) live before later = Pends live before
PendsOut (Err (File name doubt)) live before later = Unit {0}

-- what a crash may find added
abbrev pub more_of : Effect → Result Done Trouble → List CommitRecord
more_of e (Err Memory) = []
more_of e other = appended e

-- A command with this effect was tried on a log with these commits, of which so many were durable.
pub record Tries (e : Effect) (commits : List CommitRecord) (synced : ℕ) (result : Result Done Trouble) (live : Open)
    (before now : Past) : Type 0 where
  pub out : ComesOut e commits synced result live now
  pub lawful : AreLawful (more_of e result) (made commits).database
  pub during : Moments (logs.Leaves (commits ++ more_of e result) synced) before now
  pub sound : Moments (λ past. IsSound past latest) before now
  pub touches : Touches IsLogName before now

-- what appending a commit did, and a sync behind it where it settles
abbrev pub AppendsOut : Bool → CommitRecord → List CommitRecord → ℕ → Result Done Trouble → LogState → Past → Type 0
AppendsOut settles c commits synced (Ok done) log past =
    (done ≡ record { reply = replies.Done; wrote = true; settles = settles; halts = false })
    × TxnStands past log (commits ++ c ∷ []) (if settles then length (commits ++ c ∷ []) else synced)
AppendsOut settles c commits synced (Err Memory) log past = TxnStands past log commits synced
AppendsOut settles c commits synced (Err (File name doubt)) log past =
    (name ≡ latest) × (doubt ≡ true)
    × (Reads commits (reads past latest) ⊎ Reads (commits ++ c ∷ []) (reads past latest))

-- a commit was to be appended to a log with these commits, of which so many were durable
pub record Appends (settles : Bool) (c : CommitRecord) (commits : List CommitRecord) (synced : ℕ)
    (result : Result Done Trouble) (log : LogState) (before now : Past) : Type 0 where
  pub out : AppendsOut settles c commits synced result log now
  pub during : Moments (logs.Leaves (commits ++ more_of (adds settles c) result) synced) before now
  pub sound : Moments (λ past. IsSound past latest) before now

-- only a reply is given
abbrev pub only : Reply → Done
only reply = record { reply = reply; wrote = false; settles = false; halts = false }

-- A commit was to be done: where it was appended the live database has it, and else all tables are as before. No
-- transaction is touched.
pub record CommitsTo (c : CommitRecord) (old new : Open) (result : Result Done Trouble) : Type 0 where
  pub txns : new.txns ≡ old.txns
  pub done : IfOk result (λ done. database new.tables
      ≡ (if done.wrote then do_commit c (database old.tables) else database old.tables))
  pub on : IfOk result (λ done. done.halts ≡ false)
  -- only its length can bar it
  pub fits : IfOk result (λ done. length_refusal c ≡ (if done.wrote then None else Some too_long))
  pub kept : OnErr result (new.tables ≡ old.tables)

-- why the options define no table of this name is what is answered
abbrev pub IsUndefined : DefErr → List ℕ → Result Done Trouble → Type 0
IsUndefined ill.BadName name result = result ≡ Ok (only (replies.BadName name))
IsUndefined (ill.BadOption place) name result = result ≡ Ok (only (replies.BadOption place))
IsUndefined ill.Memory name result = result ≡ Err Memory

-- why a command on the table of this name was refused is what is answered
abbrev pub IsRefusalOf : SchemaErr → List ℕ → Result Done Trouble → Type 0
IsRefusalOf (refusals.Exists other) name result = result ≡ Ok (only (replies.Exists name))
IsRefusalOf refusals.NoTable name result = result ≡ Ok (only (replies.NoTable name))
IsRefusalOf refusals.TooManyTables name result = result ≡ Ok (only replies.TooManyTables)
IsRefusalOf refusals.TooManyVersions name result = result ≡ Ok (only replies.TooManyVersions)
IsRefusalOf refusals.Memory name result = result ≡ Err Memory

-- the log is a file of items, where the node stays up
abbrev pub StaysLog : Result Done Trouble → Past → LogState → Type 0
StaysLog (Ok done) past log = done.halts ≡ false → IsLog past (handle log)
StaysLog (Err Memory) past log = IsLog past (handle log)
StaysLog (Err (File name doubt)) past log = Unit {0}

-- the answer is neither a fault nor want of memory, nor that the node is down
pub record IsPlain (answer : Answer) : Type 0 where
  pub fault : is_fault answer ≡ false
  pub memory : is_no_memory answer ≡ false
  pub up : answer ≡ is_down → ⊥

-- What a command that is tried owes, whatever comes out of it, over a disk that tells or not.
pub record Attempts {D : Type 0} (g : Ghosts D) (disk disk_now : D) (state state_now : LogState)
    (result : Result Done Trouble) : Type 0 where
  pub calls : Calls (g.faults disk) (g.faults disk_now) (g.blamed disk_now)
      (λ name. (doubt : Bool) × IsErrOf result (File name doubt))
  -- no files but those of the log
  pub touches : IsTrue g.tells → Touches IsLogName (g.past disk) (g.past disk_now)
  pub log : IsTrue g.tells → StaysLog result (g.past disk_now) state_now
  pub few : state_now.commits ≤ state.commits + 1
  pub plain : IfOk result (λ done. IsPlain (answer done.reply))

-- ---- what the node is then

abbrev pub counted : Bool → ℕ → ℕ
counted wrote n = if wrote then n + 1 else n

abbrev pub settled_node : Node → Done → Node
settled_node old done = record old {
  state = if done.halts then Stopped else old.state;
  entries = counted done.wrote old.entries;
  synced = if done.settles then counted done.wrote old.entries else old.synced;
}

abbrev pub failed_node : Node → Trouble → Node
failed_node old Memory = old
failed_node old (File name doubt) = record old { state = Faulted; entries = counted doubt old.entries }

abbrev pub failed_answer : Trouble → Answer
failed_answer Memory = no_memory
failed_answer (File name doubt) = fault name
