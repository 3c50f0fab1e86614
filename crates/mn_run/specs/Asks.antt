-- What the next line asks for, and what was printed before it was read.
use Rattle.std.specs.Prelude.{◌≡◌, ℕ, ◌+◌, ◌≤◌, ◌⊎◌, ◌++◌, List, [], ◌∷◌, Some, None, Result, Ok, Err, IsErrOf}
use Rattle.file_trait.specs.Counts.{Rose}
use Rattle.mn_run.specs.Commands.{Request, IsEventOf}
use Rattle.mn_run.specs.Script.{Plan, behind}
use Rattle.mn_run.specs.Seen.{event, IsAskableLine}
use Rattle.mn_run.specs.declared.asks.Ask.{Ask}
use Rattle.mn_run.specs.declared.asks.Ask.TheVariants as ask
use Rattle.mn_run.specs.declared.lines.LineErr.{LineErr}
use Rattle.mn_run.specs.declared.lines.LineErr.TheVariants as line
use Rattle.mn_run.specs.declared.outcome.Status.{Status}
use Rattle.mn_run.specs.declared.outcome.Status.TheVariants as status

-- what is left of the plan after a line
abbrev pub Asks : Result Ask Status → Plan → Plan → Type 0
Asks (Ok ask.End) old new = old ≡ record { commands = []; over = None }
Asks (Ok ask.Blank) old new = old ≡ new
Asks (Ok (ask.Do line)) old new = (r : Request) × IsEventOf r (event line) × (old ≡ behind (r ∷ []) new)
Asks (Err (status.TooLong n)) old new = old ≡ record { commands = []; over = Some n }
Asks (Err other) old new = Unit {0}

-- the node may be asked what is asked for
abbrev pub IsAskableAsk : Ask → Type 0
IsAskableAsk (ask.Do line) = IsAskableLine line
IsAskableAsk other = Unit {0}

-- a line was taken, but at the end
abbrev pub Goes : Ask → ℕ → ℕ → ℕ → ℕ → Type 0
Goes ask.End before now done now_done = (now ≡ before) × (now_done ≡ done)
Goes ask.Blank before now done now_done = (now ≡ before + 1) × (now_done ≡ done)
Goes (ask.Do line) before now done now_done = (now ≡ before + 1) × (now_done ≡ done + 1)

-- how writing what was gathered may end a run
abbrev pub IsOfFlushing : Status → Type 0
IsOfFlushing status.WriteFault = Unit {0}
IsOfFlushing status.Memory = Unit {0}
IsOfFlushing other = ⊥

-- how reading may end a run: the replies that were gathered are written before the script is read again
abbrev pub IsOfReading : Status → Type 0
IsOfReading status.ReadFault = Unit {0}
IsOfReading status.WriteFault = Unit {0}
IsOfReading status.Memory = Unit {0}
IsOfReading (status.TooLong n) = Unit {0}
IsOfReading other = ⊥

-- Of what was gathered a front was written, the next is gathered still, and the rest is lost where the sink gave up.
pub record Passes (GaveUp : Type 0) (gathered gathered_now written written_now : List ℕ) : Type 0 where
  pub sent : List ℕ
  pub lost : List ℕ
  pub grown : written_now ≡ written ++ sent
  pub parts : gathered ≡ sent ++ (gathered_now ++ lost)
  pub all : (GaveUp → ⊥) → lost ≡ []

-- the sink failed, or memory was wanting
abbrev pub GivesUp : {T : Type 0} → Result T Status → Type 0
GivesUp (Err status.WriteFault) = Unit {0}
GivesUp (Err status.Memory) = Unit {0}
GivesUp other = ⊥

abbrev pub Flushes : {T : Type 0} → Result T Status → List ℕ → List ℕ → List ℕ → List ℕ → Type 0
Flushes result = Passes (GivesUp result)

-- the same, where a line was read
abbrev pub GivesUpLine : {T : Type 0} → Result T LineErr → Type 0
GivesUpLine (Err line.Unwritten) = Unit {0}
GivesUpLine (Err line.Memory) = Unit {0}
GivesUpLine other = ⊥

abbrev pub FlushesLine : {T : Type 0} → Result T LineErr → List ℕ → List ℕ → List ℕ → List ℕ → Type 0
FlushesLine result = Passes (GivesUpLine result)

-- all is gathered still, or nothing
abbrev pub IsKeptOrGone : List ℕ → List ℕ → Type 0
IsKeptOrGone gathered gathered_now = (gathered_now ≡ gathered) ⊎ (gathered_now ≡ [])

-- the count never falls, and rose where the call ended so
pub record Causes {T E : Type 0} (cause : E) (before now : ℕ) (result : Result T E) : Type 0 where
  pub later : before ≤ now
  pub failed : IsErrOf result cause → Rose before now
