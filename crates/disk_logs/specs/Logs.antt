-- Logs, and what the calls on them do to their files.
use Rattle.std.specs.Prelude.{◌≡◌, ◌⊎◌, ℕ, ◌<◌, ◌≤◌, Bool, true, false, not, ◌&&◌, if◌then◌else◌, List, [], ◌∷◌, ◌++◌, length, take, Option, None, Some, Result, Ok, Err}
use Rattle.file_trait.specs.declared.disk.DiskErr.TheVariants.{Failed}
use Rattle.file_trait.specs.DiskModel.{Past, did, to_file, mark, reads}
use Rattle.file_trait.specs.Calls.{Synced}
use Rattle.disk_logs.specs.declared.error.LogErr.{LogErr}
use Rattle.disk_logs.specs.declared.error.LogErr.TheVariants.{File, Bad, TooLong, Memory}
use Rattle.log_items.specs.Items.{wire, log_bytes, AreContents, IsFile}
use Rattle.log_items.specs.Scan.{IsBadAt}

-- a log: the name that it has or will have, whether its file is a draft, and whether its mark says closed
pub record Handle : Type 0 where
  pub name : List ℕ
  pub draft : Bool
  pub closed : Bool

-- the name with TMP behind it
abbrev pub draft_name : List ℕ → List ℕ
draft_name name = name ++ 84 ∷ 77 ∷ 80 ∷ []

-- the name of a log's file
abbrev pub file_of : Handle → List ℕ
file_of log = if log.draft then draft_name log.name else log.name

-- a log with this mark
abbrev pub with_mark : Bool → Handle → Handle
with_mark closed log = record { name = log.name; draft = log.draft; closed = closed }

-- a log after an append: where it is no draft it is open
abbrev pub opened : Handle → Handle
opened log = with_mark (log.draft && log.closed) log

-- the file reads as this log with some items
abbrev pub IsLog : Past → Handle → Type 0
IsLog past log = (all : List (List ℕ)) × (reads past (file_of log) ≡ Some (log_bytes log.closed all))

-- whole items
abbrev pub AreItems : List ℕ → Type 0
AreItems bytes = (items : List (List ℕ)) × AreContents items × (bytes ≡ wire items)

-- What an append leaves of a file, where the log's mark is `closed` after it, and `set` was to be set before: with the new
-- items, or where memory was wanting without them. Where the disk failed, a front of the new bytes, and where that is not empty
-- the mark was set.
abbrev pub HasAppended : {T : Type 0} → Result T LogErr → Bool → Bool → List (List ℕ) → List (List ℕ) → Option (List ℕ) → Type 0
HasAppended (Ok done) closed set all more file = file ≡ Some (log_bytes closed (all ++ more))
HasAppended (Err (File name)) closed set all more file =
    (mark : Bool) × (k : ℕ) × (k ≤ length (wire more)) × (0 < k → mark ≡ set) × (file ≡ Some (log_bytes mark all ++ take k (wire more)))
HasAppended (Err (Bad name at)) closed set all more file = ⊥
HasAppended (Err TooLong) closed set all more file = ⊥
HasAppended (Err Memory) closed set all more file = file ≡ Some (log_bytes closed all)

-- What setting the mark leaves of a file: where the disk failed the mark is one of the two, and where memory was wanting the
-- earlier one.
abbrev pub HasMarked : {T : Type 0} → Result T LogErr → Bool → Bool → List (List ℕ) → Option (List ℕ) → Type 0
HasMarked (Ok done) was closed all file = file ≡ Some (log_bytes closed all)
HasMarked (Err (File name)) was closed all file = (mark : Bool) × (file ≡ Some (log_bytes mark all))
HasMarked (Err (Bad name at)) was closed all file = ⊥
HasMarked (Err TooLong) was closed all file = ⊥
HasMarked (Err Memory) was closed all file = file ≡ Some (log_bytes was all)

-- the four bytes of a mark
abbrev pub mark_bytes : Bool → List ℕ
mark_bytes true = 99 ∷ 88 ∷ 77 ∷ 11 ∷ []
mark_bytes false = 6 ∷ 7 ∷ 8 ∷ 9 ∷ []

-- what was done where a mark is set and then synced: where one of them failed, as much as was done
abbrev pub SetsMark : {T : Type 0} → List ℕ → Bool → Result T LogErr → Past → Past → Type 0
SetsMark name closed (Ok done) old new = Synced name (Ok tt) (did (to_file name (mark (mark_bytes closed))) old) new
SetsMark name closed (Err (File at)) old new = (new ≡ old) ⊎ Synced name (Err Failed) (did (to_file name (mark (mark_bytes closed))) old) new
SetsMark name closed (Err (Bad at place)) old new = ⊥
SetsMark name closed (Err TooLong) old new = ⊥
SetsMark name closed (Err Memory) old new = new ≡ old

-- both names read as before
abbrev pub IsKept : List ℕ → List ℕ → Past → Past → Type 0
IsKept from to old new = (reads new from ≡ reads old from) × (reads new to ≡ reads old to)

-- the one name reads as the other did, which is gone
abbrev pub IsMoved : List ℕ → List ℕ → Past → Past → Type 0
IsMoved from to old new = (reads new to ≡ reads old from) × (reads new from ≡ None)

-- what a new draft's name reads as where it was not finished: as before, nothing, or a front of the draft
abbrev pub HasPart : List ℕ → Option (List ℕ) → Option (List ℕ) → Type 0
HasPart whole old new = (new ≡ old) ⊎ (new ≡ None) ⊎ ((k : ℕ) × (k ≤ length whole) × (new ≡ Some (take k whole)))

-- a file of items as it was read: its bytes, whether its mark says open, and its items
pub record FileRead : Type 0 where
  pub bytes : List ℕ
  pub was_open : Bool
  pub items : List (List ℕ)

-- its bytes are a file of these items under this mark
abbrev pub IsRead : FileRead → Type 0
IsRead read = IsFile (not read.was_open) read.items read.bytes

-- what is read under a name: nothing where there is no file, its bytes where it is one of items, and else its bad place
abbrev pub HasRead : Result (Option FileRead) LogErr → Option (List ℕ) → Type 0
HasRead (Ok None) file = file ≡ None
HasRead (Ok (Some read)) file = file ≡ Some read.bytes
HasRead (Err (Bad name at)) file = (bytes : List ℕ) × (file ≡ Some bytes) × IsBadAt bytes at
HasRead (Err TooLong) file = ⊥
HasRead (Err (File name)) file = Unit {0}
HasRead (Err Memory) file = Unit {0}
