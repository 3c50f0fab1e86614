-- What every call of a log owes, whatever it answers.
use Rattle.std.specs.Prelude.{ℕ, ◌≤◌, IsTrue, List, Result, IsErrOf}
use Rattle.file_trait.specs.Touched.{Touches}
use Rattle.file_trait.specs.declared.disk.Disk.{Ghosts}
use Rattle.disk_logs.specs.Errors.{LogCause}
use Rattle.disk_logs.specs.declared.error.LogErr.{LogErr}
use Rattle.disk_logs.specs.declared.error.LogErr.TheVariants.{File}

-- It touches only its own files, so that files of other names read as before, and an error names no other. Time goes
-- on. A failure was counted, and where none is answered none was. Which errors there are the call says with `Only`.
pub record LogCalls {D T : Type 0} (g : Ghosts D) (old new : D) (Own : List ℕ → Type 0)
    (Only : Result T LogErr → Type 0) (result : Result T LogErr) : Type 0 where
  pub touches : IsTrue g.tells → Touches Own (g.past old) (g.past new)
  pub time : g.moment old ≤ g.moment new
  pub named : (name : List ℕ) → IsErrOf result (File name) → Own name
  pub only : Only result
  pub cause : LogCause (g.faults old) (g.faults new) (g.blamed new) result
