-- What opening does to the log of the commits.
use Rattle.std.specs.Prelude.{◌≡◌, List, length, Result, IfOk, OnErr}
use Rattle.file_trait.specs.DiskModel.{Past, reads, IsSettled}
use Rattle.file_trait.specs.Moments.{Moments}
use Rattle.file_trait.specs.Touched.{Touches}
use Rattle.disk_logs.specs.Crash.{IsSound}
use Rattle.disk_logs.specs.Logs.{IsLog}
use Rattle.disk_logs.specs.declared.error.LogErr.{LogErr}
use Rattle.db_model.specs.Commits.{CommitRecord}
use Rattle.txn_log.specs.Logs.{latest, LogState, handle, Reads, TxnStands, OldOrCommits, IsLogName}

-- what opening the log says, and what it does to the disk
pub record Opens (old new : Past) (result : Result LogState LogErr) : Type 0 where
  pub log : IfOk result (λ log. IsLog new (handle log))
  pub opened : (commits : List CommitRecord) → Reads commits (reads old latest)
      → IfOk result (λ log. (log.commits ≡ length commits) × Reads commits (reads new latest))
  pub kept : (commits : List CommitRecord) → Reads commits (reads old latest)
      → OnErr result (Reads commits (reads new latest))
  pub stands : (commits : List CommitRecord) → Reads commits (reads old latest) → IsSettled old latest
      → IsSound old latest → IfOk result (λ log. TxnStands new log commits (length commits))
  pub any_moment : (commits : List CommitRecord) → Reads commits (reads old latest) → IsSettled old latest
      → Moments (OldOrCommits old commits) old new
  pub sound : IsSound old latest → Moments (λ past. IsSound past latest) old new
  pub touches : Touches IsLogName old new
