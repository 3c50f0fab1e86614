-- One file on its way through what was done.
use Rattle.std.specs.Prelude.{ℕ, ◌+◌, Bool, if◌then◌else◌, List, Option}
use Rattle.file_trait.specs.DiskModel.{Past, DiskOp, to_file, to_dir, sync, sync_failed, sync_dir, FileId, changed}
use Rattle.file_mem.specs.declared.choice.Taken.{Taken}
use Rattle.file_mem.specs.declared.track.Track.{Track}
use Rattle.file_mem.specs.Pending.{pending, doubtful}
use Rattle.file_mem.specs.Taken.{left_after}
use Rattle.file_mem.specs.Chosen.{file_left, file_redone, is_called, moved, called}

-- its name, what a crash leaves of it, what a sync would make durable, how many operations are pending, and how many of them are in doubt
pub record Traced : Type 0 where
  pub name : Option (List ℕ)
  pub left : List ℕ
  pub redone : List ℕ
  pub count : ℕ
  pub doubtful : ℕ

abbrev pub traced : Track → Traced
traced track = record { name = track.name; left = track.left.items; redone = track.redone.items; count = track.count; doubtful = track.doubtful }

-- the same of the model
abbrev pub traced_in : Past → FileId → Taken → Traced
traced_in past i taken = record { name = called past i; left = file_left past i taken; redone = file_redone past i taken; count = pending past i; doubtful = doubtful past i }

-- after it is done, where perhaps it is the file that is made
abbrev pub stepped : DiskOp → Bool → Taken → Traced → Traced
stepped (to_file name op) is_new taken t =
    if is_called t.name name then record { name = t.name; left = left_after taken op t.count t.left; redone = changed op t.redone; count = t.count + 1; doubtful = t.doubtful } else t
stepped (to_dir op) is_new taken t = record { name = moved op is_new t.name; left = t.left; redone = t.redone; count = t.count; doubtful = t.doubtful }
stepped (sync name) is_new taken t = if is_called t.name name then record { name = t.name; left = t.redone; redone = t.redone; count = t.doubtful; doubtful = t.doubtful } else t
stepped (sync_failed name) is_new taken t = if is_called t.name name then record { name = t.name; left = t.left; redone = t.left; count = t.count; doubtful = t.count } else t
stepped sync_dir is_new taken t = t
