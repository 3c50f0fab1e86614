use Rattle.std.proofs.Common.{◌≡◌, ◌≤◌, ◌<◌, ◌+◌, ◌-◌, ℕ, List, IsTrue, vec_len, Some}
use Rattle.file_trait.specs.DiskModel.{reads}
use Rattle.log_items.specs.Items.{StartsWith}
use Rattle.disk_logs.proofs.reading.read_to.Given as goal

abbrev pub invariant-pieces : goal.invariant-pieces
invariant-pieces g l = record {
  within : vec_len l.bytes ≤ l.len;
  few : vec_len l.fn.bytes < l.least → vec_len l.bytes < l.least + 65536;
  same : IsTrue g.D.Disk.tells → g.D.Disk.past l.disk ≡ g.D.Disk.past l.fn.disk;
  part : (file : List ℕ) → IsTrue g.D.Disk.tells → reads (g.D.Disk.past l.fn.disk) l.name ≡ Some file → StartsWith l.fn.bytes.items file → StartsWith l.bytes.items file;
  time : g.D.Disk.moment l.disk ≡ g.D.Disk.moment l.fn.disk;
  uncounted : g.D.Disk.faults l.disk ≡ g.D.Disk.faults l.fn.disk;
}

abbrev pub decreases-pieces : goal.decreases-pieces
decreases-pieces g l = l.len - vec_len l.bytes
