use Rattle.file_mem.specs.MemDisk.{disk_past}
use Rattle.disk_logs.specs.Logs.{IsLog}
use Rattle.txn_log.specs.Logs.{handle}
use Rattle.crash_tests.proofs.rotation.are_done.Given as goal

abbrev pub invariant-loop-act : goal.invariant-loop-act
invariant-loop-act l = IsLog (disk_past l.disk) (handle l.log)
