use Rattle.std.proofs.Common.{◌+◌, List, take}
use Rattle.db_model.specs.Commits.{CommitRecord}
use Rattle.txn_log.specs.Commits.{AreItemsOf}
use Rattle.crash_tests.proofs.rotation.versions.Given as goal

abbrev pub invariant-loop-number : goal.invariant-loop-number
invariant-loop-number l = (commits : List CommitRecord) × AreItemsOf commits (take (l.number + 1) l.file.items)
