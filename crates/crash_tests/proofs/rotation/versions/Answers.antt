use Rattle.std.proofs.Common.{◌+◌, [], ◌∷◌, ◌++◌}
use Rattle.db_model.specs.View.{commit_record}
use Rattle.txn_log.proofs.CallerLemmas.{one_commit_more}
use Rattle.crash_tests.proofs.rotation.versions.Goals as goal

pub loop-number-preserved : goal.loop-number-preserved
loop-number-preserved c =
    let (commits, are) = c.loop-number.invariant in
    let (content, at, found) = c.in_ok-commit.ensures in
    let commit = commit_record c.in-Some.commit in (
      commits ++ commit ∷ [],
      one_commit_more c.args.file.now.items commits (c.loop-number.number + 1) content commit are at (rw c.in-Some.is at found),
    )
