use Rattle.std.proofs.Common.{◌+◌, slice_get, sym, ap, ◌∙◌}
use Rattle.disk_logs.specs.Logs.{FileRead}
use Rattle.db_model.specs.View.{commit_record}
use Rattle.txn_log.specs.Commits.{IsCommit, IsNoCommit}
use Rattle.txn_log.proofs.Reading.{decoded}
use Rattle.txn_log.proofs.commit_file.CommitFile.commit.Goals as goal

pub returns : goal.returns
returns c =
    let n = c.args.number + 1 in
    let at = ap (λ (read : FileRead). slice_get read.items n) (sym c.self.view_is) ∙ c.content.ensures in
    decoded c.args.self.now.items n c.content.result.now IsNoCommit (λ content commit. IsCommit content (commit_record commit))
    c.decode_commit.result at c.decode_commit.ensures
