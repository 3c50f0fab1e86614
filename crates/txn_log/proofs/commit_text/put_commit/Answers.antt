use Rattle.txn_log.proofs.CommitText.{commit_added, commit_kept}
use Rattle.txn_log.proofs.commit_text.put_commit.Goals as goal

pub returns-clause-ok : goal.returns-clause-ok
returns-clause-ok c =
    let ops = c.as_slice in
    let put = c.put_ops in
    commit_added put.result c.args.commit.now ops.result.now c.args.out.now.items c.put_front.new.out.items c.put_schema_ops.new.out.items
    put.new.out.items ops.ensures c.in_ok-put_front.ensures.ok c.in_ok-put_schema_ops.ensures.ok put.ensures.ok

pub returns-clause-kept : goal.returns-clause-kept
returns-clause-kept c =
    let ops = c.as_slice in
    let put = c.put_ops in
    commit_kept put.result c.args.commit.now ops.result.now ops.ensures c.in_ok-put_front.ensures.kept
    c.in_ok-put_schema_ops.ensures.kept put.ensures.kept
