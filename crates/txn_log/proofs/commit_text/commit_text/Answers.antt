use Rattle.std.proofs.Common.{rules, ◌≤◌, ◌^◌, length}
use Rattle.db_model.specs.View.{commit_record}
use Rattle.term_wire.proofs.Law.{written_text}
use Rattle.txn_log.specs.Commits as commits
use Rattle.txn_log.proofs.CommitsRead.{written_commit}
use Rattle.txn_log.proofs.commit_text.commit_text.Goals as goal

pub returns-clause-spells : goal.returns-clause-spells
returns-clause-spells c =
    let commit = commit_record c.args.commit.now in
    let short : length (commits.commit_text commit) ≤ 2 ^ 28 = search rules in
    written_commit (commits.commit_text commit) commit c.requires.logged
    (written_text (commits.commit_tree commit) c.in_ok-put_commit.ensures.kept c.requires.levels short)
