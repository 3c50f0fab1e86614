use Rattle.std.proofs.Common.{◌∷◌}
use Rattle.term_core.specs.Written.{written}
use Rattle.txn_log.specs.Commits.{commit_word}
use Rattle.txn_log.proofs.CommitText.{version_tree, front_added, on_kept}
use Rattle.txn_log.proofs.commit_text.put_front.Goals as goal

pub returns-clause-ok : goal.returns-clause-ok
returns-clause-ok c =
    let number = version_tree c.args.version c.from.result c.ranges.version.fits c.from.ensures in
    let first = c.extend_from_slice.new.self.items in
    let put = c.put_part in
    front_added put.result _ _ c.args.out.now.items (131 ∷ 104 ∷ 4 ∷ written commit_word) first put.new.out.items number
    c.in_ok-extend_from_slice.ensures.items put.ensures.ok

pub returns-clause-kept : goal.returns-clause-kept
returns-clause-kept c =
    let number = version_tree c.args.version c.from.result c.ranges.version.fits c.from.ensures in
    on_kept c.put_part.result _ _ number c.put_part.ensures.kept
