use Rattle.std.proofs.Common.{◌≡◌, ◌+◌, sym, ◌∙◌, arith}
use Rattle.db_state.specs.Live.{database}
use Rattle.mn_node.proofs.Loading.{makes_more, wrong_next}
use Rattle.mn_node.proofs.starting.database_of.Goals as goal

pub commits-preserved : goal.commits-preserved
commits-preserved c =
    let taken = rw c.if-not-branch.false at c.in_ok-take.ensures in
    record {
      makes = makes_more c.args.file.now.items (c.commits.number + 1) (database c.commits.live) (database c.take.new.live)
          c.commits.invariant.makes taken;
      within = omega (arith, c.commits-test.true);
    }

pub returns-then-not-branch-clause-damaged : goal.returns-then-not-branch-clause-damaged
returns-then-not-branch-clause-damaged c name at is =
    let cannot = rw c.if-not-branch.true at c.in_ok-take.ensures in
    let named : c.latest.result ≡ name = cc is in
    let placed : c.place.result ≡ at = cc is in (
      sym named ∙ c.latest.ensures.value,
      wrong_next c.args.file.now.items (c.commits.number + 1) (database c.commits.live) at c.commits.invariant.makes cannot
          (sym placed ∙ c.place.ensures),
    )
