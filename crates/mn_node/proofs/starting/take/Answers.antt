use Rattle.std.proofs.Common.{◌+◌}
use Rattle.db_state.specs.Live.{database}
use Rattle.mn_node.proofs.Loading.{none_at, cannot_at}
use Rattle.mn_node.proofs.starting.take.Goals as goal

pub returns-in_default : goal.returns-in_default
returns-in_default c =
    none_at c.args.file.now.items (c.args.number + 1) c.in_ok-commit.field-0 (database c.args.live.now) c.in_default.is
    c.in_ok-commit.ensures

pub returns : goal.returns
returns c =
    let cannot = rw c.in-None.is at c.in_ok-plan.ensures in
    cannot_at c.args.file.now.items (c.args.number + 1) c.in_ok-commit.field-0 c.in-Some.commit (database c.args.live.now) c.in-Some.is
    c.in_ok-commit.ensures cannot
