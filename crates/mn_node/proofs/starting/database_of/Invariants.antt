use Rattle.std.proofs.Common.{◌≤◌, ◌+◌, ◌-◌}
use Rattle.db_state.specs.Live.{database}
use Rattle.mn_node.proofs.Loading.{MakesFirst}
use Rattle.mn_node.proofs.starting.database_of.Given as goal

abbrev pub invariant-commits : goal.invariant-commits
invariant-commits l = record {
  makes : MakesFirst l.file.items (l.number + 1) (database l.live);
  within : l.number ≤ l.count;
}

abbrev pub decreases-commits : goal.decreases-commits
decreases-commits l = l.count - l.number
