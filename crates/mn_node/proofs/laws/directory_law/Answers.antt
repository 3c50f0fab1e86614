use Rattle.mn_node.proofs.Directories.{stands_or_not, never_both, one_state, one_place}
use Rattle.mn_node.proofs.laws.directory_law.Goals as goal

pub returns-clause-either : goal.returns-clause-either
returns-clause-either c = stands_or_not

pub returns-clause-never_both : goal.returns-clause-never_both
returns-clause-never_both c = never_both

pub returns-clause-one : goal.returns-clause-one
returns-clause-one c = one_state

pub returns-clause-one_place : goal.returns-clause-one_place
returns-clause-one_place c = one_place
