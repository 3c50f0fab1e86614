use Rattle.log_dumper.specs.Stored.{with_commit}
use Rattle.log_dumper.proofs.LogSteps.{image_stands, image_means, image_now, over_alike, whole_stands, commit_done_whole}
use Rattle.log_dumper.proofs.SchemaSteps.{defined_whole}
use Rattle.log_dumper.proofs.ordered.stands_law.Goals as goal

pub returns-clause-on : goal.returns-clause-on
returns-clause-on c first stored directory o of = image_stands first stored o directory of

pub returns-clause-means : goal.returns-clause-means
returns-clause-means c first stored directory o of = image_means first stored o directory of

pub returns-clause-now : goal.returns-clause-now
returns-clause-now c first stored directory o of all = image_now first stored o directory of all

pub returns-clause-defined : goal.returns-clause-defined
returns-clause-defined c = defined_whole

pub returns-clause-alike : goal.returns-clause-alike
returns-clause-alike c = over_alike

pub returns-clause-appended : goal.returns-clause-appended
returns-clause-appended c first stored commit o lawful later =
    commit_done_whole first stored o commit lawful (whole_stands first (with_commit commit stored) later)
