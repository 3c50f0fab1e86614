use Rattle.log_dumper.proofs.LogSteps.{commit_stored, log_synced, log_rotated}
use Rattle.log_dumper.proofs.SchemaSteps.{schema_stored, later, previous_gone, same_schema, same_over, start_ordered}
use Rattle.log_dumper.proofs.TableSteps.{ops_begun, op_carried, ops_synced, rows_beside, rows_left, files_removed}
use Rattle.log_dumper.proofs.ordered.ordered_law.Goals as goal

pub returns-clause-start : goal.returns-clause-start
returns-clause-start c = start_ordered

pub returns-clause-appended : goal.returns-clause-appended
returns-clause-appended c first stored commit lawful keyed o = commit_stored first stored o commit lawful keyed

pub returns-clause-synced : goal.returns-clause-synced
returns-clause-synced c first stored synced more o = log_synced first stored o synced more

pub returns-clause-rotated : goal.returns-clause-rotated
returns-clause-rotated c = log_rotated

pub returns-clause-begun : goal.returns-clause-begun
returns-clause-begun c first stored name definition defined none o = ops_begun first stored name o definition defined none

pub returns-clause-carried : goal.returns-clause-carried
returns-clause-carried c first stored name definition changes op defined is cookie among keyed o =
    op_carried first stored name o changes is definition op defined cookie among keyed

pub returns-clause-ops_synced : goal.returns-clause-ops_synced
returns-clause-ops_synced c first stored name changes synced is more o = ops_synced first stored name o changes is synced more

pub returns-clause-swapped : goal.returns-clause-swapped
returns-clause-swapped c first stored name definition rows defined all synced draft ordered o = (
  rows_beside first stored name o definition rows defined all synced draft ordered,
  rows_left first stored name o definition rows defined all synced draft ordered,
)

pub returns-clause-removed : goal.returns-clause-removed
returns-clause-removed c first stored name gone o = files_removed first stored name o gone

pub returns-clause-schema : goal.returns-clause-schema
returns-clause-schema c first stored front rest is o = schema_stored first stored o front rest is

pub returns-clause-dropped : goal.returns-clause-dropped
returns-clause-dropped c first stored carried enough o = (
  later first stored o carried enough,
  previous_gone first stored o carried enough,
  same_schema first stored o carried enough,
  λ n low. same_over first stored o carried enough n low,
)
