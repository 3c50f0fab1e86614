use Rattle.log_dumper.proofs.CarriedSteps.{nothing_carried, absent_carried}
use Rattle.log_dumper.proofs.StaysCarried.{apart_carried, log_synced_carried, ops_synced_carried, beside_carried, alone_carried, appended_carried}
use Rattle.log_dumper.proofs.carried.carried_law.Goals as goal

pub returns-clause-absent : goal.returns-clause-absent
returns-clause-absent c = absent_carried

pub returns-clause-nothing : goal.returns-clause-nothing
returns-clause-nothing c = nothing_carried

pub returns-clause-appended : goal.returns-clause-appended
returns-clause-appended c first stored name commit h o lawful later = appended_carried first stored name h o commit lawful later

pub returns-clause-log_synced : goal.returns-clause-log_synced
returns-clause-log_synced c first stored name synced h more = log_synced_carried first stored name h synced more

pub returns-clause-ops_synced : goal.returns-clause-ops_synced
returns-clause-ops_synced c first stored name changes synced h is more = ops_synced_carried first stored name h changes synced is more

pub returns-clause-apart : goal.returns-clause-apart
returns-clause-apart c first stored name other table h apart = apart_carried first stored name h other table apart

pub returns-clause-swapped : goal.returns-clause-swapped
returns-clause-swapped c first stored name d rows h defined all synced draft ordered o = (
  beside_carried first stored name h o d rows defined all synced draft ordered,
  alone_carried first stored name h o d rows defined all synced draft ordered,
)
