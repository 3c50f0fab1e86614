use Rattle.std.proofs.Common.{refl}
use Rattle.log_dumper.proofs.CarriedSteps.{carrying_begun, carrying_opened, carrying_synced, carrying_next, carrying_apart, carrying_appended, carrying_log_synced, carrying_ended}
use Rattle.log_dumper.proofs.carried.carrying_law.Goals as goal

pub returns-clause-begun : goal.returns-clause-begun
returns-clause-begun c = carrying_begun

pub returns-clause-opened : goal.returns-clause-opened
returns-clause-opened c first stored name d carried left h none = carrying_opened first stored name d carried left h none

pub returns-clause-next : goal.returns-clause-next
returns-clause-next c first stored name d changes op carried left h is cookie =
    carrying_next first stored name d carried _ h changes is op left refl cookie

pub returns-clause-ops_synced : goal.returns-clause-ops_synced
returns-clause-ops_synced c first stored name d changes synced carried left h is =
    carrying_synced first stored name d carried left h changes is synced

pub returns-clause-log_synced : goal.returns-clause-log_synced
returns-clause-log_synced c first stored name d synced carried left h more =
    carrying_log_synced first stored name d carried left h synced more

pub returns-clause-apart : goal.returns-clause-apart
returns-clause-apart c first stored name other d table carried left h apart =
    carrying_apart first stored name d carried left h other table apart

pub returns-clause-appended : goal.returns-clause-appended
returns-clause-appended c first stored name d commit carried left h = carrying_appended first stored name d carried left h commit

pub returns-clause-ended : goal.returns-clause-ended
returns-clause-ended c = carrying_ended
