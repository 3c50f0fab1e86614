-- The exit status of the program, and how a run ends.
use Rattle.std.specs.Prelude.{ℕ}
use Rattle.mn_node.specs.declared.node.State.{State}
use Rattle.mn_node.specs.declared.node.State.TheVariants.{Stopped, Faulted}
use Rattle.mn_run.specs.declared.outcome.Status.{Status}
use Rattle.mn_run.specs.declared.outcome.Status.TheVariants.{Done, Usage, ReadFault, WriteFault, DiskFault, Damaged, Memory, TooLong}

abbrev pub number_of : Status → ℕ
number_of Done = 0
number_of Usage = 1
number_of ReadFault = 2
number_of WriteFault = 3
number_of DiskFault = 4
number_of (Damaged name at) = 5
number_of Memory = 6
number_of (TooLong line) = 7

-- how a run ends whose node is down at the script's end
abbrev pub status_of_down : State → Status
status_of_down Stopped = Done
status_of_down Faulted = DiskFault
status_of_down other = Memory
