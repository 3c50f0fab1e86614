-- How the program ends.
use Rattle.std.specs.Prelude.{ℕ}
use Rattle.mn_run.specs.Statuses.{number_of}
use Rattle.mn_run.specs.declared.outcome.Status.TheVariants.{DiskFault}
use Rattle.mnesia_cli.specs.declared.ending.Ending.{Ending}
use Rattle.mnesia_cli.specs.declared.ending.Ending.TheVariants.{Ran, Refused}

-- the status of the run, or that of a disk that failed where there was none
abbrev pub exit_of : Ending → ℕ
exit_of (Ran status) = number_of status
exit_of (Refused why) = number_of DiskFault
