-- What a run's acts are to its transactions.
use Rattle.std.specs.Prelude.{List, map}
use Rattle.txn_core.specs.Machine as txns
use Rattle.mn_node.specs.Machine.{unstarted_machine}
use Rattle.mn_node.specs.Meaning.{Meaning}
use Rattle.mn_node.specs.Serial as machine
use Rattle.mn_run.specs.Runs.{Act}

-- the machine's part of it
abbrev pub act_of : Act → machine.Act
act_of act = record { event = act.event; answer = act.answer; behind = act.after.machine }

-- what transactions see of these acts, the first of which comes first over a directory with this meaning
abbrev pub seen_of : Meaning → List Act → List txns.Event
seen_of meaning acts = machine.all_seen (unstarted_machine meaning) (map act_of acts)
