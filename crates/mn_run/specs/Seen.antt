-- What the code's lines are as plain data.
use Rattle.std.specs.Prelude.{◌≡◌, Option, Some, None}
use Rattle.mn_node.specs.Effects.{IsAskable}
use Rattle.mn_node.specs.Machine.{Event, start, command}
use Rattle.mn_node.specs.Machine as machine
use Rattle.mn_node.specs.Seen as node
use Rattle.mn_run.specs.Commands.{Request, IsEventOf}
use Rattle.mn_run.specs.declared.commands.Line.{Line}
use Rattle.mn_run.specs.declared.commands.Line.TheVariants.{Start, Do, Refused}

abbrev pub event : Line → Event
event Start = start
event (Do c) = command (node.asked c)
event (Refused at) = machine.refused at

-- the node may be asked what the line asks
abbrev pub IsAskableLine : Line → Type 0
IsAskableLine (Do c) = IsAskable (node.asked c)
IsAskableLine other = Unit {0}

-- the line was read as this, where it makes a request
abbrev pub IsReadAs : Option Request → Option Line → Type 0
IsReadAs request None = request ≡ None
IsReadAs request (Some line) = (r : Request) × (request ≡ Some r) × IsEventOf r (event line) × IsAskableLine line
