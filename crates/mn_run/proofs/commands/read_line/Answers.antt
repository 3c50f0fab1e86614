use Rattle.std.proofs.Common.{Some, sym, ap, subst}
use Rattle.mn_script.specs.Commands as script
use Rattle.mn_run.specs.Commands.{request_of}
use Rattle.mn_run.specs.Seen.{IsReadAs}
use Rattle.mn_run.specs.declared.commands.Line.{Line}
use Rattle.mn_run.specs.declared.commands.Line.TheVariants.{Refused}
use Rattle.mn_run.proofs.Requests.{command_read, refusal_read}
use Rattle.mn_run.proofs.commands.read_line.Goals as goal

pub returns-in-Ok-Some-clause-event : goal.returns-in-Ok-Some-clause-event
returns-in-Ok-Some-clause-event c =
    let is = rw c.in-Ok-Some.field-0-is at c.in-Ok-Some.ensures.command in
    command_read (script.asked c.args.line.now) (script.seen c.in-Ok-Some.command) c.line_of.result is c.line_of.ensures.event
    c.line_of.ensures.askable

pub returns-in-Err-Badarg-clause-event : goal.returns-in-Err-Badarg-clause-event
returns-in-Err-Badarg-clause-event c =
    let is = rw c.in-Err-Badarg.field-0-is at c.in-Err-Badarg.ensures.command in
    let place = ap Refused (sym c.in-Err-Badarg.at-is) in
    subst (λ (line : Line). IsReadAs (request_of c.args.line.now) (Some line)) place
    (refusal_read (script.asked c.args.line.now) c.in-Err-Badarg.at is)
