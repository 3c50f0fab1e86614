use Rattle.std.proofs.Common.{map}
use Rattle.term_core.specs.View.{tree_of}
use Rattle.mn_script.specs.Forms.{shape_of}
use Rattle.mn_script.proofs.Asking.{nothing_answered, command_answered, error_answered}
use Rattle.mn_script.proofs.commands.read_command.Goals as goal

pub returns-in-Ok-Some-clause-command : goal.returns-in-Ok-Some-clause-command
returns-in-Ok-Some-clause-command c =
    let said = rw c.in-Ok-Some.field-0-is at c.in-Ok-Some.ensures.said in
    command_answered (map shape_of c.command_forms.result.now) (map (λ word. word.now) c.later_words.result.now) c.args.line.now
    c.in-Ok-Some.number (map tree_of c.in-Ok-Some.arguments) c.command_of.result c.command_forms.ensures c.later_words.ensures said
    c.command_of.ensures

pub returns-in-Ok-None-clause-command : goal.returns-in-Ok-None-clause-command
returns-in-Ok-None-clause-command c =
    let said = rw c.in-Ok-None.field-0-is at c.in-Ok-None.ensures.said in
    nothing_answered (map shape_of c.command_forms.result.now) (map (λ word. word.now) c.later_words.result.now) c.args.line.now
    c.command_forms.ensures c.later_words.ensures said

pub returns-in-Err-clause-command : goal.returns-in-Err-clause-command
returns-in-Err-clause-command c =
    error_answered (map shape_of c.command_forms.result.now) (map (λ word. word.now) c.later_words.result.now) c.args.line.now
    c.in-Err.error c.command_forms.ensures c.later_words.ensures c.in-Err.ensures.said
