use Rattle.std.proofs.Common.{refl}
use Rattle.term_core.specs.View.{tree_of}
use Rattle.mn_node.specs.Seen.{read_as}
use Rattle.mn_run.proofs.Requests.{read_of, boxed_read, read_askable}
use Rattle.mn_run.proofs.commands.creation.Goals as goal

pub returns-clause-event : goal.returns-clause-event
returns-clause-event c =
    let read = c.parse_options-read in
    let options = tree_of c.args.options.now in (
      read_as c.boxed.result,
      boxed_read c.args.name options read.result c.boxed.result c.boxed.ensures
          (read_of c.args.name options read.result read.ensures.defined read.ensures.refused),
      refl,
    )

pub returns-clause-askable : goal.returns-clause-askable
returns-clause-askable c =
    let read = c.parse_options-read in
    let options = tree_of c.args.options.now in
    read_askable c.args.name options (read_as c.boxed.result)
    (boxed_read c.args.name options read.result c.boxed.result c.boxed.ensures
    (read_of c.args.name options read.result read.ensures.defined read.ensures.refused))
