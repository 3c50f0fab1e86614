use Rattle.std.proofs.Common.{[], inr}
use Rattle.mn_script.specs.declared.forms.Kind.TheVariants as kind
use Rattle.mn_script.specs.Reading.{arguments_at}
use Rattle.mn_script.proofs.Memory.{next_begins, first_begins}
use Rattle.mn_script.proofs.Tables.{next_kept}
use Rattle.mn_script.proofs.reading.read_arguments.Goals as goal

pub loop-kind-preserved : goal.loop-kind-preserved
loop-kind-preserved c = record {
  read =
      next_kept c.loop-kind.kind-index c.args.kinds.now kind.Atom c.loop-kind.arguments c.push.new.self c.in_ok-argument.argument
      c.loop-kind.rest.now c.in_ok-argument.behind.now (arguments_at c.args.kinds.now [] c.args.line.now) c.loop-kind-test.true
      c.in_ok-argument.ensures.part c.in_ok-push.ensures.ok c.loop-kind.invariant.read;
  begins = inr (first_begins c.loop-kind.kind-index c.args.kinds.now kind.Atom c.args.line.now c.loop-kind.rest.now c.loop-kind-test.true
      c.loop-kind.invariant.begins (next_begins _ c.loop-kind.rest.now _ c.in_ok-argument.ensures.part));
}

pub returns-in_err-push-clause-memory : goal.returns-in_err-push-clause-memory
returns-in_err-push-clause-memory c =
    λ memory. first_begins c.loop-kind.kind-index c.args.kinds.now kind.Atom c.args.line.now c.loop-kind.rest.now c.loop-kind-test.true
    c.loop-kind.invariant.begins (next_begins _ c.loop-kind.rest.now _ c.in_ok-argument.ensures.part)
