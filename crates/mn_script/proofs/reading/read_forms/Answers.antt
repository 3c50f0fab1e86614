use Rattle.std.proofs.Common.{Err, ap}
use Rattle.mn_script.proofs.Memory.{form_begins}
use Rattle.mn_script.proofs.reading.read_forms.Goals as goal

pub returns-in-Err-Memory-clause-memory : goal.returns-in-Err-Memory-clause-memory
returns-in-Err-Memory-clause-memory c =
    λ memory. form_begins c.loop-i.i c.args.forms.now _ c.args.line.now _ c.loop-i-test.true c.unblanked-rest.ensures
    (c.in-Err-Memory.ensures.memory (ap Err c.in-Err-Memory.field-0-is))
