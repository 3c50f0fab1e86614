use Rattle.term_text.proofs.Within.{fault_within, rest_within}
use Rattle.term_text.proofs.reading.read_from.Goals as goal

pub overflow_sub-result : goal.overflow_sub-result
overflow_sub-result c = rest_within c.args.levels c.args.at c.args.text.now _ (rw c.split_at.ensures.back at c.in-Ok.ensures)

pub place-requires : goal.place-requires
place-requires c = fault_within c.args.levels c.args.at c.args.text.now c.in-Err-Fault.fault (rw (c.in-Err-Fault.field-0-is, c.split_at.ensures.back) at c.in-Err-Fault.ensures)
