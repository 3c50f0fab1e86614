use Rattle.term_wire.proofs.Within.{fault_within}
use Rattle.term_wire.proofs.decoding.read_all.Goals as goal

pub place-requires : goal.place-requires
place-requires c = fault_within c.args.bytes.now c.in-Err-Fault.fault (rw c.in-Err-Fault.field-0-is at c.in-Err-Fault.ensures)
