use Rattle.std.proofs.Common.{sym}
use Rattle.txn_writes.proofs.Placed.{pushed}
use Rattle.txn_writes.proofs.writes.Writes.push.Goals as goal

pub invariant_of-self-else-is_err : goal.invariant_of-self-else-is_err
invariant_of-self-else-is_err c =
    pushed c.self.inside.ops c.push.new.self c.as_slice.result.now c.args.op c.self.inside.places c.note_at-noted.new.places
    c.note_at-noted.result c.len-place.result c.self.invariant c.requires.keyed c.in_ok-push.ensures.ok c.as_slice.ensures
    c.len-place.ensures (sym c.if-is_err.ensures.value) c.note_at-noted.ensures.ok
