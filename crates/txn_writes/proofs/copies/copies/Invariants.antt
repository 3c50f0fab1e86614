use Rattle.std.proofs.Common.{◌≡◌, take}
use Rattle.txn_writes.proofs.copies.copies.Given as goal

-- what was copied is the front that was read
abbrev pub invariant-loop-term : goal.invariant-loop-term
invariant-loop-term l = l.copies.items ≡ take l.term-index l.terms
