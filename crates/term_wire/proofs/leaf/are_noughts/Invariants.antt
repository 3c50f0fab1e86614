use Rattle.std.proofs.Common.{◌≡◌, ◌↔◌, drop}
use Rattle.term_wire.specs.Spelling.{low_first}
use Rattle.term_wire.proofs.leaf.are_noughts.Given as goal

abbrev pub invariant-loop-byte : goal.invariant-loop-byte
invariant-loop-byte l = (low_first (drop l.byte-index l.bytes) ≡ 0) ↔ (low_first l.bytes ≡ 0)
