use Rattle.std.proofs.Common.{◌≡◌, drop, map}
use Rattle.term_core.specs.View.{tree_of}
use Rattle.term_wire.specs.Reading.{numbers}
use Rattle.term_wire.proofs.Loop.{onto}
use Rattle.term_wire.proofs.leaf.numbers_in.Given as goal

abbrev pub invariant-loop-byte : goal.invariant-loop-byte
invariant-loop-byte l = onto (map tree_of l.items) (numbers (drop l.byte-index l.bytes)) ≡ numbers l.bytes
