use Rattle.std.proofs.Common.{◌≡◌, ◌++◌, map, reverse, vec_len}
use Rattle.db_state.specs.Inside.Slots.{def_of, source_of}
use Rattle.db_state.proofs.slots.arrangement_of.Given as goal

abbrev pub invariant-loop-slot : goal.invariant-loop-slot
invariant-loop-slot l = record {
  own : l.defs ++ map def_of (reverse l.slots.items) ≡ map def_of l.fn.slots.items;
  from : l.sources.items ++ map source_of (reverse l.slots.items) ≡ map source_of l.fn.slots.items;
}

abbrev pub decreases-loop-slot : goal.decreases-loop-slot
decreases-loop-slot l = vec_len l.slots
