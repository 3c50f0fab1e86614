use Rattle.std.proofs.Common.{◌≡◌, ◌+◌, ◌-◌, ◌*◌, map}
use Rattle.term_core.specs.View.{tree_of}
use Rattle.term_wire.specs.Reading.{term_at, items_at}
use Rattle.term_wire.proofs.Loop.{with_front}
use Rattle.term_wire.proofs.reading.+term.Given as goal

abbrev pub decreases-term_of : goal.decreases-term_of
decreases-term_of l = 4 * l.levels

abbrev pub decreases-items_of : goal.decreases-items_of
decreases-items_of l = 4 * l.levels + 1

abbrev pub decreases-tuple_of : goal.decreases-tuple_of
decreases-tuple_of l = 4 * l.levels + 2

abbrev pub decreases-list_of : goal.decreases-list_of
decreases-list_of l = 4 * l.levels + 2

abbrev pub decreases-tagged_of : goal.decreases-tagged_of
decreases-tagged_of l = 4 * l.levels + 3

abbrev pub invariant-items_of-loop : goal.invariant-items_of-loop
invariant-items_of-loop l =
    with_front (map tree_of l.items) (items_at (term_at l.levels) (l.count - l.counter) l.rest) ≡ items_at (term_at l.levels) l.count l.bytes
