use Rattle.std.proofs.Common.{◌≡◌, ◌+◌, ◌-◌, ◌*◌, length, map}
use Rattle.term_core.specs.View.{tree_of}
use Rattle.term_text.specs.Reading.{term_at, elements_at}
use Rattle.term_text.proofs.Loop.{with_front}
use Rattle.term_text.proofs.reading.+term.Given as goal

abbrev pub decreases-term_of : goal.decreases-term_of
decreases-term_of l = 5 * l.levels

abbrev pub decreases-some_items_of : goal.decreases-some_items_of
decreases-some_items_of l = 5 * l.levels + 1

abbrev pub decreases-items_of : goal.decreases-items_of
decreases-items_of l = 5 * l.levels + 2

abbrev pub decreases-tuple_of : goal.decreases-tuple_of
decreases-tuple_of l = 5 * l.levels + 3

abbrev pub decreases-list_of : goal.decreases-list_of
decreases-list_of l = 5 * l.levels + 3

abbrev pub decreases-begun_of : goal.decreases-begun_of
decreases-begun_of l = 5 * l.levels + 4

abbrev pub invariant-some_items_of-loop : goal.invariant-some_items_of-loop
invariant-some_items_of-loop l =
    with_front (map tree_of l.items) (elements_at (term_at l.levels) l.close (length l.bytes - l.counter) l.rest) ≡ elements_at (term_at l.levels) l.close (length l.bytes) l.bytes
