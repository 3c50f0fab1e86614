use Rattle.std.proofs.Common.{◌≡◌, ◌+◌, length, drop}
use Rattle.term_core.specs.View.{forest_of}
use Rattle.term_core.specs.Written.{all_written}
use Rattle.term_core.proofs.length.+length.Given as goal

abbrev pub invariant-room_after_all-loop-item : goal.invariant-room_after_all-loop-item
invariant-room_after_all-loop-item l =
    l.room + length (all_written (forest_of l.items)) ≡ l.initial.room + length (all_written (forest_of (drop l.item-index l.items)))
