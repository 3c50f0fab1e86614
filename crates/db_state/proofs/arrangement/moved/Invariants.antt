use Rattle.std.proofs.Common.{◌≡◌, ◌+◌, ◌≤◌, ◌++◌, length, map, reverse, vec_len, vec_capacity}
use Rattle.db_state.specs.Inside.Sources.{table_from, AreFrom}
use Rattle.db_state.proofs.arrangement.moved.Given as goal

abbrev pub invariant-loop-source : goal.invariant-loop-source
invariant-loop-source l = record {
  once : AreFrom (length l.tables.items) 0 (reverse l.sources.items);
  roomy : vec_len l.room + vec_len l.sources ≤ vec_capacity l.room;
  moved : l.room.items ++ map (table_from l.tables.items) (reverse l.sources.items)
      ≡ map (table_from l.fn.tables.items) l.fn.sources.items;
}

abbrev pub decreases-loop-source : goal.decreases-loop-source
decreases-loop-source l = vec_len l.sources
