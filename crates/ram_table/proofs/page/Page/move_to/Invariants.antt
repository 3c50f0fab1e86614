use Rattle.std.proofs.Common.{◌≡◌, ◌+◌, ◌≤◌, ◌++◌, length, reverse, vec_len, vec_capacity}
use Rattle.ram_table.proofs.page.Page.move_to.Given as goal

abbrev pub invariant-loop-self : goal.invariant-loop-self
invariant-loop-self l = record {
  whole : l.self-inside.rows.items ++ reverse l.tail-inside.rows.items ≡ l.fn.self;
  count : vec_len l.self-inside.rows + vec_len l.tail-inside.rows ≡ length l.fn.self;
  front : l.at ≤ vec_len l.self-inside.rows;
  room : 65 ≤ vec_capacity l.tail-inside.rows;
  own_room : 65 ≤ vec_capacity l.self-inside.rows;
}

abbrev pub decreases-loop-self : goal.decreases-loop-self
decreases-loop-self l = vec_len l.self-inside.rows
