use Rattle.std.proofs.Common.{◌≡◌, ◌<◌, ◌≤◌, ◌-◌, length, get_or, true, false}
use Rattle.std.specs.Ordering.{is_lt}
use Rattle.term_core.specs.declared.term.Term.{Term}
use Rattle.ram_table.specs.Inside.Rows.{row_cmp}
use Rattle.ram_table.proofs.rows.row_start.Given as goal

abbrev pub invariant-loop-low : goal.invariant-loop-low
invariant-loop-low l = record {
  order : l.low ≤ l.high;
  within : l.high ≤ length l.rows;
  before : (d : Term) → 0 < l.low → is_lt (row_cmp l.kind (get_or l.rows (l.low - 1) d) l.row) ≡ true;
  behind : (d : Term) → l.high < length l.rows → is_lt (row_cmp l.kind (get_or l.rows l.high d) l.row) ≡ false;
}

abbrev pub decreases-loop-low : goal.decreases-loop-low
decreases-loop-low l = l.high - l.low
