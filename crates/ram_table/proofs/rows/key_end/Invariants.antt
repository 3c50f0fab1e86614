use Rattle.std.proofs.Common.{◌≡◌, ◌<◌, ◌≤◌, ◌-◌, length, get_or, true, false}
use Rattle.std.specs.Ordering.{is_gt}
use Rattle.term_core.specs.declared.term.Term.{Term}
use Rattle.term_core.specs.View.{tree_of}
use Rattle.ram_table.specs.Inside.Rows.{key_cmp}
use Rattle.ram_table.proofs.rows.key_end.Given as goal

abbrev pub invariant-loop-low : goal.invariant-loop-low
invariant-loop-low l = record {
  order : l.low ≤ l.high;
  within : l.high ≤ length l.rows;
  before : (d : Term) → 0 < l.low → is_gt (key_cmp (tree_of l.key) (get_or l.rows (l.low - 1) d)) ≡ false;
  behind : (d : Term) → l.high < length l.rows → is_gt (key_cmp (tree_of l.key) (get_or l.rows l.high d)) ≡ true;
}

abbrev pub decreases-loop-low : goal.decreases-loop-low
decreases-loop-low l = l.high - l.low
