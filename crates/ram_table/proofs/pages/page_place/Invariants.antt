use Rattle.std.proofs.Common.{◌≡◌, ◌<◌, ◌≤◌, ◌-◌, length, get_or, [], true, false}
use Rattle.term_core.specs.View.{tree_of}
use Rattle.ram_table.specs.Inside.Pages.{starts_above}
use Rattle.ram_table.proofs.pages.page_place.Given as goal

abbrev pub invariant-loop-low : goal.invariant-loop-low
invariant-loop-low l = record {
  order : l.low ≤ l.high;
  within : l.high ≤ length l.pages;
  before : 0 < l.low → starts_above (tree_of l.key) (get_or l.pages (l.low - 1) []) ≡ false;
  behind : l.high < length l.pages → starts_above (tree_of l.key) (get_or l.pages l.high []) ≡ true;
}

abbrev pub decreases-loop-low : goal.decreases-loop-low
decreases-loop-low l = l.high - l.low
