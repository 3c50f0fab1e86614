use Rattle.std.proofs.Common.{◌≡◌, ◌⊎◌, ◌≤◌, ◌+◌, ◌-◌, [], ◌++◌, true, length, IsTrue}
use Rattle.mn_run.specs.Asks.{IsKeptOrGone, Passes}
use Rattle.mn_run.specs.declared.lines.TheConstants.{MOST_LINE, PIECE}
use Rattle.mn_run.specs.Reading.{has_no_end}
use Rattle.mn_run.proofs.lines.Lines.next_line.Given as goal

abbrev pub invariant-loop-self : goal.invariant-loop-self
invariant-loop-self g l = record {
  told : IsTrue g.S.Source.tells → l.fn.self ++ g.S.Source.left l.fn.script ≡ l.line.items ++ (l.self ++ g.S.Source.left l.script);
  none : has_no_end l.line.items ≡ true;
  short : length l.line.items ≤ MOST_LINE;
  few : length l.self ≤ PIECE;
  faults : g.S.Source.faults l.fn.script ≤ g.S.Source.faults l.script;
  printed : IsTrue g.K.Sink.tells → Passes ⊥ l.fn.text.items l.text.items (g.K.Sink.written l.fn.out) (g.K.Sink.written l.out);
  gathered : IsKeptOrGone l.fn.text.items l.text.items;
  unread : (l.text.items ≡ []) ⊎ (l.script ≡ l.fn.script);
  write : g.K.Sink.faults l.fn.out ≤ g.K.Sink.faults l.out;
}

abbrev pub decreases-loop-self : goal.decreases-loop-self
decreases-loop-self g l = MOST_LINE + PIECE - (length l.line.items + length l.self)
