use Rattle.std.proofs.Common.{◌≤◌, ◌+◌, ◌-◌, ◌++◌, IsTrue}
use Rattle.file_trait.specs.Counts.{Rose}
use Rattle.file_trait.specs.DiskModel.{reads}
use Rattle.file_trait.specs.Touched.{Touches}
use Rattle.txn_log.specs.Logs.{IsLogName}
use Rattle.mn_node.specs.Shown.{HasLogOf, IsFaulted, IsFew, IsWhole}
use Rattle.mn_node.specs.Meaning.{Meaning, Means}
use Rattle.mn_run.specs.Lines.{lines_of}
use Rattle.mn_run.specs.Runs.{IsTrusted, unbegun}
use Rattle.mn_run.specs.Script.{plan_from}
use Rattle.mn_run.specs.declared.asks.TheConstants.{MOST_LINES, MOST_COMMANDS}
use Rattle.mn_run.proofs.RunFronts.{point}
use Rattle.mn_run.proofs.RunLoop.{SoFar}
use Rattle.mn_run.proofs.running.serve_all.Given as goal

abbrev pub invariant-lines : goal.invariant-lines
invariant-lines g l = record {
  so_far : IsTrue g.D.Disk.tells → (meaning : Meaning) → Means (reads (g.D.Disk.past l.fn.disk)) meaning
      → IsTrusted meaning (g.D.Disk.past l.fn.disk)
      → SoFar g.S.Source.tells g.K.Sink.tells (g.S.Source.left l.fn.script)
      (unbegun meaning (g.D.Disk.past l.fn.disk) (g.D.Disk.faults l.fn.disk)) (g.K.Sink.written l.fn.out)
      (plan_from l.place.lines l.place.commands (lines_of (l.lines ++ g.S.Source.left l.script))) l.place.commands
      (point l.session (g.D.Disk.past l.disk) (g.D.Disk.faults l.disk) (g.K.Sink.written l.out));
  whole : IsWhole l.session.node.state;
  log : IsTrue g.D.Disk.tells → HasLogOf l.session.node.state (g.D.Disk.past l.disk);
  few : IsFew l.session.node (l.place.commands + 1);
  down : IsFaulted l.session.node.state → Rose (g.D.Disk.faults l.fn.disk) (g.D.Disk.faults l.disk);
  within : l.place.lines ≤ MOST_LINES;
  most : l.place.commands ≤ MOST_COMMANDS;
  reads : g.S.Source.faults l.fn.script ≤ g.S.Source.faults l.script;
  writes : g.K.Sink.faults l.fn.out ≤ g.K.Sink.faults l.out;
  touches : IsTrue g.D.Disk.tells → Touches IsLogName (g.D.Disk.past l.fn.disk) (g.D.Disk.past l.disk);
  disks : g.D.Disk.faults l.fn.disk ≤ g.D.Disk.faults l.disk;
}

abbrev pub decreases-lines : goal.decreases-lines
decreases-lines g l = MOST_LINES - l.place.lines
