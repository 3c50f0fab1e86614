use Rattle.std.proofs.Common.{◌≡◌, map, drop}
use Rattle.mn_script.specs.Forms.{shape_of}
use Rattle.mn_script.specs.Reading.{line_from, line_at}
use Rattle.mn_script.proofs.reading.read_forms.Given as goal

abbrev pub invariant-loop-i : goal.invariant-loop-i
invariant-loop-i l =
    line_from l.i l.left (map shape_of (drop l.i l.forms)) l.line ≡ line_at (map shape_of l.forms) l.line
