use Rattle.std.proofs.Common.{◌≡◌, drop}
use Rattle.std.specs.Prelude.{slice_get}
use Rattle.mn_run.specs.Marks.{joined}
use Rattle.mn_run.proofs.marks.mark_in.Given as goal

-- the mark is among the rest
abbrev pub invariant-loop-stretch : goal.invariant-loop-stretch
invariant-loop-stretch l = slice_get (joined (drop l.stretch-index l.stretches)) l.left ≡ slice_get (joined l.stretches) l.number
