use Rattle.std.proofs.Common.{take}
use Rattle.std.specs.List.{AllPairs}
use Rattle.db_model.proofs.Forests.{TermsDiffer}
use Rattle.db_model.proofs.setting.are_different.Given as goal

-- those that were read are different
abbrev pub invariant-loop-i : goal.invariant-loop-i
invariant-loop-i l = AllPairs TermsDiffer (take l.i l.terms)
