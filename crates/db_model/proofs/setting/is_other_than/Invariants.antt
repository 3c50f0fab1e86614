use Rattle.std.proofs.Common.{take}
use Rattle.std.specs.Prelude.{All}
use Rattle.term_core.specs.View.{tree_of}
use Rattle.db_model.specs.Definitions.{Differ}
use Rattle.db_model.proofs.setting.is_other_than.Given as goal

-- it is none of those that were read
abbrev pub invariant-loop-other : goal.invariant-loop-other
invariant-loop-other l = All (λ other. Differ (tree_of other) (tree_of l.term)) (take l.other-index l.others)
