use Rattle.std.proofs.Common.{map, take}
use Rattle.term_core.specs.View.{tree_of}
use Rattle.db_model.specs.Options.{AreOptionsOf}
use Rattle.db_model.specs.View.{setting}
use Rattle.db_model.proofs.options.settings_of.Given as goal

-- what the options that were read say
abbrev pub invariant-loop-i : goal.invariant-loop-i
invariant-loop-i l = AreOptionsOf (map setting l.settings) (map tree_of (take l.i l.options))
