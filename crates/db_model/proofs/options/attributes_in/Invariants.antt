use Rattle.std.proofs.Common.{◌≡◌, map, drop}
use Rattle.db_model.specs.Options.{attributes_in}
use Rattle.db_model.specs.View.{setting}
use Rattle.db_model.proofs.options.attributes_in.Given as goal

-- those that were read do not tell it
abbrev pub invariant-loop-setting : goal.invariant-loop-setting
invariant-loop-setting l = attributes_in (map setting (drop l.setting-index l.settings)) ≡ attributes_in (map setting l.settings)
