use Rattle.std.proofs.Common.{◌≡◌, map, drop}
use Rattle.db_model.specs.Options.{record_name_in}
use Rattle.db_model.specs.View.{setting}
use Rattle.db_model.proofs.options.record_name_in.Given as goal

-- those that were read do not tell it
abbrev pub invariant-loop-setting : goal.invariant-loop-setting
invariant-loop-setting l = record_name_in l.name (map setting (drop l.setting-index l.settings)) ≡ record_name_in l.name
    (map setting l.settings)
