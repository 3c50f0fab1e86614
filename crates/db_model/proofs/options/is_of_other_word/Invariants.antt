use Rattle.std.proofs.Common.{◌≢◌, take}
use Rattle.std.specs.Prelude.{All}
use Rattle.db_model.specs.Options.{word_of}
use Rattle.db_model.specs.View.{setting}
use Rattle.db_model.proofs.options.is_of_other_word.Given as goal

-- none of those that were read is of its word
abbrev pub invariant-loop-other : goal.invariant-loop-other
invariant-loop-other l = All (λ other. word_of (setting other) ≢ word_of (setting l.one)) (take l.other-index l.others)
