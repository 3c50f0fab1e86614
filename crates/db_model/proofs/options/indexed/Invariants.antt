use Rattle.std.proofs.Common.{◌≡◌, map, take}
use Rattle.term_core.specs.View.{tree_of}
use Rattle.db_model.specs.Options.{attributes_at}
use Rattle.db_model.proofs.options.indexed.Given as goal

-- the attributes at the positions that were read
abbrev pub invariant-loop-position : goal.invariant-loop-position
invariant-loop-position l = map tree_of l.found ≡ attributes_at (map tree_of l.def.attributes) (take l.position-index l.position-items)
