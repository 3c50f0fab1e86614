use Rattle.std.proofs.Common.{◌≡◌, take}
use Rattle.db_model.proofs.copies.copied.Given as goal

-- what was copied is the front that was read
abbrev pub invariant-loop-item : goal.invariant-loop-item
invariant-loop-item g l = l.copies ≡ take l.item-index l.item-items
