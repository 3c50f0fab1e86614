use Rattle.std.proofs.Common.{◌≡◌, take, map}
use Rattle.db_state.proofs.Shown.{empty_of}
use Rattle.db_state.proofs.live.Live.with_schema.Given as goal

-- an empty table for each definition that was read
abbrev pub invariant-loop-def : goal.invariant-loop-def
invariant-loop-def l = l.tables.items ≡ map empty_of (take l.def-index l.def-items)
