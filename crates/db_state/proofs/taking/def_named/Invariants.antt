use Rattle.std.proofs.Common.{◌≡◌, drop}
use Rattle.db_state.specs.Inside.Taking.{first_def}
use Rattle.db_state.proofs.taking.def_named.Given as goal

-- the first one is among the rest
abbrev pub invariant-loop-def : goal.invariant-loop-def
invariant-loop-def l = first_def l.name (drop l.def-index l.defs) ≡ first_def l.name l.defs
