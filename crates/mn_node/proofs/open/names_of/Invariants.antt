use Rattle.std.proofs.Common.{◌≡◌, ◌++◌, map, drop}
use Rattle.term_core.specs.Tree.{atom}
use Rattle.term_core.specs.View.{tree_of}
use Rattle.mn_node.proofs.open.names_of.Given as goal

abbrev pub invariant-loop-def : goal.invariant-loop-def
invariant-loop-def l =
    map tree_of l.names ++ map (λ def. atom def.name) (drop l.def-index l.defs) ≡ map (λ def. atom def.name) l.defs
