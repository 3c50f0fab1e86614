use Rattle.std.proofs.Common.{take}
use Rattle.std.specs.Prelude.{All}
use Rattle.term_core.specs.View.{tree_of}
use Rattle.db_model.specs.Definitions.{IsAtom}
use Rattle.db_model.proofs.setting.are_atoms.Given as goal

-- those that were read are atoms
abbrev pub invariant-loop-term : goal.invariant-loop-term
invariant-loop-term l = All (λ term. IsAtom (tree_of term)) (take l.term-index l.terms)
