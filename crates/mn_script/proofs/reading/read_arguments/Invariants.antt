use Rattle.std.proofs.Common.{◌≡◌, ◌⊎◌, [], map, drop}
use Rattle.term_core.specs.View.{tree_of}
use Rattle.mn_script.specs.Inside.Parts.{BeginsFirst}
use Rattle.mn_script.specs.Reading.{arguments_at}
use Rattle.mn_script.proofs.reading.read_arguments.Given as goal

abbrev pub invariant-loop-kind : goal.invariant-loop-kind
invariant-loop-kind l = record {
  read : arguments_at (drop l.kind-index l.kinds) (map tree_of l.arguments) l.rest ≡ arguments_at l.kinds [] l.line;
  begins : ((l.kind-index ≡ 0) × (l.rest ≡ l.line)) ⊎ BeginsFirst l.kinds l.line;
}
