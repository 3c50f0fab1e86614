use Rattle.std.proofs.Common.{◌↔◌, drop}
use Rattle.term_core.specs.View.{forest_of}
use Rattle.table_query.proofs.Plain.{ArePlain}
use Rattle.table_query.proofs.bound.+plain.Given as goal

abbrev pub invariant-are_plain-loop-term : goal.invariant-are_plain-loop-term
invariant-are_plain-loop-term l = record {
  rest : ArePlain (forest_of (drop l.term-index l.terms)) ↔ ArePlain (forest_of l.terms);
}
