use Rattle.std.proofs.Common.{◌≡◌, drop, length}
use Rattle.term_core.specs.View.{forest_of}
use Rattle.table_query.specs.Values.{values_of, all_values_after}
use Rattle.table_query.proofs.matching.+terms.Given as goal

abbrev pub invariant-match_terms-loop-i : goal.invariant-match_terms-loop-i
invariant-match_terms-loop-i l = record {
  same : length l.patterns ≡ length l.terms;
  rest : all_values_after (forest_of (drop l.i l.patterns)) (forest_of (drop l.i l.terms)) (values_of l.values.items)
      ≡ all_values_after (forest_of l.patterns) (forest_of l.terms) (values_of l.initial.values.items);
}
