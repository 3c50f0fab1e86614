use Rattle.std.proofs.Common.{◌≡◌, drop}
use Rattle.table_query.specs.Values.{values_of, value_of}
use Rattle.table_query.proofs.matching.value_of.Given as goal

abbrev pub invariant-loop-value : goal.invariant-loop-value
invariant-loop-value l = value_of l.name (values_of (drop l.value-index l.values)) ≡ value_of l.name (values_of l.values)
