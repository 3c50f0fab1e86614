use Rattle.std.proofs.Common.{rules}
use Rattle.txn_log.proofs.CommitsRead.{fields_of_four, not_four}
use Rattle.txn_log.proofs.commit_items.fields_of.Goals as goal
use Rattle.txn_log.proofs.commit_items.fields_of.Goals.{in_default-as_slice-via-then-as_slice-lt4, in_default-as_slice-via-else-as_slice-lt4+else-this-lt5}

pub returns-in-len4 : goal.returns-in-len4
returns-in-len4 c =
    fields_of_four _ _ _ _ _ _ _ _ c.in-Tuple.is c.as_slice.ensures c.in-len4.len_at_least c.in-len4.len_below c.word-item.is c.version-item.is c.schema_ops-item.is c.ops-item.is c.fields_of_parts.ensures

pub returns-in_default-as_slice : goal.returns-in_default-as_slice
returns-in_default-as_slice c = elim c.in_default-as_slice.branch [
  | in_default-as_slice-via-then-as_slice-lt4 w ↦ not_four _ _ _ c.in-Tuple.is c.as_slice.ensures (λ four. search rules)
  | in_default-as_slice-via-else-as_slice-lt4+else-this-lt5 w ↦ not_four _ _ _ c.in-Tuple.is c.as_slice.ensures (λ four. search rules)
]
