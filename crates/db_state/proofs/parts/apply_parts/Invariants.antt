use Rattle.std.proofs.Common.{◌≡◌, map, reverse, vec_len}
use Rattle.db_state.specs.Inside.Parts.{kind_of, contents_after, AreFor}
use Rattle.db_state.proofs.parts.apply_parts.Given as goal

abbrev pub invariant-loop-part : goal.invariant-loop-part
invariant-loop-part l = record {
  made_for : AreFor l.tables.items (reverse l.parts.items);
  done : contents_after 0 (reverse l.parts.items) l.tables.items ≡ contents_after 0 l.fn.parts.items l.fn.tables.items;
  kinds : map kind_of l.tables.items ≡ map kind_of l.fn.tables.items;
}

abbrev pub decreases-loop-part : goal.decreases-loop-part
decreases-loop-part l = vec_len l.parts
