use Rattle.std.proofs.Common.{refl}
use Rattle.db_state.proofs.Shown.{all_empty, empties_fit, empties_shown}
use Rattle.db_state.proofs.live.Live.with_schema.Goals as goal

pub invariant_of-result : goal.invariant_of-result
invariant_of-result c =
    let defs = c.args.schema.now.tables in
    let tables = all_empty defs c.as_slice-def-items.result.now c.loop-def.def-index c.loop-def.tables.items c.as_slice-def-items.ensures
    c.loop-def-test.false c.loop-def.invariant in
    rw (c.in_ok-try_clone.ensures, tables) (empties_fit defs c.requires)

pub returns : goal.returns
returns c =
    let defs = c.args.schema.now.tables in
    let tables = all_empty defs c.as_slice-def-items.result.now c.loop-def.def-index c.loop-def.tables.items c.as_slice-def-items.ensures
    c.loop-def-test.false c.loop-def.invariant in
    rw (c.in_ok-try_clone.ensures, tables, empties_shown defs) refl
