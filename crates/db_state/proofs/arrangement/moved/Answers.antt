use Rattle.std.proofs.Common.{List, length, reverse, sym, subst, arith}
use Rattle.ram_table.specs.Contents.{TableRecords}
use Rattle.db_state.specs.Inside.Sources.{AreFrom}
use Rattle.db_state.proofs.Places.{turned}
use Rattle.db_state.proofs.Moved.{first_there, rest_from, one_moved}
use Rattle.db_state.proofs.arrangement.moved.Goals as goal

pub taken-table-requires : goal.taken-table-requires
taken-table-requires c =
    let tables = c.loop-source.tables.items in
    let first = turned c.loop-source.sources.items c.pop.new.self.items c.in-Some.source c.in-Some.ensures.items in
    first_there (length tables) 0 c.in-Some.source (reverse c.pop.new.self.items)
    (subst (AreFrom (length tables) 0) first c.loop-source.invariant.once)

pub loop-source-preserved : goal.loop-source-preserved
loop-source-preserved c =
    let tables = c.loop-source.tables.items in
    let source = c.in-Some.source in
    let rest = reverse c.pop.new.self.items in
    let first = turned c.loop-source.sources.items c.pop.new.self.items source c.in-Some.ensures.items in
    let are = subst (AreFrom (length tables) 0) first c.loop-source.invariant.once in
    record {
      once = subst (λ (ts : List TableRecords). AreFrom (length ts) 0 rest) (sym c.taken-table.ensures.left) (rest_from tables source rest are);
      roomy = omega (
        arith,
        c.in-Some.ensures.len,
        c.push_reserved.ensures.len,
        c.push_reserved.ensures.capacity,
        c.loop-source.invariant.roomy,
      );
      moved = rw (c.push_reserved.ensures.items, c.taken-table.ensures.taken)
          (one_moved c.loop-source.room.items tables c.taken-table.new.tables.items source rest _ are c.taken-table.ensures.left
          (rw first at c.loop-source.invariant.moved));
    }
