use Rattle.std.proofs.Common.{sym}
use Rattle.db_state.proofs.Inserted.{position_placed}
use Rattle.db_state.proofs.positions.with_position.Goals as goal

pub returns : goal.returns
returns c =
    rw (
      c.from_vec.ensures,
      c.in_ok-insert.ensures.items,
      c.in_ok-now.ensures.items,
      c.as_slice-2.ensures,
      c.place_for-place.ensures.place,
      c.as_slice.ensures,
    )
    (sym (position_placed c.args.position c.args.positions.now))
