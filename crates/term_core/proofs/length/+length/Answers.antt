use Rattle.std.proofs.Common.{◌≡◌, ◌<◌, rules, arith, length, true}
use Rattle.std.proofs.lemmas.Bool.Decides.{nat_tests}
use Rattle.term_core.specs.View.{forest_of}
use Rattle.term_core.specs.Written.{is_byte_list}
use Rattle.term_core.proofs.Lengths.{length-tuple, length-numbers, after_front}
use Rattle.term_core.proofs.length.+length.Goals as goal

pub room_after_tuple-returns-in_err-checked_sub : goal.room_after_tuple-returns-in_err-checked_sub
room_after_tuple-returns-in_err-checked_sub t c =
    rw (length-tuple c.args.items.now, c.from_residual.ensures) (omega arith)

pub room_after_tuple-returns : goal.room_after_tuple-returns
room_after_tuple-returns t c =
    rw (length-tuple c.args.items.now) (after_front c.args.room c.in_ok-checked_sub.field-0 _ _ _ (omega arith) c.room_after_all.ensures)

pub room_after_list-returns-then-is_string : goal.room_after_list-returns-then-is_string
room_after_list-returns-then-is_string t c =
    let some : 0 < length c.args.items.now = grind (arith, nat_tests) in
    let bytes : is_byte_list (forest_of c.args.items.now) ≡ true = search rules in
    rw (length-numbers c.args.items.now some bytes) (search rules)
