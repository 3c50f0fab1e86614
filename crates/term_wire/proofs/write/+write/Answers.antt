use denote.Param.Weighed.{at_most}
use Rattle.std.proofs.Common.{rules, arith, sym, ◌<◌, length}
use Rattle.std.proofs.lemmas.Bool.Decides.{nat_tests}
use Rattle.std.proofs.lemmas.Result.{err_from_is_err_and}
use Rattle.term_core.specs.View.{forest_of}
use Rattle.term_wire.proofs.Added.{Begins-then, Appends-then}
use Rattle.term_wire.proofs.Lists.{string_fits, string_written, list_written, list_length, tuple_written, tuple_length, length-le-written, bytes_kept, on_ok}
use Rattle.term_wire.proofs.write.+write.Goals as goal

pub put_tuple-overflow_cast-items : goal.put_tuple-overflow_cast-items
put_tuple-overflow_cast-items t c = record { fits = omega (arith, c.requires, tuple_length c.args.items.now, length-le-written c.args.items.now) }

pub put_tuple-returns-clause-adds : goal.put_tuple-returns-clause-adds
put_tuple-returns-clause-adds t c =
    rw (tuple_written c.args.items.now) (Appends-then c.put_all.result _ _ _ _ _ c.in_ok-put_tuple_front.ensures c.put_all.ensures.adds)

pub put_all-returns-in_err-put-clause-adds : goal.put_all-returns-in_err-put-clause-adds
put_all-returns-in_err-put-clause-adds t c =
    let p = err_from_is_err_and c.from_residual.result c.from_residual.ensures.1 in
    rw p.1 (Begins-then _ c.loop-item.invariant.0 _ _ c.loop-item.invariant.1 c.in_err-put.ensures.adds)

pub put_list-put_string-requires-clause-few : goal.put_list-put_string-requires-clause-few
put_list-put_string-requires-clause-few t c = (string_fits c.args.items.now (sym c.if-is_string.ensures)).0

pub put_list-put_elements-requires : goal.put_list-put_elements-requires
put_list-put_elements-requires t c =
    let some : 0 < length c.args.items.now = grind (arith, nat_tests) in
    let size = list_length c.args.items.now some (sym c.if-is_string.ensures) in
    let few = length-le-written c.args.items.now in
    (search (rules, at_most), (omega (arith, c.requires, size, few), omega (arith, c.requires, size)))

pub put_list-returns-then-is_string-clause-adds : goal.put_list-returns-then-is_string-clause-adds
put_list-returns-then-is_string-clause-adds t c =
    let some : 0 < length c.args.items.now = grind (arith, nat_tests) in
    rw (string_written c.args.items.now some (sym c.if-is_string.ensures)) c.put_string.ensures

pub put_list-returns-then-is_string-clause-kept : goal.put_list-returns-then-is_string-clause-kept
put_list-returns-then-is_string-clause-kept t c =
    on_ok c.put_string.result (bytes_kept (forest_of c.args.items.now) (string_fits c.args.items.now (sym c.if-is_string.ensures)).1)

pub put_list-returns-else-is_string-clause-adds : goal.put_list-returns-else-is_string-clause-adds
put_list-returns-else-is_string-clause-adds t c =
    let some : 0 < length c.args.items.now = grind (arith, nat_tests) in
    rw (list_written c.args.items.now some (sym c.if-is_string.ensures)) c.put_elements.ensures.adds
