use Rattle.std.proofs.Common.{◌<◌, arith, ap, ◌∙◌, get_or, pos, to_z, of_z}
use Rattle.std.specs.Prelude.{FitsSigned}
use Rattle.std.specs.Int.{w128}
use Rattle.std.proofs.lemmas.Int.{to_z-of_z}
use Rattle.term_wire.proofs.Loop.{numbers_more, numbers_done}
use Rattle.term_wire.proofs.leaf.numbers_in.Goals as goal

pub loop-byte-preserved : goal.loop-byte-preserved
loop-byte-preserved c =
    let byte = get_or c.args.bytes.now c.loop-byte.byte-index 0 in
    let small : byte < 256 = omega (arith, c.type_inv.bytes c.loop-byte.byte-index) in
    let fits : FitsSigned w128 (pos byte) = record { sfits = omega (arith, small) } in
    let number = ap (λ z. to_z w128 (of_z w128 z)) c.from.ensures ∙ to_z-of_z w128 (pos byte) fits in
    numbers_more _ _ c.args.bytes.now c.loop-byte.byte-index _ _ c.in_ok-push.ensures.ok number c.loop-byte-test.true c.loop-byte.invariant

pub returns-clause-made : goal.returns-clause-made
returns-clause-made c = numbers_done _ c.args.bytes.now c.loop-byte.byte-index _ c.loop-byte-test.false c.loop-byte.invariant
