use Rattle.std.proofs.Common.{◌≡◌, arith, rules, true, false}
use Rattle.std.specs.Prelude.{FitsSigned}
use Rattle.std.specs.Int.{w32}
use Rattle.term_core.specs.Written.{fits_byte, fits_word}
use Rattle.term_wire.proofs.Numbers.{digits_short, number_in_word, word_written}
use Rattle.term_wire.proofs.write.put_number.Goals as goal

pub put_wide-requires : goal.put_wide-requires
put_wide-requires c = omega (arith, digits_short _ _ _ c.to_le_bytes-bytes.ensures c.without_noughts.ensures.bytes)

pub returns-then-fits_word-clause-adds : goal.returns-then-fits_word-clause-adds
returns-then-fits_word-clause-adds c =
    let byte : fits_byte c.args.number ≡ false = search rules in
    let word : fits_word c.args.number ≡ true = search rules in
    let fits : FitsSigned w32 c.args.number = number_in_word c.args.number word in
    rw (word_written c.args.number byte word) (search (rules, fits))
