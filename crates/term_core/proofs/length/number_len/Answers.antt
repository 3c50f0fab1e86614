use Rattle.std.proofs.Common.{◌≡◌, rules, sym, length, false}
use Rattle.term_core.specs.Written.{fits_byte, fits_word, digits_of}
use Rattle.term_core.proofs.Lengths.{length-number}
use Rattle.term_core.proofs.length.number_len.Goals as goal

pub returns-else-fits_word : goal.returns-else-fits_word
returns-else-fits_word c =
    let byte : fits_byte c.args.number ≡ false = search rules in
    let word : fits_word c.args.number ≡ false = search rules in
    let digits : c.digits_len.result ≡ length (digits_of c.args.number) = search rules in
    rw digits (sym (length-number c.args.number byte word))
