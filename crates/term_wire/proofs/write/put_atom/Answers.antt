use Rattle.std.proofs.Common.{ℕ, List, length, ap, arith}
use Rattle.std.specs.Str.{chars}
use Rattle.term_wire.proofs.Utf8.{length-le-chars}
use Rattle.term_wire.proofs.write.put_atom.Goals as goal

pub overflow_cast-text-else-text-le255 : goal.overflow_cast-text-else-text-le255
overflow_cast-text-else-text-le255 c =
    let text = c.text-text in
    let same = ap (λ (bytes : List ℕ). length (chars bytes)) text.ensures.text in
    record { fits = omega (arith, text.ensures.short, same, length-le-chars text.result.now text.utf8) }
