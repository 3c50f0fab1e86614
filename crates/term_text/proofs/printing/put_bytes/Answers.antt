use Rattle.std.proofs.lemmas.Result.{err_from_is_err_and}
use Rattle.term_text.proofs.Added.{Begins-then}
use Rattle.term_text.proofs.Written.{one_added}
use Rattle.term_text.proofs.printing.put_bytes.Goals as goal

pub returns-in_err-put_byte : goal.returns-in_err-put_byte
returns-in_err-put_byte c =
    let p = err_from_is_err_and c.from_residual-in_err-put_byte.result c.from_residual-in_err-put_byte.ensures.1 in
    rw p.1 (Begins-then _ _ _ _ (one_added _ c.loop-i.invariant.0 _ _ _ c.loop-i.invariant.1 c.in_ok-put_comma.ensures) c.in_err-put_byte.ensures)
