use Rattle.std.proofs.lemmas.Result.{err_from_is_err_and}
use Rattle.term_text.proofs.Added.{Begins-then}
use Rattle.term_text.proofs.Written.{one_added}
use Rattle.term_text.proofs.printing.+put.Goals as goal

pub put_all-returns-in_err-put-clause-text : goal.put_all-returns-in_err-put-clause-text
put_all-returns-in_err-put-clause-text t c =
    let p = err_from_is_err_and c.from_residual-in_err-put.result c.from_residual-in_err-put.ensures.1 in
    rw p.1 (Begins-then _ _ _ _ (one_added _ c.loop-i.invariant.front _ _ _ c.loop-i.invariant.added c.in_ok-put_comma.ensures) c.in_err-put.ensures.text)
