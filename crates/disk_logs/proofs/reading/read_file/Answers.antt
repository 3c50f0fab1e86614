use Rattle.std.proofs.Common.{arith}
use Rattle.std.proofs.lemmas.Result.{err_from_is_err_and}
use Rattle.disk_logs.proofs.Publishing.{same_error}
use Rattle.disk_logs.proofs.ReadLemmas.{file_there, wrong_file, whole_read}
use Rattle.disk_logs.proofs.reading.read_file.Goals as goal

pub returns-in_err-scanned-clause-bad : goal.returns-in_err-scanned-clause-bad
returns-in_err-scanned-clause-bad g c other at wrong =
    let p = err_from_is_err_and c.from_residual-in_err-scanned.result c.from_residual-in_err-scanned.ensures.1 in
    (c.scanned.ensures.bad other at (same_error _ _ _ _ _ p.1 p.2 c.in_err-scanned.was wrong)).0

pub returns-in_err-scanned-clause-wrong : goal.returns-in_err-scanned-clause-wrong
returns-in_err-scanned-clause-wrong g c other at told wrong =
    let p = err_from_is_err_and c.from_residual-in_err-scanned.result c.from_residual-in_err-scanned.ensures.1 in
    wrong_file _ _ _ _ _ _ (c.len.ensures.same told) c.new-bytes.ensures.items (λ file. c.read_to.ensures.part file told) _ _ _ at
    (file_there (g.D.Disk.past c.args.disk.now) _ _ _ _ _ c.told.ensures c.in_ok-len.was c.in-Some.is (c.len.ensures.len told)) c.min.ensures (omega (arith, c.in_ok-read_to.ensures.all told, c.read_to.new.bytes.ok.0)) c.deref.ensures.value (omega (arith, c.min-head.ensures, c.len-2.ensures, c.read_to.new.bytes.ok.0))
    (c.scanned.ensures.bad other at (same_error _ _ _ _ _ p.1 p.2 c.in_err-scanned.was wrong)).1

pub returns-clause-bytes : goal.returns-clause-bytes
returns-clause-bytes g c told =
    whole_read _ _ _ _ _ _ (c.len.ensures.same told) c.new-bytes.ensures.items (λ file. c.read_to.ensures.part file told) _ _
    (file_there (g.D.Disk.past c.args.disk.now) _ _ _ _ _ c.told.ensures c.in_ok-len.was c.in-Some.is (c.len.ensures.len told)) (c.read_to.ensures.same told) (omega (arith, c.in_ok-read_to-2.ensures.all told, c.read_to-2.new.bytes.ok.0))
    (λ file. c.read_to-2.ensures.part file told)
