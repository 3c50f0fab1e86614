use Rattle.std.proofs.Common.{subst}
use Rattle.std.proofs.lemmas.Result.{err_from_is_err_and}
use Rattle.log_items.specs.Scan.{IsScan}
use Rattle.disk_logs.proofs.Publishing.{same_error, same_cause}
use Rattle.disk_logs.proofs.ReadLemmas.{refused, was_read}
use Rattle.disk_logs.proofs.log_file.LogFile.read.Goals as goal

pub returns-in_err-bytes-clause-cause : goal.returns-in_err-bytes-clause-cause
returns-in_err-bytes-clause-cause g c =
    let p = err_from_is_err_and c.from_residual.result c.from_residual.ensures.1 in
    same_cause _ _ _ _ _ _ _ p.1 p.2 c.in_err-bytes.was c.read_file.ensures.cause

pub returns-in_err-scan-clause-read : goal.returns-in_err-scan-clause-read
returns-in_err-scan-clause-read g c told =
    let p = err_from_is_err_and c.from_residual-in_err-scan.result c.from_residual-in_err-scan.ensures.1 in
    refused (λ v. v.items) c.in_ok-bytes.field-0 _ _ _ _ _ _ _ _ p.1 p.2 c.in_err-scan.was c.in-Some.is (c.in_ok-bytes.ensures.bytes told) c.deref.ensures.value c.scanned.ensures.bad c.scanned.ensures.never

pub returns-in_err-scan-clause-bad : goal.returns-in_err-scan-clause-bad
returns-in_err-scan-clause-bad g c other at wrong =
    let p = err_from_is_err_and c.from_residual-in_err-scan.result c.from_residual-in_err-scan.ensures.1 in
    (c.scanned.ensures.bad other at (same_error _ _ _ _ _ p.1 p.2 c.in_err-scan.was wrong)).0

pub returns-clause-whole : goal.returns-clause-whole
returns-clause-whole g c = was_read _ _ (subst (λ b. IsScan b c.in_ok-scan.scan) c.deref.ensures.value c.in_ok-scan.ensures.found)
