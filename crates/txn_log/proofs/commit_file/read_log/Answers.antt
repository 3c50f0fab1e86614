use Rattle.std.proofs.Common.{Err, ap, refl}
use Rattle.file_trait.specs.DiskModel.{reads}
use Rattle.txn_log.proofs.Reading.{not_read, lacks_head}
use Rattle.txn_log.proofs.commit_file.read_log.Goals as goal

pub returns-in-Err-clause-read : goal.returns-in-Err-clause-read
returns-in-Err-clause-read g c told =
    not_read c.args.name c.in-Err.error (reads (g.D.Disk.past c.args.disk.now) c.args.name) (c.in-Err.ensures.read told)
    (λ name at is. c.in-Err.ensures.bad name at (ap (λ e. Err e) is))

pub returns-else-branch-clause-read : goal.returns-else-branch-clause-read
returns-else-branch-clause-read g c told =
    let found = c.in-Ok-Some in
    let lacks = c.in_ok-has_head.ensures.head.1 c.if-branch.false in (
      refl,
      lacks_head found.field-0 found.file (reads (g.D.Disk.past c.args.disk.now) c.args.name) found.field-0-is found.ensures.whole
          (found.ensures.read told) lacks,
    )
