use Rattle.std.proofs.Common.{Err, refl, ap}
use Rattle.file_trait.specs.DiskModel.{reads}
use Rattle.store_files.proofs.FirstItems.{not_read, headless, same_cause}
use Rattle.store_files.proofs.headed.Headed.read.Goals as goal

pub returns-in-Err-clause-read : goal.returns-in-Err-clause-read
returns-in-Err-clause-read g c told =
    not_read c.args.word.now c.args.name c.in-Err.error (reads (g.D.Disk.past c.args.disk.now) c.args.name)
    (c.in-Err.ensures.read told) (λ other at is. c.in-Err.ensures.bad other at (ap (λ e. Err e) is))

pub returns-in-Err-clause-cause : goal.returns-in-Err-clause-cause
returns-in-Err-clause-cause g c = same_cause _ _ _ c.in-Err.error c.in-Err.ensures.cause

pub returns-in-None-clause-read : goal.returns-in-None-clause-read
returns-in-None-clause-read g c told =
    let found = c.in-Ok-Some in
    let lacks = rw c.in-None.is at c.in_ok-number.ensures.number in (
      refl,
      headless c.args.word.now found.field-0 found.file (reads (g.D.Disk.past c.args.disk.now) c.args.name) found.field-0-is
          found.ensures.whole (found.ensures.read told) lacks,
    )
