use Rattle.std.proofs.Common.{◌≡◌, refl, ap, Err}
use Rattle.file_trait.specs.DiskModel.{reads}
use Rattle.mn_node.specs.declared.starting.StartErr.TheVariants.{Damaged, File}
use Rattle.mn_node.proofs.Loading.{found_wrong, start_calls}
use Rattle.mn_node.proofs.starting.found.Goals as goal

pub returns-in-Err-clause-damaged : goal.returns-in-Err-clause-damaged
returns-in-Err-clause-damaged g c told name at is =
    let error_is : c.read_error.result ≡ Damaged name at = cc in
    let (named, file, bad) = c.read_error.ensures.damaged name at error_is in
    (named, found_wrong (reads (g.D.Disk.past c.args.disk.now)) c.in-Err.error file at (c.in-Err.ensures.read told) bad)

pub returns-in-Err-clause-calls : goal.returns-in-Err-clause-calls
returns-in-Err-clause-calls g c = start_calls c.in-Err.error c.read_error.result refl c.in-Err.ensures.cause c.read_error.ensures.file

pub returns-in-Err-clause-named : goal.returns-in-Err-clause-named
returns-in-Err-clause-named g c name is =
    let failed_is : c.read_error.result ≡ File name = cc is in
    c.in-Err.ensures.named name (ap (λ e. Err e) ((c.read_error.ensures.file name).1 failed_is))
