use Rattle.std.proofs.Common.{Err, subst, codes}
use Rattle.file_trait.specs.DiskModel.{reads}
use Rattle.db_model.specs.View.{definition}
use Rattle.store_files.specs.Names.{dcd_of}
use Rattle.store_files.specs.Inside.Found.{HasOwn}
use Rattle.store_files.proofs.TableRead.{records_not_read}
use Rattle.store_files.proofs.load.load_records.Goals as goal

pub returns-in-Err-clause-read : goal.returns-in-Err-clause-read
returns-in-Err-clause-read g c told =
    let file = reads (g.D.Disk.past c.args.disk.now) in
    let table = definition c.args.def.now in
    records_not_read table c.in-Err.error (file (dcd_of table.name))
    (subst (λ n. HasOwn (codes "dcd") n table.cookie (Err c.in-Err.error) (file n)) c.dcd_name.ensures.value
    (c.in-Err.ensures.read told))
