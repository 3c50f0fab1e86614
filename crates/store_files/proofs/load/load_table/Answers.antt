use Rattle.std.proofs.Common.{Err, subst}
use Rattle.file_trait.specs.DiskModel.{reads}
use Rattle.db_model.specs.View.{definition}
use Rattle.ram_table.specs.Contents.{contents}
use Rattle.store_files.specs.Names.{dcd_of, dcl_of}
use Rattle.store_files.specs.Inside.Loading.{HasOpsRead}
use Rattle.store_files.proofs.TableRead.{changes_not_read}
use Rattle.store_files.proofs.load.load_table.Goals as goal

pub returns-in-Err-load_changes-clause-read : goal.returns-in-Err-load_changes-clause-read
returns-in-Err-load_changes-clause-read g c told =
    let past = g.D.Disk.past c.args.disk.now in
    let table = definition c.args.def.now in
    let rows = contents c.in-Ok.loaded.0 in
    let after = contents c.load_changes.new.table in
    let failed = c.in-Err-load_changes in
    changes_not_read table rows after failed.error (reads past (dcd_of table.name)) (reads past (dcl_of table.name))
    (rows, (c.in-Ok.ensures.read told).0)
    (subst (λ p. HasOpsRead table rows after (Err failed.error) (reads p (dcl_of table.name))) (c.in-Ok.ensures.same told)
    (failed.ensures.read told))
