use Rattle.std.proofs.Common.{◌≡◌, Some, Err, codes, subst}
use Rattle.file_trait.specs.DiskModel.{reads}
use Rattle.store_files.specs.Names.{schema_name}
use Rattle.store_files.specs.Inside.Found.{HasFound}
use Rattle.store_files.proofs.FirstItems.{found_bytes, found_headed}
use Rattle.store_files.proofs.SchemaRead.{schema_read, schema_not_found}
use Rattle.store_files.proofs.schema.read_schema.Goals as goal

pub returns-in-Ok-Some-clause-read : goal.returns-in-Ok-Some-clause-read
returns-in-Ok-Some-clause-read g c told =
    let file = reads (g.D.Disk.past c.args.disk.now) in
    let found = c.in-Ok-Some in
    let headed = found_headed (codes "schema") found.field-0 found.found found.field-0-is found.ensures.whole in
    let there = found_bytes (codes "schema") c.schema_name.result found.field-0 found.found (file c.schema_name.result)
    found.field-0-is (found.ensures.read told) in
    schema_read c.schema_in.result schema_name found.found.number found.found.file (file schema_name) headed
    (subst (λ name. file name ≡ Some found.found.file.bytes) c.schema_name.ensures.value there)
    c.schema_in.ensures.version c.schema_in.ensures.tables

pub returns-in-Err-clause-read : goal.returns-in-Err-clause-read
returns-in-Err-clause-read g c told =
    let file = reads (g.D.Disk.past c.args.disk.now) in
    schema_not_found c.in-Err.error c.schema_name.result (file schema_name)
    (subst (λ name. HasFound (codes "schema") c.schema_name.result (Err c.in-Err.error) (file name)) c.schema_name.ensures.value
    (c.in-Err.ensures.read told))
