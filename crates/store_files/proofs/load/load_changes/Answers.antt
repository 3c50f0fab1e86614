use Rattle.std.proofs.Common.{[], Ok, Err, refl, inr, subst, codes}
use Rattle.file_trait.specs.DiskModel.{reads}
use Rattle.db_model.specs.View.{definition}
use Rattle.ram_table.specs.Contents.{contents}
use Rattle.store_files.specs.Names.{dcl_of}
use Rattle.store_files.specs.Inside.Found.{HasOwn}
use Rattle.store_files.proofs.TableRead.{own_absent, own_bytes, ops_read, ops_not_read}
use Rattle.store_files.proofs.load.load_changes.Goals as goal

pub returns-in-Ok-Some-clause-read : goal.returns-in-Ok-Some-clause-read
returns-in-Ok-Some-clause-read g c told =
    let file = reads (g.D.Disk.past c.args.disk.now) in
    let table = definition c.args.def.now in
    let found = c.in-Ok-Some in
    let own = subst (λ n. HasOwn (codes "dcl") n table.cookie (Ok found.field-0) (file n)) c.dcl_name.ensures.value
    (found.ensures.read told) in
    let there = own_bytes (codes "dcl") (dcl_of table.name) table.cookie found.field-0 found.file (file (dcl_of table.name))
    found.field-0-is own in
    let headed = rw found.field-0-is at found.ensures.whole in
    ops_read table (contents c.args.table.now) (contents c.with_changes.new.table) found.file c.with_changes.result
    (file (dcl_of table.name)) headed there c.with_changes.ensures.file c.with_changes.ensures.read

pub returns-in-Ok-None-clause-read : goal.returns-in-Ok-None-clause-read
returns-in-Ok-None-clause-read g c told =
    let file = reads (g.D.Disk.past c.args.disk.now) in
    let table = definition c.args.def.now in
    let found = c.in-Ok-None in
    let own = subst (λ n. HasOwn (codes "dcl") n table.cookie (Ok found.field-0) (file n)) c.dcl_name.ensures.value
    (found.ensures.read told) in
    let absent = own_absent (codes "dcl") (dcl_of table.name) table.cookie found.field-0 (file (dcl_of table.name)) found.field-0-is own in
    ([], inr (refl, absent), refl, absent)

pub returns-in-Err-clause-read : goal.returns-in-Err-clause-read
returns-in-Err-clause-read g c told =
    let file = reads (g.D.Disk.past c.args.disk.now) in
    let table = definition c.args.def.now in
    let rows = contents c.args.table.now in
    ops_not_read table rows rows c.in-Err.error (file (dcl_of table.name))
    (subst (λ n. HasOwn (codes "dcl") n table.cookie (Err c.in-Err.error) (file n)) c.dcl_name.ensures.value
    (c.in-Err.ensures.read told))
