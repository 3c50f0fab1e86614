use Rattle.std.proofs.Common.{◌≡◌, inr}
use Rattle.file_trait.specs.DiskModel.{reads}
use Rattle.store_files.proofs.FirstItems.{found_bytes, found_headed}
use Rattle.store_files.proofs.FormItems.{other_read}
use Rattle.store_files.proofs.headed.own_file.Goals as goal

pub returns-else-own-number-clause-read : goal.returns-else-own-number-clause-read
returns-else-own-number-clause-read g c told =
    let file = reads (g.D.Disk.past c.args.disk.now) c.args.name in
    let word = c.args.word.now in
    let found = c.in-Ok-Some in
    let headed = found_headed word found.field-0 found.found found.field-0-is found.ensures.whole in
    let there = found_bytes word c.args.name found.field-0 found.found file found.field-0-is (found.ensures.read told) in
    inr (other_read word (λ n. n ≡ c.args.number) found.found.file file found.found.number headed.whole there c.if-own-number.false
    headed.begin)
