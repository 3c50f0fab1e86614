use Rattle.std.proofs.Common.{refl}
use Rattle.file_mem.specs.Files.{lost}
use Rattle.file_mem.proofs.Found.{changed_in, none_in, count_same}
use Rattle.file_mem.proofs.files.set_doubtful.Goals as goal

pub returns-in-Some-clause-stored : goal.returns-in-Some-clause-stored
returns-in-Some-clause-stored c other =
    changed_in c.args.name _ _ c.deref.ensures.value _ c.in-Some.ensures lost _ _ other c.index_mut-file.ensures.value refl refl

pub returns-in-Some-clause-count : goal.returns-in-Some-clause-count
returns-in-Some-clause-count c = count_same c.args.name _ _ c.deref.ensures.value _ c.in-Some.ensures _ _ c.index_mut-file.ensures.value refl

pub returns-in_default-clause-stored : goal.returns-in_default-clause-stored
returns-in_default-clause-stored c other = none_in c.args.name _ _ c.deref.ensures.value lost other c.in_default.ensures
