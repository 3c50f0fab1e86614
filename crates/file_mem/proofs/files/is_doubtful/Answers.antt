use Rattle.std.proofs.Common.{sym, ap}
use Rattle.file_mem.specs.Files.{is_doubtful}
use Rattle.file_mem.proofs.Found.{stored_at, nowhere_in}
use Rattle.file_mem.proofs.files.is_doubtful.Goals as goal

pub returns-in-Some : goal.returns-in-Some
returns-in-Some c = sym (ap is_doubtful (stored_at c.args.name _ _ c.deref.ensures.value _ c.in-Some.ensures _ c.index.ensures))

pub returns-in-None : goal.returns-in-None
returns-in-None c = sym (ap is_doubtful (nowhere_in c.args.name _ _ c.deref.ensures.value c.in-None.ensures))
