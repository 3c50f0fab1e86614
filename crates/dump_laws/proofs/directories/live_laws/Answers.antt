use Rattle.dump_laws.proofs.Acts.{under-append}
use Rattle.dump_laws.proofs.Plain.{live}
use Rattle.dump_laws.proofs.directories.live_laws.Goals as goal

pub returns-clause-appended : goal.returns-clause-appended
returns-clause-appended c = under-append

pub returns-clause-live : goal.returns-clause-live
returns-clause-live c = live
