use Rattle.disk_logs.proofs.ReadLemmas.{place_is}
use Rattle.disk_logs.proofs.log_file.LogFile.place.Goals as goal

pub returns : goal.returns
returns c = place_is _ _ c.self.invariant _ c.self.view_is c.args.number c.requires _ c.index.ensures
