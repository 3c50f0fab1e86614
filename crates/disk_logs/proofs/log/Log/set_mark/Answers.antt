use Rattle.std.proofs.Common.{◌∙◌, ap}
use Rattle.disk_logs.specs.Logs.{file_of}
use Rattle.disk_logs.proofs.Appends.{log_has, set_done}
use Rattle.disk_logs.proofs.log.Log.set_mark.Goals as goal

pub mark-requires : goal.mark-requires
mark-requires g c told = log_has (g.D.Disk.past c.args.disk.now) c.args.self.now _ (c.self.invariant ∙ ap file_of c.self.view_is)
    (c.requires told)

pub returns-clause-done : goal.returns-clause-done
returns-clause-done g c told =
    set_done _ _ _ _ _ _ _ _ _ _ _ _ (c.self.invariant ∙ ap file_of c.self.view_is) c.mark_bytes.ensures c.told.ensures c.in_ok-told.was
    (c.mark.ensures.done told) c.told-2.ensures (c.sync.ensures.done told)
