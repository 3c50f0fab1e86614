use Rattle.std.proofs.Common.{false, refl}
use Rattle.file_trait.proofs.Moments.{none_done}
use Rattle.disk_logs.specs.Logs.{file_of}
use Rattle.disk_logs.proofs.Appends.{set_touches}
use Rattle.disk_logs.proofs.Handles.{is_closed, stands_safe, opens_stands, opens_moments}
use Rattle.disk_logs.proofs.log.Log.open.Goals as goal

pub returns-then-is_closed-clause-touches : goal.returns-then-is_closed-clause-touches
returns-then-is_closed-clause-touches g c told =
    set_touches _ (file_of c.args.self.now) false c.set_mark.result _ _ refl (c.set_mark.ensures.done told)

pub returns-then-is_closed-clause-stands : goal.returns-then-is_closed-clause-stands
returns-then-is_closed-clause-stands g c items synced told stands =
    opens_stands c.args.self.now _ items synced _ _ (is_closed c.args.self.now _ c.is_closed.ensures c.if-is_closed.true) stands _
    c.set_mark.ensures.log (c.set_mark.ensures.done told)

pub returns-then-is_closed-clause-any_moment : goal.returns-then-is_closed-clause-any_moment
returns-then-is_closed-clause-any_moment g c items synced told stands =
    opens_moments c.args.self.now c.args.self.now items synced _ _ (is_closed c.args.self.now _ c.is_closed.ensures c.if-is_closed.true)
    stands _ (c.set_mark.ensures.done told)

pub returns-clause-any_moment : goal.returns-clause-any_moment
returns-clause-any_moment g c items synced told stands = none_done _ _ _ refl (stands_safe _ c.args.self.now items synced stands)
