use Rattle.std.proofs.Common.{OnOk, OnErr, sym, subst}
use Rattle.file_trait.specs.DiskModel.{reads}
use Rattle.disk_logs.specs.Crash.{DraftStands}
use Rattle.disk_logs.specs.Logs.{HasPart}
use Rattle.disk_logs.proofs.Effects.{on_err}
use Rattle.disk_logs.proofs.Drafts.{create_left, whole_left, made_whole, create_touches, make_touches}
use Rattle.disk_logs.proofs.log.make.Goals as goal

pub returns-in_err-told-clause-left : goal.returns-in_err-told-clause-left
returns-in_err-told-clause-left g c told = on_err _ (create_left _ _ _ _ _ _ (c.in_ok-clear.ensures.gone told) (c.create.ensures.done told))

pub returns-in_err-told-clause-touches : goal.returns-in_err-told-clause-touches
returns-in_err-told-clause-touches g c told = create_touches _ _ _ _ _ (c.clear.ensures.touches told) (c.create.ensures.done told)

pub returns-clause-made : goal.returns-clause-made
returns-clause-made g c told =
    subst (λ t. OnOk t (DraftStands (g.D.Disk.past c.append.new.self) c.args.name c.args.bytes.now)) (sym c.told-2.ensures)
    (made_whole _ _ _ _ _ _ _ _ _ c.told.ensures c.in_ok-told.was (c.create.ensures.done told) (c.append.ensures.done told))

pub returns-clause-left : goal.returns-clause-left
returns-clause-left g c told =
    subst (λ t. OnErr t (HasPart c.args.bytes.now (reads (g.D.Disk.past c.args.disk.now) c.args.name) (reads (g.D.Disk.past c.append.new.self) c.args.name))) (sym c.told-2.ensures)
    (whole_left _ _ _ _ _ _ _ _ _ _ c.told.ensures c.in_ok-told.was (c.create.ensures.done told) (c.append.ensures.done told))

pub returns-clause-touches : goal.returns-clause-touches
returns-clause-touches g c told = make_touches _ _ _ _ _ _ _ _ (c.clear.ensures.touches told) (c.create.ensures.done told) (c.append.ensures.done told)
