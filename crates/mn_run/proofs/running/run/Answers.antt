use Rattle.mn_run.proofs.RunBroken.{run_damaged, run_meaning, run_kept, run_complete}
use Rattle.mn_run.proofs.running.run.Goals as goal

pub returns-clause-damaged : goal.returns-clause-damaged
returns-clause-damaged g c told =
    let new = c.run_all-status.new in
    let past = g.D.Disk.past c.args.disk.now in
    run_damaged g.S.Source.tells g.K.Sink.tells (g.S.Source.left c.args.script.now) past (g.D.Disk.faults c.args.disk.now)
    (g.D.Disk.past new.disk) (g.D.Disk.faults new.disk) (g.K.Sink.written c.args.out.now) (g.K.Sink.written new.out)
    new.session.marks.items c.run_all-status.result (c.run_all-status.ensures.ran told)

pub returns-clause-meaning : goal.returns-clause-meaning
returns-clause-meaning g c told form =
    let new = c.run_all-status.new in
    let past = g.D.Disk.past c.args.disk.now in
    run_meaning g.S.Source.tells g.K.Sink.tells (g.S.Source.left c.args.script.now) past (g.D.Disk.faults c.args.disk.now)
    (g.D.Disk.past new.disk) (g.D.Disk.faults new.disk) (g.K.Sink.written c.args.out.now) (g.K.Sink.written new.out)
    new.session.marks.items c.run_all-status.result (c.run_all-status.ensures.ran told)

pub returns-clause-kept : goal.returns-clause-kept
returns-clause-kept g c told =
    let new = c.run_all-status.new in
    let past = g.D.Disk.past c.args.disk.now in
    run_kept g.S.Source.tells g.K.Sink.tells (g.S.Source.left c.args.script.now) past (g.D.Disk.faults c.args.disk.now)
    (g.D.Disk.past new.disk) (g.D.Disk.faults new.disk) (g.K.Sink.written c.args.out.now) (g.K.Sink.written new.out)
    new.session.marks.items c.run_all-status.result (c.run_all-status.ensures.ran told)

pub returns-clause-complete : goal.returns-clause-complete
returns-clause-complete g c told told_in form w means trusted no_read no_write no_disk =
    let h = c.run_all-status.ensures in
    let new = c.run_all-status.new in
    let past = g.D.Disk.past c.args.disk.now in
    run_complete g.S.Source.tells g.K.Sink.tells (g.S.Source.left c.args.script.now) past (g.D.Disk.faults c.args.disk.now)
    (g.D.Disk.past new.disk) (g.D.Disk.faults new.disk) (g.K.Sink.written c.args.out.now) (g.K.Sink.written new.out)
    new.session.marks.items c.run_all-status.result (h.ran told) told_in w means trusted (λ is. no_read (h.read is))
    (λ is. no_write (h.write is)) (λ is. no_disk (h.disk is))
