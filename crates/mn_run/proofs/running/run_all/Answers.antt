use Rattle.mn_run.specs.Runs.{unbegun}
use Rattle.mn_run.proofs.RunLoop.{finish_ends}
use Rattle.mn_run.proofs.running.run_all.Goals as goal

pub returns-in-Err-clause-ran : goal.returns-in-Err-clause-ran
returns-in-Err-clause-ran g c told meaning means trusted =
    let past = g.D.Disk.past c.args.disk.now in
    let new = c.serve_all.new in
    finish_ends g.S.Source.tells g.K.Sink.tells (g.S.Source.left c.args.script.now) (unbegun meaning past (g.D.Disk.faults c.args.disk.now))
    (g.K.Sink.written c.args.out.now)
    c.in-Err.status c.finish.result (g.D.Disk.past new.disk) (g.D.Disk.faults new.disk) (g.K.Sink.written new.out) new.session.text.items
    (g.K.Sink.written c.finish.new.out) new.session.marks.items
    c.finish.ensures.only (λ told_out. c.finish.ensures.finished told_out) (c.in-Err.ensures.gave told meaning means trusted)
