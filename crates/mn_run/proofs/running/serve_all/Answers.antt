use Rattle.std.proofs.Common.{◌≡◌, ◌+◌, ◌++◌, ◌≤◌, List, ℕ, [], ◌∷◌, None, Ok, Err, refl, sym, ap, ◌∙◌, subst, length, arith}
use Rattle.std.proofs.lemmas.Result.{err_from_is_err_and}
use Rattle.file_trait.proofs.Touched.{then_touched}
use Rattle.txn_log.specs.Logs.{IsLogName}
use Rattle.mn_node.specs.Shown.{IsFew, IsFaulted}
use Rattle.mn_node.specs.Machine.{unstarted_machine}
use Rattle.mn_run.specs.Commands.{ends}
use Rattle.mn_run.specs.Lines.{lines_of}
use Rattle.mn_run.specs.Runs.{World, unbegun, last_of}
use Rattle.mn_run.specs.Script.{plan_from}
use Rattle.mn_run.specs.declared.session.Session.{Session}
use Rattle.mn_run.specs.declared.session.TheConstants.{MOST_GATHERED}
use Rattle.mn_run.proofs.RunFronts.{Point, point, front_on}
use Rattle.mn_run.proofs.RunLoop.{node_shows, less_of, new_few, new_down, down_more, SoFar, first_more, first_ends, blank_more, do_more, do_ends, read_ends, flush_ends, end_ends, at_request, do_is, end_is, do_request, is_blank, is_end, goes_do, goes_blank, goes_end, todo_of, counts_from, gave_err}
use Rattle.mn_run.proofs.running.serve_all.Goals as goal

pub returns-in_err-serve-clause-gave : goal.returns-in_err-serve-clause-gave
returns-in_err-serve-clause-gave g c told meaning means trusted =
    let p = err_from_is_err_and c.from_residual.result c.from_residual.ensures.1 in
    let past = g.D.Disk.past c.args.disk.now in
    let node = c.args.session.now.node in
    let old : World = unbegun meaning past (g.D.Disk.faults c.args.disk.now) in
    let out : List ℕ = g.K.Sink.written c.args.out.now in
    let script : List ℕ = g.S.Source.left c.args.script.now in
    let shows = node_shows past meaning node c.requires.node means trusted in
    let new = c.serve.new.self in
    let now = g.D.Disk.past c.serve.new.disk in
    let faults = g.D.Disk.faults c.serve.new.disk in
    let end = c.in_err-serve.field-0.0 in
    gave_err g.S.Source.tells g.K.Sink.tells script old out end c.from_residual.result
    (point new now faults out)
    (p.1 ∙ ap Err p.2)
    (first_ends g.S.Source.tells g.K.Sink.tells script old out node shows c.args.session.now new now faults end c.requires.text
    c.requires.marks (c.in_err-serve.ensures.served told past (unstarted_machine meaning) shows) c.in_err-serve.ensures.only)

pub lines-init : goal.lines-init
lines-init g c = record {
  so_far = λ told meaning means trusted.
      let past = g.D.Disk.past c.args.disk.now in
      let node = c.args.session.now.node in
      let old : World = unbegun meaning past (g.D.Disk.faults c.args.disk.now) in
      let out : List ℕ = g.K.Sink.written c.args.out.now in
      let script : List ℕ = g.S.Source.left c.args.script.now in
      let shows = node_shows past meaning node c.requires.node means trusted in
      let new = c.serve.new.self in
      let now = g.D.Disk.past c.serve.new.disk in
      let faults = g.D.Disk.faults c.serve.new.disk in
      subst (λ (xs : List ℕ). SoFar g.S.Source.tells g.K.Sink.tells script old out (plan_from 0 0 (lines_of (xs ++ script))) 0
      (point new now faults out))
      (sym c.new-lines.ensures)
      (first_more g.S.Source.tells g.K.Sink.tells script old out node shows c.args.session.now new now faults c.requires.text
      c.requires.marks (c.in_ok-serve.ensures.served told past (unstarted_machine meaning) shows));
  whole = c.in_ok-serve.ensures.whole;
  log = c.in_ok-serve.ensures.log;
  few = c.in_ok-serve.ensures.few 0 (new_few c.args.session.now.node c.requires.node);
  down = λ down. new_down c.args.session.now.node c.requires.node _ (c.in_ok-serve.ensures.down down);
  within = omega arith;
  most = omega arith;
  reads = omega arith;
  writes = omega arith;
  touches = c.in_ok-serve.ensures.touches;
  disks = c.in_ok-serve.ensures.later;
}

pub returns-in_err-next_ask-clause-gave : goal.returns-in_err-next_ask-clause-gave
returns-in_err-next_ask-clause-gave g c told meaning means trusted =
    let p = err_from_is_err_and c.from_residual-in_err-next_ask.result c.from_residual-in_err-next_ask.ensures.1 in
    let l = c.lines in
    let ask = c.next_ask.new in
    let now = point l.session (g.D.Disk.past l.disk) (g.D.Disk.faults l.disk) (g.K.Sink.written l.out) in
    let past = g.D.Disk.past c.args.disk.now in
    let old : World = unbegun meaning past (g.D.Disk.faults c.args.disk.now) in
    let out : List ℕ = g.K.Sink.written c.args.out.now in
    let script : List ℕ = g.S.Source.left c.args.script.now in
    let plan = plan_from l.place.lines l.place.commands (lines_of (l.lines ++ g.S.Source.left l.script)) in
    let later = plan_from ask.place.lines ask.place.commands (lines_of (ask.lines ++ g.S.Source.left ask.script)) in
    let s = l.invariant.so_far told meaning means trusted in
    let asked = c.in_err-next_ask in
    let read_out : List ℕ = g.K.Sink.written ask.out in
    gave_err g.S.Source.tells g.K.Sink.tells script old out asked.field-0.0 c.from_residual-in_err-next_ask.result
    (record now { out = read_out; text = ask.text.items }) (p.1 ∙ ap Err p.2)
    (read_ends g.S.Source.tells g.K.Sink.tells script old out plan later l.place.commands now read_out ask.text.items asked.field-0.0 s
    l.invariant.whole (λ told_in. asked.ensures.asks told_in) asked.ensures.only (λ told_out. asked.ensures.printed told_out))

pub returns-in-End-clause-gave : goal.returns-in-End-clause-gave
returns-in-End-clause-gave g c told meaning means trusted =
    let l = c.lines in
    let ask = c.next_ask.new in
    let now = point l.session (g.D.Disk.past l.disk) (g.D.Disk.faults l.disk) (g.K.Sink.written l.out) in
    let past = g.D.Disk.past c.args.disk.now in
    let old : World = unbegun meaning past (g.D.Disk.faults c.args.disk.now) in
    let out : List ℕ = g.K.Sink.written c.args.out.now in
    let script : List ℕ = g.S.Source.left c.args.script.now in
    let plan = plan_from l.place.lines l.place.commands (lines_of (l.lines ++ g.S.Source.left l.script)) in
    let later = plan_from ask.place.lines ask.place.commands (lines_of (ask.lines ++ g.S.Source.left ask.script)) in
    let s = l.invariant.so_far told meaning means trusted in
    let asked = c.in_ok-next_ask in
    let read_out : List ℕ = g.K.Sink.written ask.out in
    let session : Session = record l.session { text = ask.text } in
    let f =
    at_request g.S.Source.tells g.K.Sink.tells script old out plan l.place.commands now (ends ∷ []) None read_out ask.text.items
    (end_is g.S.Source.tells g.K.Sink.tells script old out plan
    (λ told_in. is_end asked.field-0 plan later c.in-End.is (asked.ensures.asks told_in))) (λ told_out. asked.ensures.printed told_out)
    (less_of l.session.text.items ask.text.items asked.ensures.gathered) s in
    let same : ask.place.commands ≡ l.place.commands =
    goes_end asked.field-0 l.place.lines ask.place.lines l.place.commands ask.place.commands c.in-End.is asked.ensures.goes in
    end_ends g.S.Source.tells g.K.Sink.tells script old out l.place.commands ask.place.commands
    (record now { out = read_out; text = ask.text.items }) f same (asked.ensures.end (ap Ok c.in-End.is)) session c.end.new.self
    (g.D.Disk.past c.end.new.disk) (g.D.Disk.faults c.end.new.disk) refl c.end.result
    (c.end.ensures.ended told past (last_of old s.acts).machine s.shows) c.end.result refl c.end.ensures.only

pub lines-preserved-in-Blank : goal.lines-preserved-in-Blank
lines-preserved-in-Blank g c =
    let i = c.lines.invariant in
    let asked = c.in_ok-next_ask in
    let same : c.next_ask.new.place.commands ≡ c.lines.place.commands =
    goes_blank asked.field-0 c.lines.place.lines c.next_ask.new.place.lines c.lines.place.commands c.next_ask.new.place.commands
    c.in-Blank.is asked.ensures.goes in
    record {
      so_far = λ told meaning means trusted.
          let l = c.lines in
          let ask = c.next_ask.new in
          let now = point l.session (g.D.Disk.past l.disk) (g.D.Disk.faults l.disk) (g.K.Sink.written l.out) in
          let past = g.D.Disk.past c.args.disk.now in
          let old : World = unbegun meaning past (g.D.Disk.faults c.args.disk.now) in
          let out : List ℕ = g.K.Sink.written c.args.out.now in
          let script : List ℕ = g.S.Source.left c.args.script.now in
          let plan = plan_from l.place.lines l.place.commands (lines_of (l.lines ++ g.S.Source.left l.script)) in
          let later = plan_from ask.place.lines ask.place.commands (lines_of (ask.lines ++ g.S.Source.left ask.script)) in
          let s = l.invariant.so_far told meaning means trusted in
          blank_more g.S.Source.tells g.K.Sink.tells script old out plan later l.place.commands ask.place.commands now
          (g.K.Sink.written ask.out) ask.text.items
          (λ told_in. is_blank asked.field-0 plan later c.in-Blank.is (asked.ensures.asks told_in)) same
          (λ told_out. asked.ensures.printed told_out) (less_of l.session.text.items ask.text.items asked.ensures.gathered) s;
      whole = i.whole;
      log = i.log;
      few = subst (λ n. IsFew c.lines.session.node (n + 1)) (sym same) i.few;
      down = i.down;
      within = asked.ensures.within;
      most = asked.ensures.few;
      reads = omega (arith, i.reads, asked.ensures.cause.later);
      writes = omega (arith, i.writes, asked.ensures.write.later);
      touches = i.touches;
      disks = i.disks;
    }

pub returns-in_err-flush_much-in-Do-clause-gave : goal.returns-in_err-flush_much-in-Do-clause-gave
returns-in_err-flush_much-in-Do-clause-gave g c told meaning means trusted =
    let p = err_from_is_err_and c.from_residual-in_err-flush_much-in-Do.result c.from_residual-in_err-flush_much-in-Do.ensures.1 in
    let l = c.lines in
    let ask = c.next_ask.new in
    let now = point l.session (g.D.Disk.past l.disk) (g.D.Disk.faults l.disk) (g.K.Sink.written l.out) in
    let past = g.D.Disk.past c.args.disk.now in
    let old : World = unbegun meaning past (g.D.Disk.faults c.args.disk.now) in
    let out : List ℕ = g.K.Sink.written c.args.out.now in
    let script : List ℕ = g.S.Source.left c.args.script.now in
    let plan = plan_from l.place.lines l.place.commands (lines_of (l.lines ++ g.S.Source.left l.script)) in
    let later = plan_from ask.place.lines ask.place.commands (lines_of (ask.lines ++ g.S.Source.left ask.script)) in
    let s = l.invariant.so_far told meaning means trusted in
    let asked = c.in_ok-next_ask in
    let read_out : List ℕ = g.K.Sink.written ask.out in
    let line = c.in-Do.line in
    let q = do_request g.S.Source.tells asked.field-0 line plan later c.in-Do.is (λ told_in. asked.ensures.asks told_in) in
    let at : Point = record now { out = read_out; text = ask.text.items } in
    let f =
    at_request g.S.Source.tells g.K.Sink.tells script old out plan l.place.commands now
    (q.0 ∷ todo_of later) later.over read_out ask.text.items
    (do_is g.S.Source.tells g.K.Sink.tells script old out plan later line q.0 q.1)
    (λ told_out. asked.ensures.printed told_out)
    (less_of l.session.text.items ask.text.items asked.ensures.gathered) s in
    let flushed : List ℕ = g.K.Sink.written c.flush_much.new.out in
    let end = c.in_err-flush_much-in-Do.field-0.0 in
    gave_err g.S.Source.tells g.K.Sink.tells script old out end c.from_residual-in_err-flush_much-in-Do.result
    (record now { out = flushed; text = c.flush_much.new.text.items }) (p.1 ∙ ap Err p.2)
    (flush_ends g.S.Source.tells g.K.Sink.tells script old out (counts_from l.place.commands)
    (q.0 ∷ todo_of later) later.over at flushed c.flush_much.new.text.items end f c.in_err-flush_much-in-Do.ensures.only
    (λ told_out. c.in_err-flush_much-in-Do.ensures.printed told_out))

pub lines-preserved : goal.lines-preserved
lines-preserved g c =
    let i = c.lines.invariant in
    let asked = c.in_ok-next_ask in
    let served = c.in_ok-serve-in-Do.ensures in
    let next : c.next_ask.new.place.commands ≡ c.lines.place.commands + 1 =
    goes_do asked.field-0 c.in-Do.line c.lines.place.lines c.next_ask.new.place.lines c.lines.place.commands
    c.next_ask.new.place.commands c.in-Do.is asked.ensures.goes in
    record {
      so_far = λ told meaning means trusted.
          let l = c.lines in
          let ask = c.next_ask.new in
          let now = point l.session (g.D.Disk.past l.disk) (g.D.Disk.faults l.disk) (g.K.Sink.written l.out) in
          let past = g.D.Disk.past c.args.disk.now in
          let old : World = unbegun meaning past (g.D.Disk.faults c.args.disk.now) in
          let out : List ℕ = g.K.Sink.written c.args.out.now in
          let script : List ℕ = g.S.Source.left c.args.script.now in
          let plan = plan_from l.place.lines l.place.commands (lines_of (l.lines ++ g.S.Source.left l.script)) in
          let later = plan_from ask.place.lines ask.place.commands (lines_of (ask.lines ++ g.S.Source.left ask.script)) in
          let s = l.invariant.so_far told meaning means trusted in
          let read_out : List ℕ = g.K.Sink.written ask.out in
          let line = c.in-Do.line in
          let q = do_request g.S.Source.tells asked.field-0 line plan later c.in-Do.is (λ told_in. asked.ensures.asks told_in) in
          let at : Point = record now { out = read_out; text = ask.text.items } in
          let f =
          at_request g.S.Source.tells g.K.Sink.tells script old out plan l.place.commands now
          (q.0 ∷ todo_of later) later.over read_out ask.text.items
          (do_is g.S.Source.tells g.K.Sink.tells script old out plan later line q.0 q.1)
          (λ told_out. asked.ensures.printed told_out)
          (less_of l.session.text.items ask.text.items asked.ensures.gathered) s in
          let flushed : List ℕ = g.K.Sink.written c.flush_much.new.out in
          let here : Point = record now { out = flushed; text = c.flush_much.new.text.items } in
          let h =
          front_on g.S.Source.tells g.K.Sink.tells script old out (counts_from l.place.commands)
          (q.0 ∷ todo_of later) later.over at flushed c.flush_much.new.text.items
          (λ told_out. c.in_ok-flush_much-in-Do.ensures.printed told_out)
          (less_of ask.text.items c.flush_much.new.text.items c.in_ok-flush_much-in-Do.ensures.gathered) f in
          let following : ask.place.commands ≡ l.place.commands + 1 =
          goes_do asked.field-0 line l.place.lines ask.place.lines l.place.commands ask.place.commands c.in-Do.is asked.ensures.goes in
          let session : Session = record l.session { text = c.flush_much.new.text } in
          let few : length c.flush_much.new.text.items ≤ MOST_GATHERED = omega (arith, c.in_ok-flush_much-in-Do.ensures.few) in
          do_more g.S.Source.tells g.K.Sink.tells script old out plan later l.place.commands ask.place.commands here line q.0
          q.1 h following session c.serve-in-Do.new.self (g.D.Disk.past c.serve-in-Do.new.disk)
          (g.D.Disk.faults c.serve-in-Do.new.disk) refl refl few
          (served.served told past (last_of old s.acts).machine s.shows);
      whole = served.whole;
      log = served.log;
      few = served.few c.next_ask.new.place.commands (subst (IsFew c.lines.session.node) (sym next) i.few);
      down = λ down. down_more (IsFaulted c.lines.session.node.state) (g.D.Disk.faults c.args.disk.now) (g.D.Disk.faults c.lines.disk)
          (g.D.Disk.faults c.serve-in-Do.new.disk) i.disks served.later i.down (served.down down);
      within = asked.ensures.within;
      most = asked.ensures.few;
      reads = omega (arith, i.reads, asked.ensures.cause.later);
      writes = omega (arith, i.writes, asked.ensures.write.later, c.in_ok-flush_much-in-Do.ensures.write.later);
      touches = λ told. then_touched IsLogName _ _ _ (i.touches told) (served.touches told);
      disks = omega (arith, i.disks, served.later);
    }

pub returns-in_err-serve-in-Do-clause-gave : goal.returns-in_err-serve-in-Do-clause-gave
returns-in_err-serve-in-Do-clause-gave g c told meaning means trusted =
    let p = err_from_is_err_and c.from_residual-in_err-serve-in-Do.result c.from_residual-in_err-serve-in-Do.ensures.1 in
    let l = c.lines in
    let ask = c.next_ask.new in
    let now = point l.session (g.D.Disk.past l.disk) (g.D.Disk.faults l.disk) (g.K.Sink.written l.out) in
    let past = g.D.Disk.past c.args.disk.now in
    let old : World = unbegun meaning past (g.D.Disk.faults c.args.disk.now) in
    let out : List ℕ = g.K.Sink.written c.args.out.now in
    let script : List ℕ = g.S.Source.left c.args.script.now in
    let plan = plan_from l.place.lines l.place.commands (lines_of (l.lines ++ g.S.Source.left l.script)) in
    let later = plan_from ask.place.lines ask.place.commands (lines_of (ask.lines ++ g.S.Source.left ask.script)) in
    let s = l.invariant.so_far told meaning means trusted in
    let asked = c.in_ok-next_ask in
    let read_out : List ℕ = g.K.Sink.written ask.out in
    let line = c.in-Do.line in
    let q = do_request g.S.Source.tells asked.field-0 line plan later c.in-Do.is (λ told_in. asked.ensures.asks told_in) in
    let at : Point = record now { out = read_out; text = ask.text.items } in
    let f =
    at_request g.S.Source.tells g.K.Sink.tells script old out plan l.place.commands now
    (q.0 ∷ todo_of later) later.over read_out ask.text.items
    (do_is g.S.Source.tells g.K.Sink.tells script old out plan later line q.0 q.1)
    (λ told_out. asked.ensures.printed told_out)
    (less_of l.session.text.items ask.text.items asked.ensures.gathered) s in
    let flushed : List ℕ = g.K.Sink.written c.flush_much.new.out in
    let here : Point = record now { out = flushed; text = c.flush_much.new.text.items } in
    let h =
    front_on g.S.Source.tells g.K.Sink.tells script old out (counts_from l.place.commands)
    (q.0 ∷ todo_of later) later.over at flushed c.flush_much.new.text.items
    (λ told_out. c.in_ok-flush_much-in-Do.ensures.printed told_out)
    (less_of ask.text.items c.flush_much.new.text.items c.in_ok-flush_much-in-Do.ensures.gathered) f in
    let next : ask.place.commands ≡ l.place.commands + 1 =
    goes_do asked.field-0 line l.place.lines ask.place.lines l.place.commands ask.place.commands c.in-Do.is asked.ensures.goes in
    let session : Session = record l.session { text = c.flush_much.new.text } in
    let few : length c.flush_much.new.text.items ≤ MOST_GATHERED = omega (arith, c.in_ok-flush_much-in-Do.ensures.few) in
    let end = c.in_err-serve-in-Do.field-0.0 in
    let new = c.serve-in-Do.new.self in
    gave_err g.S.Source.tells g.K.Sink.tells script old out end c.from_residual-in_err-serve-in-Do.result
    (point new (g.D.Disk.past c.serve-in-Do.new.disk) (g.D.Disk.faults c.serve-in-Do.new.disk) flushed) (p.1 ∙ ap Err p.2)
    (do_ends g.S.Source.tells g.K.Sink.tells script old out plan later l.place.commands ask.place.commands here line q.0 q.1 h next
    session new (g.D.Disk.past c.serve-in-Do.new.disk) (g.D.Disk.faults c.serve-in-Do.new.disk) refl refl few
    end (c.in_err-serve-in-Do.ensures.served told past (last_of old s.acts).machine s.shows) c.in_err-serve-in-Do.ensures.only)

pub returns-in-End-clause-touches : goal.returns-in-End-clause-touches
returns-in-End-clause-touches g c told = then_touched IsLogName _ _ _ (c.lines.invariant.touches told) (c.end.ensures.touches told)

pub returns-in_err-serve-in-Do-clause-touches : goal.returns-in_err-serve-in-Do-clause-touches
returns-in_err-serve-in-Do-clause-touches g c told =
    then_touched IsLogName _ _ _ (c.lines.invariant.touches told) (c.in_err-serve-in-Do.ensures.touches told)
