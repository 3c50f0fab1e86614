use Rattle.std.proofs.Common.{◌≡◌, ◌++◌, ◌==◌, length, vec_len, Bool, Err, refl, sym, ap, ◌∙◌, inl, inr, arith, rules}
use Rattle.std.proofs.lemmas.Result.{err_from_is_err_and}
use Rattle.mn_run.specs.Asks.{GivesUpLine}
use Rattle.mn_run.specs.Reading.{has_no_end}
use Rattle.mn_run.proofs.Ends.{ended, more_read, none_more, at_end, is_ended, is_open, is_more, is_all, is_empty, not_taken}
use Rattle.mn_run.proofs.Parts.{few}
use Rattle.mn_run.proofs.Passing.{none_passed, passes, passes_on}
use Rattle.mn_run.proofs.lines.Lines.next_line.Goals as goal

pub loop-self-init : goal.loop-self-init
loop-self-init g c = record {
  told = λ told. sym (ap (λ xs. xs ++ (c.args.self.now ++ g.S.Source.left c.args.script.now)) c.clear.ensures.items);
  none = ap has_no_end c.clear.ensures.items;
  short = omega (arith, ap length c.clear.ensures.items);
  few = few c.self.inside.piece _ c.self.inside.from c.self.inside.to c.self.view_is c.self.invariant.2;
  faults = omega arith;
  printed = λ told. none_passed c.args.text.now.items (g.K.Sink.written c.args.out.now);
  gathered = inl refl;
  unread = inr refl;
  write = omega arith;
}

pub returns-in_err-take_part-clause-line : goal.returns-in_err-take_part-clause-line
returns-in_err-take_part-clause-line g c =
    let p = err_from_is_err_and c.from_residual.result c.from_residual.ensures.1 in
    let l = c.loop-self in
    let line = c.take_part.new.line.items in
    λ told. rw (p.1, p.2)
    (not_taken c.in_err-take_part.field-0.0 (c.args.self.now ++ g.S.Source.left c.args.script.now) l.line.items line line l.self
    c.take_part.new.self (g.S.Source.left l.script) (l.invariant.told told) l.invariant.none c.in_err-take_part.ensures)

pub returns-then-branch-clause-line : goal.returns-then-branch-clause-line
returns-then-branch-clause-line g c told =
    let l = c.loop-self in
    ended _ l.line.items c.take_part.new.line.items l.self c.take_part.new.self _ (l.invariant.told told) l.invariant.none
    (is_ended _ _ _ _ _ c.if-branch.true c.in_ok-take_part.ensures)

pub returns-then-not-branch-clause-line : goal.returns-then-not-branch-clause-line
returns-then-not-branch-clause-line g c told =
    let l = c.loop-self in
    let e : vec_len c.take_part.new.line ≡ length c.take_part.new.line.items = search rules in
    let left = g.S.Source.left l.script in
    let left_now = g.S.Source.left c.refill.new.script in
    at_end _ _ l.line.items c.take_part.new.line.items l.self c.take_part.new.self c.refill.new.self _ _
    (c.is_empty.ensures ∙ ap (λ n. n == 0) e) (l.invariant.told told) l.invariant.none
    (is_open _ _ _ _ _ c.if-branch.false c.in_ok-take_part.ensures)
    (is_empty _ _ c.if-not-branch.true c.in_ok-refill.ensures.filled)
    (is_all _ c.refill.new.self left left_now c.if-not-branch.true (c.in_ok-refill.ensures.told told))

pub loop-self-preserved : goal.loop-self-preserved
loop-self-preserved g c =
    let l = c.loop-self in
    let r = c.refill.new in
    let left = g.S.Source.left l.script in
    let left_now = g.S.Source.left r.script in
    let o = is_open _ l.line.items c.take_part.new.line.items l.self c.take_part.new.self c.if-branch.false c.in_ok-take_part.ensures
    in
    record {
      told = λ told. more_read _ l.line.items _ l.self c.take_part.new.self r.self left left_now (l.invariant.told told) o
          (is_more _ r.self left left_now c.if-not-branch.false (c.in_ok-refill.ensures.told told));
      none = none_more _ _ _ _ l.invariant.none o;
      short = o.short;
      few = c.in_ok-refill.ensures.short;
      faults = omega (arith, l.invariant.faults, c.in_ok-refill.ensures.cause.later);
      printed = λ told. passes_on ⊥ c.args.text.now.items l.text.items r.text.items
          (g.K.Sink.written c.args.out.now) (g.K.Sink.written l.out) (g.K.Sink.written r.out)
          (l.invariant.printed told) (c.in_ok-refill.ensures.printed told);
      gathered = inr c.in_ok-refill.ensures.emptied;
      unread = inl c.in_ok-refill.ensures.emptied;
      write = omega (arith, l.invariant.write, c.in_ok-refill.ensures.write.later);
    }

-- ---- what was gathered

pub returns-in_err-take_part-clause-printed : goal.returns-in_err-take_part-clause-printed
returns-in_err-take_part-clause-printed g c told =
    let l = c.loop-self in
    passes _ c.args.text.now.items l.text.items (g.K.Sink.written c.args.out.now) (g.K.Sink.written l.out) (l.invariant.printed told)

pub returns-then-branch-clause-printed : goal.returns-then-branch-clause-printed
returns-then-branch-clause-printed g c told =
    let l = c.loop-self in
    passes _ c.args.text.now.items l.text.items (g.K.Sink.written c.args.out.now) (g.K.Sink.written l.out) (l.invariant.printed told)

pub returns-then-not-branch-clause-printed : goal.returns-then-not-branch-clause-printed
returns-then-not-branch-clause-printed g c told =
    let l = c.loop-self in
    let r = c.refill.new in
    let text = c.args.text.now.items in
    let written = g.K.Sink.written c.args.out.now in
    passes _ text r.text.items written (g.K.Sink.written r.out)
    (passes_on ⊥ text l.text.items r.text.items written (g.K.Sink.written l.out) (g.K.Sink.written r.out)
    (l.invariant.printed told) (c.in_ok-refill.ensures.printed told))

pub returns-in_err-refill-clause-printed : goal.returns-in_err-refill-clause-printed
returns-in_err-refill-clause-printed g c =
    let p = err_from_is_err_and c.from_residual-in_err-refill.result c.from_residual-in_err-refill.ensures.1 in
    let l = c.loop-self in
    let r = c.refill.new in
    λ told. rw (p.1, p.2)
    (passes_on (GivesUpLine {T = Bool} (Err c.in_err-refill.field-0.0)) c.args.text.now.items l.text.items r.text.items
    (g.K.Sink.written c.args.out.now) (g.K.Sink.written l.out) (g.K.Sink.written r.out)
    (l.invariant.printed told) (c.in_err-refill.ensures.printed told))
