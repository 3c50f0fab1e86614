use Rattle.std.proofs.Common.{◌∙◌, ap, sym, arith}
use Rattle.std.specs.Prelude.{slice_get, length}
use Rattle.std.proofs.lemmas.Option.{slice_get_past}
use Rattle.mn_run.proofs.Stretches.{length_stretch, got_behind}
use Rattle.mn_run.proofs.marks.Stretch.get.Goals as goal

pub returns-then-number-self : goal.returns-then-number-self
returns-then-number-self c =
    sym (slice_get_past c.args.self.now c.args.number
    (omega (
      arith,
      ap length c.self.view_is,
      length_stretch c.self.inside.first c.self.inside.step c.self.inside.count,
      c.if-number-self.true,
    )))

pub returns : goal.returns
returns c =
    got_behind c.self.inside.first c.self.inside.step c.self.inside.count c.args.number c.if-number-self.false c.self.invariant.0
    c.self.invariant.1 c.mark_behind.result c.mark_behind.ensures.some c.mark_behind.ensures.none
    ∙ ap (λ marks. slice_get marks c.args.number) c.self.view_is
