use Rattle.std.proofs.Common.{◌∙◌, ap, sym, subst, ◌≡◌, [], ◌∷◌, ◌++◌, List}
use Rattle.std.specs.Prelude.{MatchOption, slice_get, length, ◌-◌}
use Rattle.mn_run.specs.Marks.{MarkList}
use Rattle.mn_run.specs.declared.outcome.Mark.{Mark}
use Rattle.mn_run.proofs.Stretches.{got_last}
use Rattle.mn_run.proofs.marks.Marks.last.Goals as goal

pub returns : goal.returns
returns c =
    subst (λ marks. MatchOption c.get.result (marks ≡ []) (λ mark. (front : List Mark) × (marks ≡ front ++ mark ∷ [])))
    (ap (λ (m : MarkList). m.items) c.self.view_is)
    (got_last c.self.inside.stretches.items c.stretch.inside.first c.stretch.inside.step c.stretch.inside.count
    c.in_ok-stretch.stretch.now c.get.result c.stretch.view_is c.stretch.invariant.0
    (ap (λ xs. slice_get xs (length xs - 1)) (sym c.deref.ensures.value) ∙ sym c.in_ok-stretch.ensures.value) c.get.ensures)
