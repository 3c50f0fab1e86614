use Rattle.std.proofs.Common.{◌∙◌, ap, sym, refl, arith, ◌∷◌, [], ◌++◌, ◌-◌, ◌<◌, length}
use Rattle.std.specs.Prelude.{if◌then◌else◌, vec_len}
use Rattle.std.proofs.lemmas.Option.{slice_get_read}
use Rattle.mn_run.specs.Marks.{joined, MarkList}
use Rattle.mn_run.proofs.Stretches.{joined_last}
use Rattle.mn_run.proofs.marks.Marks.extend_last.Goals as goal
use Rattle.mn_run.proofs.marks.Marks.extend_last.Goals.{in-Some, in-None}

pub returns : goal.returns
returns c =
    let stretches = c.self.inside.stretches in
    let marks = stretches.items in
    let mark = c.args.mark in
    let view = ap (λ (m : MarkList). m.items) c.self.view_is in
    elim c.match-last_mut.branch [
      | in-Some w ↦
          let some : 0 < length marks = omega (arith, w.in-Some.ensures.variant.0 refl, stretches.ok.0) in
          let k = vec_len stretches - 1 in
          ap (λ s. joined s.stretches.items) w.self-inside-is
          ∙ joined_last marks k w.in-Some.last.now w.take.new.self w.take.result mark (omega (arith, some, stretches.ok.0))
          (slice_get_read marks (length marks) k w.in-Some.last.now refl (omega (arith, some, stretches.ok.0)) w.in-Some.ensures.value)
          w.take.ensures
          ∙ ap (λ took. if took then joined marks ++ mark ∷ [] else joined marks) (sym w.result-is)
          ∙ ap (λ xs. if c.match-last_mut.result then xs ++ mark ∷ [] else xs) view
      | in-None w ↦
          ap (λ s. joined s.stretches.items) w.self-inside-is ∙ view
          ∙ ap (λ took. if took then c.args.self.now.items ++ mark ∷ [] else c.args.self.now.items) (sym w.result-is)
    ]
