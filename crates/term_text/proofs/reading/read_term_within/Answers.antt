use Rattle.std.proofs.Common.{subst}
use Rattle.term_text.specs.Places.{Answers}
use Rattle.term_text.proofs.Again.{stands_again}
use Rattle.term_text.proofs.Found.{answer_found}
use Rattle.term_text.proofs.reading.read_term_within.Goals as goal

pub returns-clause-found : goal.returns-clause-found
returns-clause-found c = answer_found c.args.levels c.args.text.now c.args.at c.read_from.result c.requires c.read_from.ensures

pub returns-clause-only : goal.returns-clause-only
returns-clause-only c =
    λ t behind stands. subst (Answers c.read_from.result) (stands_again c.args.levels c.args.text.now c.args.at behind t stands) c.read_from.ensures
