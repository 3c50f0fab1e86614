use Rattle.mn_run.proofs.session.answer.Goals as goal

pub returns-in-Do-clause-steps : goal.returns-in-Do-clause-steps
returns-in-Do-clause-steps g c told first old shows = rw c.in-Do.is (c.answer.ensures.steps told first old shows)
