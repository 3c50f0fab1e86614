use Rattle.table_query.proofs.Plain.{bound_is}
use Rattle.table_query.proofs.Told.{test_tells}
use Rattle.table_query.proofs.laws.bound_key_law.Goals as goal

pub returns : goal.returns
returns c = λ p t key is plain matched. bound_is p t key is plain ((test_tells p t).0 matched)
