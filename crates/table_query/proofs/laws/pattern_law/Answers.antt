use Rattle.table_query.proofs.Plain.{plain_is}
use Rattle.table_query.proofs.Told.{told, test_tells}
use Rattle.table_query.proofs.laws.pattern_law.Goals as goal

pub returns : goal.returns
returns c = record { told = told; test = test_tells; plain = plain_is }
