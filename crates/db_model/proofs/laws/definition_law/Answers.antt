use Rattle.db_model.proofs.Defined.{one_definition, not_refused, defined_lawful, read_back}
use Rattle.db_model.proofs.laws.definition_law.Goals as goal

pub returns : goal.returns
returns c = record {
  one = one_definition;
  not_refused = not_refused;
  lawful = λ term one cookie x. defined_lawful term one cookie x;
  read_back = read_back;
}
