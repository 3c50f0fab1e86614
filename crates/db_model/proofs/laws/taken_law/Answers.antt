use Rattle.db_model.proofs.Commitments.{stays_sound, lawful_taken, taken_once}
use Rattle.db_model.proofs.Telling.{can_told}
use Rattle.db_model.proofs.laws.taken_law.Goals as goal

pub returns : goal.returns
returns c = record { sound = stays_sound; taken = lawful_taken; one = taken_once; told = can_told }
