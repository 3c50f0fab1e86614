use Rattle.term_core.proofs.Characters.{bytes_before, characters_before}
use Rattle.term_core.proofs.laws.character_law.Goals as goal

pub returns : goal.returns
returns c = λ cs ds. (characters_before cs ds, bytes_before cs ds)
