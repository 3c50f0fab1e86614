use Rattle.term_wire.proofs.Law.{written_text}
use Rattle.term_wire.proofs.decoding.written_text.Goals as goal

pub returns : goal.returns
returns c = written_text
