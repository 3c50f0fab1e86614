use Rattle.term_text.proofs.Fronts.{hex_ascii, hex_numeral}
use Rattle.term_text.proofs.characters.hex_of.Goals as goal

pub numbered-requires-clause-ascii : goal.numbered-requires-clause-ascii
numbered-requires-clause-ascii c = hex_ascii _ _ c.in_ok-digits.ensures

pub numbered-requires-clause-numeral : goal.numbered-requires-clause-numeral
numbered-requires-clause-numeral c = hex_numeral _ _ c.in_ok-digits.ensures
