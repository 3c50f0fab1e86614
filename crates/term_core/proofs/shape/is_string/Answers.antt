use Rattle.std.proofs.Common.{arith}
use Rattle.std.proofs.lemmas.Bool.Decides.{nat_tests}
use Rattle.term_core.proofs.Lengths.{is_byte_list-forest_of}
use Rattle.term_core.proofs.shape.is_string.Goals as goal

pub returns-then-items-le-MOST_NUMBERS : goal.returns-then-items-le-MOST_NUMBERS
returns-then-items-le-MOST_NUMBERS c = rw (is_byte_list-forest_of c.args.items.now) (grind (arith, nat_tests))

pub returns-else-items-le-MOST_NUMBERS : goal.returns-else-items-le-MOST_NUMBERS
returns-else-items-le-MOST_NUMBERS c = rw (is_byte_list-forest_of c.args.items.now) (grind (arith, nat_tests))
