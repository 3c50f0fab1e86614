use Rattle.std.proofs.Common.{arith, subst}
use Rattle.term_core.specs.View.{tree_of}
use Rattle.term_wire.specs.Decoding.{Answers}
use Rattle.term_wire.proofs.Again.{read_again}
use Rattle.term_wire.proofs.Found.{is_found}
use Rattle.term_wire.proofs.decoding.decode.Goals as goal

pub returns-clause-found : goal.returns-clause-found
returns-clause-found c = is_found c.args.bytes.now c.read_all.result (λ i. omega (arith, c.type_inv.bytes i)) c.read_all.ensures

pub returns-clause-only : goal.returns-clause-only
returns-clause-only c = λ t text. subst (λ r. Answers tree_of c.read_all.result r) (read_again c.args.bytes.now t text) c.read_all.ensures
