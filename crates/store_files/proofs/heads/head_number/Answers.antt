use Rattle.term_core.specs.View.{tree_of}
use Rattle.store_files.proofs.FirstItems.{head_told, no_head}
use Rattle.store_files.proofs.heads.head_number.Goals as goal

pub returns-in-Some : goal.returns-in-Some
returns-in-Some c =
    let text = rw c.in-Some.is at c.in_ok-term.ensures in
    head_told c.args.content.now c.args.word.now (tree_of c.in-Some.term) _ text c.number_in.ensures

pub returns-in-None : goal.returns-in-None
returns-in-None c =
    let none = rw c.in-None.is at c.in_ok-term.ensures in
    no_head c.args.content.now c.args.word.now none
