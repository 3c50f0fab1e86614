use Rattle.store_files.proofs.FirstItems.{head_first}
use Rattle.store_files.proofs.headed.first_number.Goals as goal

pub returns-clause-number : goal.returns-clause-number
returns-clause-number c = head_first c.args.word.now _ c.args.file.now.items _ c.content.ensures c.head_number.ensures
