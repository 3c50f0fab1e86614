use Rattle.std.proofs.Common.{pos, rules}
use Rattle.term_core.specs.Tree.{int}
use Rattle.store_files.proofs.Definitions.{not_two}
use Rattle.store_files.proofs.defining.cookie_and_options.Goals as goal
use Rattle.store_files.proofs.defining.cookie_and_options.Goals.{in_default-via-then-terms-lt2, in_default-via-else-terms-lt2+else-terms-lt3}

pub returns-in_default : goal.returns-in_default
returns-in_default c cookie options fits is = elim c.in_default.branch [
  | in_default-via-then-terms-lt2 w ↦ not_two c.args.terms.now (λ two. search rules) (int (pos cookie)) options is
  | in_default-via-else-terms-lt2+else-terms-lt3 w ↦ not_two c.args.terms.now (λ two. search rules) (int (pos cookie)) options is
]
