use Rattle.std.proofs.Common.{ap, arith}
use Rattle.term_core.specs.Tree.{count}
use Rattle.term_core.proofs.Forests.{count_forest_of}
use Rattle.store_files.proofs.heads.only_number.Goals as goal

pub returns-in_default-2 : goal.returns-in_default-2
returns-in_default-2 c number fits is =
    absurd (omega (arith, ap count is, count_forest_of c.args.terms.now, c.in_default.len_at_least))
