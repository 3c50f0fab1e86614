use Rattle.std.proofs.Common.{sym, ap, ◌∙◌}
use Rattle.std.specs.Option.{option_map}
use Rattle.term_core.specs.View.{tree_of}
use Rattle.term_core.proofs.Forests.{key_of-Tuple}
use Rattle.term_core.proofs.term.Term.key.Goals as goal

pub returns-in-Tuple : goal.returns-in-Tuple
returns-in-Tuple c = ap (option_map tree_of) c.get.ensures.value ∙ sym (key_of-Tuple _ _ c.in-Tuple.is)
