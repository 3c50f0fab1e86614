use Rattle.std.proofs.Common.{refl, sym, ap, ◌∙◌}
use Rattle.term_wire.specs.Spelling.{low_first}
use Rattle.term_wire.proofs.Numbers.{little_all, low_part}
use Rattle.term_wire.proofs.leaf.magnitude.Goals as goal

pub returns : goal.returns
returns c =
    c.read_uint128.ensures ∙ little_all _ ∙ ap low_first c.split_at.ensures.front ∙ low_part _ c.args.digits.now (ap low_first (sym c.split_at.ensures.back) ∙ c.if-not-are_noughts.ensures.0 refl)
