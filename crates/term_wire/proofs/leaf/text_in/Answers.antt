use Rattle.std.specs.Str.{valid_up_to, IsValidUpTo}
use Rattle.term_wire.proofs.Utf8.{text_found}
use Rattle.term_wire.proofs.leaf.text_in.Goals as goal

pub returns : goal.returns
returns c = text_found (λ s. s.now) (λ e. IsValidUpTo c.args.bytes.now (valid_up_to e)) c.args.bytes.now c.from_utf8.result c.ok.result c.ok.ensures.value c.from_utf8.ensures.cases
