use Rattle.std.proofs.Common.{sym, ap, ◌∙◌}
use Rattle.term_text.specs.Grammar.{is_name}
use Rattle.term_text.proofs.PrintedTexts.{name_kept}
use Rattle.term_text.proofs.printing.put_atom.Goals as goal

pub returns-then-not-is_reserved-clause-kept : goal.returns-then-not-is_reserved-clause-kept
returns-then-not-is_reserved-clause-kept c =
    let bytes = c.as_bytes-bytes.ensures in
    name_kept c.args.name.now (ap is_name (sym bytes.bytes) ∙ sym c.is_name.ensures ∙ c.if-is_name.true) bytes.short
