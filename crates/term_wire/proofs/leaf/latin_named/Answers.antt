use Rattle.std.proofs.Common.{arith, ap, ◌∙◌, Err, ℕ, ◌<◌, length}
use Rattle.std.proofs.lemmas.List.Elements.{All-from_get_or}
use Rattle.std.specs.Str.{chars}
use Rattle.term_wire.proofs.Utf8.{chars-latin}
use Rattle.term_wire.proofs.leaf.latin_named.Goals as goal

pub unreachable-requires : goal.unreachable-requires
unreachable-requires c =
    let long = c.new.ensures.too_long.0 (c.in-Err-AtomTooLong.is ∙ ap Err c.in-Err-AtomTooLong.field-0-is) in
    let same = ap (λ text. length (chars text)) (c.as_str.ensures.value ∙ c.in_ok-text.ensures.made) ∙ ap length (chars-latin c.args.bytes.now (All-from_get_or (λ (byte : ℕ). byte < 256) c.args.bytes.now 0 (λ i lt. omega (arith, c.type_inv.bytes i)))) in
    omega (arith, long, same, c.requires)
