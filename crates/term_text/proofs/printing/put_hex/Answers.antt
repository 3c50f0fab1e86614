use Rattle.std.proofs.Common.{◌≡◌, ◌∷◌, [], ℕ, false, ap, sym, ◌∙◌, arith}
use Rattle.std.specs.Fmt.{digits}
use Rattle.std.proofs.lemmas.Fmt.{hex_one_digit, hex_two_digits}
use Rattle.term_text.proofs.Added.{Appends-from_items}
use Rattle.term_text.proofs.printing.put_hex.Goals as goal

pub returns-then-number-lt16 : goal.returns-then-number-lt16
returns-then-number-lt16 c =
    let text : digits 16 false c.args.number ≡ c.hex_digit.result ∷ [] = hex_one_digit false c.args.number (omega arith) ∙ ap (λ (d : ℕ). d ∷ []) (sym c.hex_digit.ensures) in
    rw text (Appends-from_items c.extend_from_slice.result c.args.out.now.items c.extend_from_slice.new.self.items (c.hex_digit.result ∷ []) c.extend_from_slice.ensures.items)

pub returns : goal.returns
returns c =
    let text : digits 16 false c.args.number ≡ c.hex_digit-2.result ∷ c.hex_digit-3.result ∷ [] = rw (c.hex_digit-2.ensures, c.hex_digit-3.ensures) (hex_two_digits false c.args.number (omega arith) (omega arith)) in
    rw text (Appends-from_items c.extend_from_slice-2.result c.args.out.now.items c.extend_from_slice-2.new.self.items (c.hex_digit-2.result ∷ c.hex_digit-3.result ∷ []) c.extend_from_slice-2.ensures.items)
