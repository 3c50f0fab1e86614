use Rattle.std.proofs.Common.{◌≡◌, ◌<◌, ◌∷◌, List, ℕ, length, get_or, drop, sym, subst, ◌∙◌, arith, drop-cons}
use Rattle.std.specs.List.{list_any}
use Rattle.std.specs.Str.{bytes_eq}
use Rattle.term_text.specs.Printing as text
use Rattle.term_text.proofs.printing.is_reserved.Goals as goal

-- what is in front, and what is behind
front : (name : List ℕ) → 0 < length name → get_or name 0 0 ∷ drop 1 name ≡ name
front name lt = sym (drop-cons name 0 0 lt)

pub returns-in-len1-up : goal.returns-in-len1-up
returns-in-len1-up c =
    c.contains.ensures.value
    ∙ subst (λ (name : List ℕ). list_any (λ word. bytes_eq word.now name) c.reserved_from.result.now ≡ text.is_reserved name)
    (front c.args.name.now (omega (arith, c.in-len1-up.len_at_least))) (c.reserved_from.ensures (drop 1 c.args.name.now))
