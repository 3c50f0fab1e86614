-- Two things that hold at each moment hold together.
use Rattle.std.proofs.Common.{◌≡◌, List, [], ◌∷◌, refl, sym, ap, ◌∙◌, subst, arith}
use Rattle.file_trait.specs.DiskModel.{Past, DiskOp, clock, doing}
use Rattle.file_trait.specs.Moments.{EachMoment, Moments}
use Rattle.file_trait.proofs.Reached.{clock-doing}

-- what was done between is one list
same_ops : (a b : List DiskOp) (old : Past) → doing a old ≡ doing b old → a ≡ b
same_ops [] [] old is = refl
same_ops [] (op ∷ b) old is = absurd (omega (arith, ap clock is, clock-doing b old))
same_ops (op ∷ a) [] old is = absurd (omega (arith, ap clock is, clock-doing a old))
same_ops (op ∷ a) (other ∷ b) old is =
    let here : op ≡ other = cc is in
    let rest : doing a old ≡ doing b old = cc is in
    ap (λ o. o ∷ a) here ∙ ap (λ ops. other ∷ ops) (same_ops a b old rest)

each-both : (P Q : Past → Type 0) (ops : List DiskOp) (old : Past) → EachMoment P ops old → EachMoment Q ops old → EachMoment
    (λ past. P past × Q past) ops old
each-both P Q [] old p q = (p, q)
each-both P Q (op ∷ ops) old p q = ((p.0, q.0), each-both P Q ops old p.1 q.1)

pub both : (P Q : Past → Type 0) (old new : Past) → Moments P old new → Moments Q old new → Moments (λ past. P past × Q past) old new
both P Q old new p q = record {
  ops = p.ops;
  grown = p.grown;
  each = each-both P Q p.ops old p.each (subst (λ ops. EachMoment Q ops old) (same_ops q.ops p.ops old (sym q.grown ∙ p.grown)) q.each);
}
