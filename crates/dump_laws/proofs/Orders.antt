-- Total orders by what is less.
use Rattle.std.proofs.Common.{◌≡◌, ◌⊎◌, inl, inr, true, false, refl, ap, ◌∙◌}
use Rattle.std.specs.Ordering.{is_lt, ordering_reverse}
use Rattle.std.specs.declared.cmp.Ordering.{Ordering}
use Rattle.std.specs.declared.cmp.Ordering.TheVariants.{Less, Equal, Greater}
use Rattle.std.specs.Cmp.{IsTotalOrder, tied_itself}
use Rattle.std.specs.FinMap.{IsAntisymmetric}

less_is : (o : Ordering) → is_lt o ≡ true → o ≡ Less
less_is Less h = refl
less_is Equal h = absurd cc
less_is Greater h = absurd cc

module _ {K : Type 0} (R : K → K → Ordering) (total : IsTotalOrder R) (one : IsAntisymmetric R) where
  pub less_through : (a b c : K) → is_lt (R a b) ≡ true → is_lt (R b c) ≡ true → is_lt (R a c) ≡ true
  less_through a b c h k = ap is_lt (total.trans a b c (less_is (R a b) h) (less_is (R b c) k))

  pub less_never : (a : K) → is_lt (R a a) ≡ false
  less_never a = ap is_lt (tied_itself total a)

  pub which : (a b : K) → (a ≡ b) ⊎ (is_lt (R a b) ≡ true) ⊎ (is_lt (R b a) ≡ true)
  which a b = by (R a b) refl
    where
      by : (o : Ordering) → R a b ≡ o → (a ≡ b) ⊎ (is_lt (R a b) ≡ true) ⊎ (is_lt (R b a) ≡ true)
      by Less is = inr (inl (ap is_lt is))
      by Equal is = inl (one a b is)
      by Greater is = inr (inr (ap is_lt (total.antisymm b a ∙ ap ordering_reverse is)))
