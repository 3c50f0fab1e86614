-- Equal texts, by their order.
use Rattle.std.proofs.Common.{◌≡◌, ◌↔◌, ℕ, List, Bool, true, false, refl, sym, ap, ◌∙◌}
use Rattle.std.specs.Prelude.{IsTrue}
use Rattle.std.specs.Ordering.{nat_cmp, eq_by_cmp}
use Rattle.std.specs.Cmp.{Equal-is, eq_by_cmp_equiv}
use Rattle.std.specs.Cmp.Lexicographic.{slice_cmp, nat_list_cmp_total}
use Rattle.std.specs.FinMap.{nat_cmp-IsAntisymmetric, slice_cmp-IsAntisymmetric}

same_by_order : (x y : List ℕ) → eq_by_cmp (slice_cmp nat_cmp) x y ≡ true → x ≡ y
same_by_order x y h = slice_cmp-IsAntisymmetric nat_cmp-IsAntisymmetric x y ((Equal-is (slice_cmp nat_cmp x y)).0 h)

-- a test of sameness answers as the order does
pub is_by_order : (r : Bool) (x y : List ℕ) → (IsTrue r ↔ (x ≡ y)) → r ≡ eq_by_cmp (slice_cmp nat_cmp) x y
is_by_order true x y h = sym ((eq_by_cmp_equiv nat_list_cmp_total).refl x) ∙ ap (eq_by_cmp (slice_cmp nat_cmp) x) (h.0 refl)
is_by_order false x y h = by (eq_by_cmp (slice_cmp nat_cmp) x y) refl
  where
    by : (b : Bool) → eq_by_cmp (slice_cmp nat_cmp) x y ≡ b → false ≡ eq_by_cmp (slice_cmp nat_cmp) x y
    by true e = absurd (let wrong : false ≡ true = h.1 (same_by_order x y e) in cc)
    by false e = sym e
