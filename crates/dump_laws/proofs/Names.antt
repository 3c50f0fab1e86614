-- Tests of names.
use Rattle.std.proofs.Common.{◌≡◌, ℕ, true, false, List, sym, refl, ap, ◌∙◌}
use Rattle.std.specs.Bool.{Decides}
use Rattle.std.specs.Ordering.{nat_cmp, is_eq, ordering_reverse}
use Rattle.std.specs.declared.cmp.Ordering.{Ordering}
use Rattle.std.specs.declared.cmp.Ordering.TheVariants.{Less, Equal, Greater}
use Rattle.std.specs.Cmp.Lexicographic.{slice_cmp, nat_list_cmp_total}
use Rattle.std.proofs.lemmas.Bool.{false_from_ne_true}
use Rattle.std.proofs.lemmas.Map.Text.{is_eq-slice_cmp}
use Rattle.std.proofs.lemmas.Slice.Eq.{bytes_eq-Decides}
use Rattle.db_model.specs.Database.{same_name}

pub same_name_is : (name other : List ℕ) → Decides (same_name name other) (name ≡ other)
same_name_is name other = (
  λ is. (bytes_eq-Decides name other).0 (sym (is_eq-slice_cmp name other) ∙ is),
  λ is. is_eq-slice_cmp name other ∙ (bytes_eq-Decides name other).1 is,
)

pub name_is : (name other : List ℕ) → same_name name other ≡ true → name ≡ other
name_is name other h = (same_name_is name other).0 h

pub is_name : (name other : List ℕ) → name ≡ other → same_name name other ≡ true
is_name name other h = (same_name_is name other).1 h

pub no_name : (name other : List ℕ) → (name ≡ other → ⊥) → same_name name other ≡ false
no_name name other h = false_from_ne_true (same_name name other) (λ same. h (name_is name other same))

eq_turned : (o : Ordering) → is_eq (ordering_reverse o) ≡ is_eq o
eq_turned Less = refl
eq_turned Equal = refl
eq_turned Greater = refl

pub same_name_sym : (name other : List ℕ) → same_name name other ≡ same_name other name
same_name_sym name other = ap is_eq (nat_list_cmp_total.antisymm name other) ∙ eq_turned (slice_cmp nat_cmp other name)
