-- The tests of records and keys say what they are.
use Rattle.std.proofs.Common.{◌≡◌, ℕ, ◌≤◌, ◌<◌, ◌^◌, Bool, true, false, List, length, refl, sym, ap, ◌∙◌, inl, inr, arith}
use Rattle.std.specs.Prelude.{nat_le, ◌&&◌, ◌==◌}
use Rattle.std.specs.Bool.{Decides}
use Rattle.std.proofs.lemmas.Bool.{eqb-true, eq-eqb, leb-true}
use Rattle.std.proofs.lemmas.Bool.Decides.{leb_tells}
use Rattle.std.proofs.lemmas.Map.Text.{is_eq-slice_cmp}
use Rattle.std.proofs.lemmas.Slice.Eq.{bytes_eq-Decides}
use Rattle.term_core.specs.Tree.{Tree, int, atom, tuple, list, bin, no_trees, tree, count, depth}
use Rattle.term_core.specs.Written.{canon}
use Rattle.db_model.specs.Database.{same_name}
use Rattle.db_model.specs.Definitions.{Definition}
use Rattle.db_model.specs.Records.{HasElements, IsStorable, Fits}
use Rattle.txn_core.specs.Refusals.{has_elements, is_storable, fits}

pub le_true : (n m : ℕ) → n ≤ m → nat_le n m ≡ true
le_true n m h = elim (leb_tells n m) [ inl t ↦ t.0 | inr f ↦ absurd (let over = f.1 in omega (arith, h, over)) ]

pub le_false : (n m : ℕ) → m < n → nat_le n m ≡ false
le_false n m h = elim (leb_tells n m) [ inl t ↦ absurd (let within = t.1 in omega (arith, h, within)) | inr f ↦ f.0 ]

and_true : (a b : Bool) → (a && b) ≡ true → (a ≡ true) × (b ≡ true)
and_true true b h = (refl, h)
and_true false b h = absurd (cc)

both_true : (a b : Bool) → a ≡ true → b ≡ true → (a && b) ≡ true
both_true a b x y = ap (λ (t : Bool). t && b) x ∙ y

pub same_name_is : (name other : List ℕ) → Decides (same_name name other) (name ≡ other)
same_name_is name other = (
  λ is. (bytes_eq-Decides name other).0 (sym (is_eq-slice_cmp name other) ∙ is),
  λ is. is_eq-slice_cmp name other ∙ (bytes_eq-Decides name other).1 is,
)

number_is : (n m : ℕ) → Decides (n == m) (n ≡ m)
number_is n m = (λ is. eqb-true n m is, λ is. eq-eqb n m is)

elements_is : (d : Definition) (t : Tree) → Decides (has_elements d t) (HasElements d t)
elements_is d (int n) = (λ is. absurd (cc is), λ h. absurd h)
elements_is d (atom a) = (λ is. absurd (cc is), λ h. absurd h)
elements_is d (list ts) = (λ is. absurd (cc is), λ h. absurd h)
elements_is d (bin b) = (λ is. absurd (cc is), λ h. absurd h)
elements_is d (tuple no_trees) = (λ is. absurd (cc is), λ h. absurd h)
elements_is d (tuple (tree (int n) ts)) = (λ is. absurd (cc is), λ h. absurd h)
elements_is d (tuple (tree (list us) ts)) = (λ is. absurd (cc is), λ h. absurd h)
elements_is d (tuple (tree (bin b) ts)) = (λ is. absurd (cc is), λ h. absurd h)
elements_is d (tuple (tree (tuple us) ts)) = (λ is. absurd (cc is), λ h. absurd h)
elements_is d (tuple (tree (atom a) ts)) = (
  λ is. let parts = and_true (same_name a d.record_name) (count ts == length d.attributes) is in
      ((same_name_is a d.record_name).0 parts.0, (number_is (count ts) (length d.attributes)).0 parts.1),
  λ h. both_true (same_name a d.record_name) (count ts == length d.attributes) ((same_name_is a d.record_name).1 h.0)
      ((number_is (count ts) (length d.attributes)).1 h.1),
)

pub storable_is : (t : Tree) → Decides (is_storable t) (IsStorable t)
storable_is t = (
  λ is. let small = and_true (nat_le (depth t) 100) (nat_le (length (canon t)) (2 ^ 26)) is in
      record { levels = leb-true (depth t) 100 small.0; short = leb-true (length (canon t)) (2 ^ 26) small.1 },
  λ h. both_true (nat_le (depth t) 100) (nat_le (length (canon t)) (2 ^ 26)) (le_true (depth t) 100 h.levels)
      (le_true (length (canon t)) (2 ^ 26) h.short),
)

pub fits_is : (d : Definition) (t : Tree) → Decides (fits d t) (Fits d t)
fits_is d t = (
  λ is. let parts = and_true (has_elements d t) (is_storable t) is in
      ((elements_is d t).0 parts.0, (storable_is t).0 parts.1),
  λ h. both_true (has_elements d t) (is_storable t) ((elements_is d t).1 h.0) ((storable_is t).1 h.1),
)
