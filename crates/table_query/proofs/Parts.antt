-- Patterns and terms element by element.
use Rattle.std.proofs.Common.{◌≡◌, ℕ, zero, suc, ◌<◌, List, [], ◌∷◌, length, get_or, Option, Some, None, refl, sym, subst, arith}
use Rattle.term_core.specs.View.{tree_of, forest_of}
use Rattle.term_core.specs.declared.term.Term.{Term}
use Rattle.std.specs.Option.{option_and_then}
use Rattle.table_query.specs.Patterns.{AllAtoms, AllAtomsOf}
use Rattle.table_query.specs.Values.{Values, values_after, all_values_after}

none_then : (f : Values → Option Values) (r : Option Values) → ((values : Values) → f values ≡ None) → option_and_then f r ≡ None
none_then f None h = refl
none_then f (Some values) h = h values

-- more or fewer terms than patterns
pub other_length : (xs ys : List Term) (values : Values) → (length xs ≡ length ys → ⊥)
    → all_values_after (forest_of xs) (forest_of ys) values ≡ None
other_length [] [] values h = absurd (h refl)
other_length [] (y ∷ ys) values h = refl
other_length (x ∷ xs) [] values h = refl
other_length (x ∷ xs) (y ∷ ys) values h =
    none_then (all_values_after (forest_of xs) (forest_of ys)) (values_after (tree_of x) (tree_of y) values)
    (λ found. other_length xs ys found (λ same. h (omega (arith, same))))

-- what holds of each atom in the terms holds of those in one
pub in_one : (P : List ℕ → Type 0) (xs : List Term) (i : ℕ) (x : Term) → i < length xs → x ≡ get_or xs i x
    → AllAtomsOf P (forest_of xs) → AllAtoms P (tree_of x)
in_one P [] i x lt is h = absurd (omega arith)
in_one P (y ∷ ys) zero x lt is h = subst (λ z. AllAtoms P (tree_of z)) (sym is) h.0
in_one P (y ∷ ys) (suc i) x lt is h = in_one P ys i x (omega arith) is h.1
