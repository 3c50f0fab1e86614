-- The elements of records.
use Rattle.std.proofs.Common.{◌≡◌, ℕ, List, length, sym, ap, subst, ◌∙◌, refl, Bool, false, IsTrue, MatchOption, Option, Some, None}
use Rattle.std.specs.Prelude.{◌↔◌}
use Rattle.std.specs.Borrow.{Bor}
use Rattle.term_core.specs.Tree.{Tree, int, atom, tuple, list, bin, Trees, no_trees, tree}
use Rattle.term_core.specs.View.{tree_of, forest_of}
use Rattle.term_core.specs.declared.term.Term.{Term, Tuple}
use Rattle.term_core.proofs.Forests.{count_forest_of}
use Rattle.db_model.specs.declared.definition.TableDef.{TableDef}
use Rattle.db_model.specs.Definitions.{Definition}
use Rattle.db_model.specs.Records.{HasElements}
use Rattle.db_model.specs.View.{definition}
use Rattle.db_model.proofs.Forests.{tuple_tree, count_trees}

-- what begins with no atom is no record
no_name : (one : Definition) (ts : Trees) → ((text : List ℕ) (others : Trees) → ts ≡ tree (atom text) others → ⊥)
    → HasElements one (tuple ts) → ⊥
no_name one no_trees none has = has
no_name one (tree (int n) others) none has = has
no_name one (tree (atom text) others) none has = none text others refl
no_name one (tree (tuple ts) others) none has = has
no_name one (tree (list ts) others) none has = has
no_name one (tree (bin bytes) others) none has = has

pub without_name : (def : TableDef) (x : Term) (ts us : List Term) → x ≡ Tuple ts → us ≡ ts
    → ((text : List ℕ) (others : Trees) → forest_of us ≡ tree (atom text) others → ⊥)
    → IsTrue false ↔ HasElements (definition def) (tree_of x)
without_name def x ts us is seen none = (
  λ no. absurd cc,
  λ has. absurd (no_name (definition def) (forest_of us) none
      (subst (HasElements (definition def)) (tuple_tree x ts is ∙ ap (λ (vs : List Term). tuple (forest_of vs)) (sym seen)) has)),
)

pub with_name : (def : TableDef) (x : Term) (ts us elements : List Term) (name : List ℕ) (b : Bool) → x ≡ Tuple ts → us ≡ ts
    → forest_of us ≡ tree (atom name) (forest_of elements)
    → IsTrue b ↔ ((name ≡ def.record_name) × (length elements ≡ length def.attributes))
    → IsTrue b ↔ HasElements (definition def) (tree_of x)
with_name def x ts us elements name b is seen begins tests =
    let here : tree_of x ≡ tuple (tree (atom name) (forest_of elements)) =
    tuple_tree x ts is ∙ ap (λ (vs : List Term). tuple (forest_of vs)) (sym seen) ∙ ap tuple begins in
    let attributes = count_trees def.attributes in
    let count = count_forest_of elements in (
      λ yes. subst (HasElements (definition def)) (sym here) ((tests.0 yes).0, count ∙ (tests.0 yes).1 ∙ sym attributes),
      λ has. let both = subst (HasElements (definition def)) here has in tests.1 (both.0, sym count ∙ both.1 ∙ attributes),
    )
