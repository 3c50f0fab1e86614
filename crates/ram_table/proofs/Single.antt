-- One record among others.
use Rattle.std.proofs.Common.{cond, ◌≡◌, Bool, true, false, not, ◌||◌, List, [], ◌∷◌, ◌++◌}
use Rattle.std.proofs.Common.{refl, sym, ap, ◌∙◌, Some, None}
use Rattle.std.specs.Prelude.{slice_get}
use Rattle.std.specs.List.{list_any}
use Rattle.std.specs.Ordering.{is_eq}
use Rattle.std.specs.declared.cmp.Ordering.TheVariants.{Equal}
use Rattle.std.specs.Cmp.{tied_itself}
use Rattle.std.specs.Option.{unwrap_or}
use Rattle.term_core.specs.Tree.{Tree, tree_cmp, key_of}
use Rattle.term_core.specs.Order.{tree_total, same_tree, same_tree_true}
use Rattle.term_core.specs.View.{tree_of}
use Rattle.term_core.specs.declared.term.Term.{Term}
use Rattle.ram_table.specs.Inside.Rows.{row_key, key_cmp, at, without_row, first_row_key}

-- the same records have one key
same_key : (x row : Term) → same_tree (tree_of x) (tree_of row) ≡ true → key_cmp (row_key row) x ≡ Equal
same_key x row e =
    let same : tree_of x ≡ tree_of row = same_tree_true (tree_of x) (tree_of row) e in
    ap (λ (t : Tree). tree_cmp (unwrap_or (key_of t) t) (row_key row)) same ∙ tied_itself tree_total (row_key row)

-- a record of another key is another record
other_row : (x row : Term) (b : Bool) → same_tree (tree_of x) (tree_of row) ≡ b → is_eq (key_cmp (row_key row) x) ≡ false → b ≡ false
other_row x row true e n = absurd (let wrong : true ≡ false = sym (ap is_eq (same_key x row e)) ∙ n in cc)
other_row x row false e n = refl

-- it is among all records where it is among those of its key
pub any_at : (row : Term) (rows : List Term) → list_any (λ x. same_tree (tree_of x) (tree_of row)) (at (row_key row) rows) ≡ list_any
    (λ x. same_tree (tree_of x) (tree_of row)) rows
any_at row [] = refl
any_at row (x ∷ rows) = by (is_eq (key_cmp (row_key row) x)) refl (any_at row rows)
  where
    by : (b : Bool) → is_eq (key_cmp (row_key row) x) ≡ b
        → list_any (λ x. same_tree (tree_of x) (tree_of row)) (at (row_key row) rows) ≡ list_any (λ x. same_tree (tree_of x) (tree_of row))
        rows
        → list_any (λ x. same_tree (tree_of x) (tree_of row)) (cond b (x ∷ at (row_key row) rows) (at (row_key row) rows)) ≡ same_tree
        (tree_of x) (tree_of row) || list_any (λ x. same_tree (tree_of x) (tree_of row)) rows
    by true e h = ap (λ (t : Bool). same_tree (tree_of x) (tree_of row) || t) h
    by false e h = rw (other_row x row _ refl e) h

-- where it is not there, nothing goes
pub none_goes : (row : Term) (rows : List Term) → list_any (λ x. same_tree (tree_of x) (tree_of row)) rows ≡ false
    → without_row rows row ≡ rows
none_goes row [] e = refl
none_goes row (x ∷ rows) e = by (same_tree (tree_of x) (tree_of row)) e (none_goes row rows)
  where
    by : (b : Bool) → b || list_any (λ x. same_tree (tree_of x) (tree_of row)) rows ≡ false
        → (list_any (λ x. same_tree (tree_of x) (tree_of row)) rows ≡ false → without_row rows row ≡ rows)
        → cond (not b) (x ∷ without_row rows row) (without_row rows row) ≡ x ∷ rows
    by true e h = absurd (let wrong : true ≡ false = e in cc)
    by false e h = ap (λ (t : List Term). x ∷ t) (h e)

pub first_some : (xs ys : List Term) (row : Term) (k : Tree) → k ≡ row_key row → Some row ≡ slice_get xs 0
    → Some k ≡ first_row_key (xs ++ ys)
first_some [] ys row k e h = absurd (cc)
first_some (x ∷ xs) ys row k e h = let same : row ≡ x = cc in ap (λ (t : Tree). Some t) (e ∙ ap row_key same)

pub first_none : (xs ys : List Term) → slice_get xs 0 ≡ None → first_row_key (xs ++ ys) ≡ first_row_key ys
first_none [] ys h = refl
first_none (x ∷ xs) ys h = absurd (cc)
