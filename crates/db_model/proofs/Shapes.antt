-- Which ops have which terms.
use Rattle.std.proofs.Common.{◌≡◌, ℕ, ◌+◌, ◌≤◌, List, length, arith, ap}
use Rattle.term_core.specs.Tree.{Tree, inner, count}
use Rattle.term_core.specs.View.{forest_of}
use Rattle.term_core.specs.declared.term.Term.{Term}
use Rattle.term_core.proofs.Forests.{count_forest_of}
use Rattle.db_model.specs.Ops.{Operation, write, delete, delete_object, clear, op_shape, op_tree}

op_size : (op : Operation) → count (inner (op_tree op)) ≤ 3
op_size (write table row) = omega arith
op_size (delete table key) = omega arith
op_size (delete_object table row) = omega arith
op_size (clear table) = omega arith

-- no op's term has four elements or more
pub no_longer_op : (word table : List ℕ) (rest : List Term) → 2 ≤ length rest → (op : Operation) → op_shape word table (forest_of rest) ≡ op_tree op → ⊥
no_longer_op word table rest long op is =
    let size : count (forest_of rest) + 1 + 1 ≡ count (inner (op_tree op)) = ap (λ (t : Tree). count (inner t)) is in
    absurd (omega (arith, size, op_size op, count_forest_of rest))

-- the word tells what is done, and the rest to what
pub same_op : (op other : Operation) → op_tree op ≡ op_tree other → op ≡ other
same_op (write table row) (write table' row') is = cc
same_op (write table row) other is = absurd cc
same_op (delete table key) (delete table' key') is = cc
same_op (delete table key) other is = absurd cc
same_op (delete_object table row) (delete_object table' row') is = cc
same_op (delete_object table row) other is = absurd cc
same_op (clear table) (clear table') is = cc
same_op (clear table) other is = absurd cc
