-- Ops on the records of a table as plain data, and their terms.
use Rattle.std.specs.Prelude.{◌≡◌, ℕ, List, codes}
use Rattle.term_core.specs.Tree.{Tree, atom, tuple, Trees, no_trees, tree}
use Rattle.db_model.specs.Names.{IsTableName}

-- what is done to the records of the table that is named
pub data Operation : Type 0 where
  write : (table : List ℕ) (row : Tree) → Operation
  delete : (table : List ℕ) (key : Tree) → Operation
  delete_object : (table : List ℕ) (row : Tree) → Operation
  clear : (table : List ℕ) → Operation

abbrev pub table_of : Operation → List ℕ
table_of (write table row) = table
table_of (delete table key) = table
table_of (delete_object table row) = table
table_of (clear table) = table

-- `{Word,Table,..}`
abbrev pub op_shape : List ℕ → List ℕ → Trees → Tree
op_shape word table rest = tuple (tree (atom word) (tree (atom table) rest))

-- the term of an op: `{write,Table,Row}`, `{delete,Table,Key}`, `{delete_object,Table,Row}` or `{clear,Table}`
abbrev pub op_tree : Operation → Tree
op_tree (write table row) = op_shape (codes "write") table (tree row no_trees)
op_tree (delete table key) = op_shape (codes "delete") table (tree key no_trees)
op_tree (delete_object table row) = op_shape (codes "delete_object") table (tree row no_trees)
op_tree (clear table) = op_shape (codes "clear") table no_trees

-- the term of no op, whatever the table is called
abbrev pub HasNoOp : Tree → Type 0
HasNoOp term = (op : Operation) → term ≡ op_tree op → ⊥

-- the term is that of this op, which names what a table can be called
pub record IsOp (term : Tree) (op : Operation) : Type 0 where
  pub named : IsTableName (table_of op)
  pub is : term ≡ op_tree op

-- the term is that of no such op
abbrev pub IsNoOp : Tree → Type 0
IsNoOp term = (op : Operation) → IsOp term op → ⊥
