-- The terms of schema ops.
use Rattle.std.specs.Prelude.{◌≡◌, ℕ, pos, ◌<◌, ◌^◌, List, codes}
use Rattle.term_core.specs.Tree.{Tree, int, no_trees, tree}
use Rattle.db_model.specs.Commits.{SchemaOperation, create, drop_table, add_index, del_index, remake}
use Rattle.db_model.specs.Definitions.{Definition, IsDefinition}
use Rattle.db_model.specs.Names.{IsTableName}
use Rattle.db_model.specs.Ops.{op_shape}
use Rattle.db_model.specs.Options.{IsDefinedBy, create_tree}

-- `{Word,Table,Cookie,Options}`
abbrev pub defining_shape : List ℕ → List ℕ → ℕ → Tree → Tree
defining_shape word table cookie options = op_shape word table (tree (int (pos cookie)) (tree options no_trees))

-- `{Word,Table,Position}`
abbrev pub index_shape : List ℕ → List ℕ → ℕ → Tree
index_shape word table position = op_shape word table (tree (int (pos position)) no_trees)

-- the term of a schema op: `{create,Table,Cookie,CreateList}`, `{drop,Table}`, `{add_index,Table,Position}`,
-- `{del_index,Table,Position}` or `{remake,Table,Cookie,CreateList}`
abbrev pub schema_op_tree : SchemaOperation → Tree
schema_op_tree (create definition) =
    defining_shape (codes "create") definition.name definition.cookie (create_tree definition)
schema_op_tree (drop_table table) = op_shape (codes "drop") table no_trees
schema_op_tree (add_index table position) = index_shape (codes "add_index") table position
schema_op_tree (del_index table position) = index_shape (codes "del_index") table position
schema_op_tree (remake definition) =
    defining_shape (codes "remake") definition.name definition.cookie (create_tree definition)

-- the term makes a table of this definition, which its list of options says
pub record Defines (word : List ℕ) (term : Tree) (definition : Definition) : Type 0 where
  pub options : Tree
  pub is : term ≡ defining_shape word definition.name definition.cookie options
  pub cookie : definition.cookie < 2 ^ 64
  pub defined : IsDefinedBy options definition

-- the term speaks of an attribute's position in a table
pub record Indexes (word : List ℕ) (term : Tree) (table : List ℕ) (position : ℕ) : Type 0 where
  pub named : IsTableName table
  pub narrow : position < 2 ^ 32
  pub is : term ≡ index_shape word table position

-- the term is that of this schema op; the options of a definition may come in any order, and some may be left out
abbrev pub IsSchemaOp : Tree → SchemaOperation → Type 0
IsSchemaOp term (create definition) = Defines (codes "create") term definition
IsSchemaOp term (drop_table table) = IsTableName table × (term ≡ op_shape (codes "drop") table no_trees)
IsSchemaOp term (add_index table position) = Indexes (codes "add_index") term table position
IsSchemaOp term (del_index table position) = Indexes (codes "del_index") term table position
IsSchemaOp term (remake definition) = Defines (codes "remake") term definition

-- the term is that of no schema op
abbrev pub IsNoSchemaOp : Tree → Type 0
IsNoSchemaOp term = (op : SchemaOperation) → IsSchemaOp term op → ⊥

-- the schema op names what a table can be called, and defines a table as it can be
abbrev pub IsWellFormed : SchemaOperation → Type 0
IsWellFormed (create definition) = IsDefinition definition
IsWellFormed (drop_table table) = IsTableName table
IsWellFormed (add_index table position) = IsTableName table × (position < 2 ^ 32)
IsWellFormed (del_index table position) = IsTableName table × (position < 2 ^ 32)
IsWellFormed (remake definition) = IsDefinition definition
