-- Commits as the items of a log.
use Rattle.std.specs.Prelude.{◌≡◌, ℕ, pos, ◌<◌, ◌^◌, List, [], ◌∷◌, map, codes, All, ⊤}
use Rattle.std.specs.List.{AllZip}
use Rattle.term_core.specs.Tree.{Tree, int, atom, tuple, list, Trees, no_trees, tree}
use Rattle.term_core.specs.View.{trees_of}
use Rattle.term_core.specs.Written.{canon}
use Rattle.term_wire.specs.Spelling.{IsText}
use Rattle.log_items.specs.Items.{item_bytes, IsContent, HasItems}
use Rattle.db_model.specs.Commits.{SchemaOperation, CommitRecord}
use Rattle.db_model.specs.Names.{IsTableName}
use Rattle.db_model.specs.Ops.{Operation, op_tree, table_of}
use Rattle.db_model.specs.SchemaTerms.{schema_op_tree, IsSchemaOp, IsWellFormed}

-- a tuple of four
abbrev pub tuple_of : Tree → Tree → Tree → Tree → Tree
tuple_of first second third fourth = tuple (tree first (tree second (tree third (tree fourth no_trees))))

abbrev pub commit_word : Tree
commit_word = atom (codes "commit")

-- `{commit,Version,SchemaOps,Ops}`
abbrev pub commit_shape : ℕ → Trees → Trees → Tree
commit_shape version schema_ops ops = tuple_of commit_word (int (pos version)) (list schema_ops) (list ops)

-- the terms that are written of schema ops
abbrev pub schema_op_trees : List SchemaOperation → Trees
schema_op_trees ops = trees_of (map schema_op_tree ops)

-- the terms of ops
abbrev pub op_trees : List Operation → Trees
op_trees ops = trees_of (map op_tree ops)

-- the term that is written of a commit
abbrev pub commit_tree : CommitRecord → Tree
commit_tree commit =
    commit_shape commit.version (schema_op_trees commit.schema_operations) (op_trees commit.operations)

-- the op names what a table can be called
abbrev pub IsNamed : Operation → Type 0
IsNamed op = IsTableName (table_of op)

-- A log may hold this commit: its version has 64 bits, its schema ops are well formed, and its ops name what tables
-- can be called.
pub record IsLogged (commit : CommitRecord) : Type 0 where
  pub version : commit.version < 2 ^ 64
  pub formed : All IsWellFormed commit.schema_operations
  pub named : All IsNamed commit.operations

-- these are terms of the schema ops, one of each, in order
abbrev pub AreSchemaOps : List Tree → List SchemaOperation → Type 0
AreSchemaOps terms ops = AllZip IsSchemaOp terms ops

-- of no schema ops
abbrev pub AreNoSchemaOps : List Tree → Type 0
AreNoSchemaOps terms = (ops : List SchemaOperation) → AreSchemaOps terms ops → ⊥

-- these are the terms of ops, which name what tables can be called
pub record AreOps (terms : List Tree) (ops : List Operation) : Type 0 where
  pub named : All IsNamed ops
  pub are : terms ≡ map op_tree ops

-- of no such ops
abbrev pub AreNoOps : List Tree → Type 0
AreNoOps terms = (ops : List Operation) → AreOps terms ops → ⊥

-- A term of a commit that a log may hold. The options of a definition may come in any order, so that a commit may have
-- several.
pub record HasCommit (term : Tree) (commit : CommitRecord) : Type 0 where
  pub logged : IsLogged commit
  pub schema_terms : List Tree
  pub schema_ops : AreSchemaOps schema_terms commit.schema_operations
  pub is : term ≡ commit_shape commit.version (trees_of schema_terms) (op_trees commit.operations)

-- the term of no such commit
abbrev pub HasNoCommit : Tree → Type 0
HasNoCommit term = (commit : CommitRecord) → HasCommit term commit → ⊥

-- no term `{commit,Version,SchemaOps,Ops}`, with a version of 64 bits
abbrev pub HasNoFields : Tree → Type 0
HasNoFields term =
    (version : ℕ) (schema_ops ops : Trees) → version < 2 ^ 64 → term ≡ commit_shape version schema_ops ops → ⊥

-- the content of an item is a text of this commit
abbrev pub IsCommit : List ℕ → CommitRecord → Type 0
IsCommit content commit = (term : Tree) × IsText content term × HasCommit term commit

-- it is a text of no commit
abbrev pub IsNoCommit : List ℕ → Type 0
IsNoCommit content = (commit : CommitRecord) → IsCommit content commit → ⊥

-- the text that is written of it
abbrev pub commit_text : CommitRecord → List ℕ
commit_text commit = canon (commit_tree commit)

-- the whole item whose content is the commit's written text
pub record IsItemOf (commit : CommitRecord) (bytes : List ℕ) : Type 0 where
  pub is : bytes ≡ item_bytes (commit_text commit)
  pub text : IsCommit (commit_text commit) commit
  pub fits : IsContent (commit_text commit)

-- the first item of a log: `{log1}`
abbrev pub log_head : Tree
log_head = tuple (tree (atom (codes "log1")) no_trees)

abbrev pub IsHead : List ℕ → Type 0
IsHead content = IsText content log_head

-- the text that is written of it
abbrev pub head_text : List ℕ
head_text = 131 ∷ 104 ∷ 1 ∷ 119 ∷ 4 ∷ 108 ∷ 111 ∷ 103 ∷ 49 ∷ []

-- the contents are texts of these commits, in order
abbrev pub AreCommits : List CommitRecord → List (List ℕ) → Type 0
AreCommits [] [] = ⊤
AreCommits [] (content ∷ contents) = ⊥
AreCommits (commit ∷ commits) [] = ⊥
AreCommits (commit ∷ commits) (content ∷ contents) = IsCommit content commit × AreCommits commits contents

-- the items of a log with these commits
abbrev pub AreItemsOf : List CommitRecord → List (List ℕ) → Type 0
AreItemsOf commits [] = ⊥
AreItemsOf commits (first ∷ contents) = IsHead first × AreCommits commits contents

-- a file, closed or open, whose items are those of a log with these commits
abbrev pub HasCommits : List CommitRecord → List ℕ → Type 0
HasCommits commits bytes = (items : List (List ℕ)) × AreItemsOf commits items × HasItems bytes items
