-- How deep the term that is written of a commit is.
use Rattle.std.proofs.Common.{◌≡◌, ℕ, ◌≤◌, List, [], ◌∷◌, ap, subst, arith}
use Rattle.std.specs.Prelude.{All}
use Rattle.std.proofs.lemmas.List.Elements.{All-head, All-tail}
use Rattle.term_core.specs.Tree.{Tree, int, atom, tuple, list, bin, depth, greatest_depth}
use Rattle.term_core.specs.View.{trees_of}
use Rattle.db_model.specs.Commits.{SchemaOperation, create, drop_table, add_index, del_index, remake, CommitRecord}
use Rattle.db_model.specs.Definitions.{Definition, IsAtom, IsDefinition}
use Rattle.db_model.specs.Options.{attributes_at, create_tree}
use Rattle.db_model.specs.SchemaTerms.{schema_op_tree, IsWellFormed}
use Rattle.txn_log.specs.Commits.{IsLogged, IsCommit, commit_shape, commit_tree, op_trees, schema_op_trees}

atom_depth : (t : Tree) → IsAtom t → depth t ≤ 1
atom_depth (int n) h = absurd h
atom_depth (atom a) h = omega arith
atom_depth (tuple ts) h = absurd h
atom_depth (list ts) h = absurd h
atom_depth (bin b) h = absurd h

attributes_depth : (attributes : List Tree) → All IsAtom attributes → greatest_depth (trees_of attributes) ≤ 1
attributes_depth [] h = omega arith
attributes_depth (attribute ∷ attributes) h =
    let first = atom_depth attribute (All-head IsAtom attribute attributes h) in
    omega (arith, first, attributes_depth attributes (All-tail IsAtom attribute attributes h))

options_depth : (one : Definition) → IsDefinition one → depth (create_tree one) ≤ 4
options_depth one is =
    let attributes = attributes_depth one.attributes is.attributes.atoms in
    let none : greatest_depth (trees_of (attributes_at one.attributes one.index)) ≡ 0 =
    ap (λ (index : List ℕ). greatest_depth (trees_of (attributes_at one.attributes index))) is.index.none in
    omega (arith, attributes, none)

schema_op_depth : (op : SchemaOperation) → IsWellFormed op → depth (schema_op_tree op) ≤ 5
schema_op_depth (create one) is = omega (arith, options_depth one is)
schema_op_depth (drop_table table) is = omega arith
schema_op_depth (add_index table position) is = omega arith
schema_op_depth (del_index table position) is = omega arith
schema_op_depth (remake one) is = omega (arith, options_depth one is)

schema_ops_depth : (ops : List SchemaOperation) → All IsWellFormed ops → greatest_depth (schema_op_trees ops) ≤ 5
schema_ops_depth [] formed = omega arith
schema_ops_depth (op ∷ ops) formed =
    let first = schema_op_depth op (All-head IsWellFormed op ops formed) in
    omega (arith, first, schema_ops_depth ops (All-tail IsWellFormed op ops formed))

-- no deeper than its ops, or than its schema ops, which are flat
pub commit_depth : (commit : CommitRecord) → IsLogged commit → greatest_depth (op_trees commit.operations) ≤ 126
    → depth (commit_tree commit) ≤ 128
commit_depth commit logged few = omega (arith, schema_ops_depth commit.schema_operations logged.formed, few)

ops_depth : (commit : CommitRecord) (schema_terms : List Tree)
    → depth (commit_shape commit.version (trees_of schema_terms) (op_trees commit.operations)) ≤ 128
    → greatest_depth (op_trees commit.operations) ≤ 126
ops_depth commit schema_terms deep = omega (arith, deep)

-- a commit that was read is not too deep to be written
pub read_depth : (content : List ℕ) (commit : CommitRecord) → IsCommit content commit → depth (commit_tree commit) ≤ 128
read_depth content commit (term, text, has) =
    commit_depth commit has.logged (ops_depth commit has.schema_terms (subst (λ t. depth t ≤ 128) has.is text.4))
