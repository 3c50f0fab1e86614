-- Definitions of tables as plain data.
use Rattle.std.specs.Prelude.{◌≡◌, ◌≢◌, ℕ, ◌+◌, ◌<◌, ◌≤◌, ◌^◌, List, [], length, All, ⊤}
use Rattle.std.specs.List.{AllPairs}
use Rattle.std.specs.List.Sorted.{IsStrictlyIncreasing}
use Rattle.term_core.specs.Tree.{Tree, atom}
use Rattle.db_model.specs.Names.{IsTableName}
use Rattle.db_model.specs.declared.definition.Kind.{Kind}

-- Attributes are atoms, and an indexed attribute is said by its position in a record: the key is at 2.
pub record Definition : Type 0 where
  pub name : List ℕ
  pub kind : Kind
  pub record_name : List ℕ
  pub attributes : List Tree
  pub index : List ℕ
  pub cookie : ℕ

abbrev pub IsAtom : Tree → Type 0
IsAtom (atom text) = ⊤
IsAtom other = ⊥

abbrev pub Differ : Tree → Tree → Type 0
Differ one other = one ≢ other

-- 2 to 250 atoms, all different
pub record AreAttributes (attributes : List Tree) : Type 0 where
  pub some : 2 ≤ length attributes
  pub few : length attributes ≤ 250
  pub atoms : All IsAtom attributes
  pub different : AllPairs Differ attributes

-- a position behind the key's, of so many attributes
abbrev pub IsPosition : ℕ → ℕ → Type 0
IsPosition attributes position = (3 ≤ position) × (position ≤ attributes + 1)

-- The positions of the indexed ones of so many attributes, which increase. For now there are none.
pub record AreIndexed (attributes : ℕ) (index : List ℕ) : Type 0 where
  pub increasing : IsStrictlyIncreasing index
  pub within : All (IsPosition attributes) index
  pub none : index ≡ []

-- a table can be defined so
pub record IsDefinition (definition : Definition) : Type 0 where
  pub named : IsTableName definition.name
  pub attributes : AreAttributes definition.attributes
  pub index : AreIndexed (length definition.attributes) definition.index
  pub cookie : definition.cookie < 2 ^ 64
